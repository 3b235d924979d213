use Rattle.std.proofs.Common.{◌≡◌, ℕ, ◌-◌, ◌<◌, Bool, true, false, ◌&&◌, eqb, List, ◌++◌, length, get_or, drop, refl, sym, ap, ◌∙◌, subst, arith, append_assoc}
use Rattle.std.proofs.lemmas.Bool.{ne_eqb}
use Rattle.std.proofs.lemmas.List.{length-take-le, take-append-drop}
use Rattle.std.proofs.lemmas.Result.{err_from_is_err_and}
use Rattle.nt_reader.specs.Kept.{IsStopped}
use Rattle.nt_reader.proofs.StateLemmas.{stopped_more, too_long, line_at_feed, line_elsewhere}
use Rattle.nt_reader.proofs.state.feed_state.Goals as goal
use Rattle.nt_reader.proofs.state.feed_state.Goals.{else-state-via-then-state+else-piece-cut-eq10, else-state-via-else-state}

and_right : (x y : Bool) → y ≡ false → (x && y) ≡ false
and_right true y e = e
and_right false y e = refl

and_left : (x y : Bool) → x ≡ false → (x && y) ≡ false
and_left true y e = absurd (cc)
and_left false y e = refl

pub returns-in_err-take-clause-takes : goal.returns-in_err-take-clause-takes
returns-in_err-take-clause-takes c =
    let piece = c.args.piece.now in
    let cut = c.args.limits.now.bytes - c.args.state.now.bytes in
    let p = err_from_is_err_and c.from_residual.result c.from_residual.ensures.1 in
    rw (p.1, p.2)
    (λ taken seen s.
    stopped_more c.args.limits.now _ (seen ++ piece) (drop cut piece) c.in_err-take.field-0.0
    (append_assoc seen _ (drop cut piece) ∙ ap (λ (l : List ℕ). seen ++ l) (take-append-drop cut piece))
    (c.in_err-take.ensures.takes taken seen s))

pub returns-then-piece-cut-eq10-clause-takes : goal.returns-then-piece-cut-eq10-clause-takes
returns-then-piece-cut-eq10-clause-takes c =
    let limits = c.args.limits.now in
    let piece = c.args.piece.now in
    let cut = limits.bytes - c.args.state.now.bytes in
    let new = c.take-2.new.state in
    let inside : cut < length piece = c.if-piece-room.false in
    let full : new.bytes ≡ limits.bytes = omega (arith, c.in_ok-take.ensures.bytes, length-take-le cut piece (omega arith), c.requires.room) in
    λ taken seen s.
    let stands = c.in_ok-take.ensures.takes taken seen s in
    subst (IsStopped limits (seen ++ piece)) (sym c.refused.ensures)
    (too_long limits new taken seen piece _ cut c.saturating_sub.result stands refl inside full
    (c.saturating_sub.ensures ∙ line_at_feed limits new taken _ (get_or piece cut 0) stands c.if-state.true c.if-piece-cut-eq10.true))

pub returns-clause-takes : goal.returns-clause-takes
returns-clause-takes c =
    let limits = c.args.limits.now in
    let piece = c.args.piece.now in
    let cut = limits.bytes - c.args.state.now.bytes in
    let new = c.take-2.new.state in
    let inside : cut < length piece = c.if-piece-room.false in
    let full : new.bytes ≡ limits.bytes = omega (arith, c.in_ok-take.ensures.bytes, length-take-le cut piece (omega arith), c.requires.room) in
    let other : (new.after_return && eqb (get_or piece cut 0) 0x0A) ≡ false = elim c.else-state.branch [
      | else-state-via-then-state+else-piece-cut-eq10 w ↦ and_right _ _ (ne_eqb _ _ w.if-piece-cut-eq10.false)
      | else-state-via-else-state w ↦ and_left _ _ w.if-state.false
    ] in
    λ taken seen s.
    let stands = c.in_ok-take.ensures.takes taken seen s in
    subst (IsStopped limits (seen ++ piece)) (sym c.refused-2.ensures)
    (too_long limits new taken seen piece _ cut new.line stands refl inside full (line_elsewhere limits new taken _ (get_or piece cut 0) stands other))
