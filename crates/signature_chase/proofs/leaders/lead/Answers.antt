-- One row after another.
use Rattle.std.proofs.Common.{List, ℕ, length, get_or, set, ◌≡◌, ◌<◌, ◌+◌, refl, sym, ◌∙◌, ap, subst, arith}
use Rattle.std.proofs.lemmas.Bool.{eqb-false}
use Rattle.std.proofs.lemmas.List.{get_or_default, length-set}
use Rattle.signature_chase.specs.Leaders.{Keyed, keyed_at, AreLed}
use Rattle.signature_chase.proofs.Leading.{IsLeading, leading_none, leading_more}
use Rattle.signature_chase.proofs.leaders.lead.Goals as goal

some : (n : ℕ) → (n ≡ 0 → ⊥) → 0 < n
some n h = omega arith

pub loop-k-init : goal.loop-k-init
loop-k-init c = record { count = refl; leading = leading_none c.args.keyed.now c.args.leaders.now.items (some (length c.args.keyed.now) (eqb-false (length c.args.keyed.now) 0 (sym c.is_empty.ensures ∙ c.if-is_empty.false))) }

pub loop-k-preserved : goal.loop-k-preserved
loop-k-preserved c =
    let keyed = c.args.keyed.now in
    let leaders = c.loop-k.leaders.items in
    let k = c.loop-k.k in
    let v = c.loop-k.invariant in
    let in_row : (keyed_at keyed k).2 < length leaders = rw v.count (c.requires.rows k c.loop-k-test.true) in
    record {
      count = length-set leaders (keyed_at keyed k).2 c.head_for-head.result.2 ∙ v.count;
      leading = leading_more keyed leaders k c.requires.sorted c.requires.once c.loop-k-test.true in_row c.loop-k.head c.head_for-head.result v.leading c.head_for-head.ensures;
    }
