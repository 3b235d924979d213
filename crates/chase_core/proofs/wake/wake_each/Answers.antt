-- The next pair was not Ready, so it goes to the end.
use Rattle.std.proofs.Common.{ℕ, ◌≡◌, ◌≢◌, ◌++◌, ◌∷◌, [], Some, take, get_or, slice_get, slice_set, append-nil, append_assoc, subst, sym, ◌∙◌, ap, refl}
use Rattle.std.proofs.Math.Seq.{take-nil}
use Rattle.std.proofs.lemmas.List.{take_more}
use Rattle.std.proofs.lemmas.Option.{slice_get_within}
use Rattle.chase_laws.specs.declared.pair_state.PairState.TheVariants as state
use Rattle.chase_core.proofs.Aside.{take_push, next_flies, next_set}
use Rattle.chase_core.proofs.wake.wake_each.Goals as goal

pub loop-pair-init : goal.loop-pair-init
loop-pair-init c = record {
  states = refl;
  ready = sym (append-nil c.args.table.now.ready);
  woken = c.requires.empty ∙ sym (take-nil c.args.woken.now.room);
  room = refl;
}

pub make_ready-requires : goal.make_ready-requires
make_ready-requires c =
    let i = c.loop-pair.pair-index in
    let pairs = c.args.pairs.now in
    rw c.loop-pair.invariant.states (slice_get_within _ (get_or pairs i 0) state.Flying (next_flies c.args.table.now.states pairs c.requires.flying c.requires.once i c.loop-pair-test.true))

pub loop-pair-preserved : goal.loop-pair-preserved
loop-pair-preserved c =
    let i = c.loop-pair.pair-index in
    let pairs = c.args.pairs.now in
    let p : ℕ = get_or pairs i 0 in
    let v = c.loop-pair.invariant in
    let flies = next_flies c.args.table.now.states pairs c.requires.flying c.requires.once i c.loop-pair-test.true in
    let other : slice_get c.loop-pair.table.states p ≢ Some state.Ready = λ e. let f : Some state.Flying ≡ Some state.Ready = sym flies ∙ subst (λ ss. slice_get ss p ≡ Some state.Ready) v.states e in cc in
    let more = take_more pairs i 0 c.loop-pair-test.true in
    record {
      states = c.make_ready.ensures.states ∙ ap (λ ss. slice_set ss p state.Ready) v.states ∙ next_set c.args.table.now.states pairs c.requires.flying c.requires.once i c.loop-pair-test.true;
      ready = c.make_ready.ensures.last other ∙ ap (λ xs. xs ++ p ∷ []) v.ready ∙ append_assoc c.args.table.now.ready (take i pairs) (p ∷ []) ∙ ap (λ xs. c.args.table.now.ready ++ xs) (sym more);
      woken = c.note.ensures.list ∙ rw (v.room, v.woken) (take_push c.args.woken.now.room (take i pairs) p ∙ ap (take c.args.woken.now.room) (sym more));
      room = c.note.ensures.room ∙ v.room;
    }
