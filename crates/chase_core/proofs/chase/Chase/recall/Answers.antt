-- A recall is an event.
use Rattle.std.proofs.Common.{List, ap, refl}
use Rattle.chase_laws.specs.declared.pair_state.PairState.{PairState}
use Rattle.chase_laws.specs.Core.Event.{Recall}
use Rattle.chase_core.specs.Running.{state_of}
use Rattle.chase_core.proofs.Events.{kept_by}
use Rattle.chase_core.proofs.chase.Chase.recall.Goals as goal

pub invariant_of-self : goal.invariant_of-self
invariant_of-self c =
    let S = c.self.inside.setup.now in
    let book = c.self.inside.book in
    let new = c.recall_parts.new.table in
    kept_by c.law_core.ensures.event S book book c.self.inside.table new _ _ c.self.invariant Recall
    (ap (λ (ss : List PairState). state_of book (record { states = ss; ready = new.ready })) c.recall_parts.ensures.states) refl refl
