-- A term that is no name has no number, and one that is a name has one number.
use Rattle.std.proofs.Common.{Contains, Some, slice_get, ◌≡◌, ◌∙◌, ap, sym, subst, refl}
use Rattle.chase_laws.specs.Graph.{IsEntity}
use Rattle.chase_laws.proofs.CallerLemmas.{Contains-from_slice_get}
use Rattle.nt_reader.proofs.CallerLemmas.{true_false}
use Rattle.gkey_cmd.proofs.entities.entity_number.Goals as goal

pub returns-in-None-clause-none : goal.returns-in-None-clause-none
returns-in-None-clause-none c =
    let names = c.args.names.now in
    λ n at entity. c.in-None.ensures.absent.0 refl (subst (Contains names) (sym c.lent.ensures) (Contains-from_slice_get names n c.args.term.now at))

pub returns-else-is_entity-clause-none : goal.returns-else-is_entity-clause-none
returns-else-is_entity-clause-none c =
    let names = c.args.names.now in
    let place : slice_get names c.in-Some.n ≡ Some c.args.term.now = c.in-Some.ensures.place ∙ ap Some c.lent.ensures in
    λ n at entity.
    let same : n ≡ c.in-Some.n = c.len-distinct.ensures.distinct.one_place n c.in-Some.n c.args.term.now at place in
    true_false (sym (c.is_entity.ensures.1 (subst (IsEntity c.args.graph.now) same entity)) ∙ c.if-is_entity.false)
