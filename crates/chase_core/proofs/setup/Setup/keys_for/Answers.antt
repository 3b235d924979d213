-- The range of the pair at the ticket's place, whose ends are the ticket's.
use Rattle.std.proofs.Common.{ℕ, Some, length, ◌<◌, ◌∙◌, ap, sym, subst, arith}
use Rattle.std.proofs.lemmas.Option.{slice_get-get_or}
use Rattle.paired_search.specs.KeyRange.{AreIdleOutside}
use Rattle.chase_core.specs.Setup.{Preparation}
use Rattle.chase_core.proofs.setup.Setup.keys_for.Goals as goal

pub returns : goal.returns
returns c =
    let G = c.self.inside.graph in
    let K = c.self.inside.patterns.items in
    let t = c.args.ticket.now in
    let ends = c.index-ends.result.now in
    let range = c.index.result.now in
    let in_pairs : t.pair < length c.self.inside.pairs.items = omega (arith, c.self.inside.pairs.ok.0) in
    let in_keys : t.pair < length c.self.inside.keys.items = omega (arith, c.self.inside.keys.ok.0) in
    let idle = c.self.invariant.ranges t.pair ends range
    (slice_get-get_or c.self.inside.pairs.items t.pair ends in_pairs ∙ ap Some (sym c.index-ends.ensures))
    (slice_get-get_or c.self.inside.keys.items t.pair range in_keys ∙ ap Some (sym c.index.ensures)) in
    subst (λ (S : Preparation). AreIdleOutside S.task.graph S.task.patterns range t.a t.b) c.self.view_is
    (subst (λ (b : ℕ). AreIdleOutside G K range t.a b) c.if-ends-ticket-2.false
    (subst (λ (a : ℕ). AreIdleOutside G K range a ends.1) c.if-ends-ticket.false idle))
