-- The groups of listed parts, and their owners.
use Rattle.std.proofs.Common.{ℕ, length, ◌≡◌, ◌<◌, subst, sym}
use Rattle.valuation_groups.specs.Groups.{group_at, row_in}
use Rattle.signature_chase.specs.Setting.{IsNamedRow, AreOwnersOf}
use Rattle.signature_chase.proofs.Listed.{groups_of}
use Rattle.signature_chase.proofs.setting.Setting.new.Goals as goal

pub owners_of-requires : goal.owners_of-requires
owners_of-requires c = λ g i h.
    subst (λ n. IsNamedRow n (row_in (group_at c.args.groups.now g) i)) (sym c.names-names.ensures.names)
    ((groups_of c.args.graph.now c.args.patterns.now c.names-names.ensures.graph c.all_valid.ensures.facts c.args.groups.now c.requires g h.0).named i h.1)

pub invariant_of-result : goal.invariant_of-result
invariant_of-result c = record {
  numbered = c.names-names.ensures.graph;
  facts = c.all_valid.ensures.facts;
  planned = c.in_ok-plans.ensures;
  grouped = groups_of c.args.graph.now c.args.patterns.now c.names-names.ensures.graph c.all_valid.ensures.facts c.args.groups.now c.requires;
  owned = subst (λ n. AreOwnersOf c.args.groups.now n c.in_ok-owners.owners) c.names-names.ensures.names c.in_ok-owners.ensures;
}
