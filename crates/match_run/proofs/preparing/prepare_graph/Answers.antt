-- The setup's pairs are those that are kept.
use Rattle.std.proofs.Common.{List, ℕ, Contains, ◌↔◌, ap, sym, subst}
use Rattle.chase_laws.specs.Candidate.{IsCandidate}
use Rattle.chase_laws.specs.Pairing.{ArePairedBy}
use Rattle.pair_filter.specs.Depth.{filter_depth}
use Rattle.match_run.proofs.preparing.prepare_graph.Goals as goal

pub with_keys-requires-clause-able : goal.with_keys-requires-clause-able
with_keys-requires-clause-able g c =
    let kept = rw c.deref.ensures.value at c.in_ok-kept.ensures.kept in
    kept.able

pub with_keys-requires-clause-keys : goal.with_keys-requires-clause-keys
with_keys-requires-clause-keys g c =
    let kept = rw c.deref.ensures.value at c.in_ok-kept.ensures.kept in
    kept.ranges_fit

pub returns-clause-pairs : goal.returns-clause-pairs
returns-clause-pairs g c = λ a b.
    let kept = rw c.deref.ensures.value at c.in_ok-kept.ensures.kept in
    subst (λ (xs : List (ℕ × ℕ)). Contains xs (a, b) ↔ (IsCandidate c.args.graph c.args.patterns.items a b × ArePairedBy c.args.graph c.args.patterns.items filter_depth a b))
    (sym (ap (λ t. t.pairs) c.in_ok-setup.ensures)) (kept.exact a b)
