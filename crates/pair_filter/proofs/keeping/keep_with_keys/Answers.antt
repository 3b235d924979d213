use Rattle.std.proofs.Common.{ℕ}
use Rattle.chase_laws.specs.Pairing.{ArePairedBy}
use Rattle.pair_filter.specs.Depth.{filter_depth}
use Rattle.pair_filter.proofs.Selections.{selection_only, selection_every, selection_ascending, selection_length}
use Rattle.pair_filter.proofs.keeping.keep_with_keys.Goals as goal

pub returns-clause-exact : goal.returns-clause-exact
returns-clause-exact g c =
    let P : ℕ × ℕ → Type 0 = λ x. ArePairedBy c.args.graph.now c.args.patterns.now filter_depth x.0 x.1 in
    let xs = c.args.pairs.now in
    let ys = c.in_ok-kept.kept.pairs.items in
    λ a b. (selection_only P xs ys c.in_ok-kept.ensures.0 (a, b), (λ h. selection_every P xs ys c.in_ok-kept.ensures.0 (a, b) h.0 h.1))

pub returns-clause-able : goal.returns-clause-able
returns-clause-able g c =
    let G = c.args.graph.now in
    let K = c.args.patterns.now in
    let P : ℕ × ℕ → Type 0 = λ x. ArePairedBy G K filter_depth x.0 x.1 in
    λ a b able there. selection_every P c.args.pairs.now c.in_ok-kept.kept.pairs.items c.in_ok-kept.ensures.0 (a, b) there (c.law_paired.ensures.paired G K a b able filter_depth)

pub returns-clause-ascending : goal.returns-clause-ascending
returns-clause-ascending g c =
    let P : ℕ × ℕ → Type 0 = λ x. ArePairedBy c.args.graph.now c.args.patterns.now filter_depth x.0 x.1 in
    selection_ascending P c.args.pairs.now c.in_ok-kept.kept.pairs.items c.in_ok-kept.ensures.0

pub returns-clause-few : goal.returns-clause-few
returns-clause-few g c =
    let P : ℕ × ℕ → Type 0 = λ x. ArePairedBy c.args.graph.now c.args.patterns.now filter_depth x.0 x.1 in
    selection_length P c.args.pairs.now c.in_ok-kept.kept.pairs.items c.in_ok-kept.ensures.0

pub returns-clause-kept : goal.returns-clause-kept
returns-clause-kept g c = c.in_ok-kept.ensures.0

pub returns-clause-keys : goal.returns-clause-keys
returns-clause-keys g c = c.in_ok-kept.ensures.1
