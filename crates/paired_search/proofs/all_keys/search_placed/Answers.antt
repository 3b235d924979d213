-- What fits at a and at b begins with them.
use Rattle.std.proofs.Common.{[], ◌∷◌, ◌++◌, sym, ◌∙◌, true≢false}
use Rattle.paired_search.specs.Part.{IsPart, IsPair}
use Rattle.paired_search.proofs.PairLaws.{witness_completes}
use Rattle.paired_search.proofs.all_keys.search_placed.Goals as goal

pub returns-then-not-goes_on-clause-none : goal.returns-then-not-goes_on-clause-none
returns-then-not-goes_on-clause-none g c = λ _ v w x.
    let G = c.args.graph.now in
    let P = c.args.plan.now.shape in
    let same = g.S.Sameness.are_same c.args.view.now in
    let pair : IsPair G P same (c.args.a ∷ []) (c.args.b ∷ []) = (witness_completes G P same c.args.a c.args.b v w c.requires.begins x).0 in
    let here : IsPart G P (c.args.left.now ++ c.args.a ∷ []) = rw c.requires.empty_left pair.left in
    true≢false (sym (c.goes_on.ensures.1 here) ∙ c.if-not-goes_on.true)

pub returns-then-not-joins-clause-none : goal.returns-then-not-joins-clause-none
returns-then-not-joins-clause-none g c = λ _ v w x.
    let G = c.args.graph.now in
    let P = c.args.plan.now.shape in
    let same = g.S.Sameness.are_same c.args.view.now in
    let pair : IsPair G P same (c.args.a ∷ []) (c.args.b ∷ []) = (witness_completes G P same c.args.a c.args.b v w c.requires.begins x).0 in
    let here : IsPair G P same (c.args.left.now ++ c.args.a ∷ []) (c.args.right.now ++ c.args.b ∷ []) = rw (c.requires.empty_left, c.requires.empty_right) pair in
    true≢false (sym (c.joins.ensures.1 here) ∙ c.if-not-joins.true)
