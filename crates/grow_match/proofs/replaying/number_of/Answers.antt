-- The search finds the pair.
use Rattle.std.proofs.Common.{ℕ, List, Contains, ◌≡◌, slice_get, Some, ap, sym, subst}
use Rattle.std.specs.Result.{is_ok}
use Rattle.chase_laws.specs.Candidate.{AreAscending}
use Rattle.grow_match.proofs.PairSearch.{found_pair}
use Rattle.grow_match.proofs.replaying.number_of.Goals as goal

pub unwrap-requires : goal.unwrap-requires
unwrap-requires c =
    let ps = c.pairs.result.now in
    let x : ℕ × ℕ = (c.args.a, c.args.b) in
    let f = found_pair ps x c.binary_search.result (subst AreAscending (sym c.pairs.ensures.pairs) c.pairs.ensures.ascend)
    (subst (λ (qs : List (ℕ × ℕ)). Contains qs x) (sym c.pairs.ensures.pairs) c.requires) c.binary_search.ensures.bound c.binary_search.ensures.position in
    ap is_ok f.1

pub returns-clause-pair : goal.returns-clause-pair
returns-clause-pair c =
    let ps = c.pairs.result.now in
    let x : ℕ × ℕ = (c.args.a, c.args.b) in
    let f = found_pair ps x c.binary_search.result (subst AreAscending (sym c.pairs.ensures.pairs) c.pairs.ensures.ascend)
    (subst (λ (qs : List (ℕ × ℕ)). Contains qs x) (sym c.pairs.ensures.pairs) c.requires) c.binary_search.ensures.bound c.binary_search.ensures.position in
    let same : f.0 ≡ c.unwrap.result = (let e = f.1 in let u = c.unwrap.ensures in cc) in
    subst (λ (qs : List (ℕ × ℕ)). slice_get qs c.unwrap.result ≡ Some x) c.pairs.ensures.pairs (subst (λ (i : ℕ). slice_get ps i ≡ Some x) same f.3)
