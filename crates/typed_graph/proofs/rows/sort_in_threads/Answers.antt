-- A sort moves the rows.
use Rattle.std.proofs.Common.{List, [], ◌∷◌, ◌++◌, ℕ, All, ◌≡◌, ◌∙◌, length, take, drop, refl, sym, ap, subst, rules}
use Rattle.std.proofs.lemmas.Fn.{always_returns_same}
use Rattle.std.proofs.lemmas.List.Sorted.{All-permutation}
use Rattle.std.specs.Cmp.Lexicographic.{slice_cmp}
use Rattle.std.specs.List.Sorted.{IsSorted}
use Rattle.std.specs.Ordering.{nat_cmp}
use Rattle.typed_graph.proofs.KeyOrder.{key, rows_sorted}
use Rattle.typed_graph.proofs.rows.sort_in_threads.Goals as goal

-- as many of the first elements as a list has, where it stands in front
front : {X : Type 0} (xs ys : List X) → take (length xs) (xs ++ ys) ≡ xs
front [] ys = refl
front (x ∷ xs) ys = ap (λ l. x ∷ l) (front xs ys)

pub returns-clause-ascending : goal.returns-clause-ascending
returns-clause-ascending g c =
    let each : All (λ (row : List ℕ). length row ≡ 3) c.as_mut_slice.result.now = subst (All (λ (row : List ℕ). length row ≡ 3)) (c.deref.ensures.value ∙ sym c.as_mut_slice.ensures.value) c.three_each.ensures in
    let long : All (λ (row : List ℕ). length row ≡ 3) c.par_sort_unstable_by_key.new.s = All-permutation (λ (row : List ℕ). length row ≡ 3) _ _ c.par_sort_unstable_by_key.ensures.permutation each in
    let up = c.par_sort_unstable_by_key.ensures.sorted key (always_returns_same _ _ _ (λ a r f k. search rules)) in
    let count : length c.par_sort_unstable_by_key.new.s ≡ c.args.rows.now.len = c.par_sort_unstable_by_key.ensures.len ∙ c.as_mut_slice.ensures.len in
    let rest = drop (length c.par_sort_unstable_by_key.new.s) c.args.rows.now.items in
    let written : take c.args.rows.now.len (c.par_sort_unstable_by_key.new.s ++ rest) ≡ c.par_sort_unstable_by_key.new.s = subst (λ n. take n (c.par_sort_unstable_by_key.new.s ++ rest) ≡ c.par_sort_unstable_by_key.new.s) count (front c.par_sort_unstable_by_key.new.s rest) in
    subst (IsSorted (slice_cmp nat_cmp)) (sym written) (rows_sorted c.par_sort_unstable_by_key.new.s long up)
