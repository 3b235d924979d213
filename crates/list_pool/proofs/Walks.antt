-- The lists that a pool shows are those that its rings hold.
use Rattle.std.proofs.Common.{List, [], ◌∷◌, ℕ, suc, zero, Option, Some, None, length, ◌≡◌, ◌<◌, ◌≤◌, refl, ap, sym, ◌∙◌, arith, map}
use Rattle.std.proofs.lemmas.List.{ext_get_or, length-map, get_or-map}
use Rattle.std.proofs.lemmas.List.Sums.{get_or-le-sum_by}
use Rattle.list_pool.specs.declared.cell.Cell.{Cell}
use Rattle.list_pool.specs.declared.cell.Ends.{Ends}
use Rattle.list_pool.specs.Pool.{list_at}
use Rattle.list_pool.specs.Linked.{last, Path, IsPool, walk, lists_of, next_in, prev_in}

walk_path : (cells : List Cell) (ends : List Ends) (l : ℕ) (p : Option ℕ) (xs : List ℕ) (n : ℕ) → Path (next_in cells ends l) (prev_in cells ends l) p xs →
    next_in cells ends l (last p xs) ≡ None → length xs ≤ n → walk cells n (next_in cells ends l p) ≡ xs
unfolding Path last walk
walk_path cells ends l p [] zero h e k = refl
walk_path cells ends l p [] (suc n) h e k = ap (walk cells (suc n)) e
walk_path cells ends l p (x ∷ xs) zero h e k = absurd (omega arith)
walk_path cells ends l p (x ∷ xs) (suc n) h e k = ap (walk cells (suc n)) h.0 ∙ ap (λ ys. x ∷ ys) (walk_path cells ends l (Some x) xs n h.2 e (omega arith))

pub shown : (cells : List Cell) (ends : List Ends) (spare : ℕ) (lists : List (List ℕ)) → IsPool cells ends spare lists → lists_of cells ends ≡ lists
unfolding lists_of
shown cells ends spare lists pool =
    let f : Ends → List ℕ = λ e. walk cells (length cells) e.first in
    let count : length (map f ends) ≡ length ends = length-map ends f in
    ext_get_or [] (map f ends) lists (count ∙ sym pool.count)
    (λ i h.
    let within : i < length ends = omega arith in
    let short : length (list_at lists i) ≤ length cells = omega (arith, get_or-le-sum_by length lists i [] (omega (arith, pool.count)), pool.all) in
    let ring = pool.linked i within in
    get_or-map f ends i (record { first = None; last = None }) [] within ∙ walk_path cells ends i None (list_at lists i) (length cells) ring.path ring.end short)
