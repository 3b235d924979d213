-- A pool whose lists are empty.
use Rattle.std.proofs.Common.{List, [], ◌∷◌, ℕ, suc, zero, Bool, false, not, cond, None, length, replicate, ◌≡◌, ◌<◌, ◌*◌, ◌^◌, refl, ap, sym, ◌∙◌, arith, sum_by, count_by, get_or, map}
use Rattle.std.proofs.lemmas.List.{get_or-replicate, length-replicate}
use Rattle.std.proofs.lemmas.List.Folds.{sum_by-replicate}
use Rattle.list_pool.specs.declared.cell.Cell.{Cell}
use Rattle.list_pool.specs.declared.cell.Ends.{Ends}
use Rattle.list_pool.specs.Counts.{times, count_in}
use Rattle.list_pool.specs.Linked.{last, Path, IsPool, flags}
use Rattle.list_pool.proofs.Times.{times_nil}

map-replicate : {X Y : Type 0} (f : X → Y) (n : ℕ) (a : X) → map f (replicate n a) ≡ replicate n (f a)
map-replicate f zero a = refl
map-replicate f (suc n) a = ap (λ ys. f a ∷ ys) (map-replicate f n a)

count_all : (n : ℕ) → count_by not (replicate n false) ≡ n
count_all n = let e : count_by not (replicate n false) ≡ n * 1 = sum_by-replicate (λ (b : Bool). cond (not b) 1 0) n false in omega arith

-- a pool whose lists are empty
pub fresh : (n m : ℕ) → n < 2 ^ 32 → IsPool (replicate n (record { held = false; before = None; after = None })) (replicate m (record { first = None; last = None })) n (replicate m [])
unfolding Path last count_in
fresh n m few =
    let cell : Cell = record { held = false; before = None; after = None } in
    let ends : Ends = record { first = None; last = None } in
    let bits : flags (replicate n cell) ≡ replicate n false = map-replicate (λ k. k.held) n cell in
    record {
      count = length-replicate m [] ∙ sym (length-replicate m ends);
      linked = λ l h.
          let within : l < m = omega (arith, length-replicate m ends) in
          rw (get_or-replicate {A = List ℕ} m l [] [] within) (record {
            path = tt;
            end = ap (λ e. e.first) (get_or-replicate m l ends ends within);
            back = ap (λ e. e.last) (get_or-replicate m l ends ends within);
          });
      held = λ x. rw bits (
          let none : count_in (replicate m []) x ≡ m * times [] x = sum_by-replicate (λ xs. times xs x) m [] in
          let zero_of : times [] x ≡ 0 = times_nil x in
          let off : get_or (replicate n false) x false ≡ false = off_at n x in
          none ∙ ap (λ k. m * k) zero_of ∙ nothing m ∙ sym (ap (λ (b : Bool). held_of b) off));
      free = rw bits (sym (count_all n));
      all =
          let e : sum_by {X = List ℕ} length (replicate {A = List ℕ} m []) ≡ m * 0 = sum_by-replicate {X = List ℕ} length m [] in
          let z : m * 0 ≡ 0 = nothing m in
          omega (arith, length-replicate n cell);
      few = omega (arith, length-replicate n cell);
    }
  where
    held_of : Bool → ℕ
    held_of b = cond b 1 0

    nothing : (m : ℕ) → m * 0 ≡ 0
    nothing m = omega arith

    off_at : (n x : ℕ) → get_or (replicate n false) x false ≡ false
    off_at zero x = refl
    off_at (suc n) zero = refl
    off_at (suc n) (suc x) = off_at n x
