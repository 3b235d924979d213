-- What holds of the lists that every pool shows.
use Rattle.std.proofs.Common.{List, ℕ, Bool, true, false, not, cond, Some, length, ◌≡◌, ◌<◌, ◌↔◌, inl, inr, sym, ◌∙◌, ap, subst, arith, get_or, refl}
use Rattle.std.specs.Prelude.{slice_get}
use Rattle.std.proofs.lemmas.Bool.{cases_eq}
use Rattle.list_pool.specs.declared.cell.Cell.{Cell}
use Rattle.list_pool.specs.declared.cell.Ends.{Ends}
use Rattle.list_pool.specs.Pool.{list_at, IsFree, StandOnce, AreInRange}
use Rattle.list_pool.specs.Linked.{IsPool, flags}
use Rattle.list_pool.proofs.Plain.{listed, one_place, times_from_get, times_from_Contains, get_from_Contains, IsFree_from_count, count_from_IsFree}
use Rattle.list_pool.proofs.Pools.{once, elsewhere, in_range}

abbrev held_at : Bool → ℕ
held_at b = cond b 1 0

module _ (cells : List Cell) (ends : List Ends) (spare : ℕ) (lists : List (List ℕ)) (pool : IsPool cells ends spare lists) where
  pub stand_once : StandOnce lists
  stand_once l m i j c e f =
      let l_in : l < length ends = omega (arith, listed lists l i c e, pool.count) in
      let m_in : m < length ends = omega (arith, listed lists m j c f, pool.count) in
      elim (cases_eq l m) [
        | inl same ↦ (same, one_place (list_at lists m) i j c (once cells ends spare lists pool m m_in c) (subst (λ k. slice_get (list_at lists k) i ≡ Some c) same e) f)
        | inr apart ↦ absurd (omega (arith, elsewhere cells ends spare lists pool m l c m_in l_in apart (times_from_get (list_at lists m) j c f), times_from_get (list_at lists l) i c e))
      ]

  pub are_in_range : AreInRange lists (length cells)
  are_in_range l c stands =
      let l_in : l < length ends = omega (arith, listed lists l stands.0 c (get_from_Contains (list_at lists l) c stands), pool.count) in
      in_range cells ends spare lists pool l c l_in (times_from_Contains (list_at lists l) c stands)

  pub free_from_flag : (c : ℕ) (held : Bool) → held ≡ get_or (flags cells) c false → (not held ≡ true) ↔ IsFree lists c
  free_from_flag c held e =
      let flag : Bool = get_or (flags cells) c false in
      let same : not held ≡ not flag = ap not e in (
        λ t. let off : not flag ≡ true = sym same ∙ t in IsFree_from_count lists c (pool.held c ∙ none flag off),
        λ f. let count : held_at flag ≡ 0 = sym (pool.held c) ∙ count_from_IsFree lists c f in same ∙ off flag count,
      )
    where
      none : (b : Bool) → not b ≡ true → held_at b ≡ 0
      none true t = cc
      none false t = refl

      off : (b : Bool) → held_at b ≡ 0 → not b ≡ true
      off true t = absurd (omega arith)
      off false t = refl
