-- A graph whose names have numbers of 32 bits has fewer candidate pairs than the largest number of 64 bits.
use Rattle.std.proofs.Common.{List, [], ◌∷◌, ℕ, zero, suc, Option, Some, None, All, IsSomeAnd, length, slice_get, get_or, ◌<◌, ◌≤◌, ◌+◌, ◌*◌, ◌-◌, ◌^◌, ◌≡◌, ◌⊎◌, inl, inr, refl, sym, ◌∙◌, subst, arith}
use Rattle.std.proofs.lemmas.List.Elements.{All-contains}
use Rattle.std.proofs.lemmas.Option.{same_Some}
use Rattle.chase_laws.specs.declared.pattern.Slot.{Slot}
use Rattle.chase_laws.specs.declared.pattern.Slot.TheVariants.{Entity}
use Rattle.chase_laws.specs.Shape.{Shape, PatternFacts}
use Rattle.chase_laws.specs.Graph.{NumberedGraph, HasRow, IsGraph}
use Rattle.chase_laws.specs.Valuation.{FitsSlot, Designates}
use Rattle.chase_laws.specs.Candidate.{AreAscending}
use Rattle.pair_seed.specs.Pairs.{HasMoreCandidates}

-- a later pair, as one number of 64 bits, is a larger one
rises : (a b c d : ℕ) → (a < c) ⊎ ((a ≡ c) × (b < d)) → b < 2 ^ 32 → a * 2 ^ 32 + b < c * 2 ^ 32 + d
rises a b c d (inl less) small = omega arith
rises a b c d (inr h) small = let same = h.0 in let less = h.1 in omega arith

module _ (ps : List (ℕ × ℕ)) (rise : AreAscending ps) (small : All (λ x. (x.0 < 2 ^ 32 - 1) × (x.1 < 2 ^ 32)) ps) where
  -- a pair, as one number, is no less than its place
  climbs : (i : ℕ) → i < length ps → i ≤ (get_or ps i (0, 0)).0 * 2 ^ 32 + (get_or ps i (0, 0)).1
  climbs zero within = omega arith
  climbs (suc i) within =
      let before = climbs i (omega arith) in
      let x = get_or ps i (0, 0) in
      let y = get_or ps (suc i) (0, 0) in
      let step = rises x.0 x.1 y.0 y.1 (rise i (suc i) (0, 0) (omega arith) within) (small i (0, 0) (omega arith)).1 in
      omega arith

  few_to : (n : ℕ) → n ≡ length ps → n ≤ 2 ^ 64 - 1
  few_to zero e = omega arith
  few_to (suc n) e =
      let last = climbs n (omega arith) in
      let bound = small n (0, 0) (omega arith) in
      let a = bound.0 in
      let b = bound.1 in
      omega arith

  -- pairs that ascend are fewer than 2^64
  pub few_pairs : length ps ≤ 2 ^ 64 - 1
  few_pairs = few_to (length ps) refl

-- what a pattern designates is a name
designated_named : (G : NumberedGraph) → IsGraph G → (Q : Shape) → PatternFacts Q → (n : ℕ) → Designates G Q n → n < length G.literal
designated_named G graph Q facts n fits = by G.rdf_type (subst (λ (slot : Slot). FitsSlot G slot n) (same_Some fits.0 (Entity facts.first.0) (sym fits.1 ∙ facts.first.1)) fits.2).1
  where
    by : (o : Option ℕ) → IsSomeAnd o (λ p. HasRow G n p facts.first.0) → n < length G.literal
    by (Some p) row = All-contains (λ r. All (λ m. m < length G.literal) r) G.rows (n ∷ p ∷ facts.first.0 ∷ []) graph row 0 0 (omega arith)
    by None none = absurd none

-- no list of candidates is longer than the largest number of 64 bits
pub no_more_than_largest : (G : NumberedGraph) (K : List Shape) → IsGraph G → length G.literal < 2 ^ 32 →
    ((key : ℕ) (Q : Shape) → slice_get K key ≡ Some Q → PatternFacts Q) → HasMoreCandidates G K (2 ^ 64 - 1) → ⊥
no_more_than_largest G K graph few facts more =
    let more_than = more.more in
    let at_most = few_pairs more.pairs more.ascending (λ i d within.
    let x = more.candidates i d within in
    let known = facts x.key x.pattern x.found in
    let below = x.below in
    let right = designated_named G graph x.pattern known (get_or more.pairs i d).1 x.under.right in
    (omega arith, omega arith)) in
    omega arith
