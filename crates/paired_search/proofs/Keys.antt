-- Keys one by one, and the type that a key designates.
use Rattle.std.proofs.Common.{List, ℕ, Bool, Some, slice_get, ◌≡◌, ◌<◌, ◌+◌, ◌⊎◌, ◌∙◌, inl, inr, ap, sym, subst, arith}
use Rattle.std.proofs.lemmas.Bool.{cases_eq, cases_lt}
use Rattle.chase_laws.specs.declared.pattern.Slot.TheVariants.{Entity}
use Rattle.chase_laws.specs.Shape.{Shape}
use Rattle.chase_laws.specs.Graph.{NumberedGraph, HasType}
use Rattle.chase_laws.specs.Valuation.{IsMatch}
use Rattle.paired_search.specs.declared.key_range.KeyRange.{KeyRange}
use Rattle.paired_search.specs.KeyRange.{IsWithin}
use Rattle.paired_search.proofs.PartLaws.{some_same}

-- none of the keys up to one more, of those that are asked, has two such lists
pub none_more : (K : List Shape) (Asked : ℕ → Type 0) (M : Shape → List ℕ → List ℕ → Type 0) (i : ℕ) (Q : Shape) → slice_get K i ≡ Some Q
    → ((k : ℕ) (P : Shape) (v w : List ℕ) → k < i → Asked k → slice_get K k ≡ Some P → M P v w → ⊥) → ((v w : List ℕ) → M Q v w → ⊥)
    → (k : ℕ) (P : Shape) (v w : List ℕ) → k < i + 1 → Asked k → slice_get K k ≡ Some P → M P v w → ⊥
none_more K Asked M i Q here before none k P v w lt asked at m = elim (cases_eq k i) [
  | inl e ↦ none v w (subst (λ (S : Shape). M S v w) (some_same P Q (sym at ∙ ap (slice_get K) e ∙ here)) m)
  | inr ne ↦ before k P v w (omega arith) asked at m
]

-- two names that a key matches have the type that it designates
pub match_types : (G : NumberedGraph) (Q : Shape) (same : ℕ → ℕ → Bool) (a b t : ℕ) (v w : List ℕ) → slice_get Q.slots 0 ≡ Some (Entity t)
    → IsMatch G Q same a b v w → HasType G a t × HasType G b t
match_types G Q same a b t v w first m = (
  subst (λ n. HasType G n t) m.at_a (m.left.kinds 0 (Entity t) first).1,
  subst (λ n. HasType G n t) m.at_b (m.right.kinds 0 (Entity t) first).1,
)

-- a key is in a range or outside of it
pub within_or_outside : (range : KeyRange) (key : ℕ) → IsWithin range key ⊎ ¬ (IsWithin range key)
within_or_outside range key = elim (cases_lt key range.first) [
  | inl before ↦ inr (λ within. absurd (let from = within.0 in omega arith))
  | inr from ↦ elim (cases_eq range.end 255) [
    | inl no_end ↦ inl (from, inl no_end)
    | inr told ↦ elim (cases_lt key range.end) [
      | inl lt ↦ inl (from, inr lt)
      | inr past ↦ inr (λ within. elim within.1 [
        | inl no_end ↦ told no_end
        | inr lt ↦ absurd (omega arith)
      ])
    ]
  ]
]
