-- What is joined and different is an entity, and what a view makes the same is joined.
use Rattle.std.proofs.Common.{List, [], ◌∷◌, ℕ, suc, true, Option, Some, None, All, IsSomeAnd, IsTrue, slice_get, slice_index, ◌≡◌, ◌≢◌, ◌⊎◌, inl, inr, refl, sym, ap, subst, eqb-true}
use Rattle.std.proofs.lemmas.Bool.{or_cases}
use Rattle.chase_laws.specs.declared.entry.Entry.{Entry}
use Rattle.chase_laws.specs.declared.pattern.Slot.TheVariants.{Entity}
use Rattle.chase_laws.specs.Shape.{Shape, IsPattern}
use Rattle.chase_laws.specs.Graph.{NumberedGraph, HasRow, IsEntity}
use Rattle.chase_laws.specs.Valuation.{FitsSlot, IsValuation}
use Rattle.chase_laws.specs.Joined.{joined, links, Joined}
use Rattle.chase_laws.specs.Chase.{AreSame}
use Rattle.chase_laws.specs.View.{label_in, both_equal, same_by}
use Rattle.chase_laws.proofs.JoinedLaws.{joined_parts, joined_nil, joined_refl, joined_sym, joined_trans}
use Rattle.chase_laws.proofs.Patterns.{pattern_facts}
use Rattle.chase_laws.proofs.Lists.{All-at}

-- ---- entities

-- what has a type is an entity, if it is no literal
typed_entity : (G : NumberedGraph) (n t : ℕ) → FitsSlot G (Entity t) n → IsEntity G n
typed_entity G n t h = (h.0, by G.rdf_type h.1)
  where
    by : (o : Option ℕ) → IsSomeAnd o (λ p. HasRow G n p t) → (s p o : ℕ) × HasRow G s p o × ((n ≡ s) ⊎ (n ≡ o))
    by (Some p) row = (n, p, t, row, inl refl)
    by None none = absurd none

-- what stands at slot 0 of a valid pattern is an entity
valued_entity : (G : NumberedGraph) (Q : Shape) (v : List ℕ) → IsPattern Q → IsValuation G Q v → IsEntity G (slice_index v 0)
valued_entity G Q v valid fit =
    let first = (pattern_facts Q valid).first in
    typed_entity G (slice_index v 0) first.0 (fit.kinds 0 (Entity first.0) first.1)

-- both ends of each pair have a property
abbrev BothEnds : (ℕ → Type 0) → List (ℕ × ℕ) → Type 0
BothEnds P [] = Unit {0}
BothEnds P (p ∷ ps) = (P p.0 × P p.1) × BothEnds P ps

-- what joins two different numbers has each of them as an end
joined_ends : (P : ℕ → Type 0) (ps : List (ℕ × ℕ)) → BothEnds P ps → (a b : ℕ) → joined ps a b ≡ true → (a ≡ b) ⊎ (P a × P b)
joined_ends P [] ends a b h = inl (joined_nil a b h)
joined_ends P (p ∷ ps) ends a b h = elim (joined_parts p.0 p.1 ps a b h) [
  | inl k ↦ joined_ends P ps ends.1 a b k
  | inr m ↦ elim m [
    | inl k ↦ inr (left a p.0 ends.0.0 (joined_ends P ps ends.1 a p.0 k.0), right p.1 b ends.0.1 (joined_ends P ps ends.1 p.1 b k.1))
    | inr k ↦ inr (left a p.1 ends.0.1 (joined_ends P ps ends.1 a p.1 k.0), right p.0 b ends.0.0 (joined_ends P ps ends.1 p.0 b k.1))
  ]
]
  where
    left : (a c : ℕ) → P c → (a ≡ c) ⊎ (P a × P c) → P a
    left a c pc x = elim x [ inl e ↦ subst P (sym e) pc | inr q ↦ q.0 ]

    right : (d b : ℕ) → P d → (d ≡ b) ⊎ (P d × P b) → P b
    right d b pd x = elim x [ inl e ↦ subst P e pd | inr q ↦ q.1 ]

both_ends : (P : ℕ → Type 0) (H : List Entry) → ((i : ℕ) (e : Entry) → slice_get H i ≡ Some e → P e.a × P e.b) → BothEnds P (links H)
both_ends P [] each = tt
both_ends P (e ∷ H) each = (each 0 e refl, both_ends P H (λ i f at. each (suc i) f at))

pub same_entities : (G : NumberedGraph) (K : List Shape) → All IsPattern K → (a b : ℕ) → AreSame G K a b → a ≢ b → IsEntity G a × IsEntity G b
same_entities G K valid a b same apart =
    elim (joined_ends (IsEntity G) (links same.0) (both_ends (IsEntity G) same.0 ends) a b same.2) [
      | inl e ↦ absurd (apart e)
      | inr both ↦ both
    ]
  where
    ends : (i : ℕ) (e : Entry) → slice_get same.0 i ≡ Some e → IsEntity G e.a × IsEntity G e.b
    ends i e at =
        let step = same.1 i e at in
        let pattern : IsPattern step.pattern = All-at IsPattern K e.key step.pattern valid step.key in (
          subst (IsEntity G) step.witness.at_a (valued_entity G step.pattern e.left pattern step.witness.left),
          subst (IsEntity G) step.witness.at_b (valued_entity G step.pattern e.right pattern step.witness.right),
        )

-- ---- views

pub both_equal_parts : (o p : Option ℕ) → both_equal o p ≡ true → (k : ℕ) × (o ≡ Some k) × (p ≡ Some k)
both_equal_parts (Some k) (Some l) h = (k, refl, ap Some (sym (eqb-true k l h)))
both_equal_parts (Some k) None h = absurd (cc)
both_equal_parts None p h = absurd (cc)

-- where each label is joined with its name, what is the same by the view is joined
pub same_by_joined : (H : List Entry) (view : List (ℕ × ℕ)) → ((n l : ℕ) → label_in view n ≡ Some l → Joined H n l) →
    (m n : ℕ) → IsTrue (same_by view m n) → Joined H m n
same_by_joined H view right m n h = elim (or_cases _ _ h) [
  | inl e ↦ subst (Joined H m) (eqb-true m n e) (joined_refl (links H) m)
  | inr e ↦
      (let k = both_equal_parts (label_in view m) (label_in view n) e in
      joined_trans (links H) m k.0 n (right m k.0 k.1) (joined_sym (links H) n k.0 (right n k.0 k.2)))
]
