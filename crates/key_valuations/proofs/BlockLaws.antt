-- What the edges of a block say of the new number.
use Rattle.std.proofs.Common.{List, [], ◌∷◌, ◌++◌, ℕ, All, Contains, get_or, length, slice_index, ◌≡◌, ◌<◌, ◌≤◌, ◌+◌, ◌⊎◌, inl, inr, sym, ◌∙◌, ap, subst, arith, length-append}
use Rattle.std.proofs.lemmas.List.Elements.{All-contains}
use Rattle.chase_laws.specs.declared.pattern.Edge.{Edge}
use Rattle.chase_laws.specs.Shape.{Shape}
use Rattle.chase_laws.specs.Graph.{NumberedGraph, HasRow}
use Rattle.key_plan.specs.Route.{IsProper, IsBlock}
use Rattle.key_valuations.specs.Part.{EdgeHolds, IsPart}
use Rattle.key_valuations.proofs.PartLaws.{front_at, last_at}

pub row_out : (G : NumberedGraph) (p : List ℕ) (m : ℕ) (e : Edge) → IsProper (length p) e → e.from < length p → EdgeHolds G (p ++ m ∷ []) e → HasRow G (slice_index p e.from) e.pred m
row_out G p m e proper before holds = elim proper [
  | inl x ↦ absurd (let h = x.0 in omega arith)
  | inr x ↦
      (let long : length (p ++ m ∷ []) ≡ length p + 1 = length-append p (m ∷ []) in
      let at = x.1 in
      let row = holds (omega arith) (omega arith) in
      let last : slice_index (p ++ m ∷ []) e.to ≡ m = ap (slice_index (p ++ m ∷ [])) at ∙ last_at p m 0 in
      subst (λ o. HasRow G (slice_index p e.from) e.pred o) last (subst (λ s. HasRow G s e.pred (slice_index (p ++ m ∷ []) e.to)) (front_at p m e.from 0 before) row))
]

pub row_in : (G : NumberedGraph) (p : List ℕ) (m : ℕ) (e : Edge) → IsProper (length p) e → length p ≤ e.from → EdgeHolds G (p ++ m ∷ []) e → HasRow G m e.pred (slice_index p e.to)
row_in G p m e proper past holds = elim proper [
  | inl x ↦
      (let long : length (p ++ m ∷ []) ≡ length p + 1 = length-append p (m ∷ []) in
      let at = x.0 in
      let before = x.1 in
      let row = holds (omega arith) (omega arith) in
      let last : slice_index (p ++ m ∷ []) e.from ≡ m = ap (slice_index (p ++ m ∷ [])) at ∙ last_at p m 0 in
      subst (λ s. HasRow G s e.pred (slice_index p e.to)) last (subst (λ o. HasRow G (slice_index (p ++ m ∷ []) e.from) e.pred o) (front_at p m e.to 0 before) row))
  | inr x ↦ absurd (let h = x.0 in omega arith)
]

-- and back
pub out_row : (G : NumberedGraph) (p : List ℕ) (m : ℕ) (e : Edge) → IsProper (length p) e → e.from < length p → HasRow G (slice_index p e.from) e.pred m → EdgeHolds G (p ++ m ∷ []) e
out_row G p m e proper before row = elim proper [
  | inl x ↦ absurd (let h = x.0 in omega arith)
  | inr x ↦ (λ from to.
      let last : m ≡ slice_index (p ++ m ∷ []) e.to = sym (ap (slice_index (p ++ m ∷ [])) x.1 ∙ last_at p m 0) in
      subst (λ (o : ℕ). HasRow G (slice_index (p ++ m ∷ []) e.from) e.pred o) last (subst (λ (s : ℕ). HasRow G s e.pred m) (sym (front_at p m e.from 0 before)) row))
]

pub in_row : (G : NumberedGraph) (p : List ℕ) (m : ℕ) (e : Edge) → IsProper (length p) e → length p ≤ e.from → HasRow G m e.pred (slice_index p e.to) → EdgeHolds G (p ++ m ∷ []) e
in_row G p m e proper past row = elim proper [
  | inl x ↦ (λ from to.
      let last : m ≡ slice_index (p ++ m ∷ []) e.from = sym (ap (slice_index (p ++ m ∷ [])) x.0 ∙ last_at p m 0) in
      subst (λ (s : ℕ). HasRow G s e.pred (slice_index (p ++ m ∷ []) e.to)) last (subst (λ (o : ℕ). HasRow G m e.pred o) (sym (front_at p m e.to 0 x.1)) row))
  | inr x ↦ absurd (let h = x.0 in omega arith)
]

-- the ends of a block's edges
pub block_ends : (P : Shape) (s : ℕ) (block : List Edge) → IsBlock P s block → All (λ e. (e.from ≤ s) × (e.to ≤ s)) block
block_ends P s block is = λ k d in_k. elim (is.ends k d in_k) [
  | inl proper ↦ elim proper [
    | inl x ↦ (let a = x.0 in omega arith, let b = x.1 in omega arith)
    | inr x ↦ (let a = x.0 in omega arith, let b = x.1 in omega arith)
  ]
  | inr x ↦ (let a = x.0 in omega arith, let b = x.1 in omega arith)
]

-- the edges of the block and those before give all
pub block_whole : (G : NumberedGraph) (P : Shape) (p : List ℕ) (m : ℕ) (block : List Edge) → IsBlock P (length p) block → IsPart G P p → All (EdgeHolds G (p ++ m ∷ [])) block → All (EdgeHolds G (p ++ m ∷ [])) P.edges
block_whole G P p m block is part holds = λ k d in_k. each (get_or P.edges k d) (is.every k d in_k) (part.edges k d in_k)
  where
    each : (e : Edge) → (e.from ≤ length p → e.to ≤ length p → ((e.from < length p) × (e.to < length p)) ⊎ Contains block e) → EdgeHolds G p e → EdgeHolds G (p ++ m ∷ []) e
    each e where_is before = λ from to.
        let long : length (p ++ m ∷ []) ≡ length p + 1 = length-append p (m ∷ []) in
        elim (where_is (omega arith) (omega arith)) [
          | inl x ↦
              (let a : slice_index p e.from ≡ slice_index (p ++ m ∷ []) e.from = sym (front_at p m e.from 0 x.0) in
              let b : slice_index p e.to ≡ slice_index (p ++ m ∷ []) e.to = sym (front_at p m e.to 0 x.1) in
              subst (λ o. HasRow G (slice_index (p ++ m ∷ []) e.from) e.pred o) b (subst (λ s. HasRow G s e.pred (slice_index p e.to)) a (before x.0 x.1)))
          | inr y ↦ All-contains (EdgeHolds G (p ++ m ∷ [])) block e holds y from to
        ]

pub block_part : (G : NumberedGraph) (P : Shape) (p : List ℕ) (s : ℕ) (block : List Edge) → IsBlock P s block → All (EdgeHolds G p) P.edges → All (EdgeHolds G p) block
block_part G P p s block is holds = λ k d in_k. All-contains (EdgeHolds G p) P.edges (get_or block k d) holds (is.only k d in_k)
