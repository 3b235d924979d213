-- What completes one list.
use Rattle.std.proofs.Common.{List, [], ◌∷◌, ◌++◌, ℕ, All, Contains, slice_index, get_or, take, length, ◌≡◌, ◌<◌, ◌+◌, inl, inr, sym, ◌∙◌, ap, subst, arith, length-append}
use Rattle.std.proofs.lemmas.List.{take_all, take-take, take-append-le}
use Rattle.chase_laws.specs.declared.pattern.Edge.{Edge}
use Rattle.chase_laws.specs.Shape.{Shape}
use Rattle.chase_laws.specs.Graph.{NumberedGraph}
use Rattle.key_plan.specs.Route.{IsBlock}
use Rattle.paired_search.specs.Part.{EdgeHolds, IsPart, IsCompletedBy}
use Rattle.paired_search.proofs.PartLaws.{part_front, front_next, contains_more}
use Rattle.paired_search.proofs.BlockLaws.{block_part}

module _ (G : NumberedGraph) (Q : Shape) where
  -- what completes a list completes it with its next number
  pub completes_next : (p v : List ℕ) → length p < length Q.slots → IsCompletedBy G Q p v →
      IsPart G Q (p ++ slice_index v (length p) ∷ []) × IsCompletedBy G Q (p ++ slice_index v (length p) ∷ []) v
  completes_next p v short c =
      let longer : take (length p + 1) v ≡ p ++ slice_index v (length p) ∷ [] = front_next v p (omega (arith, c.valuation.one_each)) c.begins in
      let long : length (p ++ slice_index v (length p) ∷ []) ≡ length p + 1 = length-append p (slice_index v (length p) ∷ []) in (
        subst (IsPart G Q) longer (part_front G Q v (length p + 1) (omega arith) c.valuation),
        record { valuation = c.valuation; begins = ap (λ n. take n v) long ∙ longer },
      )

  -- and what completes the longer list completes the shorter one
  pub completes_before : (p v : List ℕ) (m : ℕ) → IsCompletedBy G Q (p ++ m ∷ []) v → IsCompletedBy G Q p v
  completes_before p v m c = record {
    valuation = c.valuation;
    begins = sym (take-take (length p) (length (p ++ m ∷ [])) v (omega (arith, length-append p (m ∷ [])))) ∙ ap (take (length p)) c.begins ∙ take-append-le (length p) p (m ∷ []) (omega arith) ∙ take_all (length p) p (omega arith);
  }

  -- the next number is one that the edges of the block allow
  pub next_edges : (block : List Edge) (p v : List ℕ) → length p < length Q.slots → IsBlock Q (length p) block → IsCompletedBy G Q p v → All (EdgeHolds G (p ++ slice_index v (length p) ∷ [])) block
  next_edges block p v short is c = block_part G Q (p ++ slice_index v (length p) ∷ []) (length p) block is (completes_next p v short c).0.edges

  -- one number more was tried
  pub none_more : (p : List ℕ) (s i : ℕ) (xs : List ℕ) → s ≡ length p → length p < length Q.slots → i < length xs →
      (IsPart G Q (p ++ get_or xs i 0 ∷ []) → (v : List ℕ) → IsCompletedBy G Q (p ++ get_or xs i 0 ∷ []) v → ⊥) →
      ((v : List ℕ) → IsCompletedBy G Q p v → Contains (take i xs) (get_or v s 0) → ⊥) →
      (v : List ℕ) → IsCompletedBy G Q p v → Contains (take (i + 1) xs) (get_or v s 0) → ⊥
  none_more p s i xs here short in_i next before v c at = elim (contains_more xs i (get_or v s 0) in_i at) [
    | inl old ↦ before v c old
    | inr new ↦
        (let both = completes_next p v short c in
        let e : slice_index v (length p) ≡ get_or xs i 0 = ap (slice_index v) (sym here) ∙ sym new in
        next (subst (λ (x : ℕ). IsPart G Q (p ++ x ∷ [])) e both.0) v (subst (λ (x : ℕ). IsCompletedBy G Q (p ++ x ∷ []) v) e both.1))
  ]
