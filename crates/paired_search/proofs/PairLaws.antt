-- Two lists side by side.
use Rattle.std.proofs.Common.{List, [], ◌∷◌, ◌++◌, ℕ, Bool, All, slice_index, get_or, take, length, ◌≡◌, ◌<◌, ◌≤◌, ◌+◌, inl, inr, refl, sym, ◌∙◌, ap, subst, arith, length-append}
use Rattle.std.proofs.lemmas.List.{get_or-take, length-take-le}
use Rattle.chase_laws.specs.declared.pattern.Slot.TheVariants.{Entity}
use Rattle.chase_laws.specs.declared.pattern.Edge.{Edge}
use Rattle.chase_laws.specs.Shape.{Shape}
use Rattle.chase_laws.specs.Graph.{NumberedGraph}
use Rattle.chase_laws.specs.Valuation.{IsValuation, Coincide, IsMatch}
use Rattle.paired_search.specs.Part.{IsPair, EdgeHolds, AreCompletedBy, AreTwins, IsBare, AreBareFrom, IsCompletedBy}
use Rattle.key_plan.specs.Route.{IsBlock}
use Rattle.paired_search.proofs.BlockLaws.{block_part}
use Rattle.chase_laws.specs.declared.pattern.Slot.{Slot}
use Rattle.chase_laws.specs.declared.pattern.Slot.TheVariants as slot
use Rattle.chase_laws.specs.Valuation.{FitsSlot, AgreeAt}
use Rattle.std.proofs.Common.{Contains, Some, slice_get}
use Rattle.std.proofs.lemmas.Bool.{cases_lt}
use Rattle.paired_search.proofs.PartLaws.{part_front, last_at, front_next, contains_more}
use Rattle.paired_search.proofs.CompleteLaws.{completes_before as begins_before}

-- what two lists have at one more place
pub record Next (G : NumberedGraph) (Q : Shape) (same : ℕ → ℕ → Bool) (slot : Slot) (block : List Edge) (p q : List ℕ) (m n : ℕ) : Type 0 where
  pub pair : IsPair G Q same (p ++ m ∷ []) (q ++ n ∷ [])
  pub left : All (EdgeHolds G (p ++ m ∷ [])) block
  pub right : All (EdgeHolds G (q ++ n ∷ [])) block
  pub agree : AgreeAt G same (length p) slot m n
  pub twins : AreTwins slot m n
  pub fit_left : FitsSlot G slot m
  pub fit_right : FitsSlot G slot n

module _ (G : NumberedGraph) (Q : Shape) (same : ℕ → ℕ → Bool) where
  -- fronts of two lists that fit and coincide
  pub pair_front : (v w : List ℕ) (k : ℕ) → k ≤ length Q.slots → IsValuation G Q v → IsValuation G Q w → Coincide G Q same v w → IsPair G Q same (take k v) (take k w)
  pair_front v w k h left right agree =
      let long_v : length (take k v) ≡ k = length-take-le k v (omega (arith, left.one_each)) in
      let long_w : length (take k w) ≡ k = length-take-le k w (omega (arith, right.one_each)) in
      record {
        left = part_front G Q v k h left;
        right = part_front G Q w k h right;
        as_long = omega arith;
        agree = λ s slot in_s at. rw (get_or-take k v s 0 (omega arith), get_or-take k w s 0 (omega arith)) (agree s slot at);
      }

  -- what completes two lists completes them with its next numbers
  pub completes_next : (p q v w : List ℕ) → length q ≡ length p → length p < length Q.slots → AreCompletedBy G Q same p q v w →
      IsPair G Q same (p ++ slice_index v (length p) ∷ []) (q ++ slice_index w (length p) ∷ []) × AreCompletedBy G Q same (p ++ slice_index v (length p) ∷ []) (q ++ slice_index w (length p) ∷ []) v w
  completes_next p q v w as_long short c =
      let left : take (length p + 1) v ≡ p ++ slice_index v (length p) ∷ [] = front_next v p (omega (arith, c.left.one_each)) c.begins_left in
      let right : take (length p + 1) w ≡ q ++ slice_index w (length p) ∷ [] = subst (λ n. take (n + 1) w ≡ q ++ slice_index w n ∷ []) as_long (front_next w q (omega (arith, c.right.one_each)) c.begins_right) in
      let pair = pair_front v w (length p + 1) (omega arith) c.left c.right c.coincide in
      let long_p : length (p ++ slice_index v (length p) ∷ []) ≡ length p + 1 = length-append p (slice_index v (length p) ∷ []) in
      let long_q : length (q ++ slice_index w (length p) ∷ []) ≡ length p + 1 = length-append q (slice_index w (length p) ∷ []) ∙ ap (λ n. n + 1) as_long in (
        subst (λ x. IsPair G Q same x (q ++ slice_index w (length p) ∷ [])) left (subst (IsPair G Q same (take (length p + 1) v)) right pair),
        record { left = c.left; right = c.right; coincide = c.coincide; begins_left = ap (λ n. take n v) long_p ∙ left; begins_right = ap (λ n. take n w) long_q ∙ right },
      )

  -- and what completes the longer lists completes the shorter ones
  pub completes_before : (p q v w : List ℕ) (m n : ℕ) → AreCompletedBy G Q same (p ++ m ∷ []) (q ++ n ∷ []) v w → AreCompletedBy G Q same p q v w
  completes_before p q v w m n c = record {
    left = c.left;
    right = c.right;
    coincide = c.coincide;
    begins_left = (begins_before G Q p v m (record { valuation = c.left; begins = c.begins_left })).begins;
    begins_right = (begins_before G Q q w n (record { valuation = c.right; begins = c.begins_right })).begins;
  }

  agree_bare : (s : ℕ) (a : Slot) (m n : ℕ) → IsBare a → AgreeAt G same s a m n
  agree_bare s (slot.Entity t) m n h = absurd h
  agree_bare s (slot.Any t) m n h = tt
  agree_bare s slot.Value m n h = absurd h
  agree_bare s slot.Folded m n h = absurd h
  agree_bare s (slot.Fixed c) m n h = tt

  -- a number of a list that a valuation begins with
  begun_at : (p v : List ℕ) (s : ℕ) → s < length p → take (length p) v ≡ p → slice_index p s ≡ slice_index v s
  begun_at p v s in_s e = sym (ap (λ (x : List ℕ). slice_index x s) e) ∙ get_or-take (length p) v s 0 in_s

  -- where all slots behind two lists are bare, each is completed by itself
  pub completes_both : (p q v w : List ℕ) → IsPair G Q same p q → AreBareFrom Q (length p) → IsCompletedBy G Q p v → IsCompletedBy G Q q w → AreCompletedBy G Q same p q v w
  completes_both p q v w pair bare left right = record {
    left = left.valuation;
    right = right.valuation;
    coincide = λ s slot at. elim (cases_lt s (length p)) [
      | inl in_s ↦
          (let as_long = pair.as_long in
          subst (λ m. AgreeAt G same s slot m (slice_index w s)) (begun_at p v s in_s left.begins)
          (subst (λ n. AgreeAt G same s slot (slice_index p s) n) (begun_at q w s (omega arith) right.begins) (pair.agree s slot in_s at)))
      | inr out ↦ agree_bare s slot (slice_index v s) (slice_index w s) (bare s slot out at)
    ];
    begins_left = left.begins;
    begins_right = right.begins;
  }

  twins_of : (s : ℕ) (a : Slot) (m n : ℕ) → AgreeAt G same s a m n → AreTwins a m n
  twins_of s (slot.Entity t) m n h = tt
  twins_of s (slot.Any t) m n h = tt
  twins_of s slot.Value m n h = h
  twins_of s slot.Folded m n h = tt
  twins_of s (slot.Fixed c) m n h = tt

  next_agrees : (p q : List ℕ) (m n : ℕ) (slot : Slot) → length q ≡ length p → slice_get Q.slots (length p) ≡ Some slot → IsPair G Q same (p ++ m ∷ []) (q ++ n ∷ []) → AgreeAt G same (length p) slot m n
  next_agrees p q m n slot as_long at pair =
      let long : length (p ++ m ∷ []) ≡ length p + 1 = length-append p (m ∷ []) in
      let e : slice_index (q ++ n ∷ []) (length p) ≡ n = ap (slice_index (q ++ n ∷ [])) (sym as_long) ∙ last_at q n 0 in
      subst (λ x. AgreeAt G same (length p) slot x n) (last_at p m 0) (subst (λ y. AgreeAt G same (length p) slot (slice_index (p ++ m ∷ []) (length p)) y) e (pair.agree (length p) slot (omega arith) at))

  -- what two lists that complete these have next
  pub next : (slot : Slot) (block : List Edge) (p q v w : List ℕ) → length q ≡ length p → length p < length Q.slots → slice_get Q.slots (length p) ≡ Some slot → IsBlock Q (length p) block → AreCompletedBy G Q same p q v w →
      Next G Q same slot block p q (slice_index v (length p)) (slice_index w (length p))
  next slot block p q v w as_long short at is c =
      let both = completes_next p q v w as_long short c in
      let m = slice_index v (length p) in
      let n = slice_index w (length p) in
      let long : length (p ++ m ∷ []) ≡ length p + 1 = length-append p (m ∷ []) in
      record {
        pair = both.0;
        left = block_part G Q (p ++ m ∷ []) (length p) block is both.0.left.edges;
        right = block_part G Q (q ++ n ∷ []) (length p) block is both.0.right.edges;
        agree = next_agrees p q m n slot as_long at both.0;
        twins = twins_of (length p) slot m n (next_agrees p q m n slot as_long at both.0);
        fit_left = c.left.kinds (length p) slot at;
        fit_right = c.right.kinds (length p) slot at;
      }

  -- one number more on the right
  pub none_more : (p q : List ℕ) (s m i : ℕ) (xs : List ℕ) → s ≡ length p → length q ≡ length p → length p < length Q.slots → i < length xs →
      (IsPair G Q same (p ++ m ∷ []) (q ++ get_or xs i 0 ∷ []) → (v w : List ℕ) → AreCompletedBy G Q same (p ++ m ∷ []) (q ++ get_or xs i 0 ∷ []) v w → ⊥) →
      ((v w : List ℕ) → AreCompletedBy G Q same p q v w → get_or v s 0 ≡ m → Contains (take i xs) (get_or w s 0) → ⊥) →
      (v w : List ℕ) → AreCompletedBy G Q same p q v w → get_or v s 0 ≡ m → Contains (take (i + 1) xs) (get_or w s 0) → ⊥
  none_more p q s m i xs here as_long short in_i next before v w c at_m at_n = elim (contains_more xs i (get_or w s 0) in_i at_n) [
    | inl old ↦ before v w c at_m old
    | inr new ↦
        (let both = completes_next p q v w as_long short c in
        let em : slice_index v (length p) ≡ m = ap (slice_index v) (sym here) ∙ at_m in
        let en : slice_index w (length p) ≡ get_or xs i 0 = ap (slice_index w) (sym here) ∙ sym new in
        next (subst (λ x. IsPair G Q same (p ++ x ∷ []) (q ++ get_or xs i 0 ∷ [])) em (subst (λ y. IsPair G Q same (p ++ slice_index v (length p) ∷ []) (q ++ y ∷ [])) en both.0)) v w
        (subst (λ x. AreCompletedBy G Q same (p ++ x ∷ []) (q ++ get_or xs i 0 ∷ []) v w) em (subst (λ y. AreCompletedBy G Q same (p ++ slice_index v (length p) ∷ []) (q ++ y ∷ []) v w) en both.1)))
  ]

  -- one number more on the left
  pub none_left : (p q : List ℕ) (s i : ℕ) (xs : List ℕ) → i < length xs →
      ((v w : List ℕ) → AreCompletedBy G Q same p q v w → get_or v s 0 ≡ get_or xs i 0 → ⊥) →
      ((v w : List ℕ) → AreCompletedBy G Q same p q v w → Contains (take i xs) (get_or v s 0) → ⊥) →
      (v w : List ℕ) → AreCompletedBy G Q same p q v w → Contains (take (i + 1) xs) (get_or v s 0) → ⊥
  none_left p q s i xs in_i here before v w c at = elim (contains_more xs i (get_or v s 0) in_i at) [
    | inl old ↦ before v w c old
    | inr new ↦ here v w c (sym new)
  ]

  -- two lists that fit at a and b complete the lists of a and b
  pub witness_completes : (a b : ℕ) (v w : List ℕ) → 0 < length Q.slots → IsMatch G Q same a b v w → IsPair G Q same (a ∷ []) (b ∷ []) × AreCompletedBy G Q same (a ∷ []) (b ∷ []) v w
  witness_completes a b v w short x =
      let c : AreCompletedBy G Q same [] [] v w = record { left = x.left; right = x.right; coincide = x.coincide; begins_left = refl; begins_right = refl } in
      let both = completes_next [] [] v w refl short c in (
        subst (λ m. IsPair G Q same (m ∷ []) (b ∷ [])) x.at_a (subst (λ n. IsPair G Q same (slice_index v 0 ∷ []) (n ∷ [])) x.at_b both.0),
        subst (λ m. AreCompletedBy G Q same (m ∷ []) (b ∷ []) v w) x.at_a (subst (λ n. AreCompletedBy G Q same (slice_index v 0 ∷ []) (n ∷ []) v w) x.at_b both.1),
      )

  pub completes_witness : (a b : ℕ) (v w : List ℕ) → AreCompletedBy G Q same (a ∷ []) (b ∷ []) v w → IsMatch G Q same a b v w
  completes_witness a b v w c = record { left = c.left; right = c.right; coincide = c.coincide; at_a = first v a c.begins_left; at_b = first w b c.begins_right }
    where
      first : (v : List ℕ) (a : ℕ) → take 1 v ≡ a ∷ [] → slice_index v 0 ≡ a
      first [] a e = absurd (cc)
      first (x ∷ xs) a e = cc
