-- Pairs in order.
use Rattle.std.proofs.Common.{List, [], ◌++◌, ℕ, get_or, map, length, ◌≡◌, ◌<◌, ◌≤◌, ◌+◌, ◌-◌, inl, inr, refl, sym, ◌∙◌, ap, subst, arith, length-append}
use Rattle.std.proofs.lemmas.Bool.{cases_lt}
use Rattle.std.proofs.lemmas.List.{get_or-map, length-map, get_or_append_left, get_or-append_right}
use Rattle.std.proofs.lemmas.List.Elements.{Contains-append_left, Contains-append_right, Contains-get_or, All-append, All-map}
use Rattle.std.proofs.lemmas.List.Kept.{AllPairs-from_increasing}
use Rattle.chase_laws.specs.Shape.{Shape}
use Rattle.chase_laws.specs.Graph.{NumberedGraph}
use Rattle.chase_laws.specs.Candidate.{IsCandidate, AreAscending}
use Rattle.pair_seed.specs.Pairs.{HasMoreCandidates}
use Rattle.pair_seed.specs.Gathered.{ArePartners, AreCandidatesFrom}

-- a run without names
pub no_names : (G : NumberedGraph) (K : List Shape) (n : ℕ) (ps : List (ℕ × ℕ)) → ps ≡ [] → AreCandidatesFrom G K n n ps
no_names G K n ps e = rw e (record {
  ascending = λ i j d i_j in_j. absurd (omega (arith, in_j));
  only = λ k d h. absurd (omega (arith, h));
  every = λ a b above below c. absurd (omega (arith, above, below));
})

-- the pairs of one name
pub of_one : (G : NumberedGraph) (K : List Shape) (n : ℕ) (bs : List ℕ) → ArePartners G K n bs → AreCandidatesFrom G K n (n + 1) (map (λ (b : ℕ). (n, b)) bs)
of_one G K n bs near =
    record {
      ascending = λ i j d i_j in_j.
          let within : j < length bs = omega (arith, in_j, length-map {B = ℕ × ℕ} bs (λ (b : ℕ). (n, b))) in
          rw (get_or-map (λ (b : ℕ). (n, b)) bs i 0 d (omega (arith, i_j, within)), get_or-map (λ (b : ℕ). (n, b)) bs j 0 d within)
          (inr (refl, AllPairs-from_increasing bs near.ascending i j 0 i_j within));
      only = All-map (λ (x : ℕ × ℕ). (n ≤ x.0) × (x.0 < n + 1) × IsCandidate G K x.0 x.1) (λ (b : ℕ). (n, b)) bs
          (λ k d h. (omega arith, omega arith, (near.exact (get_or bs k d)).0 (Contains-get_or bs k d h)));
      every = λ a b above below c.
          let same : a ≡ n = omega (arith, above, below) in
          let x = (near.exact b).1 (subst (λ m. IsCandidate G K m b) same c) in
          (x.0, omega (arith, x.1, length-map {B = ℕ × ℕ} bs (λ (b : ℕ). (n, b))), get_or-map (λ (b : ℕ). (n, b)) bs x.0 b (a, b) x.1 ∙ ap (λ m. (n, m)) x.2 ∙ ap (λ m. (m, b)) (sym same));
    }

-- two runs, the one behind the other
module _ (G : NumberedGraph) (K : List Shape) (from middle to : ℕ) (ps qs : List (ℕ × ℕ)) (low : AreCandidatesFrom G K from middle ps) (high : AreCandidatesFrom G K middle to qs) where
  -- the pairs of the higher names come behind those of the lower ones
  rises : AreAscending (ps ++ qs)
  rises = λ i j d i_j in_j.
      let long : length (ps ++ qs) ≡ length ps + length qs = length-append ps qs in
      elim (cases_lt j (length ps)) [
        | inl j_left ↦ rw (get_or_append_left ps qs d i (omega arith), get_or_append_left ps qs d j j_left) (low.ascending i j d i_j j_left)
        | inr j_right ↦
            (let q : get_or (ps ++ qs) j d ≡ get_or qs (j - length ps) d = get_or-append_right ps qs (length ps) j d refl j_right in
            elim (cases_lt i (length ps)) [
              | inl i_left ↦
                  (let x = low.only i d i_left in
                  let y = high.only (j - length ps) d (omega arith) in
                  inl (rw (get_or_append_left ps qs d i i_left, q) (omega (arith, x.1, y.0))))
              | inr i_right ↦
                  (let r : get_or (ps ++ qs) i d ≡ get_or qs (i - length ps) d = get_or-append_right ps qs (length ps) i d refl i_right in
                  rw (r, q) (high.ascending (i - length ps) (j - length ps) d (omega arith) (omega arith)))
            ])
      ]

  pub both_runs : (rs : List (ℕ × ℕ)) → rs ≡ ps ++ qs → from ≤ middle → middle ≤ to → AreCandidatesFrom G K from to rs
  both_runs rs e left right = rw e (record {
    ascending = rises;
    only = All-append (λ (x : ℕ × ℕ). (from ≤ x.0) × (x.0 < to) × IsCandidate G K x.0 x.1) ps qs
        (λ k d h. let x = low.only k d h in (x.0, omega (arith, x.1), x.2))
        (λ k d h. let x = high.only k d h in (omega (arith, x.0), x.1, x.2));
    every = λ a b above below c. elim (cases_lt a middle) [
      | inl lower ↦ Contains-append_left ps qs (a, b) (low.every a b above lower c)
      | inr upper ↦ Contains-append_right ps qs (a, b) (high.every a b upper below c)
    ];
  })

  pub too_many : (limit : ℕ) → limit < length ps + length qs → HasMoreCandidates G K limit
  too_many limit more = record {
    pairs = ps ++ qs;
    ascending = rises;
    candidates = All-append (λ (x : ℕ × ℕ). IsCandidate G K x.0 x.1) ps qs (λ k d h. (low.only k d h).2) (λ k d h. (high.only k d h).2);
    more = rw (length-append ps qs) more;
  }
