-- All candidates, when every name was the lower one.
use Rattle.std.proofs.Common.{List, [], ◌∷◌, ℕ, Bool, true, false, Option, Some, None, All, Contains, IsSomeAnd, get_or, slice_get, length, nat_eq, ◌&&◌, ◌≡◌, ◌<◌, ◌≤◌, ◌↔◌, ◌⊎◌, inl, inr, refl, ap, ap₂, arith}
use Rattle.std.specs.Bool.{Decides}
use Rattle.std.specs.Cmp.{IsEquivalence}
use Rattle.std.specs.List.{IsDistinct}
use Rattle.std.proofs.lemmas.Bool.{and_parts, eqb-true, eq-eqb}
use Rattle.std.proofs.lemmas.Cmp.{nat_eq_equiv}
use Rattle.std.proofs.lemmas.List.Elements.{All-contains}
use Rattle.std.proofs.lemmas.Map.Keys.{IsDistinct-from_apart}
use Rattle.std.proofs.lemmas.Map.Made.{is_member-Decides, length-le_from_is_member}
use Rattle.chase_laws.specs.Shape.{Shape, PatternFacts}
use Rattle.chase_laws.specs.Graph.{NumberedGraph, HasRow, HasType, IsGraph}
use Rattle.chase_laws.specs.Candidate.{IsCandidate, AreAscending}
use Rattle.pair_seed.specs.Pairs.{HasMoreCandidates}
use Rattle.pair_seed.specs.Gathered.{AreCandidatesFrom}
use Rattle.pair_seed.proofs.Keys.{designated_by}

-- whether two pairs are equal
same_pair : ℕ × ℕ → ℕ × ℕ → Bool
same_pair x y = nat_eq x.0 y.0 && nat_eq x.1 y.1

decides : (x y : ℕ × ℕ) → Decides (same_pair x y) (x ≡ y)
unfolding same_pair
decides x y = (
  (λ e. let h = and_parts (nat_eq x.0 y.0) (nat_eq x.1 y.1) e in ap₂ (λ (a b : ℕ). (a, b)) (eqb-true x.0 y.0 h.0) (eqb-true x.1 y.1 h.1)),
  (λ e. ap₂ (λ (p q : Bool). p && q) (eq-eqb x.0 y.0 (ap (λ (z : ℕ × ℕ). z.0) e)) (eq-eqb x.1 y.1 (ap (λ (z : ℕ × ℕ). z.1) e))),
)

same_pair_equiv : IsEquivalence same_pair
unfolding same_pair
same_pair_equiv = record {
  refl = λ x. (decides x x).1 refl;
  symm = λ x y. ap₂ (λ (p q : Bool). p && q) (nat_eq_equiv.symm x.0 y.0) (nat_eq_equiv.symm x.1 y.1);
  congr = λ x y z e. ap (λ (w : ℕ × ℕ). same_pair w z) ((decides x y).0 e);
}

-- pairs in order are different
distinct : (ps : List (ℕ × ℕ)) → AreAscending ps → IsDistinct same_pair ps
distinct ps rise = IsDistinct-from_apart same_pair ps (λ i j d i_j in_j. apart (get_or ps i d) (get_or ps j d) (rise i j d i_j in_j))
  where
    apart : (x y : ℕ × ℕ) → (x.0 < y.0) ⊎ ((x.0 ≡ y.0) × (x.1 < y.1)) → same_pair x y ≡ false
    apart x y less = by (same_pair x y) (decides x y).0
      where
        by : (b : Bool) → (b ≡ true → x ≡ y) → b ≡ false
        by true same = let e = same refl in absurd (elim less [ inl lt ↦ (let q : x.0 ≡ y.0 = ap (λ (z : ℕ × ℕ). z.0) e in omega arith) | inr h ↦ (let q : x.1 ≡ y.1 = ap (λ (z : ℕ × ℕ). z.1) e in let lt = h.1 in omega arith) ])
        by false same = refl

-- different pairs that are all among others are no more than those
pub no_longer : (xs ys : List (ℕ × ℕ)) → AreAscending xs → ((a b : ℕ) → Contains xs (a, b) → Contains ys (a, b)) → length xs ≤ length ys
no_longer xs ys rise among = length-le_from_is_member same_pair_equiv xs ys (distinct xs rise) (λ q h. (is_member-Decides decides ys q).1 (among q.0 q.1 ((is_member-Decides decides xs q).0 h)))

type_row : (o : Option ℕ) (G : NumberedGraph) (n t : ℕ) → IsSomeAnd o (λ p. HasRow G n p t) → (p : ℕ) × HasRow G n p t
type_row (Some p) G n t h = (p, h)
type_row None G n t h = absurd h

-- what has a type is a name
typed_named : (G : NumberedGraph) (n t : ℕ) → IsGraph G → HasType G n t → n < length G.literal
typed_named G n t graph typed =
    let row = type_row G.rdf_type G n t typed in
    All-contains (λ (r : List ℕ). All (λ m. m < length G.literal) r) G.rows (n ∷ row.0 ∷ t ∷ []) graph row.1 0 0 (omega arith)

module _ (G : NumberedGraph) (K : List Shape) (graph : IsGraph G) (valid : (key : ℕ) (Q : Shape) → slice_get K key ≡ Some Q → PatternFacts Q) where
  pub candidate_named : (a b : ℕ) → IsCandidate G K a b → (a < length G.literal) × (b < length G.literal)
  candidate_named a b x =
      let first = (valid x.key x.pattern x.found).first in
      (typed_named G a first.0 graph (designated_by G x.pattern first.0 a first.1 x.under.left).1, typed_named G b first.0 graph (designated_by G x.pattern first.0 b first.1 x.under.right).1)

  module _ (n : ℕ) (ps : List (ℕ × ℕ)) (run : AreCandidatesFrom G K 0 n ps) (all : length G.literal ≤ n) where
    pub exact : (a b : ℕ) → Contains ps (a, b) ↔ IsCandidate G K a b
    exact a b = (
      (λ h. (All-contains (λ (x : ℕ × ℕ). (0 ≤ x.0) × (x.0 < n) × IsCandidate G K x.0 x.1) ps (a, b) run.only h).2),
      (λ x. run.every a b (omega arith) (let named = (candidate_named a b x).0 in omega arith) x),
    )

    pub named : All (λ x. (x.0 < x.1) × (x.1 < length G.literal)) ps
    named k d h = let x = (run.only k d h).2 in (x.below, (candidate_named _ _ x).1)

    pub no_more : (limit : ℕ) → length ps ≤ limit → HasMoreCandidates G K limit → ⊥
    no_more limit few more =
        let le = no_longer more.pairs ps more.ascending (λ a b h. (exact a b).1 (All-contains (λ (x : ℕ × ℕ). IsCandidate G K x.0 x.1) more.pairs (a, b) more.candidates h)) in
        let gt = more.more in omega arith
