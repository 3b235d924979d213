-- At most so many.
use Rattle.std.proofs.Common.{List, [], ◌++◌, ℕ, Bool, Option, Some, None, IfSome, Contains, length, map, take, get_or, slice_get, ◌≡◌, ◌↔◌, ◌<◌, ◌+◌, ◌⊎◌, inl, inr, refl, sym, ap, subst, ◌∙◌, arith, length-append}
use Rattle.std.proofs.lemmas.Bool.{cases_eq}
use Rattle.std.proofs.lemmas.List.{length-map, get_or-map}
use Rattle.std.proofs.lemmas.List.Elements.{Contains-append_left, Contains-append_right, All-contains}
use Rattle.chase_laws.specs.Shape.{Shape}
use Rattle.chase_laws.specs.Graph.{NumberedGraph, IsLiteral}
use Rattle.chase_laws.specs.Candidate.{IsCandidate, IsCandidateUnder, IsCandidateCount}
use Rattle.pair_seed.specs.Bounds.{AreAtMost, AreAtMostBelow, AreSoManyBelow}
use Rattle.pair_seed.specs.Folds.{Holds}
use Rattle.pair_seed.specs.Gathered.{ArePartners, HoldsOneOf}
use Rattle.pair_seed.specs.Pairs.{HasMoreCandidates}
use Rattle.pair_seed.proofs.InOrder.{of_one, both_runs}
use Rattle.pair_seed.proofs.Lists.{some_same, contains_more}
use Rattle.pair_seed.proofs.Whole.{no_longer}

pub none_at_most : (M : ℕ → Type 0) (n : ℕ) → ((b : ℕ) → M b → ⊥) → AreAtMost M n
none_at_most M n none = ([], omega arith, λ b m. absurd (none b m))

pub list_at_most : (M : ℕ → Type 0) (bs : List ℕ) → ((b : ℕ) → M b → Contains bs b) → AreAtMost M (length bs)
list_at_most M bs all = (bs, omega arith, all)

pub both_at_most : (M N P : ℕ → Type 0) (m n : ℕ) → AreAtMost M m → AreAtMost N n → ((b : ℕ) → P b → M b ⊎ N b) → AreAtMost P (m + n)
both_at_most M N P m n x y part = (
  x.0 ++ y.0,
  (let e = length-append x.0 y.0 in let le = x.1 in let lf = y.1 in omega arith),
  λ b p. elim (part b p) [
    | inl h ↦ Contains-append_left x.0 y.0 b (x.2 b h)
    | inr h ↦ Contains-append_right x.0 y.0 b (y.2 b h)
  ],
)

pub other_at_most : (M N : ℕ → Type 0) (n : ℕ) → AreAtMost M n → ((b : ℕ) → N b → M b) → AreAtMost N n
other_at_most M N n x turn = (x.0, x.1, λ b h. x.2 b (turn b h))

pub some_by : (o : Option ℕ) (P R : ℕ → Type 0) → IfSome o P → ((n : ℕ) → P n → R n) → IfSome o R
some_by (Some n) P R h turn = turn n h
some_by None P R h turn = tt

-- one literal more
pub literal_more : (G : NumberedGraph) (f : Bool) (p a : ℕ) (ls : List ℕ) (i n m : ℕ) → i < length ls → AreAtMost (λ b. (a < b) × HoldsOneOf G f p (take i ls) b) n →
    AreAtMost (λ b. (a < b) × IsLiteral G (get_or ls i 0) × Holds G f b p (get_or ls i 0)) m → AreAtMost (λ b. (a < b) × HoldsOneOf G f p (take (i + 1) ls) b) (n + m)
literal_more G f p a ls i n m lt x y =
    both_at_most (λ b. (a < b) × HoldsOneOf G f p (take i ls) b) (λ b. (a < b) × IsLiteral G (get_or ls i 0) × Holds G f b p (get_or ls i 0))
    (λ b. (a < b) × HoldsOneOf G f p (take (i + 1) ls) b) n m x y (λ b h. part b h.0 h.1.0 h.1.1 h.1.2 h.1.3)
  where
    part : (b : ℕ) → a < b → (l : ℕ) → Contains (take (i + 1) ls) l → IsLiteral G l → Holds G f b p l →
        ((a < b) × HoldsOneOf G f p (take i ls) b) ⊎ ((a < b) × IsLiteral G (get_or ls i 0) × Holds G f b p (get_or ls i 0))
    part b above l among literal held = elim (contains_more ls i l lt among) [
      | inl before ↦ inl (above, (l, before, literal, held))
      | inr same ↦ inr (above, subst (IsLiteral G) (sym same) literal, subst (Holds G f b p) (sym same) held)
    ]

-- one key more
pub key_more : (G : NumberedGraph) (K : List Shape) (a i n m : ℕ) (R : Shape) → slice_get K i ≡ Some R →
    AreAtMost (λ b. (key : ℕ) × (Q : Shape) × (key < i) × (slice_get K key ≡ Some Q) × (a < b) × IsCandidateUnder G Q a b) n →
    AreAtMost (λ b. (a < b) × IsCandidateUnder G R a b) m →
    AreAtMost (λ b. (key : ℕ) × (Q : Shape) × (key < i + 1) × (slice_get K key ≡ Some Q) × (a < b) × IsCandidateUnder G Q a b) (n + m)
key_more G K a i n m R here x y =
    both_at_most (λ b. (key : ℕ) × (Q : Shape) × (key < i) × (slice_get K key ≡ Some Q) × (a < b) × IsCandidateUnder G Q a b) (λ b. (a < b) × IsCandidateUnder G R a b)
    (λ b. (key : ℕ) × (Q : Shape) × (key < i + 1) × (slice_get K key ≡ Some Q) × (a < b) × IsCandidateUnder G Q a b) n m x y (λ b h. part b h.0 h.1 h.2 h.3 h.4 h.5)
  where
    part : (b key : ℕ) (Q : Shape) → key < i + 1 → slice_get K key ≡ Some Q → a < b → IsCandidateUnder G Q a b →
        ((key : ℕ) × (Q : Shape) × (key < i) × (slice_get K key ≡ Some Q) × (a < b) × IsCandidateUnder G Q a b) ⊎ ((a < b) × IsCandidateUnder G R a b)
    part b key Q below at above under = elim (cases_eq key i) [
      | inl e ↦ inr (above, subst (λ S. IsCandidateUnder G S a b) (some_same Q R (sym at ∙ ap (slice_get K) e ∙ here)) under)
      | inr o ↦ inl (key, Q, omega (arith, below, o), at, above, under)
    ]

-- a number of a list beside a
beside : (a b : ℕ) (bs : List ℕ) → Contains bs b → Contains {X = ℕ × ℕ} (map (λ (c : ℕ). (a, c)) bs) (a, b)
beside a b bs c =
    (c.0, (let e = length-map {B = ℕ × ℕ} bs (λ (d : ℕ). (a, d)) in let lt = c.1 in omega arith), get_or-map (λ (d : ℕ). (a, d)) bs c.0 b (a, b) c.1 ∙ ap (λ d. (a, d)) c.2)

module _ (G : NumberedGraph) (K : List Shape) where
  pub none_below : AreAtMostBelow G K 0 0
  none_below = ([], omega arith, λ a b lt x. absurd (omega (arith, lt)))

  pub more_below : (a n m : ℕ) → AreAtMostBelow G K a n → AreAtMost (λ b. IsCandidate G K a b) m → AreAtMostBelow G K (a + 1) (n + m)
  more_below a n m x y =
      let one : List (ℕ × ℕ) = map (λ (b : ℕ). (a, b)) y.0 in (
        x.0 ++ one,
        (let e = length-append x.0 one in let f = length-map {B = ℕ × ℕ} y.0 (λ (b : ℕ). (a, b)) in let le = x.1 in let lf = y.1 in omega arith),
        λ c b lt h. elim (cases_eq c a) [
          | inl e ↦ Contains-append_right x.0 one (c, b) (subst (λ d. Contains one (d, b)) (sym e) (beside a b y.0 (y.2 b (subst (λ d. IsCandidate G K d b) e h))))
          | inr o ↦ Contains-append_left x.0 one (c, b) (x.2 c b (omega (arith, lt, o)) h)
        ],
      )

  pub no_more_than : (to n : ℕ) → AreAtMostBelow G K to n → ((a b : ℕ) → IsCandidate G K a b → a < to) → HasMoreCandidates G K n → ⊥
  no_more_than to n x named more =
      let le = no_longer more.pairs x.0 more.ascending (λ a b h.
      let c = All-contains (λ (p : ℕ × ℕ). IsCandidate G K p.0 p.1) more.pairs (a, b) more.candidates h in
      x.2 a b (named a b c) c) in
      let few = x.1 in
      let gt = more.more in omega arith

  pub one_more_below : (a n m : ℕ) (bs : List ℕ) → m ≡ length bs → AreSoManyBelow G K a n → ArePartners G K a bs → AreSoManyBelow G K (a + 1) (n + m)
  one_more_below a n m bs so_many x near =
      let one : List (ℕ × ℕ) = map (λ (b : ℕ). (a, b)) bs in (
        x.0 ++ one,
        (let e = length-append x.0 one in let f = length-map {B = ℕ × ℕ} bs (λ (b : ℕ). (a, b)) in let g = x.1 in omega (arith, so_many)),
        both_runs G K 0 a (a + 1) x.0 one x.2 (of_one G K a bs near) (x.0 ++ one) refl (omega arith) (omega arith),
      )

  pub all_counted : (to n : ℕ) → (x : AreSoManyBelow G K to n) → ((a b : ℕ) → Contains x.0 (a, b) ↔ IsCandidate G K a b) → IsCandidateCount G K n
  all_counted to n x exact = record { pairs = x.0; ascending = x.2.ascending; exact = exact; count = x.1 }
