-- One number more, one literal more, one key more.
use Rattle.std.proofs.Common.{List, [], ◌∷◌, ◌++◌, ℕ, Bool, Some, Contains, get_or, slice_get, take, length, ◌≡◌, ◌<◌, ◌+◌, inl, inr, sym, ◌∙◌, ap, subst, arith}
use Rattle.std.specs.Prelude.{⊤}
use Rattle.std.proofs.lemmas.Bool.{cases_eq}
use Rattle.std.proofs.lemmas.Option.{slice_get_within}
use Rattle.std.proofs.lemmas.List.Elements.{Contains-append_left, Contains-push, Contains-push_cases}
use Rattle.chase_laws.specs.Shape.{Shape}
use Rattle.chase_laws.specs.Graph.{NumberedGraph, IsLiteral}
use Rattle.chase_laws.specs.Candidate.{IsCandidate, IsCandidateUnder}
use Rattle.pair_seed.specs.Folds.{Holds}
use Rattle.pair_seed.specs.Gathered.{Gathered, HoldsOneOf, Found}
use Rattle.pair_seed.proofs.Lists.{some_same, contains_more}

module _ (G : NumberedGraph) (Q : Shape) (a : ℕ) (old : List ℕ) where
  -- a number that goes with a
  pub gathered_push : (bs new new' : List ℕ) (i : ℕ) → i < length bs → Gathered G Q a old new (λ b. Contains (take i bs) b) → a < get_or bs i 0 → IsCandidateUnder G Q a (get_or bs i 0) → new' ≡ new ++ get_or bs i 0 ∷ [] → Gathered G Q a old new' (λ b. Contains (take (i + 1) bs) b)
  gathered_push bs new new' i h g above paired e = rw e (record {
    keeps = λ b c. Contains-append_left new (get_or bs i 0 ∷ []) b (g.keeps b c);
    adds = λ b c below with_b. elim (contains_more bs i b h c) [
      | inl c' ↦ Contains-append_left new (get_or bs i 0 ∷ []) b (g.adds b c' below with_b)
      | inr same ↦ subst (Contains (new ++ get_or bs i 0 ∷ [])) same (Contains-push new (get_or bs i 0))
    ];
    only = λ b c. elim (Contains-push_cases new (get_or bs i 0) b c) [
      | inl c' ↦ g.only b c'
      | inr same ↦ inr (subst (λ x. (a < x) × IsCandidateUnder G Q a x) same (above, paired))
    ];
  })

  -- a number that does not
  pub gathered_skip : (bs new : List ℕ) (i : ℕ) → i < length bs → Gathered G Q a old new (λ b. Contains (take i bs) b) → (IsCandidateUnder G Q a (get_or bs i 0) → ⊥) → Gathered G Q a old new (λ b. Contains (take (i + 1) bs) b)
  gathered_skip bs new i h g none = record {
    keeps = g.keeps;
    adds = λ b c below with_b. elim (contains_more bs i b h c) [
      | inl c' ↦ g.adds b c' below with_b
      | inr same ↦ absurd (none (subst (IsCandidateUnder G Q a) (sym same) with_b))
    ];
    only = g.only;
  }

  -- a literal
  pub gathered_literal : (f : Bool) (p : ℕ) (ls mid new : List ℕ) (i : ℕ) → i < length ls → Gathered G Q a old mid (HoldsOneOf G f p (take i ls)) →
      Gathered G Q a mid new (λ b. IsLiteral G (get_or ls i 0) × Holds G f b p (get_or ls i 0)) → Gathered G Q a old new (HoldsOneOf G f p (take (i + 1) ls))
  gathered_literal f p ls mid new i h g x = record {
    keeps = λ b c. x.keeps b (g.keeps b c);
    adds = λ b one below with_b. elim (contains_more ls i one.0 h one.1) [
      | inl c' ↦ x.keeps b (g.adds b (one.0, c', one.2, one.3) below with_b)
      | inr same ↦ x.adds b (subst (λ l. IsLiteral G l × Holds G f b p l) (sym same) (one.2, one.3)) below with_b
    ];
    only = λ b c. elim (x.only b c) [
      | inl c' ↦ g.only b c'
      | inr both ↦ inr both
    ];
  }

  -- the same numbers by another mark
  pub gathered_by : (new : List ℕ) (M N : ℕ → Type 0) → Gathered G Q a old new M → ((b : ℕ) → N b → a < b → IsCandidateUnder G Q a b → M b) → Gathered G Q a old new N
  gathered_by new M N g turn = record {
    keeps = g.keeps;
    adds = λ b mark below with_b. g.adds b (turn b mark below with_b) below with_b;
    only = g.only;
  }

  -- no number is added where none has the mark and goes with a
  pub gathered_none : (M : ℕ → Type 0) → ((b : ℕ) → M b → IsCandidateUnder G Q a b → ⊥) → Gathered G Q a old old M
  gathered_none M none = record {
    keeps = λ b c. c;
    adds = λ b mark below with_b. absurd (none b mark with_b);
    only = λ b c. inl c;
  }

pub found_candidate : (G : NumberedGraph) (K : List Shape) (a b : ℕ) (new : List ℕ) → Found G K a (length K) new → IsCandidate G K a b → Contains new b
found_candidate G K a b new f x = f.adds x.key b x.pattern (slice_get_within K x.key x.pattern x.found) x.found x.below x.under

-- one key more
pub found_more : (G : NumberedGraph) (K : List Shape) (a n : ℕ) (mid new : List ℕ) (R : Shape) → slice_get K n ≡ Some R → Found G K a n mid → Gathered G R a mid new (λ b. ⊤) → Found G K a (n + 1) new
found_more G K a n mid new R here f g = record {
  adds = λ key b Q below at ab with_b. elim (cases_eq key n) [
    | inl same ↦ g.adds b tt ab (subst (λ (S : Shape). IsCandidateUnder G S a b) (some_same Q R (sym at ∙ ap (slice_get K) same ∙ here)) with_b)
    | inr other ↦ g.keeps b (f.adds key b Q (omega arith) at ab with_b)
  ];
  only = λ b c. elim (g.only b c) [
    | inl c' ↦ f.only b c'
    | inr both ↦ record { below = both.0; key = n; pattern = R; found = here; under = both.1 }
  ];
}
