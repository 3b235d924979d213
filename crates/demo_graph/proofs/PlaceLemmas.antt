-- Counting places from the first on, and what a label's first and last place tell of the others.
use Rattle.std.proofs.Common.{◌≡◌, ◌≢◌, ℕ, ◌<◌, ◌≤◌, ◌+◌, List, [], ◌∷◌, ◌++◌, length, get_or, refl, sym, subst, arith, inl, inr}
use Rattle.std.specs.Prelude.{Contains, AllPairs, ◌↔◌}
use Rattle.std.proofs.lemmas.Bool.{cases_eq}
use Rattle.std.proofs.lemmas.List.{length_push}
use Rattle.std.proofs.lemmas.List.Elements.{Contains-push, Contains-push_cases, Contains-append_left, Contains-get_or}
use Rattle.std.proofs.lemmas.List.Quantifiers.{all_pairs_push}
use Rattle.demo_graph.specs.Counts.{IsPlaceCount, SharesItsLabel, LeadsItsClass}
use Rattle.demo_graph.specs.Spans.{IsSpan}
use Rattle.demo_graph.specs.declared.class_counts.Span.{Span}

-- n is the number of places below a bound of which something holds
pub record IsCountTo (Holds : ℕ → Type 0) (bound n : ℕ) : Type 0 where
  pub listed : List ℕ
  pub ascending : AllPairs (λ i j. i < j) listed
  pub exact : (i : ℕ) → Contains listed i ↔ ((i < bound) × Holds i)
  pub count : length listed ≡ n

pub none_yet : (Holds : ℕ → Type 0) → IsCountTo Holds 0 0
none_yet Holds = record {
  listed = [];
  ascending = λ i j d lower within. absurd (omega arith);
  exact = λ i. ((λ h. let within = h.1 in absurd (omega arith)), (λ h. let below = h.0 in absurd (omega arith)));
  count = refl;
}

-- it holds of the place at the bound
pub counts_this : (Holds : ℕ → Type 0) (k n : ℕ) → IsCountTo Holds k n → Holds k → IsCountTo Holds (k + 1) (n + 1)
counts_this Holds k n c holds = record {
  listed = c.listed ++ k ∷ [];
  ascending = all_pairs_push (λ i j. i < j) c.listed k c.ascending (λ m d within. ((c.exact (get_or c.listed m d)).0 (Contains-get_or c.listed m d within)).0);
  exact = λ i. (
    (λ h. elim (Contains-push_cases c.listed k i h) [
      | inl before ↦ (let e = (c.exact i).0 before in (further i e.0, e.1))
      | inr same ↦ (let below : i < k + 1 = omega arith in (below, subst Holds same holds))
    ]),
    (λ h. elim (cases_eq i k) [
      | inl same ↦ subst (Contains (c.listed ++ k ∷ [])) (sym same) (Contains-push c.listed k)
      | inr differs ↦ Contains-append_left c.listed (k ∷ []) i ((c.exact i).1 (nearer i h.0 differs, h.1))
    ]),
  );
  count = (let e = length_push c.listed k in let m = c.count in omega arith);
}
  where
    further : (i : ℕ) → i < k → i < k + 1
    further i h = omega arith

    nearer : (i : ℕ) → i < k + 1 → i ≢ k → i < k
    nearer i h differs = omega arith

-- it does not hold of the place at the bound
pub leaves_out_this : (Holds : ℕ → Type 0) (k n : ℕ) → IsCountTo Holds k n → ¬ (Holds k) → IsCountTo Holds (k + 1) n
leaves_out_this Holds k n c fails = record {
  listed = c.listed;
  ascending = c.ascending;
  exact = λ i. (
    (λ h. let e = (c.exact i).0 h in (further i e.0, e.1)),
    (λ h. (c.exact i).1 (nearer i h.0 (λ same. fails (subst Holds same h.1)), h.1)),
  );
  count = c.count;
}
  where
    further : (i : ℕ) → i < k → i < k + 1
    further i h = omega arith

    nearer : (i : ℕ) → i < k + 1 → i ≢ k → i < k
    nearer i h differs = omega arith

-- where it holds of no place from the bound on, all are counted
pub all_counted : (Holds : ℕ → Type 0) (k n : ℕ) → IsCountTo Holds k n → ((i : ℕ) → Holds i → i < k) → IsPlaceCount Holds n
all_counted Holds k n c within = record {
  listed = c.listed;
  ascending = c.ascending;
  exact = λ i. ((λ h. ((c.exact i).0 h).1), (λ h. (c.exact i).1 (within i h, h)));
  count = c.count;
}

-- ---- what a label's first and last place tell

-- a place of a label that has two
pub shares : (labels : List ℕ) (place : ℕ) (span : Span) → place < length labels → IsSpan labels (length labels) (get_or labels place 0) span
    → span.first < span.last → SharesItsLabel labels place
shares labels place span within noted wide = elim (cases_eq place span.first) [
  | inl same ↦ (span.last, (λ e. absurd (omega (arith, same, e, wide))), (within, noted.in_bound.1, sym noted.at_last))
  | inr differs ↦ (span.first, (λ e. differs (sym e)), (within, omega (arith, noted.in_bound.1, wide), sym noted.at_first))
]

-- a place of a label that has no other
pub shares_none : (labels : List ℕ) (place : ℕ) (span : Span) → place < length labels → IsSpan labels (length labels) (get_or labels place 0) span
    → span.last ≤ span.first → ¬ (SharesItsLabel labels place)
shares_none labels place span within noted narrow h =
    let here = noted.none_outside place within refl in
    let there = noted.none_outside h.0 h.2.1 (sym h.2.2) in
    h.1 (omega (arith, here.0, here.1, there.0, there.1, narrow))

-- the first place of a label that has two
pub leads : (labels : List ℕ) (place : ℕ) (span : Span) → place < length labels → IsSpan labels (length labels) (get_or labels place 0) span
    → span.first < span.last → span.first ≡ place → LeadsItsClass labels place
leads labels place span within noted wide first = record {
  later = (span.last, omega (arith, wide, first), (within, noted.in_bound.1, sym noted.at_last));
  no_earlier = λ j before one. let there = noted.none_outside j one.1 (sym one.2) in absurd (omega (arith, there.0, before, first));
}

-- another place of a label
pub leads_none : (labels : List ℕ) (place : ℕ) (span : Span) → place < length labels → IsSpan labels (length labels) (get_or labels place 0) span
    → span.first ≢ place → ¬ (LeadsItsClass labels place)
leads_none labels place span within noted differs h =
    let here = noted.none_outside place within refl in
    h.no_earlier span.first (omega (arith, here.0, differs))
    (within, omega (arith, noted.in_bound.0, noted.in_bound.1), sym noted.at_first)

-- who leads a class is a member of it
pub leader_shares : (labels : List ℕ) (place : ℕ) → LeadsItsClass labels place → SharesItsLabel labels place
leader_shares labels place h = (h.later.0, (λ e. absurd (omega (arith, h.later.1, e))), h.later.2)
