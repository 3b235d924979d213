-- What is kept of the candidates.
use Rattle.std.proofs.Common.{List, ℕ, Some, Contains, get_or, slice_get, length, ◌≡◌, ◌<◌, ◌≤◌, sym, subst, arith}
use Rattle.std.specs.List.{AllZip}
use Rattle.std.proofs.lemmas.Slice.Zip.{AllZip-left}
use Rattle.std.proofs.lemmas.List.Elements.{All-contains, Contains-get_or}
use Rattle.chase_laws.specs.Candidate.{AreAscending}
use Rattle.paired_search.specs.declared.key_range.KeyRange.{KeyRange}
use Rattle.pair_filter.specs.Keys.{AreKeysOf}
use Rattle.match_run.proofs.preparing.kept_candidates.Goals as goal

-- what holds of two lists place by place
zipped_at : {A B : Type 0} (R : A → B → Type 0) (xs : List A) (ys : List B) → AllZip R xs ys → (p : ℕ) (x : A) (y : B) → slice_get xs p ≡ Some x → slice_get ys p ≡ Some y → R x y
zipped_at R xs ys each p x y at there =
    let left = rw at at (AllZip-left R xs ys each p) in
    let both = rw there at left in
    both

pub returns-clause-kept : goal.returns-clause-kept
returns-clause-kept g c =
    let G = c.args.graph.now in
    let K = c.args.patterns.now in
    let cs = c.in_ok-candidates.candidates.items in
    let ps = c.in_ok-kept.kept.pairs.items in
    let found = c.in_ok-candidates.ensures in
    let kept = c.in_ok-kept.ensures in
    let value = c.deref.ensures.value in
    let here = λ (a b : ℕ) (h : Contains ps (a, b)). subst (λ (xs : List (ℕ × ℕ)). Contains xs (a, b)) value ((kept.exact a b).0 h).0 in
    let there = λ (a b : ℕ) (h : Contains cs (a, b)). subst (λ (xs : List (ℕ × ℕ)). Contains xs (a, b)) (sym value) h in
    record {
      exact = λ a b. (
        (λ h. ((found.pairs a b).0 (here a b h), ((kept.exact a b).0 h).1)),
        (λ h. (kept.exact a b).1 (there a b ((found.pairs a b).1 h.0), h.1)),
      );
      few =
          let fewer : length ps ≤ length cs = subst (λ (xs : List (ℕ × ℕ)). length ps ≤ length xs) value kept.few in
          omega (arith, found.few, c.requires);
      ascend = kept.ascending (subst AreAscending (sym value) found.ascending);
      named = λ k d lt.
          let x : ℕ × ℕ = get_or ps k d in
          All-contains (λ (y : ℕ × ℕ). (y.0 < y.1) × (y.1 < length G.literal)) cs x found.named (here x.0 x.1 (Contains-get_or ps k d lt));
      able = λ a b able. kept.able a b able (there a b (found.able a b able));
      ranges_fit = λ p pair range at then.
          let keys = zipped_at (λ (x : ℕ × ℕ) (r : KeyRange). AreKeysOf G K r x.0 x.1) ps c.in_ok-kept.kept.keys.items kept.keys p pair range at then in
          keys.idle;
      count = record { pairs = cs; ascending = found.ascending; exact = found.pairs; count = omega (arith, c.len-seeded.ensures, c.in_ok-candidates.candidates.ok.0) };
    }
