-- Blocks of a table, and the part of one that has a middle number.
use Rattle.std.proofs.Common.{List, ℕ, ◌≡◌, ◌<◌, ◌≤◌, ◌+◌, ◌-◌, ◌↔◌, Contains, length, get_or, take, drop, slice_index, inl, inr, sym, ◌∙◌, ap, subst, arith}
use Rattle.std.proofs.lemmas.Bool.{cases_lt}
use Rattle.std.proofs.lemmas.List.{get_or-take, get_or-drop, length-take-le, length-drop, get_or_default}
use Rattle.std.specs.List.Sorted.{IsStrictlyIncreasing, IsNonDecreasing}
use Rattle.typed_graph.specs.Table.{Table, TableHas}
use Rattle.typed_graph.specs.Blocks.{IsTable}

pub part_at : (xs : List ℕ) (from count k d : ℕ) → k < count → get_or (take count (drop from xs)) k d ≡ get_or xs (from + k) d
part_at xs from count k d h = get_or-take count (drop from xs) k d h ∙ get_or-drop from xs k d

pub part_length : (xs : List ℕ) (from count : ℕ) → from + count ≤ length xs → length (take count (drop from xs)) ≡ count
part_length xs from count h = length-take-le count (drop from xs) (omega (arith, length-drop from xs))

-- the numbers from the first one above x
pub above_exact : (xs : List ℕ) (x from : ℕ) → from ≤ length xs → ((k : ℕ) → k < from → slice_index xs k ≤ x) →
    ((k : ℕ) → from ≤ k → k < length xs → x < slice_index xs k) → (y : ℕ) →
    Contains (take (length xs - from) (drop from xs)) y ↔ (Contains xs y × (x < y))
above_exact xs x from within below above y =
    let count = length xs - from in
    let long : length (take count (drop from xs)) ≡ count = part_length xs from count (omega arith) in (
      (λ h.
          let k = h.0 in
          let in_k : k < count = omega (arith, h.1) in
          let at : get_or xs (from + k) y ≡ y = sym (part_at xs from count k y in_k) ∙ h.2 in
          let at0 : get_or xs (from + k) 0 ≡ y = get_or_default xs (from + k) 0 y (omega arith) ∙ at in
          let high = above (from + k) (omega arith) (omega arith) in
          ((from + k, omega arith, at), omega arith)),
      (λ h.
          let k = h.0.0 in
          let in_xs = h.0.1 in
          let at0 : get_or xs k 0 ≡ y = get_or_default xs k 0 y in_xs ∙ h.0.2 in
          let le : from ≤ k = elim (cases_lt k from) [ inl lt ↦ absurd (let low = below k lt in let high = h.1 in omega arith) | inr le ↦ le ] in
          let here : from + (k - from) ≡ k = omega arith in
          let in_k : k - from < count = omega arith in
          (k - from, omega arith, part_at xs from count (k - from) y in_k ∙ ap (λ j. get_or xs j y) here ∙ h.0.2)),
    )

pub block_rises : (T : Table) (n : ℕ) → IsTable T → n + 1 < length T.starts →
    IsNonDecreasing (take (slice_index T.starts (n + 1) - slice_index T.starts n) (drop (slice_index T.starts n) T.middles))
block_rises T n ok named =
    let from = slice_index T.starts n in
    let to = slice_index T.starts (n + 1) in
    let h0 = ok.within (n + 1) named in
    let h1 = ok.rise n named in
    let long : length (take (to - from) (drop from T.middles)) ≡ to - from = part_length T.middles from (to - from) (omega arith) in
    λ i j d i_j in_j. rw (get_or_default (take (to - from) (drop from T.middles)) i d 0 (omega arith), get_or_default (take (to - from) (drop from T.middles)) j d 0 (omega arith), part_at T.middles from (to - from) i 0 (omega arith), part_at T.middles from (to - from) j 0 (omega arith))
    (ok.middles n (from + i) (from + j) named (omega arith) (omega arith) (omega arith))

-- low and high bound the places of p in the block of n
pub record Bounds (T : Table) (n p low high : ℕ) : Type 0 where
  pub within_low : low ≤ slice_index T.starts (n + 1) - slice_index T.starts n
  pub within_high : high ≤ slice_index T.starts (n + 1) - slice_index T.starts n
  pub below_low : (k : ℕ) → k < low → slice_index T.middles (slice_index T.starts n + k) < p
  pub above_low : (k : ℕ) → low ≤ k → k < slice_index T.starts (n + 1) - slice_index T.starts n → p ≤ slice_index T.middles (slice_index T.starts n + k)
  pub below_high : (k : ℕ) → k < high → slice_index T.middles (slice_index T.starts n + k) ≤ p
  pub above_high : (k : ℕ) → high ≤ k → k < slice_index T.starts (n + 1) - slice_index T.starts n → p < slice_index T.middles (slice_index T.starts n + k)

pub bounds : (T : Table) (n p low high : ℕ) → IsTable T → n + 1 < length T.starts → (block : List ℕ) →
    block ≡ take (slice_index T.starts (n + 1) - slice_index T.starts n) (drop (slice_index T.starts n) T.middles) →
    low ≤ length block → ((k : ℕ) → k < low → slice_index block k < p) → ((k : ℕ) → low ≤ k → k < length block → p ≤ slice_index block k) →
    high ≤ length block → ((k : ℕ) → k < high → slice_index block k ≤ p) → ((k : ℕ) → high ≤ k → k < length block → p < slice_index block k) →
    Bounds T n p low high
bounds T n p low high ok named block is l0 l1 l2 h0 h1 h2 =
    let from = slice_index T.starts n in
    let to = slice_index T.starts (n + 1) in
    let w0 = ok.within (n + 1) named in
    let w1 = ok.rise n named in
    let long : length block ≡ to - from = ap length is ∙ part_length T.middles from (to - from) (omega arith) in
    let at = λ (k : ℕ) (h : k < to - from). ap (λ (xs : List ℕ). slice_index xs k) is ∙ part_at T.middles from (to - from) k 0 h in
    record {
      within_low = omega arith;
      within_high = omega arith;
      below_low = λ k h. rw (← at k (omega arith)) (l1 k h);
      above_low = λ k h h'. rw (← at k h') (l2 k h (omega arith));
      below_high = λ k h. rw (← at k (omega arith)) (h1 k h);
      above_high = λ k h h'. rw (← at k h') (h2 k h (omega arith));
    }

pub low_high : (T : Table) (n p low high : ℕ) → Bounds T n p low high → low ≤ high
low_high T n p low high b = elim (cases_lt high low) [
  | inl lt ↦ (let x = b.above_high high (omega arith) (omega (arith, b.within_low)) in let y = b.below_low high lt in omega arith)
  | inr le ↦ le
]

-- the part from low up to high
abbrev pub part : Table → ℕ → ℕ → ℕ → List ℕ
part T from low high = take ((from + high) - (from + low)) (drop (from + low) T.lasts)

pub part_exact : (T : Table) (n p low high : ℕ) → IsTable T → n + 1 < length T.starts → Bounds T n p low high → (c : ℕ) →
    Contains (part T (slice_index T.starts n) low high) c ↔ TableHas T n p c
part_exact T n p low high ok named b c =
    let from = slice_index T.starts n in
    let to = slice_index T.starts (n + 1) in
    let w0 = ok.within (n + 1) named in
    let w1 = ok.rise n named in
    let w2 = low_high T n p low high b in
    let count = (from + high) - (from + low) in
    let long : length (part T from low high) ≡ count = part_length T.lasts (from + low) count (omega (arith, b.within_high, ok.as_long)) in (
      (λ x.
          let k = x.0 in
          let in_k : k < count = omega (arith, x.1) in
          let e : get_or (part T from low high) k c ≡ get_or T.lasts (from + low + k) c = part_at T.lasts (from + low) count k c in_k in
          let m0 = b.above_low (low + k) (omega arith) (omega (arith, b.within_high)) in
          let m1 = b.below_high (low + k) (omega arith) in
          let same : from + (low + k) ≡ from + low + k = omega arith in
          let m : slice_index T.middles (from + (low + k)) ≡ p = omega arith in
          record {
            place = from + low + k;
            named = named;
            from = omega arith;
            to = omega (arith, b.within_high);
            middle = subst (λ i. slice_index T.middles i ≡ p) same m;
            last = get_or_default T.lasts (from + low + k) 0 c (omega (arith, ok.as_long, b.within_high)) ∙ sym e ∙ x.2;
          }),
      (λ s.
          let i = s.place - from in
          let here : from + i ≡ s.place = let h = s.from in omega arith in
          let in_i : i < to - from = let h = s.from in let h' = s.to in omega arith in
          let m : slice_index T.middles (from + i) ≡ p = ap (slice_index T.middles) here ∙ s.middle in
          let le : low ≤ i = elim (cases_lt i low) [ inl lt ↦ absurd (let y = b.below_low i lt in omega arith) | inr h ↦ h ] in
          let lt : i < high = elim (cases_lt i high) [ inl h ↦ h | inr h ↦ absurd (let y = b.above_high i h in_i in omega arith) ] in
          let k = i - low in
          let e : get_or (part T from low high) k c ≡ get_or T.lasts (from + low + k) c = part_at T.lasts (from + low) count k c (omega arith) in
          let same : from + low + k ≡ s.place = omega arith in
          (k, omega arith, e ∙ ap (λ j. get_or T.lasts j c) same ∙ get_or_default T.lasts s.place c 0 (omega (arith, ok.as_long, s.to)) ∙ s.last)),
    )

pub part_rises : (T : Table) (n p low high : ℕ) → IsTable T → n + 1 < length T.starts → Bounds T n p low high →
    IsStrictlyIncreasing (part T (slice_index T.starts n) low high)
part_rises T n p low high ok named b = λ k h.
    let from = slice_index T.starts n in
    let w0 = ok.within (n + 1) named in
    let w1 = ok.rise n named in
    let w2 = low_high T n p low high b in
    let count = (from + high) - (from + low) in
    let long : length (part T from low high) ≡ count = part_length T.lasts (from + low) count (omega (arith, b.within_high, ok.as_long)) in
    let e0 : get_or (part T from low high) k 0 ≡ get_or T.lasts (from + low + k) 0 = part_at T.lasts (from + low) count k 0 (omega arith) in
    let e1 : get_or (part T from low high) (k + 1) 0 ≡ get_or T.lasts (from + low + (k + 1)) 0 = part_at T.lasts (from + low) count (k + 1) 0 (omega arith) in
    let m = λ (j : ℕ) (h' : j < count).
    let a = b.above_low (low + j) (omega arith) (omega (arith, b.within_high)) in
    let z = b.below_high (low + j) (omega arith) in
    let q : slice_index T.middles (from + (low + j)) ≡ p = omega arith in
    let same : from + (low + j) ≡ from + low + j = omega arith in
    subst (λ i. slice_index T.middles i ≡ p) same q in
    let r = ok.lasts n (from + low + k) (from + low + (k + 1)) named (omega arith) (omega arith) (omega (arith, b.within_high)) (m k (omega arith) ∙ sym (m (k + 1) (omega arith))) in
    omega arith
