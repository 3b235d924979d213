-- Vectors of bytes, and tests of each byte.
use Rattle.std.proofs.Common.{◌≡◌, ℕ, suc, ◌+◌, ◌*◌, ◌%◌, ◌^◌, ◌<◌, ◌≤◌, Bool, true, false, not, cond, ◌||◌, eqb, leb, List, [], ◌∷◌, map, length, replicate, refl, sym, ap, subst, ◌∙◌, inl, inr, arith}
use Rattle.std.proofs.lemmas.Bool.{cases_Bool, cases_lt}
use Rattle.std.proofs.lemmas.List.{length-map}
use Rattle.std.proofs.lemmas.Simd.{zip2_of_maps, zip2_splat, map-map, mask_l-mod, length-chunk, trailing_mask_l, none_from_empty_mask, run_in_chunk_fails, run_in_chunk_stops}
use Rattle.std.specs.List.{prefix_len}
use lib.Bits.{bit_or}
use lib.Count.{count_trailing_zeros}
use lib.Lanes.{zip2, mask_l, top, chunk}
use Rattle.nt_lex.specs.Scans.{AllPassBetween, IsRunAt}

-- all ones where the test is passed
abbrev pub mark : Bool → ℕ
mark passes = cond passes 255 0

-- a comparison marks the bytes that are this one, or at most this one
pub marks_equal : (bytes : List ℕ) (n b : ℕ) → length bytes ≡ n → zip2 (λ x y. mark (eqb x y)) bytes (replicate n b) ≡ map (λ x. mark (eqb x b)) bytes
marks_equal bytes n b long = zip2_splat (λ x y. mark (eqb x y)) bytes n b long

pub marks_at_most : (bytes : List ℕ) (n b : ℕ) → length bytes ≡ n → zip2 (λ x y. mark (leb x y)) bytes (replicate n b) ≡ map (λ x. mark (leb x b)) bytes
marks_at_most bytes n b long = zip2_splat (λ x y. mark (leb x y)) bytes n b long

either_mark : (a b : Bool) → bit_or (mark a) (mark b) ≡ mark (a || b)
either_mark true true = refl
either_mark true false = refl
either_mark false true = refl
either_mark false false = refl

-- where the one or the other test is passed
pub marks_either : (p q : ℕ → Bool) (bytes : List ℕ) {a b : List ℕ} → a ≡ map (λ x. mark (p x)) bytes → b ≡ map (λ x. mark (q x)) bytes
    → zip2 bit_or a b ≡ map (λ x. mark (p x || q x)) bytes
marks_either p q bytes one other =
    zip2_of_maps bit_or (λ x. mark (p x)) (λ x. mark (q x)) bytes one other ∙ (λ i. map (λ x. either_mark (p x) (q x) i) bytes)

top_mark : (b : Bool) → top 7 (mark b) ≡ b
top_mark true = refl
top_mark false = refl

-- the bits of marks are the tests
pub bits_of_marks : (p : ℕ → Bool) (bytes : List ℕ) {a : List ℕ} → length bytes ≤ 64 → a ≡ map (λ x. mark (p x)) bytes
    → mask_l (map (top 7) a) % 2 ^ 64 ≡ mask_l (map p bytes)
bits_of_marks p bytes few is =
    ap (λ l. mask_l (map (top 7) l) % 2 ^ 64) is
    ∙ ap (λ l. mask_l l % 2 ^ 64) (map-map (top 7) (λ x. mark (p x)) bytes ∙ (λ i. map (λ x. top_mark (p x) i) bytes))
    ∙ mask_l-mod (map p bytes) 64 (omega (arith, length-map bytes p))

-- where a bit is set, not all bytes fail the test
some_passes : (p : ℕ → Bool) (bytes : List ℕ) → 0 < mask_l (map p bytes) → prefix_len (λ x. not (p x)) bytes < length bytes
some_passes p [] some = absurd (omega arith)
some_passes p (b ∷ bytes) some = elim (cases_Bool (p b)) [
  | inl passes ↦ subst (λ t. cond (not t) (1 + prefix_len (λ x. not (p x)) bytes) 0 < suc (length bytes)) (sym passes) (omega arith)
  | inr fails ↦
      let later : 0 < mask_l (map p bytes) = omega (arith, subst (λ t. 0 < cond t 1 0 + 2 * mask_l (map p bytes)) fails some) in
      subst (λ t. cond (not t) (1 + prefix_len (λ x. not (p x)) bytes) 0 < suc (length bytes)) (sym fails) (omega (arith, some_passes p bytes later))
]

-- no bit is set: the run goes on past these bytes
pub run_goes_on : (p : ℕ → Bool) (line : List ℕ) (at end n : ℕ) → end + n ≤ length line → AllPassBetween (λ c. not (p c)) line at end
    → mask_l (map p (chunk end n line)) ≡ 0 → AllPassBetween (λ c. not (p c)) line at (end + n)
run_goes_on p line at end n inside before none k from below = elim (cases_lt k end) [
  | inl early ↦ before k from early
  | inr late ↦ ap not (none_from_empty_mask p line end n 0 inside none k late below)
]

-- a bit is set: the lowest tells where the run ends
pub run_ends_in : (p : ℕ → Bool) (line : List ℕ) (at end n : ℕ) → at ≤ end → end + n ≤ length line → n ≤ 64 → AllPassBetween (λ c. not (p c)) line at end
    → 0 < mask_l (map p (chunk end n line)) → IsRunAt (λ c. not (p c)) line at (end + count_trailing_zeros 64 (mask_l (map p (chunk end n line))))
run_ends_in p line at end n ordered inside few before some =
    let bytes = chunk end n line in
    let long = length-chunk end n line inside in
    let first = count_trailing_zeros 64 (mask_l (map p bytes)) in
    let counted : first ≡ prefix_len (λ x. not (p x)) bytes = trailing_mask_l p 64 bytes (omega arith) some in
    let short : first < n = omega (arith, some_passes p bytes some) in
    record {
      ordered = omega arith;
      in_range = omega arith;
      pass = λ k from below. elim (cases_lt k end) [
        | inl early ↦ before k from early
        | inr late ↦ ap not (run_in_chunk_fails p line end n first 0 inside counted k late below)
      ];
      stops = λ _. ap not (run_in_chunk_stops p line end n first 0 inside counted short);
    }

-- a run that goes on from a place that an earlier part of it reached
pub run_from : (t : ℕ → Bool) (line : List ℕ) (at middle end : ℕ) → at ≤ middle → AllPassBetween t line at middle → IsRunAt t line middle end → IsRunAt t line at end
run_from t line at middle end ordered before run = record {
  ordered = omega (arith, run.ordered);
  in_range = run.in_range;
  pass = λ k from below. elim (cases_lt k middle) [ inl early ↦ before k from early | inr late ↦ run.pass k late below ];
  stops = run.stops;
}
