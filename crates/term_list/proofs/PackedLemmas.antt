-- Packed terms stay as bytes and spans are added behind them.
use Rattle.std.proofs.Common.{◌≡◌, ◌⊎◌, ℕ, zero, suc, ◌+◌, ◌-◌, ◌≤◌, ◌<◌, inl, inr, List, [], ◌∷◌, ◌++◌, length, take, drop, slice_get, slice_index_or, slice_range, Some, option_map, Result, Ok, Err, OnOk, OnErr, map, refl, sym, ap, ap₂, subst, ◌∙◌, arith}
use Rattle.std.proofs.Math.Seq.{drop-append-add}
use Rattle.std.proofs.lemmas.List.{map-append, take-append-le, length-append, length-map}
use Rattle.std.proofs.lemmas.Option.{slice_get_read, slice_get-map}
use Rattle.std.proofs.lemmas.Slice.{between_is}
use Rattle.gk_base.specs.declared.term.Term.{Term}
use Rattle.term_list.specs.declared.span.Span.{Span}
use Rattle.term_list.specs.Parts.{made_of}
use Rattle.term_list.specs.Packed.{term_in, terms_in, moved_by, IsWithin, AreWithin, HasGrown}

-- an element of a list with one put last is an older one or that one
module _ {X : Type 0} where
  pub slice_get-of_push : (xs : List X) (y : X) (i : ℕ) (x : X)
      → slice_get (xs ++ y ∷ []) i ≡ Some x → (slice_get xs i ≡ Some x) ⊎ ((i ≡ length xs) × (y ≡ x))
  slice_get-of_push [] y zero x h = inr (refl, cc)
  slice_get-of_push [] y (suc i) x h = absurd cc
  slice_get-of_push (z ∷ xs) y zero x h = inl h
  slice_get-of_push (z ∷ xs) y (suc i) x h =
      elim (slice_get-of_push xs y i x h) [ inl old ↦ inl old | inr new ↦ inr (ap suc new.0, new.1) ]

  -- an element of a front of a list is one of the list
  pub slice_get-of_take : (n : ℕ) (xs : List X) (i : ℕ) (x : X) → slice_get (take n xs) i ≡ Some x → slice_get xs i ≡ Some x
  slice_get-of_take zero xs i x h = absurd cc
  slice_get-of_take (suc n) [] i x h = absurd cc
  slice_get-of_take (suc n) (z ∷ xs) zero x h = h
  slice_get-of_take (suc n) (z ∷ xs) (suc i) x h = slice_get-of_take n xs i x h

-- a part of a list is the same part of a longer one
part_stays : (bytes more : List ℕ) (from to : ℕ) → to ≤ length bytes → slice_range (bytes ++ more) from to ≡ slice_range bytes from to
part_stays bytes more from to le =
    between_is (bytes ++ more) from to ∙ ap (drop from) (take-append-le to bytes more le) ∙ sym (between_is bytes from to)

pub term_stays : (bytes more : List ℕ) (span : Span) → IsWithin (length bytes) span → term_in (bytes ++ more) span ≡ term_in bytes span
term_stays bytes more span h =
    let first = part_stays bytes more span.start span.middle (omega (arith, h.second, h.inside)) in
    let second = part_stays bytes more span.middle span.end h.inside in
    ap (λ text. made_of span.kind text (slice_range (bytes ++ more) span.middle span.end)) first
    ∙ ap (made_of span.kind (slice_range bytes span.start span.middle)) second

pub terms_stay : (bytes more : List ℕ) (spans : List Span) → AreWithin (length bytes) spans → terms_in (bytes ++ more) spans ≡ terms_in bytes spans
terms_stay bytes more [] h = refl
terms_stay bytes more (span ∷ spans) h =
    let here = term_stays bytes more span (h zero span refl) in
    let rest = terms_stay bytes more spans (λ i other at. h (suc i) other at) in
    cc

IsWithin-more : (size more : ℕ) (span : Span) → size ≤ more → IsWithin size span → IsWithin more span
IsWithin-more size more span le h = record { first = h.first; second = h.second; inside = omega (arith, le, h.inside); one = h.one }

pub AreWithin-more : (size more : ℕ) (spans : List Span) → size ≤ more → AreWithin size spans → AreWithin more spans
AreWithin-more size more spans le h = λ i span at. IsWithin-more size more span le (h i span at)

pub AreWithin-pushed : (size : ℕ) (spans : List Span) (span : Span) → AreWithin size spans → IsWithin size span → AreWithin size (spans ++ span ∷ [])
AreWithin-pushed size spans span h here = λ i other at.
    elim (slice_get-of_push spans span i other at) [
      | inl old ↦ h i other old
      | inr new ↦ subst (IsWithin size) new.1 here
    ]

pub AreWithin-front : (size n : ℕ) (spans : List Span) → AreWithin size spans → AreWithin size (take n spans)
AreWithin-front size n spans h = λ i span at. h i span (slice_get-of_take n spans i span at)

-- bytes that have grown are no fewer
pub grown_longer : (old new : List ℕ) → HasGrown old new → length old ≤ length new
grown_longer old new g = let e = ap length g.longer ∙ length-append old g.more in omega (arith, e)

-- the spans are within bytes that have grown, and have the same terms there
pub AreWithin-grown : (old new : List ℕ) (spans : List Span) → HasGrown old new → AreWithin (length old) spans → AreWithin (length new) spans
AreWithin-grown old new spans g h = AreWithin-more (length old) (length new) spans (grown_longer old new g) h

pub terms_in-grown : (old new : List ℕ) (spans : List Span) → HasGrown old new → AreWithin (length old) spans → terms_in new spans ≡ terms_in old spans
terms_in-grown old new spans g h = ap (λ bytes. terms_in bytes spans) g.longer ∙ terms_stay old g.more spans h

-- one span more is one term more
pub terms_in-pushed : (bytes : List ℕ) (spans : List Span) (span : Span) → terms_in bytes (spans ++ span ∷ []) ≡ terms_in bytes spans ++ term_in bytes span ∷ []
terms_in-pushed bytes spans span = map-append (term_in bytes) spans (span ∷ [])

-- what was read at a place of a list is the element there
module _ (bytes : List ℕ) (spans : List Span) (terms : List Term) (at : ℕ) (span : Span) (view : terms_in bytes spans ≡ terms) (within : at < length terms) (read : span ≡ slice_index_or spans at span) where
  span_at : slice_get spans at ≡ Some span
  span_at = slice_get_read spans (length terms) at span (sym (ap length view) ∙ length-map spans (term_in bytes)) within read

  pub within_at : AreWithin (length bytes) spans → IsWithin (length bytes) span
  within_at h = h at span span_at

  pub term_at : (first second : List ℕ) → first ≡ slice_range bytes span.start span.middle → second ≡ slice_range bytes span.middle span.end
      → slice_get terms at ≡ Some (made_of span.kind first second)
  term_at first second a b =
      ap (λ l. slice_get l at) (sym view) ∙ slice_get-map (term_in bytes) spans at ∙ ap (option_map (term_in bytes)) span_at
      ∙ ap (λ text. Some (made_of span.kind text (slice_range bytes span.middle span.end))) (sym a)
      ∙ ap (λ text. Some (made_of span.kind first text)) (sym b)

-- a part that ends where it begins is empty
pub part_none : (bytes : List ℕ) (from to : ℕ) → from ≡ to → slice_range bytes from to ≡ []
part_none bytes from to e = let none : to - from ≡ 0 = omega (arith, e) in ap (λ n. take n (drop from bytes)) none

-- a part of a list is the same part, further on, of what has the list at its end
part_moved : (front bytes : List ℕ) (from to : ℕ) → slice_range (front ++ bytes) (from + length front) (to + length front) ≡ slice_range bytes from to
part_moved front bytes from to =
    let count : (to + length front) - (from + length front) ≡ to - from = omega arith in
    let start : from + length front ≡ length front + from = omega arith in
    ap (λ n. take n (drop (from + length front) (front ++ bytes))) count ∙ ap (λ n. take (to - from) (drop n (front ++ bytes))) start
    ∙ ap (take (to - from)) (drop-append-add front bytes from)

term_moved : (front bytes : List ℕ) (span : Span) → term_in (front ++ bytes) (moved_by (length front) span) ≡ term_in bytes span
term_moved front bytes span =
    ap₂ (made_of span.kind) (part_moved front bytes span.start span.middle) (part_moved front bytes span.middle span.end)

terms_moved : (front bytes : List ℕ) (spans : List Span) → terms_in (front ++ bytes) (map (moved_by (length front)) spans) ≡ terms_in bytes spans
terms_moved front bytes [] = refl
terms_moved front bytes (span ∷ spans) = ap₂ (λ (t : Term) ts. t ∷ ts) (term_moved front bytes span) (terms_moved front bytes spans)

IsWithin-moved : (by size most : ℕ) (span : Span) → size + by ≤ most → IsWithin size span → IsWithin most (moved_by by span)
IsWithin-moved by size most span le h = record {
  first = omega (arith, h.first);
  second = omega (arith, h.second);
  inside = omega (arith, le, h.inside);
  one = λ e. ap (λ n. n + by) (h.one e);
}

AreWithin-moved : (by size most : ℕ) (spans : List Span) → size + by ≤ most → AreWithin size spans → AreWithin most (map (moved_by by) spans)
AreWithin-moved by size most [] le h i span at = absurd cc
AreWithin-moved by size most (s ∷ ss) le h zero span at =
    let e : moved_by by s ≡ span = cc in subst (IsWithin most) e (IsWithin-moved by size most s le (h zero s refl))
AreWithin-moved by size most (s ∷ ss) le h (suc i) span at = AreWithin-moved by size most ss le (λ j other there. h (suc j) other there) i span at

AreWithin-both : (size : ℕ) (spans more : List Span) → AreWithin size spans → AreWithin size more → AreWithin size (spans ++ more)
AreWithin-both size [] more h k i span at = k i span at
AreWithin-both size (s ∷ ss) more h k zero span at = h zero span at
AreWithin-both size (s ∷ ss) more h k (suc i) span at = AreWithin-both size ss more (λ j other there. h (suc j) other there) k i span at

-- the terms of another list, whose texts went behind those that were there
module _ (bytes more : List ℕ) (spans others : List Span) (h : AreWithin (length bytes) spans) where
  pub terms_in-appended : terms_in (bytes ++ more) (spans ++ map (moved_by (length bytes)) others) ≡ terms_in bytes spans ++ terms_in more others
  terms_in-appended =
      map-append (term_in (bytes ++ more)) spans (map (moved_by (length bytes)) others)
      ∙ ap₂ (λ (ts us : List Term). ts ++ us) (terms_stay bytes more spans h) (terms_moved bytes more others)

  whole : length bytes ≤ length (bytes ++ more)
  whole = omega (arith, length-append bytes more)

  -- they are in place whether their spans came, too, or not
  pub AreWithin-appended : {A E : Type 0} (answer : Result A E) (new : List Span) → AreWithin (length more) others
      → OnOk answer (new ≡ spans ++ map (moved_by (length bytes)) others) → OnErr answer (new ≡ spans) → AreWithin (length (bytes ++ more)) new
  AreWithin-appended (Ok x) new k grown same =
      subst (AreWithin (length (bytes ++ more))) (sym grown)
      (AreWithin-both (length (bytes ++ more)) spans (map (moved_by (length bytes)) others) (AreWithin-more (length bytes) (length (bytes ++ more)) spans whole h)
      (AreWithin-moved (length bytes) (length more) (length (bytes ++ more)) others (omega (arith, length-append bytes more)) k))
  AreWithin-appended (Err e) new k grown same =
      subst (AreWithin (length (bytes ++ more))) (sym same) (AreWithin-more (length bytes) (length (bytes ++ more)) spans whole h)

-- spans that lie within so many bytes leave room to be moved
pub room_to_move : (size room : ℕ) (spans : List Span) → size ≤ room → AreWithin size spans → (k : ℕ) (d : Span) → k < length spans → IsWithin room (slice_index_or spans k d)
room_to_move size room [] le h k d below = absurd (omega arith)
room_to_move size room (s ∷ ss) le h zero d below = IsWithin-more size room s le (h zero s refl)
room_to_move size room (s ∷ ss) le h (suc k) d below = room_to_move size room ss le (λ i other there. h (suc i) other there) k d (omega arith)
