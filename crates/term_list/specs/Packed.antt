-- Terms that are packed: their texts one after another in one list of bytes, and where each of them stands (this project's own).
use Rattle.std.specs.Prelude.{◌≡◌, ℕ, ◌+◌, ◌≤◌, false, List, ◌++◌, map, slice_get, slice_range, Some}
use Rattle.gk_base.specs.declared.term.Term.{Term}
use Rattle.term_list.specs.declared.span.Span.{Span}
use Rattle.term_list.specs.Parts.{has_two, made_of}

-- the term whose texts stand in the bytes where the span says
abbrev pub term_in : List ℕ → Span → Term
term_in bytes span = made_of span.kind (slice_range bytes span.start span.middle) (slice_range bytes span.middle span.end)

-- the terms of these spans
abbrev pub terms_in : List ℕ → List Span → List Term
terms_in bytes spans = map (term_in bytes) spans

-- the span of texts that stand so many bytes further on
abbrev pub moved_by : ℕ → Span → Span
moved_by by span = record { kind = span.kind; start = span.start + by; middle = span.middle + by; end = span.end + by }

-- the span lies within so many bytes, and its second text is empty where terms of its kind have one text
pub record IsWithin (size : ℕ) (span : Span) : Type 0 where
  pub first : span.start ≤ span.middle
  pub second : span.middle ≤ span.end
  pub inside : span.end ≤ size
  pub one : has_two span.kind ≡ false → span.middle ≡ span.end

-- each of the spans does
abbrev pub AreWithin : ℕ → List Span → Type 0
AreWithin size spans = (i : ℕ) (span : Span) → slice_get spans i ≡ Some span → IsWithin size span

-- bytes that have grown at their end, if at all
pub record HasGrown (old new : List ℕ) : Type 0 where
  pub more : List ℕ
  pub longer : new ≡ old ++ more
