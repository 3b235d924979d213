-- What is known of the terms of a list while they are numbered (this project's own).
use Rattle.std.specs.Prelude.{◌≡◌, ℕ, ◌+◌, ◌<◌, List, take, drop, length, slice_get, Some}
use Rattle.gk_base.specs.declared.term.Term.{Term}
use Rattle.term_table.specs.declared.known.Known.{Known}
use Rattle.term_table.specs.declared.known.Known.TheVariants.{Before, Named, Unknown}
use Rattle.term_table.specs.Numbering.{with_terms, AreDistinct}

-- what is known of the term at this place is so
abbrev pub IsKnown : (names terms : List Term) (at : ℕ) → Known → Type 0
IsKnown names terms at (Before first) = (first < at) × (slice_get terms first ≡ slice_get terms at)
IsKnown names terms at (Named number) = slice_get names number ≡ slice_get terms at
IsKnown names terms at (Unknown hash) = Unit {0}

-- this is known of the terms from one place on, and is so
pub record AreKnown (names terms : List Term) (start : ℕ) (known : List Known) : Type 0 where
  pub each : (k : ℕ) (it : Known) → slice_get known k ≡ Some it → IsKnown names terms (start + k) it

-- the first terms are the names with these numbers
pub record AreNumbersOf (names terms : List Term) (numbers : List ℕ) : Type 0 where
  pub each : (k number : ℕ) → slice_get numbers k ≡ Some number → slice_get names number ≡ slice_get terms k

-- So many terms of the list were numbered, from one place on: they became names after the others, and each of them, and of the
-- terms before them, has its number.
pub record HasNumbered (before terms : List Term) (start : ℕ) (after : List Term) (numbers : List ℕ) (count : ℕ) : Type 0 where
  pub names_are : after ≡ with_terms before (take count (drop start terms))
  pub distinct : AreDistinct after
  pub numbered : AreNumbersOf after terms numbers
  pub one_each : length numbers ≡ start + count
