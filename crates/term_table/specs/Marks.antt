-- The marks of a list of terms (this project's own).
use Rattle.std.specs.Prelude.{◌≡◌, ℕ, ◌/◌, ◌^◌, ◌<◌, ◌≤◌, nat_eq, List, [], ◌∷◌, ◌++◌, fold, length, slice_get, Some}
use Rattle.std.specs.List.{IsDistinct}
use Rattle.std.specs.Hash.FoldHasher as folding
use Rattle.gk_base.specs.declared.term.Term.{Term}
use Rattle.term_list.specs.Parts.{first_text, second_text}
use Rattle.term_table.specs.declared.hashing.TermHasher.{TermHasher}
use Rattle.term_table.specs.Numbering.{AreDistinct}

-- the hash of a term: the upper 31 bits of what std's fast hasher makes of its texts; terms of different kinds with the same
-- texts share a hash
unfoldable pub hash_of : TermHasher → Term → ℕ
hash_of hasher term =
    folding.finish (fold folding.write hasher.start (first_text term ∷ second_text term ∷ [])) / 2 ^ 33

-- a search for the term comes to this mark: it is the term's hash or behind it, and each number between is a mark
pub record IsReached (hash : Term → ℕ) (marks : List ℕ) (term : Term) (mark : ℕ) : Type 0 where
  pub from_hash : hash term ≤ mark
  pub between : (k : ℕ) → hash term ≤ k → k < mark → (place : ℕ) × (slice_get marks place ≡ Some k)

-- the marks of these terms, by this hash: one for each, in their order, no two the same, and a search for a term comes to
-- its mark
pub record AreMarksOf (hash : Term → ℕ) (marks : List ℕ) (terms : List Term) : Type 0 where
  pub one_each : length marks ≡ length terms
  pub distinct : IsDistinct nat_eq marks
  pub few : (place mark : ℕ) → slice_get marks place ≡ Some mark → mark < 2 ^ 32
  pub reached : (place mark : ℕ) (term : Term) → slice_get marks place ≡ Some mark → slice_get terms place ≡ Some term →
      IsReached hash marks term mark

-- the marks with one more, that of a term behind the last
pub record HasOneMore (hash : Term → ℕ) (marks : List ℕ) (terms : List Term) (term : Term) (more : List ℕ) : Type 0 where
  pub mark : ℕ
  pub last : more ≡ marks ++ mark ∷ []
  pub are : AreMarksOf hash more (terms ++ term ∷ [])

-- terms that a graph's names can be: fewer than the numbers there are, all different, and with their marks
pub record AreMarked (hash : Term → ℕ) (marks : List ℕ) (terms : List Term) : Type 0 where
  pub few : length terms < 2 ^ 32
  pub distinct : AreDistinct terms
  pub marks_of : AreMarksOf hash marks terms
