-- What contracts see of a board, its scribe and its watchers (this project's own).
use Rattle.std.specs.Prelude.{List, [], ◌∷◌, ◌++◌, ℕ, Some, All, length, slice_get, slice_index, ◌≡◌, ◌<◌}
use Rattle.atomic_table.specs.Seated.{TableId}
use Rattle.chase_laws.specs.declared.entry.Entry.{Entry}
use Rattle.chase_laws.specs.Joined.{Joined}
use Rattle.class_book.specs.Classes.{Classes, relabelled, going, staying}

-- which board it is, and how many names it has
pub record SeenBoard : Type 0 where
  pub id : TableId
  pub names : ℕ

-- the board of a scribe, the entries that were posted, and the label in the word of each name
pub record SeenScribe : Type 0 where
  pub board : TableId
  pub posted : List Entry
  pub shown : List ℕ

-- the board of a watcher, the entries that were posted when it last stood even with the scribe, and the names that were
-- read with their labels
pub record SeenWatcher : Type 0 where
  pub board : TableId
  pub since : List Entry
  pub read : List (ℕ × ℕ)

-- each label is joined with its name
abbrev pub AllJoined : List Entry → List (ℕ × ℕ) → Type 0
AllJoined entries pairs = All (λ p. Joined entries p.0 p.1) pairs

-- each label is the one that is shown for its name
abbrev pub AllShown : List ℕ → List (ℕ × ℕ) → Type 0
AllShown labels pairs = All (λ p. slice_get labels p.0 ≡ Some p.1) pairs

-- the names that a book's journal joins with a name are shown with the labels of the book, and all others as before
pub record ShowsClass (before : List ℕ) (book : Classes) (name : ℕ) (after : List ℕ) : Type 0 where
  pub wide : length after ≡ length before
  pub members : (n : ℕ) → n < length book.labels → Joined book.journal name n → slice_index after n ≡ slice_index book.labels n
  pub others : (n : ℕ) → ¬ (Joined book.journal name n) → slice_index after n ≡ slice_index before n

-- a book after an identification of two of its names was entered, as `Book::enter` leaves it
pub record HasEntered (before : Classes) (e : Entry) (after : Classes) : Type 0 where
  pub a : e.a < length before.labels
  pub b : e.b < length before.labels
  pub journal : after.journal ≡ before.journal ++ e ∷ []
  pub labels : let x = slice_index before.labels e.a in let y = slice_index before.labels e.b in
      after.labels ≡ relabelled before.labels (going before.labels x y) (staying before.labels x y)
