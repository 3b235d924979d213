-- What a book keeps beside what contracts see. All of this is this project's own.
use Rattle.std.specs.Prelude.{List, ℕ, cond, length, slice_index, ◌≡◌, ◌<◌, ◌≤◌, ◌^◌, ◌==◌}
use Rattle.list_pool.specs.Counts.{times}
use Rattle.list_pool.specs.Pool.{list_at}
use Rattle.chase_laws.specs.declared.entry.Entry.{Entry}
use Rattle.class_book.specs.Classes.{EndsAreNodes, IsLabelled, size_of}

-- sizes and member lists that fit the labels: what a book keeps beside what the journal joins
pub record IsRoster (labels sizes : List ℕ) (members : List (List ℕ)) : Type 0 where
  pub list_count : length members ≡ length labels
  pub size_count : length sizes ≡ length labels
  pub stands : (l n : ℕ) → l < length labels → n < length labels → times (list_at members l) n ≡ cond (slice_index labels n == l) 1 0
  pub nodes : (l n : ℕ) → l < length labels → length labels ≤ n → times (list_at members l) n ≡ 0
  pub counts : (l : ℕ) → l < length labels → slice_index sizes l ≡ size_of labels l
  pub lengths : (l : ℕ) → l < length labels → slice_index sizes l ≡ length (list_at members l)
  pub few : length labels < 2 ^ 32

-- what each book keeps
pub record IsBook (labels sizes : List ℕ) (members : List (List ℕ)) (journal : List Entry) (room : ℕ) : Type 0 where
  pub labelled : IsLabelled labels journal
  pub ends : EndsAreNodes labels journal
  pub roster : IsRoster labels sizes members
  pub narrow : room < 2 ^ 32
