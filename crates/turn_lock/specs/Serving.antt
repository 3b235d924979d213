-- The words of the table. Tickets count from 0 without end, and a word has one modulo 2^64. Those that share a serving word are 64 apart.
-- A word that many look at has 64 bytes to itself, and the words between are not used.
use Rattle.std.specs.Prelude.{◌≡◌, ℕ, ◌+◌, ◌*◌, ◌%◌, ◌^◌, ◌<◌, ◌≤◌, ◌⊎◌, List, length, slice_index}

-- the word where a ticket is called
abbrev pub serving_word : ℕ → ℕ
serving_word ticket = 16 + 8 * (ticket % 64)

-- serving word j has the last ticket that was called there, or 0 where none was yet
abbrev pub HasLast : ℕ → ℕ → ℕ → Type 0
HasLast served j word = ((t : ℕ) × (word ≡ t % 2 ^ 64) × (t % 64 ≡ j) × (t ≤ served) × (served < t + 64)) ⊎ ((word ≡ 0) × (served < j))

-- `drawn` tickets were drawn, the ticket `served` was called last, and `count` is the number of entries
pub record Shows (drawn served count : ℕ) (words : List ℕ) : Type 0 where
  pub size : length words ≡ 528
  pub ticket : slice_index words 0 ≡ drawn % 2 ^ 64
  pub count_is : slice_index words 8 ≡ count
  pub serving : (j : ℕ) → j < 64 → HasLast served j (slice_index words (16 + 8 * j))
