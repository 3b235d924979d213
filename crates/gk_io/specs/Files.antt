-- Files by name, and what a read takes of one.
use Rattle.std.specs.Prelude.{List, [], ◌∷◌, ℕ, Bool, true, false, Vec, ◌≡◌, ◌↔◌, ◌<◌, ◌≤◌, length, map, take, drop, if◌then◌else◌, bytes_eq}
use Rattle.std.specs.declared.alloc.Global.{Global}

-- The bytes of the first file with this name, and none where no file has it (this project's own).
abbrev pub bytes_of : List (List ℕ × List ℕ) → List ℕ → List ℕ
bytes_of [] name = []
bytes_of (file ∷ files) name = if bytes_eq file.0 name then file.1 else bytes_of files name

-- The names and bytes of these files (this project's own).
abbrev pub contents_of : List (List ℕ × Vec ℕ Global) → List (List ℕ × List ℕ)
contents_of files = map (λ file. (file.0, file.1.items)) files

-- Whether some file has this name (this project's own).
abbrev pub has_file : List (List ℕ × List ℕ) → List ℕ → Bool
has_file [] name = false
has_file (file ∷ files) name = if bytes_eq file.0 name then true else has_file files name

-- A read into a buffer of `room` bytes took this count of bytes off the front of what was left of the file, and put them at
-- the front of the buffer; the count is 0 for a buffer with room exactly where nothing was left (this project's own).
pub record TakesNext (room count : ℕ) (left_before left_after buffer : List ℕ) : Type 0 where
  pub within : count ≤ length left_before
  pub bytes : take count buffer ≡ take count left_before
  pub rest : left_after ≡ drop count left_before
  pub nothing_at_end : 0 < room → (count ≡ 0) ↔ (left_before ≡ [])
