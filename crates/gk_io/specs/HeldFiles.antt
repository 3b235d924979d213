-- Files that lie in memory.
use Rattle.std.specs.Prelude.{List, [], ℕ, Option, Some, None, Vec, drop, slice_get}
use Rattle.std.specs.declared.alloc.Global.{Global}

-- Files in memory as contracts see them: names and bytes, and what is unread of the one that is read
-- (this project's own).
pub record HeldFiles : Type 0 where
  pub files : List (List ℕ × List ℕ)
  pub rest : List ℕ

-- What a file has from this byte on; nothing where there is no file (this project's own).
abbrev pub rest_in : Option (List ℕ × Vec ℕ Global) → ℕ → List ℕ
rest_in None at = []
rest_in (Some file) at = drop at file.1.items

-- What the file at this place has from this byte on; nothing past the last file (this project's own).
abbrev pub rest_of : List (List ℕ × Vec ℕ Global) → ℕ → ℕ → List ℕ
rest_of files place at = rest_in (slice_get files place) at
