-- Which lists of keys a key file may hold.
use Rattle.std.specs.Prelude.{List, ℕ, Bool, bytes_eq, length, All, ◌≤◌, ◌≢◌}
use Rattle.std.specs.List.{list_any, AllPairs}
use Rattle.key_file.specs.KeyShape.{KeyShape}
use Rattle.key_file.specs.Key.{IsKey}

-- whether a key has this name
abbrev pub has_name : List KeyShape → List ℕ → Bool
has_name keys name = list_any (λ key. bytes_eq key.name name) keys

-- the keys of a key file (this project's own limit): at most 64 valid keys, whose names are all different
pub record IsKeyFile (keys : List KeyShape) : Type 0 where
  pub few : length keys ≤ 64
  pub names_differ : AllPairs (λ k l. k.name ≢ l.name) keys
  pub valid : All IsKey keys
