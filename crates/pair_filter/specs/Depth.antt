-- How far the filter looks (this project's own).
use Rattle.std.specs.Prelude.{ℕ}

-- how many edges away from its two names a pair is looked at
abbrev pub filter_depth : ℕ
filter_depth = 2
