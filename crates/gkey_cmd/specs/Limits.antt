-- How large the inputs of a run may be: this project's own words.
use Rattle.std.specs.Prelude.{List, ℕ, ◌<◌, ◌≤◌, ◌-◌, ◌^◌, if◌then◌else◌}
use Rattle.gk_base.specs.declared.limits.Limits.{Limits}
use Rattle.chase_ways.specs.Limit.{CanBeKept as CanBeCounted}
use Rattle.gkey_cmd.specs.Commands.{are_large}
use Rattle.gkey_cmd.specs.declared.limits.ProgramLimits.{ProgramLimits}

-- limits that a run can keep
pub record CanBeKept (limits : Limits) : Type 0 where
  pub bytes : limits.bytes ≤ 2 ^ 40
  pub key_bytes : limits.key_bytes ≤ 2 ^ 20
  pub triples : limits.triples ≤ 2 ^ 30
  pub pairs : CanBeCounted limits.pairs

-- The limits without and with `--large` can be kept. Those without it are a demo's, too, which counts its pairs one by one.
pub record AreProgramLimits (limits : ProgramLimits) : Type 0 where
  pub plain : CanBeKept limits.plain
  pub large : CanBeKept limits.large
  pub counted : limits.plain.pairs < 2 ^ 32

-- the limits that words ask for
abbrev pub limits_for : List (List ℕ) → ProgramLimits → Limits
limits_for words limits = if are_large words then limits.large else limits.plain

-- the limits of the program; as many pairs as with `--large` no chase has
abbrev pub standard_limits : ProgramLimits
standard_limits = record {
  plain = record { bytes = 2 ^ 29; key_bytes = 2 ^ 20; triples = 2 ^ 22; pairs = 2 ^ 26 };
  large = record { bytes = 2 ^ 40; key_bytes = 2 ^ 20; triples = 2 ^ 30; pairs = 2 ^ 64 - 1 };
}
