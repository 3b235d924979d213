-- When a device may answer that it failed.
use Rattle.std.specs.Prelude.{ℕ, ◌≡◌, ◌<◌, ◌≤◌, ◌-◌, ◌^◌, ◌⊎◌, Result, IsOk, IsErr}

-- A count of failures rose, or stands at the last value that a u64 can have (this project's own).
abbrev pub Rose : ℕ → ℕ → Type 0
Rose before now = (before < now) ⊎ (now ≡ 2 ^ 64 - 1)

-- What every call does to the count of its device: the count never falls, is as before after Ok,
-- and has risen where the call failed (this project's own).
pub record HasCause {A E : Type 0} (before now : ℕ) (result : Result A E) : Type 0 where
  pub later : before ≤ now
  pub ok : IsOk result → now ≡ before
  pub failed : IsErr result → Rose before now
