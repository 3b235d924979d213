-- How a command that chases may go: this project's own words.
use Rattle.std.specs.Prelude.{ℕ, ◌<◌, ◌≤◌}
use Rattle.gk_base.specs.declared.limits.Limits.{Limits}
use Rattle.gkey_cmd.specs.Limits.{CanBeKept}

-- limits and a number of workers that a chase may be given
pub record AreInRange (limits : Limits) (workers : ℕ) : Type 0 where
  pub kept : CanBeKept limits
  pub some : 0 < workers
  pub few : workers ≤ 64
