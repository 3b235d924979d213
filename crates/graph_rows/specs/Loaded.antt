-- Why the first bytes of a file are not to be had: this project's own words.
use Rattle.std.specs.Prelude.{List, ℕ, ◌≡◌}
use Rattle.gk_base.specs.declared.stop.Stop.{Stop}
use Rattle.gk_base.specs.declared.stop.Stop.TheVariants.{NoMemory, Fault}
use Rattle.gk_io.specs.FailedAt.{FailedAt}
use Rattle.gk_io.specs.declared.failed.Failed.{Failed}
use Rattle.gk_io.specs.declared.shelf.Shelf

-- the file of this name is not to be had: for want of memory, while the shelf did not fail, or because the shelf failed at it
abbrev pub LoadStops : {K : Type 0} (shelf : Shelf.Ghosts K) (before after : K) (name : List ℕ) → Stop Failed → Type 0
LoadStops shelf before after name NoMemory = shelf.faults after ≡ shelf.faults before
LoadStops shelf before after name (Fault failed) = FailedAt shelf before after name
