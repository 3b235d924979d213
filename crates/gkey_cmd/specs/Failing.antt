-- At which file of a command its shelf failed: this project's own words.
use Rattle.std.specs.Prelude.{List, ◌∷◌, ◌++◌, ℕ, Some, IsTrue, IfSome, ◌≡◌}
use Rattle.gk_base.specs.declared.limits.Limits.{Limits}
use Rattle.gk_io.specs.Cause.{Rose}
use Rattle.gk_io.specs.declared.shelf.Shelf
use Rattle.gkey_cmd.specs.Commands.{Wanted, files_of}
use Rattle.gkey_cmd.specs.Reading.{AllAccepted}
use Rattle.gkey_cmd.specs.declared.file.File.{File}

-- The shelf failed at a file of the command: its count rose, this file's word was asked for last, the call for it or a
-- read of it failed, and every file before it is accepted, where the shelf tells its files.
pub record HasFailed {K : Type 0} (shelf : Shelf.Ghosts K) (shelf_before shelf_after : K) (command : Wanted) (limits : Limits) (file : File) : Type 0 where
  pub before : List (File × List ℕ)
  pub name : List ℕ
  pub after : List (File × List ℕ)
  pub stands : files_of command ≡ before ++ (file, name) ∷ after
  pub rose : Rose (shelf.faults shelf_before) (shelf.faults shelf_after)
  pub asked_for : shelf.asked shelf_after ≡ Some name
  pub is_bad : IsTrue (shelf.bad shelf_after)
  pub accepted : IfSome (shelf.held shelf_before) (λ files. AllAccepted limits files before)
