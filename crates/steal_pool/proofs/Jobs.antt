-- Jobs of an earlier turn are good in a later one.
use Rattle.std.proofs.Common.{List, ◌++◌, ℕ, Option, Some, get_or, ◌≡◌, ap, sym, subst, ◌∙◌, append_assoc}
use Rattle.std.specs.List.{All}
use Rattle.std.proofs.Math.ListN.{set}
use Rattle.std.proofs.lemmas.List.Elements.{All-set}
use Rattle.chase_laws.specs.declared.entry.Entry.{Entry}
use Rattle.chase_laws.specs.Core.{Task}
use Rattle.turn_lock.specs.Lists.{StartsWith}
use Rattle.chase_core.specs.Setup.{Preparation}
use Rattle.label_board.specs.Seen.{SeenBoard}
use Rattle.steal_pool.specs.declared.workspace.Job.{Job}
use Rattle.steal_pool.specs.declared.workspace.Progress.{Progress}
use Rattle.steal_pool.specs.declared.workspace.Progress.TheVariants as progress
use Rattle.steal_pool.specs.declared.workspace.Workspace.{Workspace}
use Rattle.steal_pool.specs.Bases.{Base, IsSince, pair_count, widest_of, board_of}
use Rattle.steal_pool.specs.Workspaces.{Thief, IsWorkspace}
use Rattle.steal_pool.specs.Batches.{IsCarried, IsJob}

pub same_base : (B B' : Base) → Some B ≡ Some B' → B ≡ B'
same_base B B' e = cc

-- what was there at the take is there later
since_later : (seen more since : List Entry) (count : ℕ) → IsSince seen since count → IsSince (seen ++ more) since count
since_later seen more since count h = ((h.0.0 ++ more, ap (λ es. es ++ more) h.0.1 ∙ append_assoc since h.0.0 more), h.1)

carried_later : (T : Task) (seen more : List Entry) (j : Job) (w : Progress) → IsCarried T seen j w → IsCarried T (seen ++ more) j w
carried_later T seen more j progress.Free h = tt
carried_later T seen more j (progress.Taken t) h = (h.0, since_later seen more j.watcher.since j.since h.1)
carried_later T seen more j (progress.Missed t) h = (h.0, since_later seen more j.watcher.since j.since h.1, h.2, h.3, h.4)
carried_later T seen more j (progress.Found t) h = (h.0, since_later seen more j.watcher.since j.since h.1, h.2, h.3, h.4)

jobs_later : (T : Task) (seen more : List Entry) (jobs : List Job) → All (IsJob T seen) jobs → All (IsJob T (seen ++ more)) jobs
jobs_later T seen more jobs h = λ k d l. carried_later T seen more (get_or jobs k d) (get_or jobs k d).progress (h k d l)

-- the same where the base and what a turn finds are told of the pass
pub jobs_now : (B B' : Base) (base : Option Base) (seen now : List Entry) (jobs : List Job)
    → base ≡ Some B → base ≡ Some B' → StartsWith now seen → All (IsJob B.0.task seen) jobs → All (IsJob B'.0.task now) jobs
jobs_now B B' base seen now jobs was is begins held =
    subst (λ (Z : Base). All (IsJob Z.0.task now) jobs) (same_base B B' (sym was ∙ is))
    (subst (λ es. All (IsJob B.0.task es) jobs) (sym begins.1) (jobs_later B.0.task seen begins.0 jobs held))

-- one job was settled, and the journal has grown
pub settled_one : (S S' : Preparation) (old new more : List Entry) (jobs : List Job) (k : ℕ) (j : Job)
    → S' ≡ S → new ≡ old ++ more → IsJob S'.task new j → All (IsJob S.task old) jobs → All (IsJob S'.task new) (set jobs k j)
settled_one S S' old new more jobs k j same grows good held =
    All-set (IsJob S'.task new) jobs k j good
    (subst (λ (Z : Preparation). All (IsJob Z.task new) jobs) (sym same)
    (subst (λ es. All (IsJob S.task es) jobs) (sym grows) (jobs_later S.task old more jobs held)))

-- a workspace for the base of a pass is one for what a turn finds
pub workspace_now : (B B' : Base) (base : Option Base) (on : SeenBoard) (thieves : List Thief) (w : Workspace)
    → base ≡ Some B → base ≡ Some B' → IsWorkspace (pair_count B) (widest_of B) on thieves w → IsWorkspace (pair_count B') (widest_of B') on thieves w
workspace_now B B' base on thieves w was is h = subst (λ (Z : Base). IsWorkspace (pair_count Z) (widest_of Z) on thieves w) (same_base B B' (sym was ∙ is)) h

-- the board of a turn's value is the worker's
pub board_now : (B B' : Base) (base : Option Base) (on : SeenBoard) → base ≡ Some B → base ≡ Some B' → board_of B ≡ on → board_of B' ≡ on
board_now B B' base on was is h = subst (λ (Z : Base). board_of Z ≡ on) (same_base B B' (sym was ∙ is)) h
