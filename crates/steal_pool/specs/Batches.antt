-- What a worker has in hand between its turns, and what becomes of it.
use Rattle.std.specs.Prelude.{List, ℕ, Option, Some, None, ◌≡◌}
use Rattle.std.specs.List.{All}
use Rattle.chase_laws.specs.declared.entry.Entry.{Entry}
use Rattle.chase_laws.specs.Core.{Task, PairAt, ListsNear}
use Rattle.chase_core.specs.Running.{Running}
use Rattle.chase_core.specs.Settling.{IsFoundBy, Settles}
use Rattle.chase_core.specs.declared.ticket.Ticket.{Ticket}
use Rattle.chase_core.specs.declared.ticket.Outcome.TheVariants as outcome
use Rattle.chase_core.specs.declared.ticket.Settled.{Settled}
use Rattle.paired_search.specs.declared.all_keys.Finding.{Finding}
use Rattle.label_board.specs.Seen.{SeenBoard}
use Rattle.turn_lock.specs.declared.handles.TurnLock.{TurnLock}
use Rattle.turn_lock.specs.Handles.{base_of, seen}
use Rattle.steal_pool.specs.declared.workspace.Job.{Job}
use Rattle.steal_pool.specs.declared.workspace.Progress.{Progress}
use Rattle.steal_pool.specs.declared.workspace.Progress.TheVariants as progress
use Rattle.steal_pool.specs.declared.crew_member.CrewMember.{CrewMember}
use Rattle.steal_pool.specs.declared.shared.Shared.{Shared}
use Rattle.steal_pool.specs.Workspaces.{Thief}
use Rattle.steal_pool.specs.Bases.{Base, IsSince, pair_count, widest_of, board_of}
use Rattle.steal_pool.specs.CrewMembers.{IsCrewMember}

-- the pair that a job has, if any
abbrev pub pair_in : Progress → Option ℕ
pair_in progress.Free = None
pair_in (progress.Taken t) = Some t.pair
pair_in (progress.Missed t) = Some t.pair
pair_in (progress.Found t) = Some t.pair

-- the pair was searched, and is not settled yet
abbrev pub IsSearched : Progress → Type 0
IsSearched progress.Free = ⊥
IsSearched (progress.Taken t) = ⊥
IsSearched (progress.Missed t) = Unit {0}
IsSearched (progress.Found t) = Unit {0}

-- A pair that was taken has these ends, and the job's watcher stood even at the take. What is said of its search is what one
-- comes to by a view of what is near to them, with the labels that the watcher has read.
abbrev pub IsCarried : Task → List Entry → Job → Progress → Type 0
IsCarried T seen job progress.Free = Unit {0}
IsCarried T seen job (progress.Taken t) = PairAt T t.pair t.a t.b × IsSince seen job.watcher.since job.since
IsCarried T seen job (progress.Missed t) =
    PairAt T t.pair t.a t.b × IsSince seen job.watcher.since job.since
    × ListsNear T t.a t.b job.view.pairs × (job.watcher.read ≡ job.view.pairs) × IsFoundBy T t job.view.pairs outcome.Missed
IsCarried T seen job (progress.Found t) =
    PairAt T t.pair t.a t.b × IsSince seen job.watcher.since job.since
    × ListsNear T t.a t.b job.view.pairs × (job.watcher.read ≡ job.view.pairs) × IsFoundBy T t job.view.pairs (outcome.Found job.finding)

abbrev pub IsJob : Task → List Entry → Job → Type 0
IsJob T seen job = IsCarried T seen job job.progress

-- what was searched is settled, and nothing else changes
abbrev pub SettlesBy : Running → List (ℕ × ℕ) → Finding → Progress → Running → Progress → Type 0
SettlesBy old view finding progress.Free new after = (new ≡ old) × (after ≡ progress.Free)
SettlesBy old view finding (progress.Taken t) new after = (new ≡ old) × (after ≡ progress.Taken t)
SettlesBy old view finding (progress.Missed t) new after = ((answer : Settled) × Settles old t view outcome.Missed answer new) × (after ≡ progress.Free)
SettlesBy old view finding (progress.Found t) new after = ((answer : Settled) × Settles old t view (outcome.Found finding) answer new) × (after ≡ progress.Free)

-- a pair was searched, and this is what that came to by the view
abbrev pub ComesTo : Task → Ticket → List (ℕ × ℕ) → Finding → Progress → Type 0
ComesTo T t view finding progress.Free = ⊥
ComesTo T t view finding (progress.Taken u) = ⊥
ComesTo T t view finding (progress.Missed u) = (u ≡ t) × IsFoundBy T t view outcome.Missed
ComesTo T t view finding (progress.Found u) = (u ≡ t) × IsFoundBy T t view (outcome.Found finding)

-- what was taken is searched, by its own view, and nothing else changes
abbrev pub SearchesBy : Task → List (ℕ × ℕ) → Finding → Progress → Progress → Type 0
SearchesBy T view finding progress.Free after = after ≡ progress.Free
SearchesBy T view finding (progress.Taken t) after = ComesTo T t view finding after
SearchesBy T view finding (progress.Missed t) after = after ≡ progress.Missed t
SearchesBy T view finding (progress.Found t) after = after ≡ progress.Found t

-- a worker that may go on, and whose jobs are good since its last turn
pub record IsAtWork (lock : TurnLock Shared Base Entry) (on : SeenBoard) (thieves : List Thief) (m : CrewMember Shared Base Entry) : Type 0 where
  pub member : IsCrewMember pair_count widest_of board_of lock on thieves m
  pub jobs : (B : Base) → base_of m.pass ≡ Some B → All (IsJob B.0.task (seen m.pass)) m.workspace.jobs.items
