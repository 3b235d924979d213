-- The passes of a lock that was just made.
use Rattle.std.proofs.Common.{List, ℕ, Some, get_or, slice_get, ◌≡◌}
use Rattle.std.proofs.lemmas.Option.{slice_get-get_or}
use Rattle.turn_lock.specs.declared.handles.TurnLock.{TurnLock}
use Rattle.turn_lock.specs.declared.handles.Pass.{Pass}
use Rattle.turn_lock.specs.Handles.{AllOut, base_of}
use Rattle.steal_pool.specs.CrewMembers.{AllOutWith}

module _ {T B I : Type 0} where
  pub all_out_with : (b : B) (lock : TurnLock T B I) (ps : List (Pass T B I)) → AllOut lock ps
      → ((k : ℕ) (p : Pass T B I) → slice_get ps k ≡ Some p → base_of p ≡ Some b) → AllOutWith lock b ps
  all_out_with b lock ps out based = λ k d l. let o = out k d l in (o.0, o.1, based k (get_or ps k d) (slice_get-get_or ps k d l))
