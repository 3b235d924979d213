use Rattle.std.proofs.Common.{◌≡◌, ℕ, ◌-◌, ◌≤◌, [], vec_len, vec_capacity, slice_get, Some}
use Rattle.turn_lock.specs.Turns.{fresh}
use Rattle.turn_lock.specs.Handles.{IsPassOf, IsOut, IsNew, opened}
use Rattle.turn_lock.proofs.handles.TurnLock.hand_out.Given as goal

abbrev pub invariant-loop-number : goal.invariant-loop-number
invariant-loop-number g l =
    (l.seat.table_id ≡ l.self.table.shared.table_id)
    × (l.seat.me ≡ (fresh (l.self.seats - l.number) (g.T.Journaled.base (opened l.self)) (g.T.Journaled.entries (opened l.self)), []))
    × (vec_len l.passes ≡ l.number)
    × (l.self.seats ≤ vec_capacity l.passes)
    × ((k : ℕ) (p : _) → slice_get l.passes.items k ≡ Some p → IsPassOf l.self p × IsOut p)
    × ((k : ℕ) (p : _) → slice_get l.passes.items k ≡ Some p → IsNew g.T.Journaled.base g.T.Journaled.entries (opened l.self) k p)
