use Rattle.std.proofs.Common.{◌≡◌, ◌≤◌, [], All, vec_len, vec_capacity}
use Rattle.label_board.proofs.open.hand_out.Given as goal

abbrev pub invariant-loop-number : goal.invariant-loop-number
invariant-loop-number l = record {
  table : l.seat.table_id ≡ l.fn.seat.table_id;
  me : l.seat.me ≡ l.fn.seat.me;
  made : vec_len l.watchers ≡ l.number;
  room : l.count ≤ vec_capacity l.watchers;
  each : All (λ w. (w.board ≡ l.fn.seat.table_id) × (w.since ≡ l.fn.seat.me.0.since) × (w.read ≡ [])) l.watchers.items;
}
