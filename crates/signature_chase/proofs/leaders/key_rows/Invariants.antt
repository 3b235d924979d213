use Rattle.std.proofs.Common.{ℕ, ◌≡◌, ◌<◌, length, drop}
use Rattle.std.specs.Prelude.{slice_index}
use Rattle.valuation_groups.specs.Groups.{row_in}
use Rattle.signature_chase.specs.Leaders.{keyed_at}
use Rattle.signature_chase.proofs.leaders.key_rows.Given as goal

abbrev pub invariant-loop-row : goal.invariant-loop-row
invariant-loop-row l = record {
  count : length l.keyed.items ≡ l.row;
  each : (i : ℕ) → i < l.row → keyed_at l.keyed.items i ≡ (slice_index l.leaders i, slice_index l.book.labels (slice_index (drop 1 (row_in l.group i)) l.place), i);
}
