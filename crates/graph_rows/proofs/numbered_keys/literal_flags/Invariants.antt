use Rattle.std.proofs.Common.{◌≡◌, map, take}
use Rattle.gk_base.specs.Term.{is_literal}
use Rattle.graph_rows.proofs.numbered_keys.literal_flags.Given as goal

abbrev pub invariant-loop-place : goal.invariant-loop-place
invariant-loop-place l = l.flags.items ≡ map is_literal (take l.place l.names)
