use Rattle.std.proofs.Common.{◌≡◌, map, take}
use Rattle.key_file.specs.Numbered.{row_of}
use Rattle.proof_check.proofs.numbers.rows_of.Given as goal

abbrev pub invariant-loop-place : goal.invariant-loop-place
invariant-loop-place l = l.rows.items ≡ map (row_of l.names) (take l.place l.triples)
