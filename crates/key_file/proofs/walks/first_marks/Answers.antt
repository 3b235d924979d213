-- Slot 0 is marked, and nothing behind it.
use Rattle.std.proofs.Common.{false, replicate, inl, inr, arith}
use Rattle.std.proofs.lemmas.Bool.{cases_lt}
use Rattle.std.proofs.lemmas.List.{get_or-replicate, get_or_past, length-replicate}
use Rattle.key_file.proofs.WalkLemmas.{first_marked}
use Rattle.key_file.proofs.walks.first_marks.Goals as goal

pub returns-then-slots-gt0 : goal.returns-then-slots-gt0
returns-then-slots-gt0 c edges =
    first_marked c.args.slots edges (replicate 15 false) (omega arith) (λ s. elim (cases_lt s 15) [
      | inl within ↦ get_or-replicate 15 s false false within
      | inr past ↦ get_or_past (replicate 15 false) s false (let n = length-replicate 15 false in omega arith)
    ])
