use Rattle.std.proofs.Common.{◌≡◌, ℕ, ◌-◌, ◌+◌, ◌≤◌, List, ◌++◌, length, take}
use Rattle.gk_base.specs.declared.term.Triple.{Triple}
use Rattle.nt_reader.specs.Reading.{front_of}
use Rattle.nt_reader.specs.Kept.{IsFrontOf}
use Rattle.nt_reader.proofs.state.take.Given as goal

abbrev pub invariant-lines : goal.invariant-lines
invariant-lines l = record {
  inside : l.from ≤ length l.piece;
  bytes : l.state.bytes ≡ l.initial.state.bytes + l.from;
  line : l.state.line ≤ l.state.bytes + 1;
  stands : (taken : List Triple) (seen : List ℕ) → IsFrontOf l.limits (front_of l.initial.state) taken seen → IsFrontOf l.limits (front_of l.state) taken (seen ++ take l.from l.piece);
}

abbrev pub decreases-lines : goal.decreases-lines
decreases-lines l = length l.piece - l.from
