use Rattle.std.proofs.Common.{◌≡◌, ◌++◌, take}
use Rattle.std.specs.List.{flat_map}
use Rattle.term_text.specs.Appending.{BeginsWith}
use Rattle.proof_file.specs.CanonicalProof.{step_text}
use Rattle.proof_file.proofs.canonical.put_steps.Given as goal

abbrev pub invariant-loop-step : goal.invariant-loop-step
invariant-loop-step l = record {
  text : l.buf.items ≡ l.fn.buf.items ++ flat_map step_text (take l.step-index l.steps);
  kept : BeginsWith l.fn.buf.items l.buf.items;
}
