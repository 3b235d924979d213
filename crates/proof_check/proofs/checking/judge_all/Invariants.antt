use Rattle.std.proofs.Common.{◌≡◌, length, drop, map, []}
use Rattle.proof_check.specs.Ready.{renumbered, verdict_with}
use Rattle.proof_check.proofs.checking.judge_all.Given as goal

abbrev pub invariant-loop-step : goal.invariant-loop-step
invariant-loop-step l = record {
  count : length l.ends.items ≡ l.step-index;
  verdict : verdict_with l.checker l.keys [] (map (renumbered l.numbers) l.steps) ≡ verdict_with l.checker l.keys l.ends.items (map (renumbered l.numbers) (drop l.step-index l.steps));
}
