use Rattle.std.proofs.Common.{arith, length, ◌≤◌}
use Rattle.turn_lock.specs.Handles.{opened}
use Rattle.turn_lock.proofs.Sums.{below_in, below_out, begins_length}
use Rattle.turn_lock.proofs.Gathering.{right_for_all}
use Rattle.turn_lock.proofs.handles.TurnLock.close.Goals as goal

pub returns-clause-right : goal.returns-clause-right
returns-clause-right g c = let e = c.finish.ensures in right_for_all _ _ _ _ c.gather-seat.ensures.gathered e.right e.joined

pub returns-clause-places : goal.returns-clause-places
returns-clause-places g c = let a = length (g.T.Journaled.entries (opened c.args.self)) in let b = length (g.T.Journaled.entries c.finish.result) in let grown : a ≤ b = begins_length _ _ c.finish.ensures.grown in record {
  early = λ x l. let e = c.finish.ensures.claimed x in let h = c.gather-seat.ensures.gathered.claimed x in omega (arith, below_in a x l, below_in b x (omega arith));
  once = λ x l m. let e = c.finish.ensures.claimed x in let h = c.gather-seat.ensures.gathered.claimed x in omega (arith, below_out a x l, below_in b x m);
  late = λ x l. let e = c.finish.ensures.claimed x in let h = c.gather-seat.ensures.gathered.claimed x in omega (arith, below_out a x (omega arith), below_out b x l);
}
