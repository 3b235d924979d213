use Rattle.steal_pool.proofs.batch.rest.Goals as goal

pub returns-clause-workspace : goal.returns-clause-workspace
returns-clause-workspace c = λ n widest on thieves h. record {
  count = h.count;
  own = h.own;
  passes = h.passes;
  pending = h.pending;
  places = h.places;
}
