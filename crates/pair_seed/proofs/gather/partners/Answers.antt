-- What goes with a name, in order.
use Rattle.pair_seed.proofs.Steps.{found_candidate}
use Rattle.pair_seed.proofs.gather.partners.Goals as goal

pub returns : goal.returns
returns c = record {
  ascending = c.in_ok-put_in_order.ensures.ascending;
  exact = λ b. (
    (λ h. c.in_ok-find.ensures.only b ((c.in_ok-put_in_order.ensures.same b).0 h)),
    (λ x. (c.in_ok-put_in_order.ensures.same b).1 (found_candidate c.args.graph.now c.args.patterns.now c.args.a b _ c.in_ok-find.ensures x)),
  );
}
