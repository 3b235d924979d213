use Rattle.std.proofs.Common.{[], arith, length, refl, sym, ap, ◌∙◌, append-nil}
use Rattle.chase_core.specs.Setup.{Preparation}
use Rattle.steal_pool.proofs.alone.work_alone.Goals as goal

pub overflow_cast-count : goal.overflow_cast-count
overflow_cast-count g c = omega (arith, c.pairs.ensures.few, ap length c.pairs.ensures.pairs)

pub loop-init : goal.loop-init
loop-init g c = record {
  setup = refl;
  count = sym (ap length c.pairs.ensures.pairs ∙ ap (λ (S : Preparation). length S.task.pairs) c.setup.ensures);
  grows = ([], sym (append-nil c.args.chase.book.journal));
  hints = c.first_hints.ensures;
}
