use Rattle.std.proofs.Common.{length, arith, ap}
use Rattle.signature_chase.specs.Waiting.{Waiting}
use Rattle.signature_chase.proofs.Queues.{length-le-first}
use Rattle.signature_chase.proofs.queue.Queue.listed.Goals as goal

pub returns : goal.returns
returns c = omega (arith, c.spare.ensures.rest, length-le-first c.self.inside.pool.lists, ap (λ (q : Waiting). q.count) c.self.view_is, ap (λ (q : Waiting). length q.list) c.self.view_is)
