use Rattle.steal_pool.proofs.Wakings.{woken_within}
use Rattle.steal_pool.proofs.alone.settle_at_once.Goals as goal

pub returns-clause-woken : goal.returns-clause-woken
returns-clause-woken c = woken_within _ c.args.chase.now c.settle_at_once.new.self c.args.ticket.pair c.settle_at_once.result c.args.woken.now.room c.settle_at_once.new.woken.list c.book.ensures.running.sound.one_state_each c.settle_at_once.ensures.woken
