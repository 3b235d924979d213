-- Where no pair comes, the hand keeps its pair and its view.
use Rattle.std.proofs.Common.{sym, subst}
use Rattle.paired_search.specs.Held.{Held}
use Rattle.chase_core.specs.Holding.{IsHeld}
use Rattle.chase_tests.proofs.hands.take_into.Goals as goal

pub returns-in_err-ticket-clause-held : goal.returns-in_err-ticket-clause-held
returns-in_err-ticket-clause-held c = λ t e. subst (λ (v : Held). IsHeld c.args.chase.now.setup.task c.args.chase.now.book.journal t v.pairs) (sym c.in_err-ticket.ensures.none) (c.requires.held t e)
