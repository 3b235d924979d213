-- The view of a pair in hand has what is near to its ends.
use Rattle.chase_tests.proofs.hands.settle_from.Goals as goal

pub settle-requires-clause-view : goal.settle-requires-clause-view
settle-requires-clause-view c = (c.requires.held c.in_ok-ticket.ticket c.in_ok-ticket.was).near
