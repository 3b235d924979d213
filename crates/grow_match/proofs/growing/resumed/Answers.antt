-- The ends of the entries are pairs of the setup.
use Rattle.std.proofs.Common.{All, Contains, sym, subst}
use Rattle.chase_core.specs.Setup.{Preparation}
use Rattle.grow_match.proofs.OldEntries.{ends_are_pairs}
use Rattle.grow_match.proofs.growing.resumed.Goals as goal

pub replay-requires-clause-ends : goal.replay-requires-clause-ends
replay-requires-clause-ends c =
    subst (λ (S : Preparation). All (λ e. Contains S.task.pairs (e.a, e.b)) c.args.journal.now) (sym c.in_ok-chase.ensures.setup)
    (ends_are_pairs c.args.setup.now.task c.pairs.ensures.task c.args.journal.now c.requires.derivation c.requires.below)
