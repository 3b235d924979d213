-- A take is an event.
use Rattle.std.proofs.Common.{refl}
use Rattle.chase_core.specs.Running.{running_with}
use Rattle.chase_core.specs.Taking.{pair_of}
use Rattle.chase_core.proofs.Draining.{all_apart}
use Rattle.chase_core.proofs.Events.{taken_event, kept_by}
use Rattle.chase_core.proofs.chase.Chase.take_unseen.Goals as goal

pub invariant_of-self : goal.invariant_of-self
invariant_of-self c =
    let S = c.self.inside.setup.now in
    let book = c.self.inside.book in
    let event = taken_event (running_with S book c.self.inside.table) (running_with S book c.take_parts.new.table) c.args.hint (pair_of c.take_parts.result) c.take_parts.ensures.takes in
    kept_by c.law_core.ensures.event S book book c.self.inside.table c.take_parts.new.table _ _ c.self.invariant event.0 event.1 refl refl

pub returns-clause-apart : goal.returns-clause-apart
returns-clause-apart c =
    let S = c.self.inside.setup.now in
    let book = c.self.inside.book in
    all_apart (running_with S book c.self.inside.table) (running_with S book c.take_parts.new.table) c.args.hint c.take_parts.result refl c.take_parts.ensures.takes c.take_parts.ensures.ends
