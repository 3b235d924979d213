-- What is the same by the view is joined, so what was found is a step.
use Rattle.std.proofs.Common.{List, ℕ, IsTrue, subst}
use Rattle.chase_laws.specs.declared.entry.Entry.{Entry}
use Rattle.chase_laws.specs.Joined.{Joined}
use Rattle.chase_laws.specs.View.{same_by}
use Rattle.chase_core.specs.declared.ticket.Outcome.TheVariants.{Found}
use Rattle.chase_core.specs.Running.{state_in}
use Rattle.steal_pool.proofs.Wakings.{woken_within}
use Rattle.steal_pool.proofs.shared.Shared.settle_found.Goals as goal

pub returns-in-Entered-clause-woken : goal.returns-in-Entered-clause-woken
returns-in-Entered-clause-woken c = woken_within _ c.args.self.now.chase c.settle-settled.new.self c.args.ticket.pair c.settle-settled.result c.args.woken.now.room c.settle-settled.new.woken.list c.holds.ensures.running.sound.one_state_each c.settle-settled.ensures.woken

pub returns-in_default-clause-woken : goal.returns-in_default-clause-woken
returns-in_default-clause-woken c = woken_within _ c.args.self.now.chase c.settle-settled.new.self c.args.ticket.pair c.settle-settled.result c.args.woken.now.room c.settle-settled.new.woken.list c.holds.ensures.running.sound.one_state_each c.settle-settled.ensures.woken

pub settle-settled-requires-clause-outcome : goal.settle-settled-requires-clause-outcome
settle-settled-requires-clause-outcome c =
    let s = c.args.self.now in
    let view = c.args.view.now.pairs in
    let joined = subst (λ (es : List Entry). (m n : ℕ) → IsTrue (same_by view m n) → Joined es m n) s.posted
    (subst (λ (read : List (ℕ × ℕ)). (m n : ℕ) → IsTrue (same_by read m n) → Joined s.scribe.posted m n) c.requires.watcher.1 c.meet_scribe.ensures.joined) in
    c.law_held.ensures.right s.chase.setup.task (state_in s.chase) c.args.ticket view (Found c.args.finding.now)
    (record { ends = c.requires.ends; near = c.requires.near; joined = joined }) c.requires.found
