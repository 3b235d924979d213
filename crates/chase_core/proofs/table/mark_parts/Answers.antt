-- A pair that was Ready leaves the list.
use Rattle.std.proofs.Common.{sym, ◌∙◌, ap, subst, slice_set}
use Rattle.list_pool.specs.Pool.{Lists, list_at, without}
use Rattle.chase_laws.specs.declared.pair_state.PairState.TheVariants as state
use Rattle.chase_core.specs.Inner.{AreStandings}
use Rattle.chase_core.proofs.Tables.{listed, mark_ready, mark_other, ready_stands, other_stands_not, without_none, stands_read, stands_not}
use Rattle.chase_core.proofs.table.mark_parts.Goals as goal
use Rattle.chase_core.proofs.table.mark_parts.Goals.{in-Ready, in_default}

pub remove-requires-clause-stands : goal.remove-requires-clause-stands
remove-requires-clause-stands c =
    ready_stands c.args.states.now.items c.args.waiting.now.lists c.args.waiting.now.cells c.requires.table c.args.pair c.requires.pair
    (stands_read c.args.states.now.items c.args.pair c.index.result.now state.Ready c.requires.pair c.index.ensures c.in-Ready.is)

pub returns-clause-table : goal.returns-clause-table
returns-clause-table c =
    let states = c.args.states.now.items in
    let old = c.args.waiting.now in
    elim c.match-index.branch [
      | in-Ready w ↦ mark_ready states old.lists old.cells c.requires.table c.args.pair c.requires.pair c.args.to c.requires.other c.match-index.waiting.lists c.match-index.waiting.cells
          (ap (λ (p : Lists). p.lists) w.waiting-is ∙ w.remove.ensures.lists) (ap (λ (p : Lists). p.cells) w.waiting-is ∙ w.remove.ensures.cells)
      | in_default w ↦ subst (λ (p : Lists). AreStandings (slice_set states c.args.pair c.args.to) p.lists p.cells) (sym w.waiting-is)
          (mark_other states old.lists old.cells c.requires.table c.args.pair c.requires.pair c.args.to c.requires.other
          (stands_not states c.args.pair c.index.result.now state.Ready c.requires.pair c.index.ensures w.in_default.not-Ready))
    ]

pub returns-clause-ready : goal.returns-clause-ready
returns-clause-ready c =
    let states = c.args.states.now.items in
    let old = c.args.waiting.now in
    elim c.match-index.branch [
      | in-Ready w ↦ ap (λ (p : Lists). list_at p.lists 0) w.waiting-is ∙ ap (λ ls. list_at ls 0) w.remove.ensures.lists
          ∙ listed states old.lists old.cells c.requires.table c.args.pair c.requires.pair (without (list_at old.lists 0) c.args.pair)
      | in_default w ↦ ap (λ (p : Lists). list_at p.lists 0) w.waiting-is ∙ sym (without_none (list_at old.lists 0) c.args.pair
          (other_stands_not states old.lists old.cells c.requires.table c.args.pair c.requires.pair
          (stands_not states c.args.pair c.index.result.now state.Ready c.requires.pair c.index.ensures w.in_default.not-Ready)))
    ]
