-- A pair that was not Ready goes to the end of the list.
use Rattle.std.proofs.Common.{sym, ◌∙◌, ap, refl, ◌++◌, ◌∷◌, []}
use Rattle.list_pool.specs.Pool.{list_at}
use Rattle.chase_laws.specs.declared.pair_state.PairState.TheVariants as state
use Rattle.chase_core.proofs.Tables.{listed, push_other, other_stands_not, only_list, stands_read, stands_not, set_same}
use Rattle.chase_core.proofs.table.make_ready_parts.Goals as goal

pub push_back-requires-clause-free : goal.push_back-requires-clause-free
push_back-requires-clause-free c =
    let states = c.args.states.now.items in
    let old = c.args.waiting.now in
    only_list old.lists c.args.pair c.requires.table.one_list
    (other_stands_not states old.lists old.cells c.requires.table c.args.pair c.requires.pair
    (stands_not states c.args.pair c.index.result.now state.Ready c.requires.pair c.index.ensures c.in_default.not-Ready))

pub returns-in-Ready : goal.returns-in-Ready
returns-in-Ready c =
    let states = c.args.states.now.items in
    let stands = stands_read states c.args.pair c.index.result.now state.Ready c.requires.pair c.index.ensures c.in-Ready.is in
    record {
      table = c.requires.table;
      states = sym (set_same states c.args.pair state.Ready stands);
      kept = λ e. refl;
      last = λ e. absurd (e stands);
    }

pub returns : goal.returns
returns c =
    let states = c.args.states.now.items in
    let old = c.args.waiting.now in
    let new = c.push_back.new.self in
    let other = stands_not states c.args.pair c.index.result.now state.Ready c.requires.pair c.index.ensures c.in_default.not-Ready in
    record {
      table = push_other states old.lists old.cells c.requires.table c.args.pair c.requires.pair other new.lists new.cells c.push_back.ensures.lists c.push_back.ensures.cells;
      states = refl;
      kept = λ e. absurd (other e);
      last = λ e. ap (λ ls. list_at ls 0) c.push_back.ensures.lists
          ∙ listed states old.lists old.cells c.requires.table c.args.pair c.requires.pair (list_at old.lists 0 ++ c.args.pair ∷ []);
    }
