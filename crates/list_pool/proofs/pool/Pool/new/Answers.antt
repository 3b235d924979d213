use Rattle.std.proofs.Common.{◌<◌, ◌^◌, [], replicate, arith}
use Rattle.list_pool.specs.Linked.{IsPool}
use Rattle.list_pool.proofs.Walks.{shown}
use Rattle.list_pool.proofs.Fresh.{fresh}
use Rattle.list_pool.proofs.pool.Pool.new.Goals as goal

pub invariant_of-result : goal.invariant_of-result
invariant_of-result c =
    let few : c.args.cells < 2 ^ 32 = omega arith in
    let made : IsPool c.in_ok-free_cells.field-0.items c.in_ok-empty_lists.field-0.items c.args.cells (replicate c.args.lists []) =
    rw (c.in_ok-free_cells.ensures, c.in_ok-empty_lists.ensures) (fresh c.args.cells c.args.lists few) in
    rw (shown c.in_ok-free_cells.field-0.items c.in_ok-empty_lists.field-0.items c.args.cells (replicate c.args.lists []) made) made

pub returns-clause-lists : goal.returns-clause-lists
returns-clause-lists c =
    let few : c.args.cells < 2 ^ 32 = omega arith in
    let made : IsPool c.in_ok-free_cells.field-0.items c.in_ok-empty_lists.field-0.items c.args.cells (replicate c.args.lists []) =
    rw (c.in_ok-free_cells.ensures, c.in_ok-empty_lists.ensures) (fresh c.args.cells c.args.lists few) in
    shown c.in_ok-free_cells.field-0.items c.in_ok-empty_lists.field-0.items c.args.cells (replicate c.args.lists []) made
