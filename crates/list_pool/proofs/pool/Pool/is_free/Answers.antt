use Rattle.std.proofs.Common.{◌∙◌, ap, sym, subst, length, ◌<◌, ◌≡◌, ◌↔◌, arith, false, true, not, get_or}
use Rattle.std.proofs.lemmas.List.{get_or-map}
use Rattle.list_pool.specs.Pool.{Lists, IsFree}
use Rattle.list_pool.specs.Linked.{lists_of, flags}
use Rattle.list_pool.proofs.Looks.{cell_read}
use Rattle.list_pool.proofs.Shown.{free_from_flag}
use Rattle.list_pool.proofs.pool.Pool.is_free.Goals as goal

pub returns : goal.returns
returns c =
    let cells = c.self.inside.cells.items in
    let lists = c.self.inside.lists.items in
    let within : c.args.cell < length cells = omega (arith, ap (λ (v : Lists). v.cells) c.self.view_is, c.requires) in
    let read = cell_read cells c.args.cell c.index.result.now within c.index.ensures in
    let flag : c.index.result.now.held ≡ get_or (flags cells) c.args.cell false = ap (λ k. k.held) read ∙ sym (get_or-map (λ k. k.held) cells c.args.cell _ false within) in
    subst (λ (v : Lists). (not c.index.result.now.held ≡ true) ↔ IsFree v.lists c.args.cell) c.self.view_is
    (free_from_flag cells lists c.self.inside.spare (lists_of cells lists) c.self.invariant c.args.cell c.index.result.now.held flag)
