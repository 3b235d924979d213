-- The passes of the new lock have the setup and the board for their base.
use Rattle.std.proofs.Common.{◌≡◌, sym, subst}
use Rattle.chase_laws.specs.Core.{name_count}
use Rattle.label_board.specs.Seen.{SeenBoard}
use Rattle.steal_pool.specs.Bases.{Base, base_with}
use Rattle.steal_pool.specs.CrewMembers.{AllOutWith}
use Rattle.steal_pool.proofs.Passes.{all_out_with}
use Rattle.steal_pool.proofs.crew.Crew.new.Goals as goal

pub assemble-requires-clause-parts : goal.assemble-requires-clause-parts
assemble-requires-clause-parts c =
    let S = c.args.chase.setup in
    let p = c.in-Ok.parts in
    let on : SeenBoard = p.board in
    let names : name_count S.task ≡ on.names = sym c.in-Ok.ensures.names in
    let same : base_with S p.scribe.board ≡ (S, on) = λ i. (S, record { id = c.in-Ok.ensures.scribe i; names = names i }) in (
      S,
      subst (λ (B : Base). AllOutWith c.in-Ok-new.lock B c.in-Ok-new.passes.items) same (all_out_with (base_with S p.scribe.board) c.in-Ok-new.lock c.in-Ok-new.passes.items c.in-Ok-new.ensures.passes.1 (λ k q e. (c.in-Ok-new.ensures.new k q e).based)),
      c.in-Ok.ensures.workspaces,
    )
