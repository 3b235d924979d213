use Rattle.std.proofs.Common.{rules, ◌∷◌, Some, sym, ap, ◌∙◌}
use Rattle.atomic_table.specs.Table.{rest}
use Rattle.turn_lock.proofs.Keeps.{draws}
use Rattle.turn_lock.proofs.handles.TurnLock.take.Goals as goal

pub fetch_add-ticket-requires : goal.fetch_add-ticket-requires
fetch_add-ticket-requires g c = (search rules, search rules, draws _ _ _ _ _ _ _ c.requires.out.0 (search rules))

pub exchange-requires : goal.exchange-requires
exchange-requires g c = let came = c.wait_for.ensures.came.2 in (search rules, (Some came.0, came.1 ∙ ap (λ l. (0, Some came.0) ∷ l) (sym (ap rest came.1))))
