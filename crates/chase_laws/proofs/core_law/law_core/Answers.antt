-- Each clause is a lemma.
use Rattle.chase_laws.specs.Core.{opening}
use Rattle.chase_laws.proofs.ChaseLaws.{chase}
use Rattle.chase_laws.proofs.CoreEvents.{opening_sound, happens_sound, run_sound}
use Rattle.chase_laws.proofs.CoreEnd.{finished_closed, view_joined, found_step, room_left}
use Rattle.chase_laws.proofs.core_law.law_core.Goals as goal

pub returns-clause-run : goal.returns-clause-run
returns-clause-run c = λ T ok events S run. run_sound T ok events (opening T) S (opening_sound T) run

pub returns-clause-finished : goal.returns-clause-finished
returns-clause-finished c = λ T ok S sound done.
    let closed = finished_closed T ok S sound done in
    (closed, (λ a b. let same = chase T.graph T.patterns S.journal sound.derivation closed a b in (same.1, same.0)))

pub returns-clause-opening : goal.returns-clause-opening
returns-clause-opening c = opening_sound

pub returns-clause-event : goal.returns-clause-event
returns-clause-event c = happens_sound

pub returns-clause-shown : goal.returns-clause-shown
returns-clause-shown c = view_joined

pub returns-clause-found : goal.returns-clause-found
returns-clause-found c = found_step

pub returns-clause-room : goal.returns-clause-room
returns-clause-room c = room_left
