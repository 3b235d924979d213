-- The marks at the end are those of walks of as many edges as there are slots.
use Rattle.std.proofs.Common.{length, ◌≡◌, ◌∙◌, ap, arith, subst, sym}
use Rattle.std.specs.List.{list_all}
use Rattle.chase_laws.specs.Shape.{marks, AllWithin}
use Rattle.key_file.specs.Key.{outline}
use Rattle.key_file.proofs.KeyLemmas.{length-outline, connected_within, within_connected}
use Rattle.key_file.proofs.WalkLemmas.{marks_taken}
use Rattle.key_file.proofs.walks.is_connected.Goals as goal

pub loop-walk-init : goal.loop-walk-init
loop-walk-init c = c.first_marks-marks.ensures c.args.edges.now

pub returns-clause-test : goal.returns-clause-test
returns-clause-test c =
    let all : c.loop-walk._walk ≡ c.args.slots = omega (arith, c.loop-walk-test.false, c.loop-walk.auto._walk-end) in
    c.are_all.ensures
    ∙ ap (list_all (λ m. m))
    (marks_taken c.args.slots c.args.edges.now c.loop-walk._walk c.loop-walk.marks (omega (arith, c.requires, c.loop-walk-test.array_long)) c.loop-walk.invariant
    ∙ ap (marks (outline c.args.slots c.args.edges.now)) all)

pub returns-clause-walks : goal.returns-clause-walks
returns-clause-walks c =
    let Q = outline c.args.slots c.args.edges.now in
    let count : length Q.slots ≡ c.args.slots = length-outline c.args.slots c.args.edges.now in
    let all = c.law_pattern.ensures.connected Q in (
      (λ h. all.1 (subst (AllWithin Q) (sym count) (connected_within c.args.slots c.args.edges.now (sym (returns-clause-test c) ∙ h)))),
      (λ h. returns-clause-test c ∙ within_connected c.args.slots c.args.edges.now (subst (AllWithin Q) count (all.0 h))),
    )
