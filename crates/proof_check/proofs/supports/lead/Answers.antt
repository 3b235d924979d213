use Rattle.std.proofs.Common.{◌-◌, ◌+◌, nat_eq, get_or, drop, arith, sym, ap, ◌∙◌}
use Rattle.std.proofs.lemmas.Option.{slice_get-get_or}
use Rattle.proof_file.specs.Leads.{end_along, arrives}
use Rattle.proof_file.specs.Tells.{places_of}
use Rattle.proof_check.proofs.StepLemmas.{lead_step, end_along_nowhere}
use Rattle.proof_check.proofs.supports.lead.Goals as goal

pub returns-in-None : goal.returns-in-None
returns-in-None c =
    let i = c.loop-n.n-index in
    let steps = c.args.steps.now in
    let ends = c.args.ends.now in
    let l = c.loop-n-test.true in
    let r = c.requires i 0 l in
    let lo = r.0 in
    let hi = r.1 in
    let at = slice_get-get_or ends (get_or steps i 0 - 1) (0, 0) (omega arith) in
    sym (c.loop-n.invariant ∙ lead_step ends steps i c.loop-n.at c.args.to (get_or ends (get_or steps i 0 - 1) (0, 0)) l at
    ∙ ap (λ o. arrives nat_eq (end_along nat_eq ends (places_of (drop (i + 1) steps)) o) c.args.to) (sym c.in-None.ensures) ∙ end_along_nowhere ends (places_of (drop (i + 1) steps)) c.args.to)

pub loop-n-preserved : goal.loop-n-preserved
loop-n-preserved c =
    let i = c.loop-n.n-index in
    let steps = c.args.steps.now in
    let ends = c.args.ends.now in
    let l = c.loop-n-test.true in
    let r = c.requires i 0 l in
    let lo = r.0 in
    let hi = r.1 in
    let at = slice_get-get_or ends (get_or steps i 0 - 1) (0, 0) (omega arith) in
    c.loop-n.invariant ∙ lead_step ends steps i c.loop-n.at c.args.to (get_or ends (get_or steps i 0 - 1) (0, 0)) l at
    ∙ ap (λ o. arrives nat_eq (end_along nat_eq ends (places_of (drop (i + 1) steps)) o) c.args.to) (sym c.in-Some.ensures)
