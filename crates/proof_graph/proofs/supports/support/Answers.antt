use Rattle.std.proofs.Common.{◌<◌, nat_eq, IsTrue, All, length, take, subst}
use Rattle.std.proofs.lemmas.List.{length-take-le}
use Rattle.chase_laws.specs.Joined.{links}
use Rattle.proof_file.specs.Leads.{links_lead}
use Rattle.proof_file.specs.Steps.{NoneTwice}
use Rattle.proof_graph.specs.Way.{way}
use Rattle.proof_graph.proofs.SupportLemmas.{of_places, way_leads, way_below, way_once}
use Rattle.proof_graph.proofs.supports.support.Goals as goal

pub returns-clause-leads : goal.returns-clause-leads
returns-clause-leads c =
    let H = take c.args.upto c.args.journal.now in
    of_places (λ v. v.items) (λ places. IsTrue (links_lead nat_eq (links H) places c.args.a c.args.b)) H c.args.a c.args.b c.way_of.result c.way_of.ensures.some c.way_of.ensures.way
    (λ h. way_leads H c.args.a c.args.b h)

pub returns-clause-below : goal.returns-clause-below
returns-clause-below c =
    let H = take c.args.upto c.args.journal.now in
    let n = length-take-le c.args.upto c.args.journal.now c.requires in
    of_places (λ v. v.items) (All (λ p. p < c.args.upto)) H c.args.a c.args.b c.way_of.result c.way_of.ensures.some c.way_of.ensures.way
    (λ h. subst (λ m. All (λ p. p < m) (way (links H) (length H) c.args.a c.args.b)) n (way_below H c.args.a c.args.b h))

pub returns-clause-once : goal.returns-clause-once
returns-clause-once c =
    let H = take c.args.upto c.args.journal.now in
    of_places (λ v. v.items) NoneTwice H c.args.a c.args.b c.way_of.result c.way_of.ensures.some c.way_of.ensures.way
    (λ h. way_once H c.args.a c.args.b h)
