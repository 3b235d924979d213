-- The graph that is built of the parts has them, and so the same candidates.
use Rattle.std.proofs.Common.{ℕ, Contains, ◌↔◌}
use Rattle.std.proofs.lemmas.Result.{IfOk-weaker, IfErr-weaker}
use Rattle.chase_laws.specs.Candidate.{IsCandidate, IsCandidateCount}
use Rattle.chase_laws.specs.Pairing.{ArePairedBy}
use Rattle.pair_filter.specs.Depth.{filter_depth}
use Rattle.match_run.specs.Parts.{graph_of_parts, HasPartsOf}
use Rattle.match_run.proofs.OfParts.{of_setup, fewer_too, stop_too}
use Rattle.match_run.proofs.preparing.prepare.Goals as goal

pub returns-clause-graph : goal.returns-clause-graph
returns-clause-graph g c =
    let f = c.in_ok-graph.ensures in
    let parts = graph_of_parts c.args.rows.items c.args.literal.items c.args.rdf_type c.args.alike.items in
    let has : HasPartsOf c.in_ok-graph.graph parts = record { rows = f.rows; literal = f.literal; rdf_type = f.rdf_type; alike = f.alike } in
    of_setup c.in_ok-graph.graph (λ G p. HasPartsOf G parts) c.prepare_graph.result c.prepare_graph.ensures.graph
    (IfOk-weaker c.prepare_graph.result _ _ (λ p e. has) c.prepare_graph.ensures.graph)

pub returns-clause-pairs : goal.returns-clause-pairs
returns-clause-pairs g c =
    of_setup c.in_ok-graph.graph (λ G p. (a b : ℕ) → Contains p.setup.task.pairs (a, b) ↔ (IsCandidate G c.args.patterns.items a b × ArePairedBy G c.args.patterns.items filter_depth a b))
    c.prepare_graph.result c.prepare_graph.ensures.graph c.prepare_graph.ensures.pairs

pub returns-clause-seeded : goal.returns-clause-seeded
returns-clause-seeded g c =
    of_setup c.in_ok-graph.graph (λ G p. IsCandidateCount G c.args.patterns.items p.seeded) c.prepare_graph.result c.prepare_graph.ensures.graph c.prepare_graph.ensures.seeded

pub returns-clause-no_more : goal.returns-clause-no_more
returns-clause-no_more g c =
    let f = c.in_ok-graph.ensures in
    let parts = graph_of_parts c.args.rows.items c.args.literal.items c.args.rdf_type c.args.alike.items in
    fewer_too c.law_rows.ensures.candidate c.in_ok-graph.graph parts c.args.patterns.items c.args.limit
    (record { rows = f.rows; literal = f.literal; rdf_type = f.rdf_type; alike = f.alike }) c.prepare_graph.result c.prepare_graph.ensures.no_more

pub returns-clause-stop : goal.returns-clause-stop
returns-clause-stop g c =
    let f = c.in_ok-graph.ensures in
    let parts = graph_of_parts c.args.rows.items c.args.literal.items c.args.rdf_type c.args.alike.items in
    IfErr-weaker c.prepare_graph.result _ _
    (stop_too c.law_rows.ensures.candidate c.in_ok-graph.graph parts c.args.patterns.items c.args.limit
    (record { rows = f.rows; literal = f.literal; rdf_type = f.rdf_type; alike = f.alike })) c.prepare_graph.ensures.stop
