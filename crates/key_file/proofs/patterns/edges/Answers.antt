use Rattle.std.proofs.Common.{List, ◌∙◌, ◌∷◌, [], ap, arith, length}
use Rattle.std.specs.List.{flat_map}
use Rattle.std.proofs.lemmas.List.{take_all, length-map}
use Rattle.term_table.specs.Numbering.{with_terms}
use Rattle.key_file.specs.declared.edge.KeyEdge.{KeyEdge}
use Rattle.key_file.specs.Compile.{numbered_edge}
use Rattle.key_file.proofs.CompileLemmas.{HasGrown-more, names_more, made_more, room_more, edge_stays, predicates}
use Rattle.key_file.proofs.patterns.edges.Goals as goal

pub number-requires : goal.number-requires
number-requires c =
    let all = ap length (predicates c.args.edges.now) in
    let count = length-map c.args.edges.now (λ (e : KeyEdge). e.pred) in
    let room = room_more (λ (e : KeyEdge). e.pred ∷ []) c.args.names.now c.loop-edge.names c.args.edges.now c.loop-edge.edge-index c.edge-item.result 4294967295
    c.loop-edge-test.true c.edge-item.is c.loop-edge.invariant.names (omega (arith, c.requires.room)) in
    record { room = omega arith }

pub loop-edge-preserved : goal.loop-edge-preserved
loop-edge-preserved c =
    let number = c.in_ok-pred.ensures.number in
    record {
      grown = HasGrown-more c.args.names.now c.loop-edge.names c.number.new.names c.loop-edge.invariant.grown c.number.ensures.grown;
      names = names_more numbered_edge (λ (e : KeyEdge). e.pred ∷ []) edge_stays c.args.names.now c.loop-edge.names c.number.new.names c.args.edges.now c.loop-edge.edge-index c.edge-item.result
          c.loop-edge-test.true c.edge-item.is c.loop-edge.invariant.names c.in_ok-pred.ensures.names;
      made = made_more numbered_edge (λ (e : KeyEdge). e.pred ∷ []) edge_stays c.args.names.now c.loop-edge.names c.number.new.names c.args.edges.now c.loop-edge.edge-index c.edge-item.result
          (record { from = c.edge-item.result.from; pred = c.in_ok-pred.pred; to = c.edge-item.result.to })
          c.loop-edge.made.items c.push.new.self.items c.loop-edge-test.true c.edge-item.is c.loop-edge.invariant.names c.in_ok-pred.ensures.names
          c.loop-edge.invariant.made (λ i. record { from = c.edge-item.result.from; pred = number i; to = c.edge-item.result.to }) c.in_ok-push.ensures.items;
    }

pub returns-clause-names : goal.returns-clause-names
returns-clause-names c =
    c.loop-edge.invariant.names
    ∙ ap (λ (es : List KeyEdge). with_terms c.args.names.now (flat_map (λ (e : KeyEdge). e.pred ∷ []) es)) (take_all c.loop-edge.edge-index c.args.edges.now (omega arith))
    ∙ ap (with_terms c.args.names.now) (predicates c.args.edges.now)
