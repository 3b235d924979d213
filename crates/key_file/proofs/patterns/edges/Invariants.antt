-- The edges before are numbered and made.
use Rattle.std.proofs.Common.{[], ◌∷◌, ◌≡◌, map, take}
use Rattle.std.specs.List.{flat_map}
use Rattle.term_table.specs.Numbering.{with_terms}
use Rattle.key_file.specs.declared.edge.KeyEdge.{KeyEdge}
use Rattle.key_file.specs.Compile.{numbered_edge, HasMoreNames}
use Rattle.key_file.proofs.patterns.edges.Given as goal

abbrev pub invariant-loop-edge : goal.invariant-loop-edge
invariant-loop-edge l = record {
  grown : HasMoreNames l.initial.names l.names;
  names : l.names ≡ with_terms l.initial.names (flat_map (λ (e : KeyEdge). e.pred ∷ []) (take l.edge-index l.edges));
  made : l.made.items ≡ map (numbered_edge l.names) (take l.edge-index l.edges);
}
