-- The two tables have the rows.
use Rattle.std.proofs.Common.{[], ◌∷◌, Contains}
use Rattle.typed_graph.proofs.KeptTypes.{true_by_rows}
use Rattle.typed_graph.proofs.graph.assembled.Goals as goal

pub invariant_of-result : goal.invariant_of-result
invariant_of-result c =
    let rows = c.args.sorted.rows.items in
    record {
      ascending = c.requires.ascending;
      three = c.requires.three;
      forward = c.requires.forward;
      backward = c.requires.backward;
      graph = c.requires.named;
      folding = c.requires.folding;
      typed = c.requires.types.count;
      types = λ n d h. true_by_rows c.args.sorted.forward (λ m p t. Contains rows (m ∷ p ∷ t ∷ [])) c.requires.forward c.args.rdf_type _ n (c.requires.types.each n d h);
      type_named = c.requires.type_named;
      few = c.requires.few;
    }
