-- A key as contracts see it.
use Rattle.std.specs.Prelude.{List, ℕ}
use Rattle.key_file.specs.declared.slot.KeySlot.{KeySlot}
use Rattle.key_file.specs.declared.edge.KeyEdge.{KeyEdge}

-- A key with its name ("Keys for Graphs", section 2: Q(x)). The nodes of its pattern are slots, of which slot 0 is the
-- designated variable x, and its triples are edges between slots.
pub record KeyShape : Type 0 where
  pub name : List ℕ
  pub slots : List KeySlot
  pub edges : List KeyEdge
