-- What was identified over fewer rows, over more.
use Rattle.std.proofs.Common.{List, All, Contains, get_or, take, ◌<◌}
use Rattle.std.proofs.lemmas.Option.{slice_get-get_or}
use Rattle.chase_laws.specs.declared.entry.Entry.{Entry}
use Rattle.chase_laws.specs.Shape.{Shape}
use Rattle.chase_laws.specs.Graph.{NumberedGraph}
use Rattle.chase_laws.specs.Joined.{links}
use Rattle.chase_laws.specs.Chase.{IsDerivation, IsStep, IsAble}
use Rattle.chase_laws.specs.Core.{Task, IsTask}

-- a step identifies an able pair, where its first end is below its second
able_ends : (G : NumberedGraph) (K : List Shape) (H : List Entry) (e : Entry) → IsStep G K H e → e.a < e.b → IsAble G K e.a e.b
able_ends G K H e step below = (
  below,
  (links H, record { key = e.key; pattern = step.pattern; found = step.key; left = e.left; right = e.right; witness = step.witness }),
)

-- so the ends of a derivation's entries are pairs of each task over its graph and keys
pub ends_are_pairs : (T : Task) → IsTask T → (H : List Entry) → IsDerivation T.graph T.patterns H → All (λ e. e.a < e.b) H → All (λ e. Contains T.pairs (e.a, e.b)) H
ends_are_pairs T ok H derivation below = λ k d within.
    let e : Entry = get_or H k d in
    ok.able e.a e.b (able_ends T.graph T.patterns (take k H) e (derivation k e (slice_get-get_or H k d within)) (below k d within))
