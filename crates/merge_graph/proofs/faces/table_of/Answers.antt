use Rattle.std.proofs.Common.{refl}
use Rattle.term_text.specs.CanonicalText.{texts_of}
use Rattle.merge_graph.proofs.FaceLemmas.{keeps_more}
use Rattle.merge_graph.proofs.faces.table_of.Goals as goal

pub loop-place-preserved : goal.loop-place-preserved
loop-place-preserved c =
    keeps_more (texts_of c.args.names.now) c.args.labels.now c.loop-place.place c.loop-place.table c.see.new.table _ refl c.loop-place.invariant c.in_ok-see.ensures
