use Rattle.std.proofs.Common.{◌≡◌, ◌<◌, length, get_or, sym, ◌∙◌, subst, arith}
use Rattle.std.proofs.lemmas.List.{length-map}
use Rattle.term_text.specs.CanonicalText.{term_text, texts_of}
use Rattle.merge_graph.specs.Faces.{kept_face}
use Rattle.merge_graph.specs.MergedGraph.{same_label, IsFace}
use Rattle.merge_graph.proofs.FaceLemmas.{entry_face}
use Rattle.merge_graph.proofs.faces.faces.Goals as goal

pub returns : goal.returns
returns c =
    let names = c.args.names.now in
    let texts = texts_of names in
    let labels = c.args.labels.now in
    let faces = c.loop-place.faces.items in
    let long : length texts ≡ length names = length-map names term_text in
    let all : c.loop-place.place ≡ length names = omega (arith, c.loop-place-test.false, c.loop-place.auto.place-end, c.len-place-end.ensures.len) in
    record {
      one_each = c.loop-place.invariant.0 ∙ (all ∙ sym long);
      each = λ n l.
          let below : n < length names = omega (arith, l, long) in
          subst (IsFace texts (same_label labels) n) (sym (c.loop-place.invariant.1 n (omega (arith, below, all))))
          (entry_face texts labels n (kept_face c.in_ok-table.table (get_or labels n 0)) (c.requires ∙ sym long) (omega (arith, below, c.requires)) (c.in_ok-table.ensures.entry (get_or labels n 0)));
    }
