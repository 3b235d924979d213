-- The lines are those of the images, each once, and the faces are those of the labels.
use Rattle.std.proofs.Common.{List, map, subst}
use Rattle.std.proofs.lemmas.List.{length-map}
use Rattle.std.proofs.lemmas.List.Elements.{All-contains}
use Rattle.gk_base.specs.declared.term.Triple.{Triple}
use Rattle.term_text.specs.CanonicalText.{term_text, texts_of}
use Rattle.merge_graph.specs.MergedGraph.{image, ListsOnce}
use Rattle.merge_graph.proofs.ListedLemmas.{Printed, printed, own_images}
use Rattle.merge_graph.proofs.LineLemmas.{IsSayable}
use Rattle.merge_graph.proofs.ReadLemmas.{said_again, images_sayable}
use Rattle.merge_graph.proofs.merging.merge.Goals as goal

pub returns-clause-merged : goal.returns-clause-merged
returns-clause-merged c =
    let p : Printed c.args.names.now c.in_ok-faces.faces.items c.args.rows.now c.from_vec.result =
    printed _ _ c.deref.result.now _ _ c.in_ok-merged_lines.field-0.items c.deref.ensures.value c.in_ok-merged_lines.ensures c.from_vec.ensures in
    record {
      listed = p.listed;
      merged = record { faces = c.in_ok-faces.faces.items; are_faces = c.in_ok-faces.ensures; once = p.once };
      whole = p.whole;
    }

pub returns-clause-unmerged : goal.returns-clause-unmerged
returns-clause-unmerged c = λ apart.
    let names = c.args.names.now in
    let p : Printed names c.in_ok-faces.faces.items c.args.rows.now c.from_vec.result =
    printed _ _ c.deref.result.now _ _ c.in_ok-merged_lines.field-0.items c.deref.ensures.value c.in_ok-merged_lines.ensures c.from_vec.ensures in
    record {
      listed = p.listed;
      once = subst (λ (ts : List Triple). ListsOnce ts p.listed)
          (own_images names (texts_of names) c.args.labels.now c.in_ok-faces.faces.items c.args.rows.now (length-map names term_text) c.requires.one_each c.in_ok-faces.ensures c.requires.rows apart) p.once;
      whole = p.whole;
    }

pub returns-clause-read_back : goal.returns-clause-read_back
returns-clause-read_back c = λ can.
    let names = c.args.names.now in
    let faces = c.in_ok-faces.faces.items in
    let p : Printed names faces c.args.rows.now c.from_vec.result =
    printed _ _ c.deref.result.now _ _ c.in_ok-merged_lines.field-0.items c.deref.ensures.value c.in_ok-merged_lines.ensures c.from_vec.ensures in
    let sayable = images_sayable names (texts_of names) c.args.labels.now faces c.args.rows.now (length-map names term_text) c.in_ok-faces.ensures c.requires.rows can in
    record {
      listed = p.listed;
      merged = record { faces = faces; are_faces = c.in_ok-faces.ensures; once = p.once };
      whole = p.whole;
      reads = said_again p.listed c.from_vec.result (λ k d l. All-contains IsSayable (map (image names faces) c.args.rows.now) _ sayable (p.once.only k d l)) p.whole;
    }
