use Rattle.std.proofs.Common.{[], cond, ap, length, ◌≡◌, arith}
use Rattle.std.proofs.lemmas.List.{length-map}
use Rattle.chase_laws.specs.Report.{text_at}
use Rattle.term_text.specs.CanonicalText.{term_text, texts_of}
use Rattle.merge_graph.proofs.RankLemmas.{texts_step, texts_all}
use Rattle.merge_graph.proofs.name_texts.texts_of_marked.Goals as goal

pub loop-place-preserved : goal.loop-place-preserved
loop-place-preserved c =
    texts_step (texts_of c.args.names.now) c.args.marks.now c.loop-place.place c.loop-place.bytes.items c.loop-place.starts.items _ _ _ c.len-in-loop-place.result c.loop-place.invariant
    c.in_ok-put_marked.ensures c.in_ok-push-2.ensures.items (omega arith) (λ m. ap (λ b. cond b (text_at (texts_of c.args.names.now) c.loop-place.place) []) m)

pub returns : goal.returns
returns c =
    let long : length (texts_of c.args.names.now) ≡ length c.args.names.now = length-map c.args.names.now term_text in
    texts_all (texts_of c.args.names.now) c.args.marks.now c.loop-place.place _ (omega (arith, long, c.loop-place-test.false, c.len-place-end.ensures.len)) c.loop-place.invariant
