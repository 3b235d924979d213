use Rattle.std.proofs.Common.{◌≡◌, ◌+◌, ◌-◌, ◌++◌, take, arith, sym, ap, ◌∙◌, append-nil}
use Rattle.std.specs.List.{flat_map}
use Rattle.term_text.specs.Escaping.{written_byte}
use Rattle.term_text.proofs.AppendLemmas.{begins_then, run_passed, byte_escaped}
use Rattle.term_text.proofs.escapes.put_escaped.Goals as goal

pub loop-end-init : goal.loop-end-init
loop-end-init c =
    let inside = c.args.inside in
    let text = c.args.text.now in
    let old = c.args.buf.now.items in
    let whole : c.run-end.result ≡ c.run-end.result - 0 = omega arith in
    record {
      in_range = c.run-end.ensures.in_range;
      stops = c.run-end.ensures.stops;
      text = run_passed inside old old c.put.new.buf.items text 0 c.run-end.result c.run-end.ensures (sym (append-nil old)) (c.in_ok-put.ensures.ok ∙ ap (λ n. old ++ take n text) whole);
      kept = c.in_ok-put.ensures.kept;
    }

pub loop-end-preserved : goal.loop-end-preserved
loop-end-preserved c =
    let inside = c.args.inside in
    let text = c.args.text.now in
    let old = c.args.buf.now.items in
    let end = c.loop-end.end in
    let escaped : c.put_escape.new.buf.items ≡ old ++ flat_map (written_byte inside) (take (end + 1) text) =
    byte_escaped (written_byte inside) old c.loop-end.buf.items c.put_escape.new.buf.items text end c.loop-end-test.true c.loop-end.invariant.text c.in_ok-put_escape.ensures.ok in
    record {
      in_range = c.run-end-in-loop-end.ensures.in_range;
      stops = c.run-end-in-loop-end.ensures.stops;
      text = run_passed inside old c.put_escape.new.buf.items c.put-in-loop-end.new.buf.items text (end + 1) c.run-end-in-loop-end.result c.run-end-in-loop-end.ensures escaped c.in_ok-put-2.ensures.ok;
      kept = begins_then c.loop-end.invariant.kept (begins_then c.in_ok-put_escape.ensures.kept c.in_ok-put-2.ensures.kept);
    }
