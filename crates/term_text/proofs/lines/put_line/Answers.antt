use Rattle.std.proofs.Common.{◌++◌, arith, None, ap, sym, ◌∙◌, append-nil}
use Rattle.term_text.specs.Lines.{class_text}
use Rattle.term_text.proofs.LineSteps.{class_next, class_last, link_read, text_read, text_begun, text_more, text_ended}
use Rattle.term_text.proofs.lines.put_line.Goals as goal

pub returns-in_default : goal.returns-in_default
returns-in_default c =
    let links = c.args.links.now in
    let members = c.args.members.now in
    let place = c.args.place in
    let linked = c.requires.linked in
    let inside = c.requires.in_range in
    let alone = class_last links members place linked inside (link_read links members place _ None linked inside c.index.ensures c.in_default.is) in
    sym (ap (λ ms. c.args.out.now.items ++ class_text ms) alone ∙ append-nil c.args.out.now.items)

pub loop-out-init : goal.loop-out-init
loop-out-init c =
    let links = c.args.links.now in
    let members = c.args.members.now in
    let place = c.args.place in
    let linked = c.requires.linked in
    let inside = c.requires.in_range in
    let follows = class_next links members place c.in-Some.following linked inside (link_read links members place _ _ linked inside c.index.ensures c.in-Some.is) in
    record {
      in_range = follows.in_range;
      same = follows.same;
      text = text_begun members place c.in-Some.following _ _ follows (c.in_ok-extend_from_slice.ensures.items ∙ ap (λ v. c.args.out.now.items ++ v) (text_read members place _ _ inside c.bytes.ensures));
    }

pub loop-out-smaller : goal.loop-out-smaller
loop-out-smaller c =
    let links = c.args.links.now in
    let members = c.args.members.now in
    let linked = c.requires.linked in
    let inside = c.loop-out.invariant.in_range in
    let follows = class_next links members c.loop-out.following c.in-Some-index.further linked inside (link_read links members c.loop-out.following _ _ linked inside c.index-in-loop-out.ensures c.in-Some-index.is) in
    omega (arith, follows.later, follows.in_range)

pub loop-out-preserved : goal.loop-out-preserved
loop-out-preserved c =
    let links = c.args.links.now in
    let members = c.args.members.now in
    let linked = c.requires.linked in
    let inside = c.loop-out.invariant.in_range in
    let at = c.loop-out.following in
    let follows = class_next links members at c.in-Some-index.further linked inside (link_read links members at _ _ linked inside c.index-in-loop-out.ensures c.in-Some-index.is) in
    record {
      in_range = follows.in_range;
      same = follows.same ∙ c.loop-out.invariant.same;
      text = text_more members at c.in-Some-index.further _ _ _ _ follows c.in_ok-push.ensures.items (c.in_ok-extend_from_slice-2.ensures.items ∙ ap (λ v. c.push.new.self.items ++ v) (text_read members at _ _ inside c.bytes-in-loop-out.ensures)) c.loop-out.invariant.text;
    }

pub returns : goal.returns
returns c =
    let links = c.args.links.now in
    let members = c.args.members.now in
    let linked = c.requires.linked in
    let inside = c.loop-out.invariant.in_range in
    let at = c.loop-out.following in
    let alone = class_last links members at linked inside (link_read links members at _ None linked inside c.index-in-loop-out.ensures c.in-None.is) in
    text_ended members at _ _ _ _ _ alone c.in_ok-push.ensures.items (c.in_ok-extend_from_slice-2.ensures.items ∙ ap (λ v. c.push.new.self.items ++ v) (text_read members at _ _ inside c.bytes-in-loop-out.ensures)) c.in_ok-push-2.ensures.items c.loop-out.invariant.text
