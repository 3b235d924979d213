-- One name more is shown, and the lists go on behind it.
use Rattle.std.proofs.Common.{sym, subst, ◌∙◌, arith}
use Rattle.paired_search.specs.Both.{IsWalkedTo}
use Rattle.paired_search.proofs.CallerLemmas.{walked_all, walked_more}
use Rattle.chase_core.proofs.Showing.{ArePresent, present_more}
use Rattle.chase_core.proofs.show.show_both.Goals as goal

pub loop-i-preserved : goal.loop-i-preserved
loop-i-preserved c =
    let v = c.loop-i.invariant in
    let xs = c.args.first.now in
    let ys = c.args.second.now in
    let labels = c.args.book.now.labels in
    let pairs = c.loop-i.view.pairs in
    let n = c.least_from-name.result in
    let l = c.label.result in
    record {
      walked = subst (IsWalkedTo xs c.past-i.result ys c.past-j.result) (sym c.push.ensures.pairs)
          (walked_more xs ys c.requires.first c.requires.second c.loop-i.i c.loop-i.j n c.past-i.result c.past-j.result l pairs v.walked c.least_from-name.ensures c.past-i.ensures c.past-j.ensures);
      present = subst (ArePresent labels) (sym c.push.ensures.pairs) (present_more labels pairs n l c.label.ensures.label v.present);
      room = c.push.ensures.room ∙ v.room;
    }

pub returns-clause-listed : goal.returns-clause-listed
returns-clause-listed c = walked_all c.args.first.now c.loop-i.i c.args.second.now c.loop-i.j c.loop-i.view.pairs c.loop-i.invariant.walked (omega arith) (omega arith)
