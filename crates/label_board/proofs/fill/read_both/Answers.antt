-- One name more is read, and the lists go on behind it.
use Rattle.std.proofs.Common.{◌∷◌, [], ◌++◌, ap, sym, subst, ◌∙◌}
use Rattle.paired_search.specs.Both.{IsWalkedTo}
use Rattle.paired_search.proofs.CallerLemmas.{walked_more}
use Rattle.label_board.proofs.fill.read_both.Goals as goal

pub loop-i-preserved : goal.loop-i-preserved
loop-i-preserved c =
    let v = c.loop-i.invariant in
    let xs = c.args.left.now in
    let ys = c.args.right.now in
    let pairs = c.loop-i.view.pairs in
    let n = c.least_from-name.result in
    let l = c.load_label.result in
    record {
      table = c.load_label.ensures.table ∙ v.table;
      since = ap (λ k. k.since) c.load_label.ensures.me ∙ v.since;
      read = ap (λ k. k.read) c.load_label.ensures.me ∙ ap (λ ps. ps ++ (n, l) ∷ []) v.read ∙ sym c.push.ensures.pairs;
      room = c.push.ensures.room ∙ v.room;
      walked = subst (IsWalkedTo xs c.past-i.result ys c.past-j.result) (sym c.push.ensures.pairs)
          (walked_more xs ys c.requires.left.0 c.requires.right.0 c.loop-i.i c.loop-i.j n c.past-i.result c.past-j.result l pairs v.walked c.least_from-name.ensures c.past-i.ensures c.past-j.ensures);
    }
