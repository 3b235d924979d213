use Rattle.std.proofs.Common.{List, ℕ, [], subst, sym, arith}
use Rattle.std.proofs.lemmas.List.{map_more}
use Rattle.merge_graph.specs.Ranked.{HoldsLines, ranked_line}
use Rattle.merge_graph.proofs.JoinedLemmas.{holds_none}
use Rattle.merge_graph.proofs.ascending.joined_ascending.Goals as goal

pub loop-row-init : goal.loop-row-init
loop-row-init c = record {
  last = omega arith;
  holds = subst (λ (text : List ℕ). HoldsLines [] text 0) (sym c.in_ok-text.ensures.items) holds_none;
}

pub loop-row-preserved : goal.loop-row-preserved
loop-row-preserved c = record {
  last = c.in_ok-add.ensures.last;
  holds = subst (λ (all : List (List ℕ)). HoldsLines all c.add.new.self.text.items c.add.new.self.last)
      (sym (map_more (ranked_line c.args.texts.now c.args.order.now) c.args.rows.now c.loop-row.row-index [] c.loop-row-test.true))
      (c.in_ok-add.ensures.lines c.if-not-branch.false _ c.loop-row.invariant.holds);
}
