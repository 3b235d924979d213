-- Row by row.
use Rattle.std.proofs.Common.{List, ℕ, All, Contains, length, drop, get_or, ◌≡◌, ◌<◌, ◌≤◌, ◌+◌, refl, sym, ◌∙◌, ap, subst, arith, inl, inr}
use Rattle.std.specs.Prelude.{slice_index}
use Rattle.std.proofs.lemmas.Bool.{cases_lt}
use Rattle.std.proofs.lemmas.List.{get_or_default}
use Rattle.chase_laws.specs.Shape.{Shape}
use Rattle.chase_laws.specs.Graph.{NumberedGraph}
use Rattle.class_book.specs.Classes.{Classes}
use Rattle.valuation_groups.specs.Groups.{GroupShape, group_at, row_in}
use Rattle.signature_chase.specs.Settled.{IsSettled, image_labels, name_label}
use Rattle.signature_chase.specs.Setting.{Work, IsWork, IsGroupOf, IsNamedRow, IsDerived}
use Rattle.signature_chase.specs.Advance.{Advances}
use Rattle.signature_chase.specs.Leaders.{AreLeaders}
use Rattle.signature_chase.proofs.Advancing.{advance_none, advance_more}
use Rattle.signature_chase.proofs.Looks.{look_settles, leader_same, met_more}
use Rattle.signature_chase.proofs.settling.settle_group.Goals as goal

-- the group that is looked at is one of the graph and the keys
of_setting : (W : Work) → IsWork W → (place : ℕ) → place < length W.groups → (group : GroupShape) → group ≡ group_at W.groups place → IsGroupOf W.graph W.patterns group
of_setting W work place h group e = subst (IsGroupOf W.graph W.patterns) (sym e) (work.grouped place h)

-- its rows have names with labels
labelled_rows : (W : Work) (group : GroupShape) → IsGroupOf W.graph W.patterns group → (book : Classes) → IsDerived W.graph W.patterns book → (i : ℕ) → i < length group.rows →
    IsNamedRow (length book.labels) (row_in group i)
labelled_rows W group of book derived i h = subst (λ n. IsNamedRow n (row_in group i)) (sym derived.count) (of.named i h)

pub meet-requires-clause-same : goal.meet-requires-clause-same
meet-requires-clause-same c =
    let W = c.args.setting.now in
    let group = c.group-group.result in
    let row = c.loop-row.row in
    let within : row < length group.rows = omega (arith, c.len-row-end.ensures.length, c.loop-row-test.true) in
    let are = c.in_ok-find_leaders.ensures row within in
    let leaders = c.find_leaders.new.leaders.items in
    let l = c.index.result.now in
    let is : l ≡ slice_index leaders row = c.index.ensures ∙ get_or_default leaders row l 0 (omega (arith, are.one_each)) in
    let of = of_setting W c.holds.ensures c.args.place c.requires.place group c.group-group.ensures in
    let same = leader_same c.args.book.now.labels c.loop-row.book.labels group leaders c.loop-row.invariant.advances.coarser c.in_ok-find_leaders.ensures of.wide
    (labelled_rows W group of c.args.book.now c.requires.derived) row within in
    subst (λ k. image_labels c.loop-row.book.labels (row_in group k) ≡ image_labels c.loop-row.book.labels (row_in group row)) (sym is) same

pub loop-row-preserved : goal.loop-row-preserved
loop-row-preserved c =
    let W = c.args.setting.now in
    let group = c.group-group.result in
    let row = c.loop-row.row in
    let v = c.loop-row.invariant in
    let e = c.meet.ensures in
    let within : row < length group.rows = omega (arith, c.len-row-end.ensures.length, c.loop-row-test.true) in
    let are = c.in_ok-find_leaders.ensures row within in
    let leaders = c.find_leaders.new.leaders.items in
    let l = c.index.result.now in
    let is : l ≡ slice_index leaders row = c.index.ensures ∙ get_or_default leaders row l 0 (omega (arith, are.one_each)) in
    let of = of_setting W c.holds.ensures c.args.place c.requires.place group c.group-group.ensures in
    let new = c.meet.new.book in
    record {
      derived = e.derived;
      advances = advance_more W.groups c.args.book.now c.loop-row.book new c.args.queue.now.list c.loop-row.queue.list c.meet.new.queue.list v.advances e.advances;
      count = e.count ∙ v.count;
      met = met_more c.loop-row.book new W.groups c.loop-row.queue.list c.meet.new.queue.list e.advances group leaders row within are.rows
          (labelled_rows W group of c.loop-row.book v.derived) v.met
          (subst (λ k. name_label new.labels (row_in group k) ≡ name_label new.labels (row_in group row)) is e.met);
    }

pub returns-clause-settled : goal.returns-clause-settled
returns-clause-settled c = λ none.
    let W = c.args.setting.now in
    let group = c.group-group.result in
    let leaders = c.find_leaders.new.leaders.items in
    let old = c.args.book.now in
    let new = c.loop-row.book in
    let v = c.loop-row.invariant in
    let all : length group.rows ≤ c.loop-row.row = omega (arith, c.len-row-end.ensures.length, c.loop-row-test.false) in
    look_settles W.groups old new c.args.queue.now.list c.loop-row.queue.list c.args.place leaders v.advances c.requires.place
    (subst (λ (s : GroupShape). (i : ℕ) → i < length s.rows → AreLeaders old.labels s (length (drop 1 (row_in s i))) leaders) c.group-group.ensures c.in_ok-find_leaders.ensures)
    (c.holds.ensures.grouped c.args.place c.requires.place).wide
    (subst (λ (s : GroupShape). (k : ℕ) → k < length s.rows → name_label new.labels (row_in s (slice_index leaders k)) ≡ name_label new.labels (row_in s k)) c.group-group.ensures
    (λ k h. v.met k (omega arith)))
    none
