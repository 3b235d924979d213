-- Every number that an edge allows was tried.
use Rattle.std.proofs.Common.{List, [], ◌∷◌, ◌++◌, ℕ, Contains, ◌≡◌, ◌<◌, get_or, length, slice_index, sym, ◌∙◌, ap, subst, true≢false, arith}
use Rattle.std.proofs.lemmas.Bool.{eqb-true, eqb-false}
use Rattle.std.proofs.lemmas.List.{take_all}
use Rattle.std.proofs.lemmas.List.Elements.{Contains-get_or}
use Rattle.std.proofs.Common.{Some, slice_get}
use Rattle.key_plan.specs.Route.{IsBlock}
use Rattle.chase_laws.specs.Valuation.{FitsSlot, AgreeAt}
use Rattle.paired_search.specs.Part.{HoldsAt, IsPart, AreCompletedBy, AreBareFrom}
use Rattle.paired_search.proofs.PartLaws.{popped}
use Rattle.paired_search.proofs.PairLaws.{completes_before, completes_both, next, none_more, none_left}
use Rattle.paired_search.proofs.extend.+extend.Goals as goal
use Rattle.paired_search.proofs.extend.+extend.Goals.{then-joins+else-extend, else-joins}
use Rattle.paired_search.proofs.extend.+extend.Goals.{then-not-is_empty+then-goes_on+else-loop-n-test, else-not-is_empty, else-not-is_empty-via-then-not-is_empty+else-goes_on, else-not-is_empty-via-else-not-is_empty}

pub goes_on-requires-clause-known : goal.goes_on-requires-clause-known
goes_on-requires-clause-known g t c =
    let tried = c.sides.result.0.now in
    let beside = c.partners-beside.result.now in
    let m = get_or tried c.loop-m.m-index 0 in
    let some : 0 < length beside = omega (arith, eqb-false _ _ (sym c.is_empty.ensures ∙ c.if-not-is_empty.true)) in
    let first = c.partners-beside.ensures.only (get_or beside 0 0) (Contains-get_or beside 0 0 some) in
    let both = (c.sides.ensures.exact m (get_or beside 0 0) first.1).0 (Contains-get_or tried c.loop-m.m-index 0 c.loop-m-test.true, first.0) in
    subst (λ (x : List ℕ). HoldsAt c.args.graph.now x c.block-block.result.now c.choices-lefts.result.place m) (sym c.loop-m.invariant.left) (c.choices-lefts.ensures.holds m both.0)

pub joins-requires-clause-known : goal.joins-requires-clause-known
joins-requires-clause-known g t c =
    let tried = c.sides.result.0.now in
    let beside = c.partners-beside.result.now in
    let m = get_or tried c.loop-m.m-index 0 in
    let n = get_or beside c.loop-n.n-index 0 in
    let here = c.partners-beside.ensures.only n (Contains-get_or beside c.loop-n.n-index 0 c.loop-n-test.true) in
    let both = (c.sides.ensures.exact m n here.1).0 (Contains-get_or tried c.loop-m.m-index 0 c.loop-m-test.true, here.0) in
    subst (λ (x : List ℕ). HoldsAt c.args.graph.now x c.block-block.result.now c.choices-rights.result.place n) (sym c.loop-n.invariant.right) (c.choices-rights.ensures.holds n both.1)

pub returns-then-are_bare-clause-found : goal.returns-then-are_bare-clause-found
returns-then-are_bare-clause-found g t c = λ yes.
    let P = c.args.plan.now.shape in
    let bare = subst (AreBareFrom P) c.len-s.ensures.length (c.are_bare.ensures.bare c.if-are_bare.true) in
    completes_both c.args.graph.now P (g.S.Sameness.are_same c.args.view.now) c.args.left.now c.args.right.now _ _ c.requires.pair bare (c.complete_each.ensures.found_left yes) (c.complete_each.ensures.found_right yes)

pub returns-then-extend-clause-found : goal.returns-then-extend-clause-found
returns-then-extend-clause-found g t c = λ _.
    let G = c.args.graph.now in
    let P = c.args.plan.now.shape in
    let same = g.S.Sameness.are_same c.args.view.now in
    let p = c.args.left.now in
    let q = c.args.right.now in
    let v = c.extend.new.left in
    let w = c.extend.new.right in
    let m = get_or c.sides.result.0.now c.loop-m.m-index 0 in
    let n = get_or c.partners-beside.result.now c.loop-n.n-index 0 in
    let longer_left : c.push.new.self ≡ p ++ m ∷ [] = c.push.ensures ∙ ap (λ (x : List ℕ). x ++ m ∷ []) c.loop-n.invariant.left in
    let longer_right : c.push-then-joins.new.self ≡ q ++ n ∷ [] = c.push-then-joins.ensures ∙ ap (λ (x : List ℕ). x ++ n ∷ []) c.loop-n.invariant.right in
    completes_before G P same p q v w m n
    (subst (λ (x : List ℕ). AreCompletedBy G P same x (q ++ n ∷ []) v w) longer_left
    (subst (λ (y : List ℕ). AreCompletedBy G P same c.push.new.self y v w) longer_right (c.extend.ensures.found c.if-extend.true)))

pub loop-n-preserved : goal.loop-n-preserved
loop-n-preserved g t c =
    let G = c.args.graph.now in
    let P = c.args.plan.now.shape in
    let same = g.S.Sameness.are_same c.args.view.now in
    let p = c.args.left.now in
    let q = c.args.right.now in
    let m = get_or c.sides.result.0.now c.loop-m.m-index 0 in
    let n = get_or c.partners-beside.result.now c.loop-n.n-index 0 in
    let short : length p < length P.slots = omega (arith, c.are_bare.ensures.some c.if-are_bare.false, c.len-s.ensures.length) in
    let at_left : c.loop-n.left ++ m ∷ [] ≡ p ++ m ∷ [] = ap (λ (x : List ℕ). x ++ m ∷ []) c.loop-n.invariant.left in
    let at_right : c.loop-n.right ++ n ∷ [] ≡ q ++ n ∷ [] = ap (λ (x : List ℕ). x ++ n ∷ []) c.loop-n.invariant.right in
    record {
      none = none_more G P same p q c.len-s.result m c.loop-n.n-index c.partners-beside.result.now c.len-s.ensures.length c.requires.pair.as_long short c.loop-n-test.true
          (elim c.if-joins.branch [
            | then-joins+else-extend w ↦ λ pair v u d. w.extend.ensures.none w.if-extend.false v u
                (subst (λ (x : List ℕ). AreCompletedBy G P same x w.push-then-joins.new.self v u) (sym (w.push.ensures ∙ at_left))
                (subst (λ (y : List ℕ). AreCompletedBy G P same (p ++ m ∷ []) y v u) (sym (w.push-then-joins.ensures ∙ at_right)) d))
            | else-joins w ↦ λ pair v u d. absurd (true≢false (sym (c.joins.ensures.1 (rw (c.loop-n.invariant.left, c.loop-n.invariant.right) pair)) ∙ w.if-joins.false))
          ])
          c.loop-n.invariant.none;
      left = elim c.if-joins.branch [
        | then-joins+else-extend w ↦ w.left-is ∙ w.pop.ensures ∙ popped _ p m ((w.extend.ensures.kept w.if-extend.false).0 ∙ w.push.ensures ∙ at_left)
        | else-joins w ↦ w.left-is ∙ c.loop-n.invariant.left
      ];
      right = elim c.if-joins.branch [
        | then-joins+else-extend w ↦ w.right-is ∙ w.pop-then-joins.ensures ∙ popped _ q n ((w.extend.ensures.kept w.if-extend.false).1 ∙ w.push-then-joins.ensures ∙ at_right)
        | else-joins w ↦ w.right-is ∙ c.loop-n.invariant.right
      ];
    }

pub loop-m-preserved : goal.loop-m-preserved
loop-m-preserved g t c =
    let G = c.args.graph.now in
    let P = c.args.plan.now.shape in
    let same = g.S.Sameness.are_same c.args.view.now in
    let p = c.args.left.now in
    let q = c.args.right.now in
    let slot = c.slot-slot.result in
    let tried = c.sides.result.0.now in
    let beside = c.partners-beside.result.now in
    let m = get_or tried c.loop-m.m-index 0 in
    let here = c.len-s.ensures.length in
    let short : length p < length P.slots = omega (arith, c.are_bare.ensures.some c.if-are_bare.false, c.len-s.ensures.length) in
    let more = λ (v w : List ℕ) (d : AreCompletedBy G P same p q v w). next G P same slot c.block-block.result.now p q v w c.requires.pair.as_long short (subst (λ k. slice_get P.slots k ≡ Some slot) here c.slot-slot.ensures) (subst (λ k. IsBlock P k c.block-block.result.now) here c.block-block.ensures) d in
    record {
      none = none_left G P same p q c.len-s.result c.loop-m.m-index tried c.loop-m-test.true
          (λ v w d at.
          let x = more v w d in
          let n = slice_index w (length p) in
          let em : slice_index v (length p) ≡ m = ap (slice_index v) (sym here) ∙ at in
          let sides = (c.sides.ensures.exact (slice_index v (length p)) n x.twins).1 (c.choices-lefts.ensures.covers (slice_index v (length p)) x.fit_left x.left, c.choices-rights.ensures.covers n x.fit_right x.right) in
          let agrees : AgreeAt G same c.len-s.result slot m n = subst (λ (k : ℕ). AgreeAt G same k slot m n) (sym here) (subst (λ (k : ℕ). AgreeAt G same (length p) slot k n) em x.agree) in
          let found : Contains beside n = c.partners-beside.ensures.all n sides.1 (subst (FitsSlot G slot) em x.fit_left) x.fit_right agrees in
          elim c.if-not-is_empty.branch [
            | then-not-is_empty+then-goes_on+else-loop-n-test y ↦
                y.loop-n.invariant.none v w d at (rw (take_all y.loop-n.n-index beside y.loop-n-test.false) (subst (λ k. Contains beside (slice_index w k)) (sym here) found))
            | else-not-is_empty y ↦ elim y.else-not-is_empty.branch [
              | else-not-is_empty-via-then-not-is_empty+else-goes_on z ↦ absurd (true≢false (sym (z.goes_on.ensures.1 (rw c.loop-m.invariant.left (subst (λ k. IsPart G P (p ++ k ∷ [])) em x.pair.left))) ∙ z.if-goes_on.false))
              | else-not-is_empty-via-else-not-is_empty z ↦
                  (let none : length beside ≡ 0 = eqb-true _ _ (sym c.is_empty.ensures ∙ z.if-not-is_empty.false) in
                  let within = found.1 in absurd (omega arith))
            ]
          ])
          c.loop-m.invariant.none;
      left = elim c.if-not-is_empty.branch [
        | then-not-is_empty+then-goes_on+else-loop-n-test y ↦ y.left-is ∙ y.loop-n.invariant.left
        | else-not-is_empty y ↦ y.left-is ∙ c.loop-m.invariant.left
      ];
      right = elim c.if-not-is_empty.branch [
        | then-not-is_empty+then-goes_on+else-loop-n-test y ↦ y.right-is ∙ y.loop-n.invariant.right
        | else-not-is_empty y ↦ y.right-is ∙ c.loop-m.invariant.right
      ];
    }

pub returns-clause-none : goal.returns-clause-none
returns-clause-none g t c = λ _ v w d.
    let G = c.args.graph.now in
    let P = c.args.plan.now.shape in
    let same = g.S.Sameness.are_same c.args.view.now in
    let p = c.args.left.now in
    let q = c.args.right.now in
    let tried = c.sides.result.0.now in
    let here = c.len-s.ensures.length in
    let short : length p < length P.slots = omega (arith, c.are_bare.ensures.some c.if-are_bare.false, c.len-s.ensures.length) in
    let x = next G P same c.slot-slot.result c.block-block.result.now p q v w c.requires.pair.as_long short (subst (λ k. slice_get P.slots k ≡ Some c.slot-slot.result) here c.slot-slot.ensures) (subst (λ k. IsBlock P k c.block-block.result.now) here c.block-block.ensures) d in
    let sides = (c.sides.ensures.exact (slice_index v (length p)) (slice_index w (length p)) x.twins).1 (c.choices-lefts.ensures.covers (slice_index v (length p)) x.fit_left x.left, c.choices-rights.ensures.covers (slice_index w (length p)) x.fit_right x.right) in
    c.loop-m.invariant.none v w d (rw (take_all c.loop-m.m-index tried c.loop-m-test.false) (subst (λ k. Contains tried (slice_index v k)) (sym here) sides.0))
