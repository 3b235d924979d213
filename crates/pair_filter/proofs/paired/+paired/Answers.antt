use Rattle.std.proofs.Common.{List, ℕ, Some, slice_get, ◌-◌, ◌≡◌, ◌∙◌, inl, inr, ap, arith, true≢false, sym, subst, refl, take_all}
use Rattle.chase_laws.specs.declared.pattern.Slot.{Slot}
use Rattle.chase_laws.specs.declared.pattern.Slot.TheVariants.{Fixed}
use Rattle.chase_laws.specs.Graph.{HasRow}
use Rattle.pair_filter.specs.Along.{ArePairedExcept, HavePaired, HasPartner, HasAlone, HaveCommon, HaveCommonPartner}
use Rattle.pair_filter.proofs.Steps.{left_alone, right_alone, paired_at_once, paired_by_edges, not_along, shared_literal, led_forth, led_back, have_paired_rows, same_value, same_constant, common_name, shares_value, contains_more}
use Rattle.pair_filter.proofs.paired.+paired.Goals as goal

pub are_paired_forth-returns : goal.are_paired_forth-returns
are_paired_forth-returns t c =
    let G = c.args.graph.now in
    let Q = c.args.pattern.now in
    let p = c.args.edge.pred in
    let skipped = c.skipped_from-skipped in
    let led = led_forth G Q skipped.result c.args.depth c.args.place c.args.s c.args.u c.args.w c.args.edge skipped.ensures c.requires.edge c.if-edge-s.false c.requires.here in
    let rows = have_paired_rows G Q (λ o. HasRow G c.args.u p o) (λ o. HasRow G c.args.w p o) c.outgoing-us.result.now c.outgoing-ws.result.now c.outgoing-us.ensures.exact c.outgoing-ws.ensures.exact skipped.result c.args.depth c.args.edge.to led in (
      (λ h at. rows.0 (c.have_paired.ensures.0 h)),
      (λ h. c.have_paired.ensures.1 (rows.1 (h c.if-edge-s.false))),
    )

pub are_paired_back-returns : goal.are_paired_back-returns
are_paired_back-returns t c =
    let G = c.args.graph.now in
    let Q = c.args.pattern.now in
    let p = c.args.edge.pred in
    let skipped = c.skipped_from-skipped in
    let led = led_back G Q skipped.result c.args.depth c.args.place c.args.s c.args.u c.args.w c.args.edge skipped.ensures c.requires.edge c.if-edge-s.false c.requires.here in
    let rows = have_paired_rows G Q (λ o. HasRow G o p c.args.u) (λ o. HasRow G o p c.args.w) c.incoming-us.result.now c.incoming-ws.result.now c.incoming-us.ensures.exact c.incoming-ws.ensures.exact skipped.result c.args.depth c.args.edge.from led in (
      (λ h at. rows.0 (c.have_paired.ensures.0 h)),
      (λ h. c.have_paired.ensures.1 (rows.1 (h c.if-edge-s.false))),
    )

pub are_paired_along-returns-then-not-are_paired_forth : goal.are_paired_along-returns-then-not-are_paired_forth
are_paired_along-returns-then-not-are_paired_forth t c =
    let none = not_along c.args.graph.now c.args.pattern.now c.args.skipped c.args.depth (c.args.depth - 1) c.args.s c.args.u c.args.w (omega (arith, c.if-depth-eq0.false)) c.loop-place.place c.edge_at-edge.result (λ e. true≢false (sym (c.is_skipped.ensures.1 e) ∙ c.if-is_skipped.false)) c.edge_at-edge.ensures.edge
    (λ along. true≢false (sym (c.are_paired_forth.ensures.1 along.0) ∙ c.if-not-are_paired_forth.true)) in
    ((λ f. absurd (true≢false (sym f))), (λ h. absurd (none h)))

pub are_paired_along-returns-then-not-are_paired_back : goal.are_paired_along-returns-then-not-are_paired_back
are_paired_along-returns-then-not-are_paired_back t c =
    let none = not_along c.args.graph.now c.args.pattern.now c.args.skipped c.args.depth (c.args.depth - 1) c.args.s c.args.u c.args.w (omega (arith, c.if-depth-eq0.false)) c.loop-place.place c.edge_at-edge.result (λ e. true≢false (sym (c.is_skipped.ensures.1 e) ∙ c.if-is_skipped.false)) c.edge_at-edge.ensures.edge
    (λ along. true≢false (sym (c.are_paired_back.ensures.1 along.1) ∙ c.if-not-are_paired_back.true)) in
    ((λ f. absurd (true≢false (sym f))), (λ h. absurd (none h)))

pub are_paired_along-returns : goal.are_paired_along-returns
are_paired_along-returns t c =
    let paired = paired_by_edges c.args.graph.now c.args.pattern.now c.args.skipped c.args.depth (c.args.depth - 1) c.args.s c.args.u c.args.w (omega (arith, c.if-depth-eq0.false)) c.requires.here
    (λ k e lt asked at. c.loop-place.invariant k e (omega (arith, lt, c.edge_count-place-end.ensures, c.loop-place-test.false)) asked at) in
    ((λ yes. paired), (λ h. refl))

pub are_paired_along-returns-then-depth-eq0 : goal.are_paired_along-returns-then-depth-eq0
are_paired_along-returns-then-depth-eq0 t c = (
  (λ yes. paired_at_once c.args.graph.now c.args.pattern.now c.args.skipped c.args.depth c.args.s c.args.u c.args.w c.if-depth-eq0.true c.requires.here),
  (λ h. refl),
)

pub has_common_among-loop-n-preserved : goal.has_common_among-loop-n-preserved
has_common_among-loop-n-preserved t c = λ h.
    let P = λ (n : ℕ). ArePairedExcept c.args.graph.now c.args.pattern.now c.args.skipped c.args.depth c.args.s n n in
    elim (contains_more c.args.names.now c.loop-n.n-index h.number c.loop-n-test.true h.in_left) [
      | inl old ↦ c.loop-n.invariant (record { number = h.number; in_left = old; in_right = h.in_right; paired = h.paired })
      | inr same ↦ true≢false (sym (c.are_paired.ensures.1 (subst P (sym same) h.paired)) ∙ c.if-are_paired.false)
    ]

pub has_common_among-returns : goal.has_common_among-returns
has_common_among-returns t c = (
  (λ f. absurd (true≢false (sym f))),
  (λ h. absurd (c.loop-n.invariant (subst (λ (names : List ℕ). HaveCommon c.args.graph.now c.args.pattern.now c.args.skipped c.args.depth c.args.s names c.args.others.now) (sym (take_all c.loop-n.n-index c.args.names.now c.loop-n-test.false)) h))),
)

pub has_alone-returns : goal.has_alone-returns
has_alone-returns t c = (
  (λ f. absurd (true≢false (sym f))),
  (λ h. absurd (c.loop-n.invariant (subst (λ (names : List ℕ). HasAlone c.args.graph.now c.args.pattern.now c.args.skipped c.args.depth c.args.s names) (sym (take_all c.loop-n.n-index c.args.names.now c.loop-n-test.false)) h))),
)

pub have_few_paired-loop-u-preserved : goal.have_few_paired-loop-u-preserved
have_few_paired-loop-u-preserved t c = λ h.
    let P = λ (u : ℕ). ArePairedExcept c.args.graph.now c.args.pattern.now c.args.skipped c.args.depth c.args.s u h.right in
    elim (contains_more c.args.us.now c.loop-u.u-index h.left c.loop-u-test.true h.in_left) [
      | inl old ↦ c.loop-u.invariant (record { left = h.left; right = h.right; in_left = old; in_right = h.in_right; paired = h.paired })
      | inr same ↦ true≢false (sym (c.has_partner_in.ensures.1 (record { right = h.right; in_right = h.in_right; paired = subst P (sym same) h.paired })) ∙ c.if-has_partner_in.false)
    ]

pub have_few_paired-returns : goal.have_few_paired-returns
have_few_paired-returns t c = (
  (λ f. absurd (true≢false (sym f))),
  (λ h. absurd (c.loop-u.invariant (subst (λ (names : List ℕ). HavePaired c.args.graph.now c.args.pattern.now c.args.skipped c.args.depth c.args.s names c.args.ws.now) (sym (take_all c.loop-u.u-index c.args.us.now c.loop-u-test.false)) h))),
)

pub have_any_paired-returns-then-not-has_alone : goal.have_any_paired-returns-then-not-has_alone
have_any_paired-returns-then-not-has_alone t c = (
  (λ f. absurd (true≢false (sym f))),
  (λ h. absurd (true≢false (sym (c.has_alone.ensures.1 (record { number = h.right; in_list = h.in_right; paired = right_alone c.args.graph.now c.args.pattern.now c.args.skipped c.args.depth c.args.s h.left h.right h.paired })) ∙ c.if-not-has_alone.true))),
)

pub have_any_paired-loop-u-preserved-then-not-are_paired : goal.have_any_paired-loop-u-preserved-then-not-are_paired
have_any_paired-loop-u-preserved-then-not-are_paired t c = λ h.
    let P = λ (u : ℕ). ArePairedExcept c.args.graph.now c.args.pattern.now c.args.skipped c.args.depth c.args.s u u in
    elim (contains_more c.args.us.now c.loop-u.u-index h.left c.loop-u-test.true h.in_left) [
      | inl old ↦ c.loop-u.invariant (record { left = h.left; right = h.right; in_left = old; in_right = h.in_right; paired = h.paired })
      | inr same ↦ true≢false (sym (c.are_paired.ensures.1 (subst P (sym same) (left_alone c.args.graph.now c.args.pattern.now c.args.skipped c.args.depth c.args.s h.left h.right h.paired))) ∙ c.if-not-are_paired.true)
    ]

pub have_value-returns-then-is_leaf : goal.have_value-returns-then-is_leaf
have_value-returns-then-is_leaf t c =
    let shared = shared_literal c.args.graph.now c.args.pattern.now c.args.skipped c.args.depth c.args.s c.args.us.now c.args.ws.now c.requires.value (c.is_leaf.ensures c.if-is_leaf.true) in (
      (λ yes. shared.0 (c.share_literal.ensures.0 yes)),
      (λ h. c.share_literal.ensures.1 (shared.1 h)),
    )

pub have_value-returns : goal.have_value-returns
have_value-returns t c =
    let common = common_name c.args.graph.now c.args.pattern.now c.args.skipped c.args.depth c.args.s c.args.us.now c.args.ws.now (λ u w. same_value c.args.graph.now c.args.pattern.now c.args.skipped c.args.depth c.args.s u w c.requires.value) in (
      (λ yes. common.0 (c.have_common.ensures.0 yes)),
      (λ h. c.have_common.ensures.1 (common.1 h)),
    )

pub have_paired-returns-in-Fixed : goal.have_paired-returns-in-Fixed
have_paired-returns-in-Fixed t c =
    let Q = c.args.pattern.now in
    let k = c.in-Fixed.field-0 in
    let at : slice_get Q.slots c.args.s ≡ Some (Fixed k) = c.slot_at.ensures ∙ ap (λ (x : Slot). Some x) c.in-Fixed.is in
    let common = common_name c.args.graph.now Q c.args.skipped c.args.depth c.args.s c.args.us.now c.args.ws.now (λ u w. same_constant c.args.graph.now Q c.args.skipped c.args.depth c.args.s u w k at) in (
      (λ yes. common.0 (c.have_common.ensures.0 yes)),
      (λ h. c.have_common.ensures.1 (common.1 h)),
    )

pub has_partner_by-loop-l-preserved-then-holders-ws : goal.has_partner_by-loop-l-preserved-then-holders-ws
has_partner_by-loop-l-preserved-then-holders-ws t c = λ w x in_ws paired row at. elim (contains_more c.outgoing-l-items.result.now c.loop-l.l-index x c.loop-l-test.true at) [
  | inl old ↦ c.loop-l.invariant w x in_ws paired row old
  | inr same ↦
      (let holds = (c.incoming-holders.ensures.exact w).1 (subst (λ l. HasRow c.args.graph.now w c.args.edge.pred l) (sym same) row) in
      true≢false (sym (c.has_partner_among.ensures.1 (record { right = w; in_first = in_ws; in_second = holds; paired = paired })) ∙ c.if-has_partner_among.false))
]

pub has_partner_by-loop-l-preserved : goal.has_partner_by-loop-l-preserved
has_partner_by-loop-l-preserved t c = λ w x in_ws paired row at. elim (contains_more c.outgoing-l-items.result.now c.loop-l.l-index x c.loop-l-test.true at) [
  | inl old ↦ c.loop-l.invariant w x in_ws paired row old
  | inr same ↦
      (let holds = (c.incoming-holders.ensures.exact w).1 (subst (λ l. HasRow c.args.graph.now w c.args.edge.pred l) (sym same) row) in
      true≢false (sym (c.has_partner_among-in-loop-l.ensures.1 (record { right = w; in_first = holds; in_second = in_ws; paired = paired })) ∙ c.if-has_partner_among-2.false))
]

pub has_partner_by-returns : goal.has_partner_by-returns
has_partner_by-returns t c =
    let ls = c.outgoing-l-items.result.now in (
      (λ f. absurd (true≢false (sym f))),
      (λ h.
          let s = shares_value c.args.graph.now c.args.pattern.now c.args.skipped c.args.depth (c.args.depth - 1) c.args.s c.args.u h.right (omega (arith, c.requires.depth)) c.args.edge c.requires.edge h.paired in
          absurd (c.loop-l.invariant h.right s.0 h.in_right h.paired s.2 (rw (take_all c.loop-l.l-index ls c.loop-l-test.false) ((c.outgoing-l-items.ensures.exact s.0).1 s.1)))),
    )

pub have_any_paired-loop-u-preserved : goal.have_any_paired-loop-u-preserved
have_any_paired-loop-u-preserved t c = λ h.
    let P = λ (u : ℕ). ArePairedExcept c.args.graph.now c.args.pattern.now c.args.skipped c.args.depth c.args.s u h.right in
    elim (contains_more c.args.us.now c.loop-u.u-index h.left c.loop-u-test.true h.in_left) [
      | inl old ↦ c.loop-u.invariant (record { left = h.left; right = h.right; in_left = old; in_right = h.in_right; paired = h.paired })
      | inr same ↦ true≢false (sym (c.has_partner.ensures.1 (record { right = h.right; in_right = h.in_right; paired = subst P (sym same) h.paired })) ∙ c.if-has_partner.false)
    ]

pub has_partner_among-loop-w-preserved : goal.has_partner_among-loop-w-preserved
has_partner_among-loop-w-preserved t c = λ h.
    let P = λ (w : ℕ). ArePairedExcept c.args.graph.now c.args.pattern.now c.args.skipped c.args.depth c.args.s c.args.u w in
    elim (contains_more c.args.names.now c.loop-w.w-index h.right c.loop-w-test.true h.in_first) [
      | inl old ↦ c.loop-w.invariant (record { right = h.right; in_first = old; in_second = h.in_second; paired = h.paired })
      | inr same ↦ true≢false (sym (c.are_paired.ensures.1 (subst P (sym same) h.paired)) ∙ c.if-are_paired.false)
    ]

pub have_any_paired-returns : goal.have_any_paired-returns
have_any_paired-returns t c = (
  (λ f. absurd (true≢false (sym f))),
  (λ h. absurd (c.loop-u.invariant (subst (λ (names : List ℕ). HavePaired c.args.graph.now c.args.pattern.now c.args.skipped c.args.depth c.args.s names c.args.ws.now) (sym (take_all c.loop-u.u-index c.args.us.now c.loop-u-test.false)) h))),
)

pub has_partner_in-returns : goal.has_partner_in-returns
has_partner_in-returns t c = (
  (λ f. absurd (true≢false (sym f))),
  (λ h. absurd (c.loop-w.invariant (subst (λ (names : List ℕ). HasPartner c.args.graph.now c.args.pattern.now c.args.skipped c.args.depth c.args.s c.args.u names) (sym (take_all c.loop-w.w-index c.args.ws.now c.loop-w-test.false)) h))),
)

pub has_partner_among-returns : goal.has_partner_among-returns
has_partner_among-returns t c = (
  (λ f. absurd (true≢false (sym f))),
  (λ h. absurd (c.loop-w.invariant (subst (λ (names : List ℕ). HaveCommonPartner c.args.graph.now c.args.pattern.now c.args.skipped c.args.depth c.args.s c.args.u names c.args.others.now) (sym (take_all c.loop-w.w-index c.args.names.now c.loop-w-test.false)) h))),
)

pub has_partner_in-loop-w-preserved : goal.has_partner_in-loop-w-preserved
has_partner_in-loop-w-preserved t c = λ h.
    let P = λ (w : ℕ). ArePairedExcept c.args.graph.now c.args.pattern.now c.args.skipped c.args.depth c.args.s c.args.u w in
    elim (contains_more c.args.ws.now c.loop-w.w-index h.right c.loop-w-test.true h.in_right) [
      | inl old ↦ c.loop-w.invariant (record { right = h.right; in_right = old; paired = h.paired })
      | inr same ↦ true≢false (sym (c.are_paired.ensures.1 (subst P (sym same) h.paired)) ∙ c.if-are_paired.false)
    ]
