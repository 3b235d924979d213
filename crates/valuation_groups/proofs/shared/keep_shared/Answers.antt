use Rattle.std.proofs.Common.{List, ap, sym, subst, ◌∙◌, ◌++◌, ◌↔◌, Contains}
use Rattle.chase_laws.specs.Signature.{SignatureParts}
use Rattle.valuation_groups.specs.Rows.{KeyRows, IsShared, StandOnce, AscendByValues}
use Rattle.valuation_groups.specs.Shared.{kept_of}
use Rattle.valuation_groups.proofs.SharedLemmas.{kept_exact, kept_once, kept_ascend}
use Rattle.valuation_groups.proofs.shared.keep_shared.Goals as goal

pub returns-clause-exact : goal.returns-clause-exact
returns-clause-exact g c =
    let parts = c.args.rows.parts in
    let facts = c.in_ok-order.ensures in
    let is = ap (λ (v : KeyRows). v.parts) c.in_ok-push_shared.ensures ∙ ap (λ ps. ps ++ kept_of parts c.deref.result.now) c.new-kept.ensures.empty ∙ ap (kept_of parts) c.deref.ensures.value in
    subst (λ (ps : List SignatureParts). (p : SignatureParts) → Contains ps p ↔ (Contains parts p × IsShared parts p)) (sym is) (kept_exact parts c.in_ok-order.order.items facts.numbers facts.all)

pub returns-clause-once : goal.returns-clause-once
returns-clause-once g c =
    let parts = c.args.rows.parts in
    let is = ap (λ (v : KeyRows). v.parts) c.in_ok-push_shared.ensures ∙ ap (λ ps. ps ++ kept_of parts c.deref.result.now) c.new-kept.ensures.empty ∙ ap (kept_of parts) c.deref.ensures.value in
    subst StandOnce (sym is) (kept_once parts c.in_ok-order.order.items c.in_ok-order.ensures.rising)

pub returns-clause-sorted : goal.returns-clause-sorted
returns-clause-sorted g c =
    let parts = c.args.rows.parts in
    let facts = c.in_ok-order.ensures in
    let is = ap (λ (v : KeyRows). v.parts) c.in_ok-push_shared.ensures ∙ ap (λ ps. ps ++ kept_of parts c.deref.result.now) c.new-kept.ensures.empty ∙ ap (kept_of parts) c.deref.ensures.value in
    subst AscendByValues (sym is) (kept_ascend c.args.rows c.in_ok-order.order.items facts.shape facts.numbers facts.rising)
