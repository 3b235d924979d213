-- The texts go behind those that are there, and then the spans, each moved as far.
use Rattle.std.proofs.Common.{◌≡◌, ◌-◌, List, ◌++◌, length, map, sym, ap, ap₂, subst, ◌∙◌, arith}
use Rattle.std.proofs.lemmas.Result.{on_ok_weaker, on_err_weaker}
use Rattle.gk_base.specs.declared.term.Term.{Term}
use Rattle.term_list.specs.Packed.{terms_in, moved_by, AreWithin}
use Rattle.term_list.proofs.PackedLemmas.{AreWithin-appended, terms_in-appended, terms_stay, room_to_move}
use Rattle.term_list.proofs.terms.Terms.append.Goals as goal

pub invariant_of-self : goal.invariant_of-self
invariant_of-self c =
    subst (λ bytes. AreWithin (length bytes) c.self.inside.spans.items) (sym c.in_err-extend_from_slice.ensures.items) c.self.invariant

pub push_moved-requires : goal.push_moved-requires
push_moved-requires c = λ k d below.
    room_to_move (length c.other.inside.bytes.items) (4294967295 - c.len-start.result) c.deref-2.result.now
    (omega (arith, c.if-len-start.false, c.len.ensures, c.other.inside.bytes.ok))
    (subst (AreWithin (length c.other.inside.bytes.items)) (sym c.deref-2.ensures.value) c.other.invariant) k d below

pub invariant_of-self-2 : goal.invariant_of-self-2
invariant_of-self-2 c =
    let bytes = c.self.inside.bytes.items in
    let more = c.other.inside.bytes.items in
    let both = c.in_ok-extend_from_slice.ensures.items ∙ ap (λ l. bytes ++ l) c.deref.ensures.value in
    let by : c.len-start.result ≡ length bytes = omega (arith, c.len-start.ensures, c.self.inside.bytes.ok) in
    let moved = ap₂ (λ n l. c.self.inside.spans.items ++ map (moved_by n) l) by c.deref-2.ensures.value in
    subst (λ l. AreWithin (length l) c.push_moved.new.spans.items) (sym both)
    (AreWithin-appended bytes more c.self.inside.spans.items c.other.inside.spans.items c.self.invariant c.push_moved.result c.push_moved.new.spans.items
    c.other.invariant (on_ok_weaker c.push_moved.result (λ e. e ∙ moved) c.push_moved.ensures.ok) c.push_moved.ensures.err)

pub returns-clause-ok : goal.returns-clause-ok
returns-clause-ok c =
    let bytes = c.self.inside.bytes.items in
    let more = c.other.inside.bytes.items in
    let both = c.in_ok-extend_from_slice.ensures.items ∙ ap (λ l. bytes ++ l) c.deref.ensures.value in
    let by : c.len-start.result ≡ length bytes = omega (arith, c.len-start.ensures, c.self.inside.bytes.ok) in
    let moved = ap₂ (λ n l. c.self.inside.spans.items ++ map (moved_by n) l) by c.deref-2.ensures.value in
    on_ok_weaker c.push_moved.result
    (λ e. ap₂ terms_in both (e ∙ moved) ∙ terms_in-appended bytes more c.self.inside.spans.items c.other.inside.spans.items c.self.invariant
    ∙ ap₂ (λ (a b : List Term). a ++ b) c.self.view_is c.other.view_is)
    c.push_moved.ensures.ok

pub returns-clause-err : goal.returns-clause-err
returns-clause-err c =
    let bytes = c.self.inside.bytes.items in
    let more = c.other.inside.bytes.items in
    let both = c.in_ok-extend_from_slice.ensures.items ∙ ap (λ l. bytes ++ l) c.deref.ensures.value in
    on_err_weaker c.push_moved.result
    (λ e. ap₂ terms_in both e ∙ terms_stay bytes more c.self.inside.spans.items c.self.invariant ∙ c.self.view_is)
    c.push_moved.ensures.err
