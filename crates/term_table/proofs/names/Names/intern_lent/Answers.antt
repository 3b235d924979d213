use Rattle.std.proofs.Common.{◌≡◌, ◌≢◌, ℕ, ◌-◌, ◌^◌, ◌<◌, false, List, [], ◌∷◌, ◌++◌, length, Option, Some, None, IfSome, IfNone, slice_get, refl, sym, ap, subst, ◌∙◌}
use Rattle.gk_base.specs.declared.term.Term.{Term}
use Rattle.term_table.specs.Marks.{hash_of, AreMarksOf, HasOneMore}
use Rattle.term_table.specs.Numbering.{is_named, with_term, AreDistinct}
use Rattle.term_table.proofs.NumberingLemmas.{is_named-at, with_term-named, with_term-new, slice_get-push, AreDistinct-with_term}
use Rattle.term_table.proofs.TableLemmas.{is_named-nowhere}
use Rattle.term_table.proofs.MarkLemmas.{AreMarked-added}
use Rattle.term_table.proofs.names.Names.intern_lent.Goals as goal

pub returns-in-Some-clause-ok : goal.returns-in-Some-clause-ok
returns-in-Some-clause-ok c =
    let inside = subst (λ r. IfSome r (λ place. slice_get c.self.inside.terms place ≡ Some c.args.term.now)) c.in-Some.is c.in_ok-place.ensures.found in
    let at = subst (λ names. slice_get names c.in-Some.place ≡ Some c.args.term.now) c.self.view_is inside in
    c.self.view_is ∙ sym (with_term-named c.args.self.now c.args.term.now (is_named-at c.args.self.now c.args.term.now c.in-Some.place at))

-- what holds of an answer that is nothing
of_none : (r : Option ℕ) (P : Type 0) → ((x : ℕ) → r ≡ Some x → ⊥) → IfNone r P → P
of_none (Some x) P not_some h = absurd (not_some x refl)
of_none None P not_some h = h

-- a term that was not found goes last
module _ (c : goal.In-Ok) where
  abbrev terms : List Term
  terms = c.self.inside.terms

  fresh : is_named terms c.args.term.now ≡ false
  fresh =
      is_named-nowhere terms c.args.term.now
      (of_none c.in_ok-place.field-0 ((place : ℕ) → slice_get terms place ≢ Some c.args.term.now) c.in_default.not-Some c.in_ok-place.ensures.absent)

  more : HasOneMore (hash_of c.self.inside.marks.hasher) c.self.inside.marks.set.keys terms c.args.term.now c.enter.new.self.set.keys
  more = of_none c.in_ok-place.field-0 (HasOneMore (hash_of c.self.inside.marks.hasher) c.self.inside.marks.set.keys terms c.args.term.now c.enter.new.self.set.keys) c.in_default.not-Some c.in_ok-place.ensures.added

  added : c.push.new.self ≡ terms ++ c.args.term.now ∷ []
  added = c.in-Ok.ensures.ok

  is_with : c.push.new.self ≡ with_term terms c.args.term.now
  is_with = added ∙ sym (with_term-new terms c.args.term.now fresh)

pub invariant_of-self-in-Ok : goal.invariant_of-self-in-Ok
invariant_of-self-in-Ok c =
    let same : c.enter.new.self.hasher ≡ c.self.inside.marks.hasher = c.in_ok-place.ensures.hasher in
    AreMarked-added (hash_of c.enter.new.self.hasher) c.enter.new.self.set.keys (terms c) c.push.new.self c.args.term.now (added c)
    (subst (λ names. length names < 2 ^ 32 - 1) (sym c.self.view_is) c.requires) (fresh c) c.self.invariant.distinct
    (subst (λ hasher. AreMarksOf (hash_of hasher) c.enter.new.self.set.keys (terms c ++ c.args.term.now ∷ [])) (sym same) (more c).are)

pub returns-in-Ok-clause-place : goal.returns-in-Ok-clause-place
returns-in-Ok-clause-place c =
    ap (λ l. slice_get l c.len-count.result) (added c) ∙ ap (slice_get (terms c ++ c.args.term.now ∷ [])) c.len-count.ensures
    ∙ slice_get-push (terms c) c.args.term.now

pub returns-in-Ok-clause-ok : goal.returns-in-Ok-clause-ok
returns-in-Ok-clause-ok c = is_with c ∙ ap (λ names. with_term names c.args.term.now) c.self.view_is

pub returns-in-Ok-clause-distinct : goal.returns-in-Ok-clause-distinct
returns-in-Ok-clause-distinct c =
    subst AreDistinct (sym (is_with c)) (AreDistinct-with_term (terms c) c.args.term.now c.self.invariant.distinct)
