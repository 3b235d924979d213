-- Number by number from the hash on.
use Rattle.std.proofs.Common.{true≢false, ◌≡◌, ◌≢◌, ℕ, ◌+◌, List, slice_get, Some, sym, subst, ◌∙◌, arith}
use Rattle.std.specs.Option.{IfNone}
use Rattle.gk_base.specs.declared.term.Term.{Term}
use Rattle.term_table.specs.Marks.{hash_of}
use Rattle.term_table.proofs.MarkLemmas.{HasSearched-more, found_at, none_at, absent_at, absent_past}
use Rattle.term_table.proofs.marks.Marks.find.Goals as goal

-- where another term stands the term does not
other : (terms : List Term) (place : ℕ) (name term : Term) → slice_get terms place ≡ Some name → name ≢ term → slice_get terms place ≢ Some term
other terms place name term named differs at = differs (some (sym named ∙ at))
  where
    some : {a b : Term} → Some a ≡ Some b → a ≡ b
    some h = cc

pub returns-in_err-place-clause-absent : goal.returns-in_err-place-clause-absent
returns-in_err-place-clause-absent c =
    subst (λ r. IfNone r ((place : ℕ) → slice_get c.args.terms.now place ≢ Some c.args.term.now)) (sym c.from_residual.ensures)
    (absent_at (hash_of c.args.self.now.hasher) c.args.self.now.set.keys c.args.terms.now c.args.term.now c.loop-place.mark c.requires.marks_of c.loop-place.invariant
    (none_at c.args.self.now.set.keys c.loop-place.mark (sym c.in_err-place.ensures.index)))

pub returns-then-mark-clause-absent : goal.returns-then-mark-clause-absent
returns-then-mark-clause-absent c =
    absent_past (hash_of c.args.self.now.hasher) c.args.self.now.set.keys c.args.terms.now c.args.term.now (c.loop-place.mark + 1) c.requires.marks_of
    (HasSearched-more c.args.self.now.set.keys c.args.terms.now c.args.term.now (hash_of c.args.self.now.hasher c.args.term.now) c.loop-place.mark c.in_ok-place.place c.requires.marks_of.distinct
    (found_at c.args.self.now.set.keys c.loop-place.mark c.in_ok-place.place (sym c.in_ok-place.ensures.index))
    (other c.args.terms.now c.in_ok-place.place c.get.result c.args.term.now c.get.ensures (λ same. true≢false (sym (c.is_same.ensures.1 same) ∙ c.if-is_same.false)))
    c.loop-place.invariant)
    (let last = c.if-mark.true in omega arith)

pub loop-place-preserved : goal.loop-place-preserved
loop-place-preserved c =
    HasSearched-more c.args.self.now.set.keys c.args.terms.now c.args.term.now (hash_of c.args.self.now.hasher c.args.term.now) c.loop-place.mark c.in_ok-place.place c.requires.marks_of.distinct
    (found_at c.args.self.now.set.keys c.loop-place.mark c.in_ok-place.place (sym c.in_ok-place.ensures.index))
    (other c.args.terms.now c.in_ok-place.place c.get.result c.args.term.now c.get.ensures (λ same. true≢false (sym (c.is_same.ensures.1 same) ∙ c.if-is_same.false)))
    c.loop-place.invariant
