-- Number by number from the hash on, till one is no mark and becomes one.
use Rattle.std.proofs.Common.{rules, true≢false, ◌≡◌, ◌≢◌, ℕ, ◌+◌, [], ◌∷◌, ◌++◌, List, slice_get, Some, sym, ap, subst, ◌∙◌}
use Rattle.std.specs.Prelude.{nat_eq}
use Rattle.std.specs.List.{IsDistinct}
use Rattle.std.proofs.lemmas.Bool.{eqb-true}
use Rattle.gk_base.specs.declared.term.Term.{Term}
use Rattle.term_table.specs.Marks.{hash_of, AreMarksOf, HasOneMore}
use Rattle.term_table.proofs.MarkLemmas.{HasSearched, HasSearched-more, absent_at, inserted_new, inserted_old, HasOneMore-after}
use Rattle.term_table.proofs.marks.Marks.enter.Goals as goal

other : (terms : List Term) (place : ℕ) (name term : Term) → slice_get terms place ≡ Some name → name ≢ term → slice_get terms place ≢ Some term
other terms place name term named differs at = differs (some (sym named ∙ at))
  where
    some : {a b : Term} → Some a ≡ Some b → a ≡ b
    some h = cc

-- what insertions that found marks left
module _ (hash : Term → ℕ) (marks : List ℕ) (terms : List Term) (old : List ℕ) (same : marks ≡ old) (are : AreMarksOf hash old terms) where
  still : AreMarksOf hash marks terms
  still = subst (λ ks. AreMarksOf hash ks terms) (sym same) are

  grown : (term : Term) (mark : ℕ) (new : List ℕ) → new ≡ marks ++ mark ∷ []
      → (IsDistinct nat_eq (marks ++ mark ∷ []) → HasOneMore hash marks terms term (marks ++ mark ∷ [])) → IsDistinct nat_eq new
      → HasOneMore hash old terms term new
  grown term mark new is more distinct =
      subst (λ ks. HasOneMore hash ks terms term new) same
      (subst (λ ks. HasOneMore hash marks terms term ks) (sym is) (more (subst (IsDistinct nat_eq) is distinct)))

pub returns-then-is_new-clause-absent : goal.returns-then-is_new-clause-absent
returns-then-is_new-clause-absent c =
    let hash = hash_of c.args.self.now.hasher in
    let keys = c.loop-place.self.set.keys in
    let same = c.loop-place.invariant.keys ∙ c.expect.ensures.keys in
    let are = still hash keys c.args.terms.now c.args.self.now.set.keys same c.requires.marks_of in
    let n = inserted_new keys c.loop-place.mark (sym c.if-is_new.true ∙ c.in_ok-place.ensures.added) in
    absent_at hash keys c.args.terms.now c.args.term.now c.loop-place.mark are c.loop-place.invariant.searched n.0

pub returns-then-is_new-clause-added : goal.returns-then-is_new-clause-added
returns-then-is_new-clause-added c =
    let hash = hash_of c.args.self.now.hasher in
    let keys = c.loop-place.self.set.keys in
    let same = c.loop-place.invariant.keys ∙ c.expect.ensures.keys in
    let are = still hash keys c.args.terms.now c.args.self.now.set.keys same c.requires.marks_of in
    let n = inserted_new keys c.loop-place.mark (sym c.if-is_new.true ∙ c.in_ok-place.ensures.added) in
    grown hash keys c.args.terms.now c.args.self.now.set.keys same c.requires.marks_of c.args.term.now c.loop-place.mark c.insert_full.new.self.keys
    (c.in_ok-place.ensures.keys ∙ n.1)
    (HasOneMore-after hash keys c.args.terms.now c.args.term.now c.loop-place.mark are c.loop-place.invariant.searched (search rules))
    c.in_ok-place.ensures.unique

pub loop-place-preserved : goal.loop-place-preserved
loop-place-preserved c =
    let hash = hash_of c.args.self.now.hasher in
    let keys = c.loop-place.self.set.keys in
    let same = c.loop-place.invariant.keys ∙ c.expect.ensures.keys in
    let are = still hash keys c.args.terms.now c.args.self.now.set.keys same c.requires.marks_of in
    let kept = c.in_ok-place.ensures.keys ∙ inserted_old keys c.loop-place.mark (sym c.if-is_new.false ∙ c.in_ok-place.ensures.added) in
    let stored = c.in_ok-place.ensures.stored in
    let there = subst (λ ks. slice_get ks c.in_ok-place.place ≡ Some stored.0) kept stored.1 ∙ ap Some (sym (eqb-true c.loop-place.mark stored.0 stored.2)) in
    let more =
    HasSearched-more keys c.args.terms.now c.args.term.now (hash c.args.term.now) c.loop-place.mark c.in_ok-place.place are.distinct there
    (other c.args.terms.now c.in_ok-place.place c.get.result c.args.term.now c.get.ensures (λ is. true≢false (sym (c.is_same.ensures.1 is) ∙ c.if-is_same.false)))
    c.loop-place.invariant.searched in
    record {
      keys = kept ∙ c.loop-place.invariant.keys;
      hasher = c.loop-place.invariant.hasher;
      searched = subst (λ ks. HasSearched ks c.args.terms.now c.args.term.now (hash c.args.term.now) (c.loop-place.mark + 1)) (sym kept) more;
    }
