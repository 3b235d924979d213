-- The labels of a view that was read.
use Rattle.std.proofs.Common.{List, [], ◌∷◌, ℕ, Some, ◌≡◌, ◌==◌, slice_get, get_or, inl, inr, sym, ap, ◌∙◌, subst, eqb-true}
use Rattle.std.proofs.lemmas.Bool.{cases_Bool, cond-true, cond-false}
use Rattle.std.proofs.lemmas.List.Elements.{All-head, All-tail}
use Rattle.std.proofs.lemmas.Option.{same_Some, get_or_from_slice_get}
use Rattle.chase_laws.specs.declared.entry.Entry.{Entry}
use Rattle.chase_laws.specs.Joined.{Joined}
use Rattle.chase_laws.specs.View.{label_in}
use Rattle.label_board.specs.Seen.{AllJoined, AllShown}

-- where each label is joined with its name, so is the one that is found for a name
pub label_joined : (entries : List Entry) (view : List (ℕ × ℕ)) → AllJoined entries view → (n l : ℕ) → label_in view n ≡ Some l → Joined entries n l
label_joined entries [] all n l h = absurd (cc)
label_joined entries (p ∷ view) all n l h = elim (cases_Bool (p.0 == n)) [
  | inl t ↦
      (let e : p.1 ≡ l = same_Some p.1 l (sym (cond-true (p.0 == n) (Some p.1) (label_in view n) t) ∙ h) in
      subst (λ (z : ℕ × ℕ). Joined entries z.0 z.1) (λ i. (eqb-true p.0 n t i, e i)) (All-head (λ (q : ℕ × ℕ). Joined entries q.0 q.1) p view all))
  | inr f ↦ label_joined entries view (All-tail (λ (q : ℕ × ℕ). Joined entries q.0 q.1) p view all) n l (sym (cond-false (p.0 == n) (Some p.1) (label_in view n) f) ∙ h)
]

-- where each label is the one that is shown, so is the one that is found for a name
pub label_shown : (labels : List ℕ) (view : List (ℕ × ℕ)) → AllShown labels view → (n l : ℕ) → label_in view n ≡ Some l → l ≡ get_or labels n 0
label_shown labels [] all n l h = absurd (cc)
label_shown labels (p ∷ view) all n l h = elim (cases_Bool (p.0 == n)) [
  | inl t ↦
      (let e : p.1 ≡ l = same_Some p.1 l (sym (cond-true (p.0 == n) (Some p.1) (label_in view n) t) ∙ h) in
      let at : slice_get labels p.0 ≡ Some p.1 = All-head (λ (q : ℕ × ℕ). slice_get labels q.0 ≡ Some q.1) p view all in
      sym e ∙ sym (get_or_from_slice_get labels p.0 p.1 0 at) ∙ ap (λ (k : ℕ). get_or labels k 0) (eqb-true p.0 n t))
  | inr f ↦ label_shown labels view (All-tail (λ (q : ℕ × ℕ). slice_get labels q.0 ≡ Some q.1) p view all) n l (sym (cond-false (p.0 == n) (Some p.1) (label_in view n) f) ∙ h)
]
