-- The faces of the labels, name by name.
use Rattle.std.proofs.Common.{◌≡◌, ◌⊎◌, ℕ, ◌+◌, ◌<◌, ◌≤◌, Bool, true, false, cond, eqb, List, length, get_or, Option, Some, None, unwrap_or, Ordering, IfSome, inl, inr, refl, sym, ap, ◌∙◌, subst, arith, ⊎_elim}
use Rattle.std.proofs.lemmas.Bool.{cases_lt, cond_both, eq-eqb, eqb-true, true≢false}
use Rattle.std.proofs.lemmas.Cmp.{nat_list_cmp_total, tied_itself, upto}
use Rattle.std.specs.Ordering.{nat_cmp, is_le, is_gt, ordering_reverse}
use Rattle.std.specs.Cmp.Lexicographic.{slice_cmp}
use Rattle.std.specs.declared.cmp.Ordering.TheVariants.{Less, Equal, Greater}
use Rattle.chase_laws.specs.Report.{text_at, not_above}
use Rattle.merge_graph.specs.declared.face_table.FaceTable.{FaceTable}
use Rattle.merge_graph.specs.Faces.{kept_face, next_face, IsFirstBelow, IsEntry, KeepsFaces}
use Rattle.merge_graph.specs.MergedGraph.{same_label, IsFace}

no_gt : (o : Ordering) → is_le o ≡ true → is_gt o ≡ false
no_gt Less e = refl
no_gt Equal e = refl
no_gt Greater e = absurd (true≢false (sym e))

le_from : (o : Ordering) → is_gt o ≡ false → is_le o ≡ true
le_from Less e = refl
le_from Equal e = refl
le_from Greater e = absurd (true≢false e)

turned_le : (o : Ordering) → is_le o ≡ false → is_le (ordering_reverse o) ≡ true
turned_le Less e = absurd (true≢false e)
turned_le Equal e = absurd (true≢false e)
turned_le Greater e = refl

-- the order of names by their texts
module _ (texts : List (List ℕ)) where
  not_above-itself : (m : ℕ) → not_above texts m m ≡ true
  not_above-itself m = ap is_le (tied_itself nat_list_cmp_total (text_at texts m))

  not_above-trans : (l m n : ℕ) → not_above texts l m ≡ true → not_above texts m n ≡ true → not_above texts l n ≡ true
  not_above-trans l m n p q = le_from _ (upto nat_list_cmp_total (text_at texts l) (text_at texts m) (text_at texts n) (no_gt _ p) (no_gt _ q))

  not_above-else : (m n : ℕ) → not_above texts m n ≡ false → not_above texts n m ≡ true
  not_above-else m n e = ap is_le (nat_list_cmp_total.antisymm (text_at texts n) (text_at texts m)) ∙ turned_le (slice_cmp nat_cmp (text_at texts m) (text_at texts n)) e

-- a number below k + 1 is k or below k
last_or_below : (k n : ℕ) → n < k + 1 → (n ≡ k) ⊎ (n < k)
last_or_below k n l = ⊎_elim (λ below. inr below) (λ above. inl (omega (arith, above, l))) (cases_lt n k)

module _ (texts : List (List ℕ)) (labels : List ℕ) (k : ℕ) where
  -- name k has another label
  other : (label : ℕ) (o : Option ℕ) → (get_or labels k 0 ≡ label → ⊥) → IsEntry texts labels k label o → IsEntry texts labels (k + 1) label o
  other label None apart e = λ n l h. ⊎_elim (λ is. apart (ap (λ v. get_or labels v 0) (sym is) ∙ h)) (λ below. e n below h) (last_or_below k n l)
  other label (Some m) apart e = record {
    below = omega (arith, e.below);
    has = e.has;
    first = λ n l h. ⊎_elim (λ is. absurd (apart (ap (λ v. get_or labels v 0) (sym is) ∙ h))) (λ below. e.first n below h) (last_or_below k n l);
  }

  -- name k has this label, and is compared with the face so far
  compared : (label m : ℕ) (b : Bool) → not_above texts m k ≡ b → get_or labels k 0 ≡ label → IsFirstBelow texts labels k label m → IsFirstBelow texts labels (k + 1) label (cond b m k)
  compared label m true le is e = record {
    below = omega (arith, e.below);
    has = e.has;
    first = λ n l h. ⊎_elim (λ at. ap (not_above texts m) at ∙ le) (λ below. e.first n below h) (last_or_below k n l);
  }
  compared label m false le is e = record {
    below = omega arith;
    has = is;
    first = λ n l h. ⊎_elim (λ at. ap (not_above texts k) at ∙ not_above-itself texts k) (λ below. not_above-trans texts k m n (not_above-else texts m k le) (e.first n below h)) (last_or_below k n l);
  }

  seen : (label : ℕ) (o : Option ℕ) → get_or labels k 0 ≡ label → IsEntry texts labels k label o → IsEntry texts labels (k + 1) label (Some (next_face texts o k))
  seen label None is e = record {
    below = omega arith;
    has = is;
    first = λ n l h. ⊎_elim (λ at. ap (not_above texts k) at ∙ not_above-itself texts k) (λ below. absurd (e n below h)) (last_or_below k n l);
  }
  seen label (Some m) is e = compared label m (not_above texts m k) refl is e

  -- the table once name k is seen
  pub keeps_more : (old new : FaceTable) (label : ℕ) → get_or labels k 0 ≡ label → KeepsFaces texts labels k old
      → ((l : ℕ) → kept_face new l ≡ cond (eqb l label) (Some (next_face texts (kept_face old label) k)) (kept_face old l)) → KeepsFaces texts labels (k + 1) new
  keeps_more old new label is keeps set = record {
    entry = λ l. subst (IsEntry texts labels (k + 1) l) (sym (set l))
        (cond_both (eqb l label) (Some (next_face texts (kept_face old label) k)) (kept_face old l) (IsEntry texts labels (k + 1) l)
        (λ e. subst (λ v. IsEntry texts labels (k + 1) v (Some (next_face texts (kept_face old label) k))) (sym (eqb-true l label e)) (seen label (kept_face old label) is (keeps.entry label)))
        (λ e. other l (kept_face old l) (λ h. true≢false (sym (eq-eqb l label (sym h ∙ is)) ∙ e)) (keeps.entry l)));
  }

-- a table without faces
pub keeps_none : (texts : List (List ℕ)) (labels : List ℕ) (table : FaceTable) → ((label : ℕ) → kept_face table label ≡ None) → KeepsFaces texts labels 0 table
keeps_none texts labels table none = record { entry = λ label. subst (IsEntry texts labels 0 label) (sym (none label)) (λ n l h. absurd (omega (arith, l))) }

-- a face is one of the names that were seen
pub entry_within : (texts : List (List ℕ)) (labels : List ℕ) (k count label : ℕ) (o : Option ℕ) → k ≤ count → IsEntry texts labels k label o → IfSome o (λ m. m < count)
entry_within texts labels k count label None le e = tt
entry_within texts labels k count label (Some m) le e = omega (arith, le, e.below)

-- the face of a name, once all names are seen
pub entry_face : (texts : List (List ℕ)) (labels : List ℕ) (n : ℕ) (o : Option ℕ) → length labels ≡ length texts → n < length labels → IsEntry texts labels (length labels) (get_or labels n 0) o
    → IsFace texts (same_label labels) n (unwrap_or o n)
entry_face texts labels n None long l e = absurd (e n l refl)
entry_face texts labels n (Some m) long l e = record {
  in_range = omega (arith, long, e.below);
  member = eq-eqb (get_or labels n 0) (get_or labels m 0) (sym e.has);
  first = λ k below h. e.first k (omega (arith, long, below)) (sym (eqb-true (get_or labels n 0) (get_or labels k 0) h));
}
