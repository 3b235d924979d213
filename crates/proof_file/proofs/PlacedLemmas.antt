-- Numbers of terms in a proof.
use Rattle.std.proofs.Common.{List, [], ◌∷◌, ◌++◌, ℕ, zero, suc, ◌+◌, ◌-◌, ◌<◌, false, Some, length, slice_get, slice_index, set, ◌≡◌, inl, inr, refl, sym, ap, subst, ◌∙◌, arith, true≢false}
use Rattle.std.proofs.lemmas.Bool.{cases_eq, false_from_ne_true}
use Rattle.std.proofs.lemmas.List.{get_or-set_same, get_or-set_other, length-set}
use Rattle.std.proofs.lemmas.Option.{slice_get-get_or, get_or_from_slice_get}
use Rattle.gk_base.specs.declared.term.Term.{Term}
use Rattle.gk_base.specs.declared.term.Term.TheVariants.{Plain}
use Rattle.term_table.specs.Numbering.{is_named, place_of, with_term, AreDistinct}
use Rattle.term_table.proofs.CallerLemmas.{is_named-at, with_term-named, with_term-new, place-is_named, place_of-at, AreDistinct-with_term}
use Rattle.term_list.proofs.CallerLemmas.{slice_get-of_push}
use Rattle.proof_file.specs.Steps.{term_at}
use Rattle.proof_file.specs.TermNumbers.{NotesPlaces}

pub placed_known : (names terms : List Term) (places : List ℕ) (n : ℕ) → NotesPlaces names terms places → n < length names → 0 < slice_index places n → terms ≡ with_term terms (term_at names n)
placed_known names terms places n p h some = sym (with_term-named terms (term_at names n) (is_named-at terms (term_at names n) (slice_index places n - 1) (p.known n (slice_index places n - 1) h (omega arith))))

pub placed_new : (names terms : List Term) (places : List ℕ) (n : ℕ) (t : Term) → NotesPlaces names terms places → n < length names → slice_index places n ≡ 0 → slice_get names n ≡ Some t → terms ++ t ∷ [] ≡ with_term terms (term_at names n)
placed_new names terms places n t p h none at =
    let same : term_at names n ≡ t = get_or_from_slice_get names n t (Plain []) at in
    sym (with_term-new terms (term_at names n) (p.fresh n h none) ∙ ap (λ u. terms ++ u ∷ []) same)

at_end : (terms : List Term) (t : Term) → slice_get (terms ++ t ∷ []) (length terms) ≡ Some t
at_end [] t = refl
at_end (u ∷ terms) t = at_end terms t

at_front : (terms : List Term) (t u : Term) (k : ℕ) → slice_get terms k ≡ Some u → slice_get (terms ++ t ∷ []) k ≡ Some u
at_front [] t u k at = absurd cc
at_front (v ∷ terms) t u zero at = at
at_front (v ∷ terms) t u (suc k) at = at_front terms t u k at

-- the number that a term has, be it noted or new
pub number_known : (names terms : List Term) (places : List ℕ) (n k : ℕ) → NotesPlaces names terms places → n < length names → slice_index places n ≡ k + 1 → k ≡ place_of terms (term_at names n)
number_known names terms places n k p h e = sym (place_of-at terms p.distinct (term_at names n) k (p.known n k h e))

pub number_new : (names terms : List Term) (places : List ℕ) (n : ℕ) (t : Term) → NotesPlaces names terms places → n < length names → slice_index places n ≡ 0 → slice_get names n ≡ Some t →
    length terms ≡ place_of (terms ++ t ∷ []) (term_at names n)
number_new names terms places n t p h none at =
    let same : term_at names n ≡ t = get_or_from_slice_get names n t (Plain []) at in
    let new : is_named terms t ≡ false = ap (is_named terms) (sym same) ∙ p.fresh n h none in
    let distinct : AreDistinct (terms ++ t ∷ []) = subst AreDistinct (with_term-new terms t new) (AreDistinct-with_term terms t p.distinct) in
    sym (place_of-at (terms ++ t ∷ []) distinct (term_at names n) (length terms) (at_end terms t ∙ ap Some (sym same)))

-- nothing has come
pub placed_none : (names : List Term) (places : List ℕ) → length places ≡ length names → ((n : ℕ) → slice_index places n ≡ 0) → NotesPlaces names [] places
placed_none names places count none = record {
  distinct = record { one_place = λ i j t a b. absurd cc };
  count = count;
  known = λ n k h e. absurd (let z = none n in omega arith);
  fresh = λ n h e. refl;
}

pub placed_more : (names terms : List Term) (places : List ℕ) (n : ℕ) (t : Term) → AreDistinct names → NotesPlaces names terms places → n < length names → slice_index places n ≡ 0 → slice_get names n ≡ Some t →
    NotesPlaces names (terms ++ t ∷ []) (set places n (length terms + 1))
placed_more names terms places n t distinct p h none at =
    let c = p.count in
    record {
      distinct = subst AreDistinct (with_term-new terms t (ap (is_named terms) (sym (get_or_from_slice_get names n t (Plain []) at)) ∙ p.fresh n h none)) (AreDistinct-with_term terms t p.distinct);
      count = length-set places n (length terms + 1) ∙ p.count;
      known = λ m k hm e. elim (cases_eq m n) [
        | inl same ↦
            (let here : slice_index (set places n (length terms + 1)) m ≡ length terms + 1 = ap (slice_index (set places n (length terms + 1))) same ∙ get_or-set_same places n (length terms + 1) 0 (omega arith) in
            let k_is : length terms ≡ k = omega arith in
            ap (slice_get (terms ++ t ∷ [])) (sym k_is) ∙ at_end terms t ∙ ap Some (sym (ap (term_at names) same ∙ get_or_from_slice_get names n t (Plain []) at)))
        | inr other ↦ at_front terms t (term_at names m) k (p.known m k hm (sym (get_or-set_other places n m (length terms + 1) 0 other) ∙ e))
      ];
      fresh = λ m hm e. elim (cases_eq m n) [
        | inl same ↦
            absurd (let here : slice_index (set places n (length terms + 1)) m ≡ length terms + 1 = ap (slice_index (set places n (length terms + 1))) same ∙ get_or-set_same places n (length terms + 1) 0 (omega arith) in omega arith)
        | inr other ↦
            (let before = p.fresh m hm (sym (get_or-set_other places n m (length terms + 1) 0 other) ∙ e) in
            false_from_ne_true (is_named (terms ++ t ∷ []) (term_at names m)) (λ q.
            let r = place-is_named (terms ++ t ∷ []) (term_at names m) q in
            elim (slice_get-of_push terms t r.0 (term_at names m) r.1) [
              | inl old ↦ true≢false (sym (is_named-at terms (term_at names m) r.0 old) ∙ before)
              | inr new ↦ other (distinct.one_place m n t (slice_get-get_or names m (Plain []) hm ∙ ap Some (sym new.1)) at)
            ]))
      ];
    }
