-- Steps with supports anew.
use Rattle.std.proofs.Common.{List, [], ◌∷◌, ◌++◌, ℕ, zero, suc, ◌≤◌, Some, All, map, length, slice_get, ◌≡◌, refl, sym, ap, ap₂, ◌∙◌, arith}
use Rattle.std.specs.Iterator.{Yields}
use Rattle.std.specs.Vec.Iter.{into_iter_items, into_iter_steps}
use Rattle.std.specs.declared.vec.IntoIter.{IntoIter}
use Rattle.std.proofs.lemmas.List.Elements.{All-cons, All-head, All-tail}
use Rattle.gk_base.specs.declared.term.Term.{Term}
use Rattle.chase_laws.specs.declared.entry.Entry.{Entry}
use Rattle.term_table.specs.Numbering.{names_of}
use Rattle.proof_file.specs.Steps.{StepNumbers, step_terms, steps_terms, step_with, IsNumberedBelow, IsProof}
use Rattle.why_pair.specs.Relinked.{relinked_numbers, relinked_step, with_each}

-- what the iterator of a vector has given is a front of its items
pub taken_front : {X A : Type 0} (s : IntoIter X A) (xs : List X) (t : IntoIter X A) → Yields into_iter_steps s xs t → into_iter_items s ≡ xs ++ into_iter_items t
taken_front s [] t y = ap into_iter_items y
taken_front s (x ∷ xs) t y = y.1.0 ∙ ap (λ ys. x ∷ ys) (taken_front y.0 xs t y.2)

pub none_of : {X : Type 0} (xs : List X) → length xs ≡ 0 → xs ≡ []
none_of [] h = refl
none_of (x ∷ xs) h = absurd (omega arith)

pub at_front : {X : Type 0} (xs : List X) (x : X) (rest : List X) → slice_get (xs ++ x ∷ rest) (length xs) ≡ Some x
at_front [] x rest = refl
at_front (y ∷ xs) x rest = at_front xs x rest

-- one step more
pub with_more : {S : Type 0} (make : Entry → S → S) (entries : List Entry) (steps : List S) (e : Entry) (step : S) → slice_get entries (length steps) ≡ Some e →
    with_each make entries (steps ++ step ∷ []) ≡ with_each make entries steps ++ make e step ∷ []
with_more make [] [] e step at = absurd cc
with_more make [] (s ∷ steps) e step at = absurd cc
with_more make (f ∷ entries) [] e step at = let same : f ≡ e = cc in ap (λ g. make g step ∷ []) same
with_more make (f ∷ entries) (s ∷ steps) e step at = ap (λ l. make f s ∷ l) (with_more make entries steps e step at)

pub length-with_each : {S : Type 0} (make : Entry → S → S) (entries : List Entry) (steps : List S) → length steps ≤ length entries → length (with_each make entries steps) ≡ length steps
length-with_each make entries [] l = refl
length-with_each make [] (s ∷ steps) l = absurd (omega arith)
length-with_each make (f ∷ entries) (s ∷ steps) l = ap suc (length-with_each make entries steps (omega arith))

-- the step of an entry
pub made_at : {S : Type 0} (make : Entry → S → S) (entries : List Entry) (steps : List S) (k : ℕ) (e : Entry) (made : S) → slice_get entries k ≡ Some e → slice_get (with_each make entries steps) k ≡ Some made →
    (step : S) × (slice_get steps k ≡ Some step) × (make e step ≡ made)
made_at make entries [] k e made there at = absurd cc
made_at make [] (s ∷ steps) k e made there at = absurd cc
made_at make (f ∷ entries) (s ∷ steps) zero e made there at = let same : f ≡ e = cc in let is : make f s ≡ made = cc in (s, refl, ap (λ g. make g s) (sym same) ∙ is)
made_at make (f ∷ entries) (s ∷ steps) (suc k) e made there at = made_at make entries steps k e made there at

pub make_at : {S : Type 0} (make : Entry → S → S) (entries : List Entry) (steps : List S) (k : ℕ) (e : Entry) (s : S) → slice_get entries k ≡ Some e → slice_get steps k ≡ Some s → slice_get (with_each make entries steps) k ≡ Some (make e s)
make_at make entries [] k e s at is = absurd cc
make_at make [] (t ∷ steps) k e s at is = absurd cc
make_at make (f ∷ entries) (t ∷ steps) zero e s at is = let x : f ≡ e = cc in let y : t ≡ s = cc in ap₂ (λ g u. Some (make g u)) x y
make_at make (f ∷ entries) (t ∷ steps) (suc k) e s at is = make_at make entries steps k e s at is

-- ---- the supports change nothing else

module _ (H : List Entry) (places : List ℕ) (terms : List Term) where
  abbrev make : Entry → StepNumbers → StepNumbers
  make = relinked_numbers H places

  same_terms : (entries : List Entry) (steps : List StepNumbers) → length steps ≤ length entries → steps_terms (map (step_with terms) (with_each make entries steps)) ≡ steps_terms (map (step_with terms) steps)
  same_terms entries [] l = refl
  same_terms [] (s ∷ steps) l = absurd (omega arith)
  same_terms (f ∷ entries) (s ∷ steps) l = ap (λ ts. step_terms (step_with terms s) ++ ts) (same_terms entries steps (omega arith))

  same_below : (count : ℕ) (entries : List Entry) (steps : List StepNumbers) → length steps ≤ length entries → All (IsNumberedBelow count) steps → All (IsNumberedBelow count) (with_each make entries steps)
  same_below count entries [] l h = h
  same_below count [] (s ∷ steps) l h = absurd (omega arith)
  same_below count (f ∷ entries) (s ∷ steps) l h =
      All-cons (IsNumberedBelow count) (make f s) (with_each make entries steps) (All-head (IsNumberedBelow count) s steps h)
      (same_below count entries steps (omega arith) (All-tail (IsNumberedBelow count) s steps h))

  pub still_proof : (entries : List Entry) (steps : List StepNumbers) → length steps ≤ length entries → IsProof terms steps → IsProof terms (with_each make entries steps)
  still_proof entries steps l h = record {
    named = h.named ∙ ap names_of (sym (same_terms entries steps l));
    inside = same_below (length terms) entries steps l h.inside;
  }

  pub with_terms_each : (entries : List Entry) (steps : List StepNumbers) → map (step_with terms) (with_each make entries steps) ≡ with_each (relinked_step H places) entries (map (step_with terms) steps)
  with_terms_each entries [] = refl
  with_terms_each [] (s ∷ steps) = refl
  with_terms_each (f ∷ entries) (s ∷ steps) = ap (λ l. relinked_step H places f (step_with terms s) ∷ l) (with_terms_each entries steps)
