-- The labels of a class, written member by member.
use Rattle.std.proofs.Common.{List, [], ◌∷◌, ◌++◌, ℕ, Contains, take, get_or, set, length, ◌≡◌, ◌≢◌, ◌<◌, ◌+◌, inl, inr, ◌∙◌, sym, ap, subst, arith, length-set, get_or-set_same, get_or-set_other}
use Rattle.std.proofs.lemmas.List.{take_all, take_more}
use Rattle.std.proofs.lemmas.List.Elements.{Contains-push, Contains-push_cases, Contains-append_left, All-get_or}
use mathlib.Core.Logic.{dite}
use native.Mathlib.Decide.{ℕ_discrete}
use Rattle.class_book.specs.Classes.{Classes, class_of, IsClass}
use Rattle.label_board.specs.Seen.{ShowsClass}

-- what is shown once so many of the members are written
pub record WritesMembers (before labels members : List ℕ) (done : ℕ) (after : List ℕ) : Type 0 where
  pub wide : length after ≡ length before
  pub written : (n : ℕ) → Contains (take done members) n → get_or after n 0 ≡ get_or labels n 0
  pub others : (n : ℕ) → ¬ (Contains (take done members) n) → get_or after n 0 ≡ get_or before n 0

module _ (before labels members : List ℕ) (done member : ℕ) (after : List ℕ) (w : WritesMembers before labels members done after)
    (within : done < length members) (here : get_or members done 0 ≡ member) (inside : member < length after) where
  more : take (done + 1) members ≡ take done members ++ member ∷ []
  more = take_more members done 0 within ∙ ap (λ (m : ℕ). take done members ++ m ∷ []) here

  pub one_written : WritesMembers before labels members (done + 1) (set after member (get_or labels member 0))
  one_written = let label : ℕ = get_or labels member 0 in record {
    wide = length-set after member label ∙ w.wide;
    written = λ n h. dite (ℕ_discrete n member)
        (λ (e : n ≡ member). ap (λ (k : ℕ). get_or (set after member label) k 0) e ∙ get_or-set_same after member label 0 inside ∙ ap (λ (k : ℕ). get_or labels k 0) (sym e))
        (λ (other : n ≢ member). get_or-set_other after member n label 0 other ∙ elim (Contains-push_cases (take done members) member n (subst (λ (xs : List ℕ). Contains xs n) more h)) [
          | inl k ↦ w.written n k
          | inr e ↦ absurd (other (sym e))
        ]);
    others = λ n h.
        let other : n ≢ member = λ e. h (subst (λ (xs : List ℕ). Contains xs n) (sym more) (subst (Contains (take done members ++ member ∷ [])) (sym e) (Contains-push (take done members) member))) in
        get_or-set_other after member n label 0 other ∙ w.others n (λ k. h (subst (λ (xs : List ℕ). Contains xs n) (sym more) (Contains-append_left (take done members) (member ∷ []) n k)));
  }

-- all members are written
pub class_written : (before : List ℕ) (book : Classes) (name : ℕ) (after : List ℕ) → IsClass book.labels book.journal name (class_of book name) →
    WritesMembers before book.labels (class_of book name) (length (class_of book name)) after → ShowsClass before book name after
class_written before book name after class w =
    let members : List ℕ = class_of book name in
    let whole = take_all (length members) members (omega arith) in
    record {
      wide = w.wide;
      members = λ n inside joined. w.written n (subst (λ (xs : List ℕ). Contains xs n) (sym whole) ((class.joined n inside).1 joined));
      others = λ n apart. w.others n (λ h.
          let stands : Contains members n = subst (λ (xs : List ℕ). Contains xs n) whole h in
          let inside : n < length book.labels = subst (λ (k : ℕ). k < length book.labels) stands.2 (All-get_or (λ k. k < length book.labels) members stands.0 n stands.1 class.in_range) in
          apart ((class.joined n inside).0 stands));
    }
