-- Rows with the parts of what some tests pass.
use Rattle.std.proofs.Common.{List, [], ◌∷◌, ◌++◌, ℕ, zero, suc, Option, Some, None, Contains, slice_get, slice_index, get_or, take, length, ◌≡◌, ◌<◌, ◌≤◌, ◌+◌, ◌⊎◌, inl, inr, refl, sym, ◌∙◌, ap, subst, arith, length-append}
use Rattle.std.specs.List.{flat_map, range_with_len}
use Rattle.std.proofs.lemmas.Bool.{cases_lt}
use Rattle.std.proofs.lemmas.List.{get_or-take, take_more}
use Rattle.std.proofs.lemmas.List.Elements.{Contains-push_cases, Contains-push, Contains-append_left}
use Rattle.std.proofs.lemmas.Option.{slice_get_within}
use Rattle.chase_laws.specs.declared.pattern.Slot.{Slot}
use Rattle.chase_laws.specs.declared.pattern.Slot.TheVariants.{Entity, Any as AnyOf, Value, Folded, Fixed}
use Rattle.chase_laws.specs.Shape.{Shape, PatternFacts}
use Rattle.chase_laws.specs.Graph.{NumberedGraph}
use Rattle.chase_laws.specs.Valuation.{IsValuation}
use Rattle.chase_laws.specs.Signature.{SignatureParts, parts_of, value_at, image_at, values_of, images_of}
use Rattle.key_plan.specs.Route.{Route, IsPlanOf}
use Rattle.valuation_groups.specs.Rows.{KeyRows}
use Rattle.key_valuations.specs.Marks.{IsCompletedBy, IsMarkedPart}
use Rattle.key_valuations.specs.Counts.{HasCounts}
use Rattle.key_valuations.specs.Listing.{IsBare, AreBareFrom, IsReached, AddsParts, AddsSome}
use Rattle.key_valuations.proofs.PartLaws.{last_at}
use Rattle.key_valuations.proofs.MarkLaws.{value_piece, image_piece}
use Rattle.key_valuations.proofs.CompleteLaws.{completes_next, completes_before, contains_more, marked_front}
use Rattle.key_valuations.proofs.Moves.{there}

-- ---- rows and tests

module _ (G : NumberedGraph) (Q : Shape) where
  -- nothing passes
  pub adds_none : (A : List ℕ → Type 0) (rows : KeyRows) → ((v : List ℕ) → A v → ⊥) → AddsParts G Q A rows rows
  adds_none A rows none = record {
    key = refl;
    value_count = refl;
    image_count = refl;
    kept = λ p h. h;
    only = λ p h. inl h;
    every = λ v a. absurd (none v a);
  }

  -- one row for all that pass, which have the same parts
  pub adds_one : (A : List ℕ → Type 0) (old new : KeyRows) (w : List ℕ) → new ≡ record old { parts = old.parts ++ parts_of G old.key Q w ∷ [] } → A w →
      ((v : List ℕ) → A v → parts_of G old.key Q v ≡ parts_of G old.key Q w) → AddsParts G Q A old new
  adds_one A old new w e passes same = subst (AddsParts G Q A old) (sym e) (record {
    key = refl;
    value_count = refl;
    image_count = refl;
    kept = λ p h. Contains-append_left old.parts (parts_of G old.key Q w ∷ []) p h;
    only = λ p h. elim (Contains-push_cases old.parts (parts_of G old.key Q w) p h) [
      | inl old ↦ inl old
      | inr new ↦ inr (w, passes, sym new)
    ];
    every = λ v a. subst (Contains (old.parts ++ parts_of G old.key Q w ∷ [])) (sym (same v a)) (Contains-push old.parts (parts_of G old.key Q w));
  })

  -- what passes one test or another, one after the other
  pub adds_then : (A B C : List ℕ → Type 0) (old mid new : KeyRows) → AddsParts G Q A old mid → AddsParts G Q B mid new →
      ((v : List ℕ) → C v → A v ⊎ B v) → ((v : List ℕ) → A v → C v) → ((v : List ℕ) → B v → C v) → AddsParts G Q C old new
  adds_then A B C old mid new first second split a b = record {
    key = second.key ∙ first.key;
    value_count = second.value_count ∙ first.value_count;
    image_count = second.image_count ∙ first.image_count;
    kept = λ p h. second.kept p (first.kept p h);
    only = λ p h. elim (second.only p h) [
      | inl m ↦ elim (first.only p m) [
        | inl o ↦ inl o
        | inr x ↦ inr (x.0, a x.0 x.1, x.2)
      ]
      | inr y ↦ inr (y.0, b y.0 y.1, subst (λ (key : ℕ). p ≡ parts_of G key Q y.0) first.key y.2)
    ];
    every = λ v c. elim (split v c) [
      | inl x ↦ second.kept (parts_of G old.key Q v) (first.every v x)
      | inr y ↦ subst (λ (key : ℕ). Contains new.parts (parts_of G key Q v)) first.key (second.every v y)
    ];
  }

  -- the same test in other words
  pub adds_same : (A B : List ℕ → Type 0) (old new : KeyRows) → ((v : List ℕ) → A v → B v) → ((v : List ℕ) → B v → A v) → AddsParts G Q A old new → AddsParts G Q B old new
  adds_same A B old new a b x = record {
    key = x.key;
    value_count = x.value_count;
    image_count = x.image_count;
    kept = x.kept;
    only = λ p h. elim (x.only p h) [
      | inl o ↦ inl o
      | inr y ↦ inr (y.0, a y.0 y.1, y.2)
    ];
    every = λ v h. x.every v (b v h);
  }

-- ---- parts of lists that begin alike

pieces_same : (f g : ℕ → List ℕ) (k n : ℕ) → ((s : ℕ) → s < k + n → f s ≡ g s) → flat_map f (range_with_len k n) ≡ flat_map g (range_with_len k n)
pieces_same f g k zero h = refl
pieces_same f g k (suc n) h =
    let first : f k ≡ g k = h k (omega arith) in
    let others : flat_map f (range_with_len (k + 1) n) ≡ flat_map g (range_with_len (k + 1) n) = pieces_same f g (k + 1) n (λ s lt. h s (omega arith)) in
    ap (λ xs. xs ++ flat_map f (range_with_len (k + 1) n)) first ∙ ap (λ ys. g k ++ ys) others

bare_value : (G : NumberedGraph) (slot : Slot) (m n : ℕ) → IsBare slot → value_at G (Some slot) m ≡ value_at G (Some slot) n
bare_value G (Entity t) m n h = absurd h
bare_value G (AnyOf t) m n h = refl
bare_value G Value m n h = absurd h
bare_value G Folded m n h = absurd h
bare_value G (Fixed c) m n h = refl

bare_image : (s : ℕ) (slot : Slot) (m n : ℕ) → IsBare slot → image_at s (Some slot) m ≡ image_at s (Some slot) n
bare_image s (Entity t) m n h = absurd h
bare_image s (AnyOf t) m n h = refl
bare_image s Value m n h = absurd h
bare_image s Folded m n h = absurd h
bare_image s (Fixed c) m n h = refl

module _ (G : NumberedGraph) (Q : Shape) (R : Route) (marks : List (Option ℕ)) (facts : PatternFacts Q) (plan : IsPlanOf Q R) where
  long : length R.place ≡ length Q.slots
  long = plan.places.as_long ∙ plan.order.one_each

  -- the number at a slot whose place is in the list
  in_front : (p v : List ℕ) → IsReached G R marks p v → (s : ℕ) → s < length Q.slots → slice_index R.place s < length p → slice_index v s ≡ slice_index p (slice_index R.place s)
  in_front p v r s in_s h =
      r.placed.each s (omega (arith, long)) ∙ sym (get_or-take (length p) r.ordered (slice_index R.place s) 0 h) ∙ ap (λ (q : List ℕ). slice_index q (slice_index R.place s)) r.completed.begins

  module _ (p v w : List ℕ) (bare : AreBareFrom R.shape (length p)) (begun : 0 < length p) (a : IsReached G R marks p v) (b : IsReached G R marks p w) where
    same_front : (s : ℕ) → s < length Q.slots → slice_index R.place s < length p → slice_index v s ≡ slice_index w s
    same_front s in_s h = in_front p v a s in_s h ∙ sym (in_front p w b s in_s h)

    bare_at : (s : ℕ) (slot : Slot) → slice_get Q.slots s ≡ Some slot → length p ≤ slice_index R.place s → IsBare slot
    bare_at s slot at past =
        let move = there Q R facts plan in
        bare (slice_index R.place s) slot past (sym (move.slots s (slice_get_within Q.slots s slot at)) ∙ at)

    same_piece : (s : ℕ) → s < length Q.slots → (value_piece G Q v s ≡ value_piece G Q w s) × (image_piece Q v s ≡ image_piece Q w s)
    same_piece s in_s = elim (cases_lt (slice_index R.place s) (length p)) [
      | inl h ↦ (let e = same_front s in_s h in (ap (value_at G (slice_get Q.slots s)) e, ap (image_at s (slice_get Q.slots s)) e))
      | inr past ↦ bare_case (slice_get Q.slots s) refl past
    ]
      where
        bare_case : (o : Option Slot) → slice_get Q.slots s ≡ o → length p ≤ slice_index R.place s →
            (value_at G (slice_get Q.slots s) (slice_index v s) ≡ value_at G (slice_get Q.slots s) (slice_index w s)) × (image_at s (slice_get Q.slots s) (slice_index v s) ≡ image_at s (slice_get Q.slots s) (slice_index w s))
        bare_case (Some slot) at past = subst (λ (o : Option Slot). (value_at G o (slice_index v s) ≡ value_at G o (slice_index w s)) × (image_at s o (slice_index v s) ≡ image_at s o (slice_index w s))) (sym at)
            (bare_value G slot (slice_index v s) (slice_index w s) (bare_at s slot at past), bare_image s slot (slice_index v s) (slice_index w s) (bare_at s slot at past))
        bare_case None at past = subst (λ (o : Option Slot). (value_at G o (slice_index v s) ≡ value_at G o (slice_index w s)) × (image_at s o (slice_index v s) ≡ image_at s o (slice_index w s))) (sym at) (refl, refl)

    pub same_parts : (key : ℕ) → parts_of G key Q v ≡ parts_of G key Q w
    same_parts key =
        let move = there Q R facts plan in
        let some : 0 < length Q.slots = slice_get_within Q.slots 0 (Entity facts.first.0) facts.first.1 in
        let name : slice_index v 0 ≡ slice_index w 0 = same_front 0 some (omega (arith, move.first)) in
        let values : values_of G Q v ≡ values_of G Q w = pieces_same (value_piece G Q v) (value_piece G Q w) 0 (length Q.slots) (λ s lt. (same_piece s (omega (arith, lt))).0) in
        let images : images_of Q v ≡ images_of Q w = pieces_same (image_piece Q v) (image_piece Q w) 0 (length Q.slots) (λ s lt. (same_piece s (omega (arith, lt))).1) in
        ap (λ (n : ℕ). let x : SignatureParts = record { key = key; name = n; values = values_of G Q v; images = images_of Q v } in x) name
        ∙ ap (λ (us : List ℕ). let x : SignatureParts = record { key = key; name = slice_index w 0; values = us; images = images_of Q v } in x) values
        ∙ ap (λ (us : List ℕ). let x : SignatureParts = record { key = key; name = slice_index w 0; values = values_of G Q w; images = us } in x) images

-- ---- one more number tried

-- a list that is reached from p, with one of the first names of a list behind it
pub record IsReachedBy (G : NumberedGraph) (R : Route) (marks : List (Option ℕ)) (p names : List ℕ) (v : List ℕ) : Type 0 where
  pub reached : IsReached G R marks p v
  pub tried : Contains names (slice_index reached.ordered (length p))

module _ (G : NumberedGraph) (Q : Shape) (R : Route) (marks : List (Option ℕ)) (p : List ℕ) (short : length p < length R.shape.slots) where
  -- what is reached with one name behind the list
  pub reached_next : (m : ℕ) (v : List ℕ) (r : IsReached G R marks p v) → m ≡ slice_index r.ordered (length p) → IsReached G R marks (p ++ m ∷ []) v
  reached_next m v r e = record {
    ordered = r.ordered;
    placed = r.placed;
    completed = subst (λ (n : ℕ). IsCompletedBy G R.shape marks (p ++ n ∷ []) r.ordered) (sym e) (completes_next G R.shape marks p r.ordered short r.completed).1;
  }

  -- what is reached from a list shows that it is part of a valuation
  pub reached_part : (m : ℕ) (v : List ℕ) → IsReached G R marks (p ++ m ∷ []) v → IsMarkedPart G R.shape marks (p ++ m ∷ [])
  reached_part m v r = subst (IsMarkedPart G R.shape marks) r.completed.begins
      (marked_front G R.shape marks r.ordered (length (p ++ m ∷ [])) (omega (arith, length-append p (m ∷ []))) r.completed.valuation r.completed.marked)

  next_is : (m : ℕ) (v : List ℕ) → take (length (p ++ m ∷ [])) v ≡ p ++ m ∷ [] → slice_index v (length p) ≡ m
  next_is m v e = sym (get_or-take (length (p ++ m ∷ [])) v (length p) 0 (omega (arith, length-append p (m ∷ [])))) ∙ ap (λ (q : List ℕ). slice_index q (length p)) e ∙ last_at p m 0

  module _ (names : List ℕ) (i : ℕ) (within : i < length names) where
    reached_more : (v : List ℕ) → IsReachedBy G R marks p (take i names) v → IsReachedBy G R marks p (take (i + 1) names) v
    reached_more v r = record { reached = r.reached; tried = more (slice_index r.reached.ordered (length p)) r.tried }
      where
        more : (x : ℕ) → Contains (take i names) x → Contains (take (i + 1) names) x
        more x h = subst (λ (xs : List ℕ). Contains xs x) (sym (take_more names i 0 within)) (Contains-append_left (take i names) (get_or names i 0 ∷ []) x h)

    reached_new : (v : List ℕ) → IsReached G R marks (p ++ get_or names i 0 ∷ []) v → IsReachedBy G R marks p (take (i + 1) names) v
    reached_new v r = record {
      reached = record { ordered = r.ordered; placed = r.placed; completed = completes_before G R.shape marks p r.ordered (get_or names i 0) r.completed };
      tried = subst (Contains (take (i + 1) names)) (sym (next_is (get_or names i 0) r.ordered r.completed.begins))
          (subst (λ (xs : List ℕ). Contains xs (get_or names i 0)) (sym (take_more names i 0 within)) (Contains-push (take i names) (get_or names i 0)));
    }

    reached_cases : (v : List ℕ) → IsReachedBy G R marks p (take (i + 1) names) v → IsReachedBy G R marks p (take i names) v ⊎ IsReached G R marks (p ++ get_or names i 0 ∷ []) v
    reached_cases v r = elim (contains_more names i (slice_index r.reached.ordered (length p)) 0 within r.tried) [
      | inl old ↦ inl (record { reached = r.reached; tried = old })
      | inr new ↦ inr (reached_next (get_or names i 0) v r.reached new)
    ]

    pub tried_more : (old mid new : KeyRows) → AddsParts G Q (IsReachedBy G R marks p (take i names)) old mid → AddsParts G Q (IsReached G R marks (p ++ get_or names i 0 ∷ [])) mid new →
        AddsParts G Q (IsReachedBy G R marks p (take (i + 1) names)) old new
    tried_more old mid new first second = adds_then G Q _ _ _ old mid new first second reached_cases reached_more reached_new

-- ---- rows that have at least what passes

module _ (G : NumberedGraph) (Q : Shape) where
  pub some_none : (A : List ℕ → Type 0) (rows : KeyRows) → ((v : List ℕ) → A v → ⊥) → AddsSome G Q A rows rows
  some_none A rows none = record {
    key = refl;
    value_count = refl;
    image_count = refl;
    kept = λ p h. h;
    only = λ p h. inl h;
    every = λ v a. absurd (none v a);
  }

  pub some_of_all : (A B : List ℕ → Type 0) (old new : KeyRows) → AddsParts G Q A old new → ((v : List ℕ) → A v → IsValuation G Q v) → ((v : List ℕ) → B v → A v) → AddsSome G Q B old new
  some_of_all A B old new x valuation a = record {
    key = x.key;
    value_count = x.value_count;
    image_count = x.image_count;
    kept = x.kept;
    only = λ p h. elim (x.only p h) [
      | inl o ↦ inl o
      | inr y ↦ inr (y.0, valuation y.0 y.1, y.2)
    ];
    every = λ v b. x.every v (a v b);
  }

-- rows keep how many values and images they have
pub counts_kept : (Q : Shape) (old new : KeyRows) → new.value_count ≡ old.value_count → new.image_count ≡ old.image_count → HasCounts Q old.value_count old.image_count → HasCounts Q new.value_count new.image_count
counts_kept Q old new e f h = λ G v. ((h G v).0 ∙ sym e, (h G v).1 ∙ sym f)
