-- Marks of given values and images, slot by slot.
use Rattle.std.proofs.Common.{List, [], ◌∷◌, ◌++◌, ℕ, zero, suc, Option, Some, slice_get, slice_index, set, length, ◌≡◌, ◌≢◌, ◌<◌, ◌+◌, inl, inr, refl, sym, ◌∙◌, ap, subst, arith, append_assoc, length-append}
use Rattle.std.specs.List.{flat_map, range_with_len}
use Rattle.std.proofs.Math.ListN.{length-set}
use Rattle.std.proofs.lemmas.Bool.{cases_eq}
use Rattle.std.proofs.lemmas.List.{get_or-set_same, get_or-set_other, append-nil}
use Rattle.std.proofs.lemmas.Option.{slice_get_within}
use Rattle.chase_laws.specs.declared.pattern.Slot.{Slot}
use Rattle.chase_laws.specs.Shape.{Shape}
use Rattle.chase_laws.specs.Graph.{NumberedGraph}
use Rattle.chase_laws.specs.Signature.{value_at, image_at, values_of, images_of}
use Rattle.key_valuations.specs.Marks.{IsMarked, IsNextMark, IsUsedUp, AreMarksOf, HasGiven, mark_at}
use Rattle.key_valuations.proofs.PartLaws.{some_same}

-- ---- pieces of a list, one for each number

pub pieces_last : (f : ℕ → List ℕ) (k n : ℕ) → flat_map f (range_with_len k (n + 1)) ≡ flat_map f (range_with_len k n) ++ f (k + n)
pieces_last f k zero = let e : k ≡ k + 0 = omega arith in append-nil (f k) ∙ ap f e
pieces_last f k (suc n) =
    let more : suc n + 1 ≡ suc (n + 1) = omega arith in
    let e : (k + 1) + n ≡ k + suc n = omega arith in
    ap (λ (m : ℕ). flat_map f (range_with_len k m)) more ∙ ap (λ (xs : List ℕ). f k ++ xs) (pieces_last f (k + 1) n)
    ∙ sym (append_assoc (f k) (flat_map f (range_with_len (k + 1) n)) (f ((k + 1) + n))) ∙ ap (λ (m : ℕ). (f k ++ flat_map f (range_with_len (k + 1) n)) ++ f m) e

abbrev pub value_piece : NumberedGraph → Shape → List ℕ → ℕ → List ℕ
value_piece G Q v s = value_at G (slice_get Q.slots s) (slice_index v s)

abbrev pub image_piece : Shape → List ℕ → ℕ → List ℕ
image_piece Q v s = image_at s (slice_get Q.slots s) (slice_index v s)

-- how long pieces are with one more
pub pieces_length : (f : ℕ → List ℕ) (s a b : ℕ) → length (flat_map f (range_with_len 0 s)) ≡ a → length (f s) ≡ b → length (flat_map f (range_with_len 0 (s + 1))) ≡ a + b
pieces_length f s a b h k =
    let e : 0 + s ≡ s = omega arith in
    let last : length (f (0 + s)) ≡ b = ap (λ (n : ℕ). length (f n)) e ∙ k in
    ap length (pieces_last f 0 s) ∙ length-append (flat_map f (range_with_len 0 s)) (f (0 + s)) ∙ omega arith

-- pieces with one more
pub pieces_more : (f : ℕ → List ℕ) (s : ℕ) (xs ys piece : List ℕ) → xs ≡ flat_map f (range_with_len 0 s) → ys ≡ xs ++ piece → piece ≡ f s → ys ≡ flat_map f (range_with_len 0 (s + 1))
pieces_more f s xs ys piece h k l =
    let e : s ≡ 0 + s = omega arith in
    k ∙ ap (λ (zs : List ℕ). zs ++ piece) h ∙ ap (λ (zs : List ℕ). flat_map f (range_with_len 0 s) ++ zs) (l ∙ ap f e) ∙ sym (pieces_last f 0 s)

-- the numbers at the slots below s have the marks given for them
abbrev pub AreMarkedTo : NumberedGraph → Shape → List ℕ → List (Option ℕ) → List ℕ → ℕ → Type 0
AreMarkedTo G Q place marks v s = (t : ℕ) (slot : Slot) → t < s → slice_get Q.slots t ≡ Some slot → IsMarked G slot (mark_at marks (slice_index place t)) (slice_index v t)

-- The marks of the slots below s are set, and these values and images are left for the others.
pub record AreMarksTo (Q : Shape) (place values images : List ℕ) (marks : List (Option ℕ)) (s : ℕ) (values' images' : List ℕ) : Type 0 where
  pub long : length marks ≡ 16
  pub every : (G : NumberedGraph) (v : List ℕ) (r : ℕ) → s + r ≡ length Q.slots → values_of G Q v ≡ values → images_of Q v ≡ images →
      (flat_map (value_piece G Q v) (range_with_len s r) ≡ values') × (flat_map (image_piece Q v) (range_with_len s r) ≡ images') × AreMarkedTo G Q place marks v s
  pub only : (G : NumberedGraph) (v : List ℕ) → AreMarkedTo G Q place marks v s →
      (flat_map (value_piece G Q v) (range_with_len 0 s) ++ values' ≡ values) × (flat_map (image_piece Q v) (range_with_len 0 s) ++ images' ≡ images)

module _ (Q : Shape) (place values images : List ℕ) where
  -- what is left for slot s, and behind it
  module _ (marks : List (Option ℕ)) (s : ℕ) (values' images' : List ℕ) (before : AreMarksTo Q place values images marks s values' images') (slot : Slot) (at : slice_get Q.slots s ≡ Some slot) where
    first_left : (G : NumberedGraph) (v : List ℕ) (r : ℕ) → s + suc r ≡ length Q.slots → values_of G Q v ≡ values → images_of Q v ≡ images →
        (value_at G (Some slot) (slice_index v s) ++ flat_map (value_piece G Q v) (range_with_len (s + 1) r) ≡ values')
        × (image_at s (Some slot) (slice_index v s) ++ flat_map (image_piece Q v) (range_with_len (s + 1) r) ≡ images')
    first_left G v r e h k =
        let x = before.every G v (suc r) e h k in (
          subst (λ (o : Option Slot). value_at G o (slice_index v s) ++ flat_map (value_piece G Q v) (range_with_len (s + 1) r) ≡ values') at x.0,
          subst (λ (o : Option Slot). image_at s o (slice_index v s) ++ flat_map (image_piece Q v) (range_with_len (s + 1) r) ≡ images') at x.1,
        )

    -- where too little is left for it, nothing has the given values and images
    pub used_up : IsUsedUp slot s values' images' → s < length Q.slots → (G : NumberedGraph) (v : List ℕ) → HasGiven G Q values images v → ⊥
    used_up none within G v has =
        let r = rest s (length Q.slots) within in
        let x = first_left G v r.0 r.1 has.1 has.2 in
        none G (slice_index v s) _ _ x.0 x.1
      where
        rest : (s n : ℕ) → s < n → (r : ℕ) × (s + suc r ≡ n)
        rest zero (suc n) h = (n, omega arith)
        rest (suc s) (suc n) h = let r = rest s n (omega arith) in let e = r.1 in (r.0, omega arith)
        rest s zero h = absurd (omega arith)

    module _ (mark : Option ℕ) (values'' images'' : List ℕ) (next : IsNextMark slot s values' images' mark values'' images'')
        (apart : (t : ℕ) → t < s → slice_index place t ≢ slice_index place s) (within : slice_index place s < 16) where
      longer : List (Option ℕ)
      longer = set marks (slice_index place s) mark

      kept : (t : ℕ) → t < s → mark_at (set marks (slice_index place s) mark) (slice_index place t) ≡ mark_at marks (slice_index place t)
      kept t lt = let ne : slice_index place t ≢ slice_index place s = apart t lt in rw get_or-set_other refl

      here : mark_at (set marks (slice_index place s) mark) (slice_index place s) ≡ mark
      here = let l : slice_index place s < length marks = omega (arith, before.long) in rw get_or-set_same refl

      marked_more : (G : NumberedGraph) (v : List ℕ) → AreMarkedTo G Q place marks v s → IsMarked G slot mark (slice_index v s) → AreMarkedTo G Q place (set marks (slice_index place s) mark) v (s + 1)
      marked_more G v old new t slot' lt at' = elim (cases_eq t s) [
        | inl e ↦ (let q : Some slot ≡ Some slot' = sym at ∙ ap (slice_get Q.slots) (sym e) ∙ at' in
            subst (λ (x : ℕ). IsMarked G slot' (mark_at (set marks (slice_index place s) mark) (slice_index place x)) (slice_index v x)) (sym e)
            (subst (λ (o : Option ℕ). IsMarked G slot' o (slice_index v s)) (sym here) (subst (λ (z : Slot). IsMarked G z mark (slice_index v s)) (some_same slot slot' q) new)))
        | inr ne ↦ (let below : t < s = omega arith in subst (λ (o : Option ℕ). IsMarked G slot' o (slice_index v t)) (sym (kept t below)) (old t slot' below at'))
      ]

      marked_less : (G : NumberedGraph) (v : List ℕ) → AreMarkedTo G Q place (set marks (slice_index place s) mark) v (s + 1) → AreMarkedTo G Q place marks v s
      marked_less G v new t slot' lt at' = subst (λ (o : Option ℕ). IsMarked G slot' o (slice_index v t)) (kept t lt) (new t slot' (omega arith) at')

      marked_here : (G : NumberedGraph) (v : List ℕ) → AreMarkedTo G Q place (set marks (slice_index place s) mark) v (s + 1) → IsMarked G slot mark (slice_index v s)
      marked_here G v new = subst (λ (o : Option ℕ). IsMarked G slot o (slice_index v s)) here (new s slot (omega arith) at)

      pub marks_more : AreMarksTo Q place values images (set marks (slice_index place s) mark) (s + 1) values'' images''
      marks_more = record {
        long = simp length-set before.long;
        every = λ G v r e h k.
            let x = first_left G v r (omega arith) h k in
            let y = next.every G (slice_index v s) (flat_map (value_piece G Q v) (range_with_len (s + 1) r)) (flat_map (image_piece Q v) (range_with_len (s + 1) r)) x.0 x.1 in
            (y.1, y.2, marked_more G v (before.every G v (suc r) (omega arith) h k).2 y.0);
        only = λ G v marked.
            let x = before.only G v (marked_less G v marked) in
            let y = next.only G (slice_index v s) (marked_here G v marked) in
            let zero_more : 0 + s ≡ s = omega arith in
            let vs = flat_map (value_piece G Q v) (range_with_len 0 s) in
            let is = flat_map (image_piece Q v) (range_with_len 0 s) in
            let value : value_piece G Q v s ++ values'' ≡ values' = subst (λ (o : Option Slot). value_at G o (slice_index v s) ++ values'' ≡ values') (sym at) y.0 in
            let image : image_piece Q v s ++ images'' ≡ images' = subst (λ (o : Option Slot). image_at s o (slice_index v s) ++ images'' ≡ images') (sym at) y.1 in (
              more vs (value_piece G Q v s) values'' values' values (rw zero_more at (pieces_last (value_piece G Q v) 0 s)) value x.0,
              more is (image_piece Q v s) images'' images' images (rw zero_more at (pieces_last (image_piece Q v) 0 s)) image x.1,
            );
      }
        where
          more : {all : List ℕ} (front piece rest rest' whole : List ℕ) → all ≡ front ++ piece → piece ++ rest ≡ rest' → front ++ rest' ≡ whole → all ++ rest ≡ whole
          more front piece rest rest' whole a b c = ap (λ (xs : List ℕ). xs ++ rest) a ∙ append_assoc front piece rest ∙ ap (λ (xs : List ℕ). front ++ xs) b ∙ c

  -- behind the last slot nothing may be left
  pub marks_all : (marks : List (Option ℕ)) → AreMarksTo Q place values images marks (length Q.slots) [] [] → AreMarksOf Q place values images marks
  marks_all marks all G v valuation = (
    (λ h s slot at. (all.every G v 0 (omega arith) h.0 h.1).2 s slot (slice_get_within Q.slots s slot at) at),
    (λ marked. let x = all.only G v (λ t slot lt at. marked t slot at) in (sym (append-nil (values_of G Q v)) ∙ x.0, sym (append-nil (images_of Q v)) ∙ x.1)),
  )

  pub marks_done : (marks : List (Option ℕ)) (s : ℕ) (values' images' : List ℕ) → s ≡ length Q.slots → length values' ≡ 0 → length images' ≡ 0 → AreMarksTo Q place values images marks s values' images' → AreMarksOf Q place values images marks
  marks_done marks s [] [] e n m all = marks_all marks (subst (λ (k : ℕ). AreMarksTo Q place values images marks k [] []) e all)
  marks_done marks s (x ∷ xs) ys e n m all = absurd (omega arith)
  marks_done marks s [] (y ∷ ys) e n m all = absurd (omega arith)

  pub none_left : (marks : List (Option ℕ)) (s : ℕ) (values' images' : List ℕ) → s ≡ length Q.slots → AreMarksTo Q place values images marks s values' images' → (G : NumberedGraph) (v : List ℕ) → HasGiven G Q values images v → (length values' ≡ 0) × (length images' ≡ 0)
  none_left marks s values' images' e all G v has = let x = all.every G v 0 (omega arith) has.1 has.2 in (sym (ap length x.0), sym (ap length x.1))
