-- A derivation over the whole graph, step by step over its part: a step between two different names looks at rows that are
-- kept, and any other joins nothing.
use Rattle.std.proofs.Common.{List, [], ◌∷◌, ◌++◌, ℕ, zero, suc, Bool, true, false, Some, slice_get, slice_index, slice_index_or, length, take, ◌≡◌, ◌≢◌, ◌<◌, ◌≤◌, ◌∙◌, inl, inr, refl, sym, ap, subst, arith}
use Rattle.std.proofs.lemmas.Bool.{cases_eq}
use Rattle.chase_laws.specs.declared.entry.Entry.{Entry}
use Rattle.chase_laws.specs.declared.pattern.Slot.{Slot}
use Rattle.chase_laws.specs.declared.pattern.Slot.TheVariants.{Entity, Any as AnyOf, Value, Folded, Fixed}
use Rattle.chase_laws.specs.Shape.{Shape}
use Rattle.chase_laws.specs.Graph.{NumberedGraph}
use Rattle.chase_laws.specs.Valuation.{FitsSlot, IsValuation, AgreeAt, Coincide}
use Rattle.chase_laws.specs.Signature.{values_of}
use Rattle.chase_laws.specs.Joined.{links, joined, joined_by, Joined}
use Rattle.chase_laws.specs.Chase.{IsStep, IsDerivation, AreSame}
use Rattle.chase_laws.proofs.CallerLemmas.{none_derived, IsDerivation-push, Within, Within-append, Within-cons, Within-more, Within-nil, Within-trans, joined_head, joined_last, joined_refl}
use Rattle.sifted_graph.specs.Sifted.{HasRowsAt, IsSifted}

take_next : {X : Type 0} (xs : List X) (n : ℕ) → n < length xs → (x : X) × (slice_get xs n ≡ Some x) × (take (suc n) xs ≡ take n xs ++ x ∷ [])
take_next [] n h = absurd (omega arith)
take_next (y ∷ ys) zero h = (y, refl, refl)
take_next (y ∷ ys) (suc n) h =
    let r : (x : _) × (slice_get ys n ≡ Some x) × (take (suc n) ys ≡ take n ys ++ x ∷ []) = take_next ys n (omega arith) in
    (r.0, r.1, ap (λ zs. y ∷ zs) r.2)

take_whole : {X : Type 0} (xs : List X) → take (length xs) xs ≡ xs
take_whole [] = refl
take_whole (x ∷ xs) = ap (λ ys. x ∷ ys) (take_whole xs)

links-push : (H : List Entry) (e : Entry) → links (H ++ e ∷ []) ≡ links H ++ (e.a, e.b) ∷ []
links-push [] e = refl
links-push (f ∷ H) e = ap (λ ps. (f.a, f.b) ∷ ps) (links-push H e)

Within-push : (ps : List (ℕ × ℕ)) (c d : ℕ) (qs : List (ℕ × ℕ)) → joined qs c d ≡ true → Within ps qs → Within (ps ++ (c, d) ∷ []) qs
Within-push [] c d qs h w = Within-cons c d [] qs h (Within-nil qs)
Within-push ((x, y) ∷ ps) c d qs h w =
    Within-cons x y (ps ++ (c, d) ∷ []) qs (w x y (joined_head x y ps))
    (Within-push ps c d qs h (Within-trans ps ((x, y) ∷ ps) qs (Within-more (x, y) ps) w))

-- entries that have one more at the end join no more than these pairs
within_push : (E : List Entry) (e : Entry) (qs : List (ℕ × ℕ)) → joined qs e.a e.b ≡ true → Within (links E) qs → Within (links (E ++ e ∷ [])) qs
within_push E e qs h w = subst (λ ps. Within ps qs) (sym (links-push E e)) (Within-push (links E) e.a e.b qs h w)

module _ (K : List Shape) (G F : NumberedGraph) (h : IsSifted K G F) where
  flag : (n : ℕ) → slice_index_or F.literal n false ≡ slice_index_or G.literal n false
  flag n = ap (λ flags. slice_index_or flags n false) h.part.literal

  fits : (Q : Shape) (v : List ℕ) (s : ℕ) (slot : Slot) → HasRowsAt F Q v → slice_get Q.slots s ≡ Some slot →
      FitsSlot G slot (slice_index v s) → FitsSlot F slot (slice_index v s)
  fits Q v s (Entity t) rows at k = ((λ l. k.0 (sym (flag (slice_index v s)) ∙ l)), rows.entities s t at)
  fits Q v s (AnyOf t) rows at k = ((λ l. k.0 (sym (flag (slice_index v s)) ∙ l)), rows.wildcards s t at)
  fits Q v s Value rows at k = flag (slice_index v s) ∙ k
  fits Q v s Folded rows at k = flag (slice_index v s) ∙ k
  fits Q v s (Fixed c) rows at k = k

  valuation : (Q : Shape) (v : List ℕ) → IsValuation G Q v → HasRowsAt F Q v → IsValuation F Q v
  valuation Q v k rows = record {
    one_each = k.one_each;
    different = k.different;
    kinds = λ s slot at. fits Q v s slot rows at (k.kinds s slot at);
    edges = rows.edges;
  }

  agree : (key : ℕ) (Q : Shape) (same : ℕ → ℕ → Bool) (s : ℕ) (slot : Slot) (m n : ℕ) → slice_get K key ≡ Some Q → slice_get Q.slots s ≡ Some slot →
      AgreeAt G same s slot m n → AgreeAt F same s slot m n
  agree key Q same s (Entity t) m n found at k = k
  agree key Q same s (AnyOf t) m n found at k = tt
  agree key Q same s Value m n found at k = k
  agree key Q same s Folded m n found at k = elim h.part.alike [
    | inl e ↦ subst (λ a. slice_index a m ≡ slice_index a n) (sym e) k
    | inr none ↦ absurd (none key Q found s at)
  ]
  agree key Q same s (Fixed c) m n found at k = tt

  module _ (values : (Q : Shape) (same : ℕ → ℕ → Bool) (v w : List ℕ) → Coincide G Q same v w → values_of G Q v ≡ values_of G Q w)
      (grows : (H J : List Entry) (e : Entry) → IsStep F K H e → ((a b : ℕ) → Joined H a b → Joined J a b) → IsStep F K J e) where
    over_part : (H : List Entry) (e : Entry) → IsStep G K H e → e.a ≢ e.b → IsStep F K H e
    over_part H e s apart =
        let both = values s.pattern (joined_by H) e.left e.right s.witness.coincide in
        let ends : slice_index e.left 0 ≢ slice_index e.right 0 = λ q. apart (sym s.witness.at_a ∙ q ∙ s.witness.at_b) in
        record {
          pattern = s.pattern;
          key = s.key;
          witness = record {
            left = valuation s.pattern e.left s.witness.left (h.kept e.key s.pattern e.left e.right s.key s.witness.left s.witness.right ends both);
            right = valuation s.pattern e.right s.witness.right
                (h.kept e.key s.pattern e.right e.left s.key s.witness.right s.witness.left (λ q. ends (sym q)) (sym both));
            coincide = λ i slot at. agree e.key s.pattern (joined_by H) i slot (slice_index e.left i) (slice_index e.right i) s.key at (s.witness.coincide i slot at);
            at_a = s.witness.at_a;
            at_b = s.witness.at_b;
          };
        }

    -- some derivation over the part joins what these entries join
    abbrev IsToldBy : List Entry → Type 0
    IsToldBy E = (J : List Entry) × IsDerivation F K J × Within (links E) (links J)

    more : (E : List Entry) (e : Entry) → IsStep G K E e → IsToldBy E → IsToldBy (E ++ e ∷ [])
    more E e s told =
        let J : List Entry = told.0 in
        elim (cases_eq e.a e.b) [
          | inl q ↦ (J, told.1, within_push E e (links J) (subst (λ n. joined (links J) e.a n ≡ true) q (joined_refl (links J) e.a)) told.2)
          | inr apart ↦ (
            J ++ e ∷ [],
            IsDerivation-push F K J e told.1 (grows E J e (over_part E e s apart) told.2),
            subst (Within (links (E ++ e ∷ []))) (sym (links-push J e))
                (within_push E e (links J ++ (e.a, e.b) ∷ []) (joined_last (links J) e.a e.b)
                (Within-trans (links E) (links J) (links J ++ (e.a, e.b) ∷ []) told.2 (Within-append (links J) ((e.a, e.b) ∷ [])))),
          )
        ]

    fronts : (H : List Entry) → IsDerivation G K H → (n : ℕ) → n ≤ length H → IsToldBy (take n H)
    fronts H d zero l = ([], (none_derived F K).0, Within-nil [])
    fronts H d (suc n) l =
        let r : (e : Entry) × (slice_get H n ≡ Some e) × (take (suc n) H ≡ take n H ++ e ∷ []) = take_next H n (omega arith) in
        subst IsToldBy (sym r.2) (more (take n H) r.0 (d n r.0 r.1) (fronts H d n (omega arith)))

    pub same_in_part : (a b : ℕ) → AreSame G K a b → AreSame F K a b
    same_in_part a b k =
        let told = subst IsToldBy (take_whole k.0) (fronts k.0 k.1 (length k.0) (omega arith)) in
        (told.0, told.1, told.2 a b k.2)
