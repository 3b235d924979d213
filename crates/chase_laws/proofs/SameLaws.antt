-- What matches up to a part of what is the same is the same.
use Rattle.std.proofs.Common.{List, [], ◌∷◌, ◌++◌, ℕ, zero, suc, Bool, Some, IsTrue, slice_get, slice_index, length, take, ◌≡◌, ◌<◌, ◌≤◌, inl, inr, refl, sym, ◌∙◌, ap, subst, arith}
use Rattle.std.proofs.lemmas.Bool.{cases_eq}
use Rattle.std.proofs.lemmas.Option.{slice_get_within}
use Rattle.chase_laws.specs.declared.entry.Entry.{Entry}
use Rattle.chase_laws.specs.declared.pattern.Slot.{Slot}
use Rattle.chase_laws.specs.declared.pattern.Slot.TheVariants.{Entity, Any as AnyOf, Value, Folded, Fixed}
use Rattle.chase_laws.specs.Shape.{Shape}
use Rattle.chase_laws.specs.Graph.{NumberedGraph}
use Rattle.chase_laws.specs.Valuation.{AgreeAt, Coincide, Matches}
use Rattle.chase_laws.specs.Joined.{links, joined_by}
use Rattle.chase_laws.specs.Chase.{IsStep, IsDerivation, AreSame}
use Rattle.chase_laws.proofs.JoinedLaws.{Within, Within-nil, Within-push, Within-trans, Within-append}
use Rattle.chase_laws.proofs.Lists.{by_fronts, slice_get-within}
use Rattle.chase_laws.proofs.ChaseLaws.{links-push, AgreeAt-grows, IsStep-grows}
use Rattle.chase_laws.proofs.Derivations.{none_derived, IsDerivation-push, Within-links_push, joined_by_last}

-- ---- one derivation behind another

append_nil : (H : List Entry) → H ++ [] ≡ H
append_nil [] = refl
append_nil (e ∷ H) = ap (λ xs. e ∷ xs) (append_nil H)

append_push : (H F : List Entry) (e : Entry) → (H ++ F) ++ e ∷ [] ≡ H ++ (F ++ e ∷ [])
append_push [] F e = refl
append_push (x ∷ H) F e = ap (λ xs. x ∷ xs) (append_push H F e)

links_append : (H J : List Entry) → links (H ++ J) ≡ links H ++ links J
links_append [] J = refl
links_append (e ∷ H) J = ap (λ ps. (e.a, e.b) ∷ ps) (links_append H J)

pub behind : (G : NumberedGraph) (K : List Shape) (H J : List Entry) → IsDerivation G K H → IsDerivation G K J → IsDerivation G K (H ++ J) × Within (links J) (links (H ++ J))
behind G K H J d after = by_fronts (λ xs. IsDerivation G K (H ++ xs) × Within (links xs) (links (H ++ xs))) J
    (subst (IsDerivation G K) (sym (append_nil H)) d, Within-nil (links (H ++ [])))
    (λ n e at before. more (take n J) e (after n e at) before)
  where
    more : (F : List Entry) (e : Entry) → IsStep G K F e → IsDerivation G K (H ++ F) × Within (links F) (links (H ++ F)) →
        IsDerivation G K (H ++ (F ++ e ∷ [])) × Within (links (F ++ e ∷ [])) (links (H ++ (F ++ e ∷ [])))
    more F e step before =
        let derived = IsDerivation-push G K (H ++ F) e before.0 (IsStep-grows G K F (H ++ F) e step before.1) in
        let within : Within (links (F ++ e ∷ [])) (links ((H ++ F) ++ e ∷ [])) =
        subst (λ ps. Within ps (links ((H ++ F) ++ e ∷ []))) (sym (links-push F e))
        (Within-push (links F) e.a e.b (links ((H ++ F) ++ e ∷ [])) (joined_by_last (H ++ F) e)
        (Within-trans (links F) (links (H ++ F)) (links ((H ++ F) ++ e ∷ [])) before.1 (Within-links_push (H ++ F) e))) in
        (subst (IsDerivation G K) (append_push H F e) derived, subst (λ xs. Within (links (F ++ e ∷ [])) (links xs)) (append_push H F e) within)

before_all : (H J : List Entry) → Within (links H) (links (H ++ J))
before_all H J = subst (λ ps. Within (links H) ps) (sym (links_append H J)) (Within-append (links H) (links J))

-- ---- a derivation for all slots of two valuations

-- some derivation lets two numbers agree at a slot
abbrev Agreeing : NumberedGraph → List Shape → ℕ → Slot → ℕ → ℕ → Type 0
Agreeing G K s slot m n = (H : List Entry) × IsDerivation G K H × AgreeAt G (joined_by H) s slot m n

agreeing : (G : NumberedGraph) (K : List Shape) (same : ℕ → ℕ → Bool) → ((m n : ℕ) → IsTrue (same m n) → AreSame G K m n) →
    (s : ℕ) (slot : Slot) (m n : ℕ) → AgreeAt G same s slot m n → Agreeing G K s slot m n
agreeing G K same within zero (Entity t) m n h = ([], (none_derived G K).0, λ o. absurd (o refl))
agreeing G K same within (suc s) (Entity t) m n h =
    let x : AreSame G K m n = within m n (h (λ e. omega arith)) in
    (x.0, x.1, λ o. x.2)
agreeing G K same within s (AnyOf t) m n h = ([], (none_derived G K).0, tt)
agreeing G K same within s Value m n h = ([], (none_derived G K).0, h)
agreeing G K same within s Folded m n h = ([], (none_derived G K).0, h)
agreeing G K same within s (Fixed c) m n h = ([], (none_derived G K).0, tt)

-- some derivation lets two valuations agree at the first slots
abbrev AgreeingBelow : NumberedGraph → List Shape → Shape → List ℕ → List ℕ → ℕ → Type 0
AgreeingBelow G K Q v w count =
    (H : List Entry) × IsDerivation G K H
    × ((s : ℕ) (slot : Slot) → s < count → slice_get Q.slots s ≡ Some slot → AgreeAt G (joined_by H) s slot (slice_index v s) (slice_index w s))

agreeing_below : (G : NumberedGraph) (K : List Shape) (Q : Shape) (same : ℕ → ℕ → Bool) → ((m n : ℕ) → IsTrue (same m n) → AreSame G K m n) →
    (v w : List ℕ) → Coincide G Q same v w → (count : ℕ) → count ≤ length Q.slots → AgreeingBelow G K Q v w count
agreeing_below G K Q same within v w coincide zero h = ([], (none_derived G K).0, λ s slot lt k. absurd (omega (arith, lt)))
agreeing_below G K Q same within v w coincide (suc n) h =
    let x = agreeing_below G K Q same within v w coincide n (omega arith) in
    let at = slice_get-within Q.slots n (omega arith) in
    let y = agreeing G K same within n at.0 (slice_index v n) (slice_index w n) (coincide n at.0 at.1) in
    let H : List Entry = x.0 in
    let J : List Entry = y.0 in
    let both = behind G K H J x.1 y.1 in (
      H ++ J,
      both.0,
      λ s slot lt k. elim (cases_eq s n) [
        | inl e ↦
            (let found : slice_get Q.slots n ≡ Some slot = subst (λ i. slice_get Q.slots i ≡ Some slot) e k in
            let slots : at.0 ≡ slot = some_equal (sym at.1 ∙ found) in
            subst (λ i. AgreeAt G (joined_by (H ++ J)) i slot (slice_index v i) (slice_index w i)) (sym e)
            (subst (λ t. AgreeAt G (joined_by (H ++ J)) n t (slice_index v n) (slice_index w n)) slots
            (AgreeAt-grows G (joined_by J) (joined_by (H ++ J)) n at.0 (slice_index v n) (slice_index w n) (both.1 (slice_index v n) (slice_index w n)) y.2)))
        | inr o ↦
            AgreeAt-grows G (joined_by H) (joined_by (H ++ J)) s slot (slice_index v s) (slice_index w s)
            (before_all H J (slice_index v s) (slice_index w s)) (x.2 s slot (omega (arith, lt, o)) k)
      ],
    )
  where
    some_equal : {t u : Slot} → Some t ≡ Some u → t ≡ u
    some_equal e = cc

-- ---- the law

pub same_closed : (G : NumberedGraph) (K : List Shape) (same : ℕ → ℕ → Bool) → ((m n : ℕ) → IsTrue (same m n) → AreSame G K m n) →
    (a b : ℕ) → Matches G K same a b → AreSame G K a b
same_closed G K same within a b m =
    let all = agreeing_below G K m.pattern same within m.left m.right m.witness.coincide (length m.pattern.slots) (omega arith) in
    let e : Entry = record { a = a; b = b; key = m.key; left = m.left; right = m.right } in
    let step : IsStep G K all.0 e = record {
      pattern = m.pattern;
      key = m.found;
      witness = record {
        left = m.witness.left;
        right = m.witness.right;
        at_a = m.witness.at_a;
        at_b = m.witness.at_b;
        coincide = λ s slot k. all.2 s slot (slice_get_within m.pattern.slots s slot k) k;
      };
    } in
    (all.0 ++ e ∷ [], IsDerivation-push G K all.0 e all.1 step, joined_by_last all.0 e)
