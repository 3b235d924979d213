-- Loops of the tests of a step.
use Rattle.std.proofs.Common.{List, [], ◌∷◌, ℕ, zero, suc, ◌+◌, ◌-◌, ◌<◌, true, false, nat_eq, nat_lt, ◌==◌, ◌&&◌, Some, None, map, length, slice_get, slice_index, get_or, drop, bytes_eq, ◌≡◌, inl, inr, refl, sym, ap, ◌∙◌, arith, true≢false, eqb-true, eq-eqb}
use Rattle.std.proofs.lemmas.Bool.{and_parts, cases_lt, ltb-true, lt-ltb}
use Rattle.std.proofs.lemmas.List.{drop_more, drop_all}
use Rattle.std.proofs.lemmas.Option.{slice_get-get_or, slice_get_within}
use Rattle.chase_laws.specs.declared.pattern.Slot.{Slot}
use Rattle.chase_laws.specs.declared.pattern.Slot.TheVariants.{Entity, Any, Value, Folded, Fixed}
use Rattle.chase_laws.specs.Shape.{Shape, PatternFacts, is_entity}
use Rattle.std.proofs.lemmas.Slice.Eq.{bytes_eq-Decides}
use Rattle.proof_check.specs.Rows.{HasPlaces}
use Rattle.proof_file.specs.Leads.{other_end, end_along, arrives, links_lead}
use Rattle.proof_file.specs.Steps.{SupportShape, StepNumbers}
use Rattle.proof_file.specs.Tells.{places_of}
use Rattle.proof_check.specs.NumberVerdict.{numbers_have_shape}
use Rattle.proof_file.specs.Tells.{entities_from, supported_slots}
use Rattle.proof_check.proofs.ListFacts.{get_or-map, map_at}

-- one step more is passed
pub lead_step : (ends : List (ℕ × ℕ)) (steps : List ℕ) (i at to : ℕ) (link : ℕ × ℕ) → i < length steps → slice_get ends (get_or steps i 0 - 1) ≡ Some link →
    links_lead nat_eq ends (places_of (drop i steps)) at to ≡ arrives nat_eq (end_along nat_eq ends (places_of (drop (i + 1) steps)) (other_end nat_eq (Some link) at)) to
lead_step ends steps i at to link l e =
    ap (λ ns. links_lead nat_eq ends (places_of ns) at to) (drop_more steps i 0 l)
    ∙ ap (λ o. arrives nat_eq (end_along nat_eq ends (places_of (drop (i + 1) steps)) (other_end nat_eq o at)) to) e

pub end_along_nowhere : (ends : List (ℕ × ℕ)) (ns : List ℕ) (to : ℕ) → arrives nat_eq (end_along nat_eq ends ns None) to ≡ false
end_along_nowhere ends [] to = refl
end_along_nowhere ends (n ∷ ns) to = refl

abbrev slot_of : SupportShape → ℕ
slot_of s = s.slot

-- one slot more
entity_yes : (at : ℕ) (slot : Slot) (slots : List Slot) → is_entity (Some slot) ≡ true → entities_from at (slot ∷ slots) ≡ at ∷ entities_from (at + 1) slots
entity_yes at (Entity t) slots h = refl
entity_yes at (Any t) slots h = absurd (true≢false (sym h))
entity_yes at Value slots h = absurd (true≢false (sym h))
entity_yes at Folded slots h = absurd (true≢false (sym h))
entity_yes at (Fixed c) slots h = absurd (true≢false (sym h))

entity_no : (at : ℕ) (slot : Slot) (slots : List Slot) → is_entity (Some slot) ≡ false → entities_from at (slot ∷ slots) ≡ entities_from (at + 1) slots
entity_no at (Entity t) slots h = absurd (true≢false h)
entity_no at (Any t) slots h = refl
entity_no at Value slots h = refl
entity_no at Folded slots h = refl
entity_no at (Fixed c) slots h = refl

pub slot_skipped : (slots : List Slot) (at : ℕ) (d : Slot) → at < length slots → is_entity (Some (get_or slots at d)) ≡ false → entities_from at (drop at slots) ≡ entities_from (at + 1) (drop (at + 1) slots)
slot_skipped slots at d l h = ap (entities_from at) (drop_more slots at d l) ∙ entity_no at (get_or slots at d) (drop (at + 1) slots) h

-- its support is there, or not
pub slot_supported : (supports : List SupportShape) (next : ℕ) (slots : List Slot) (at : ℕ) (d : Slot) → at < length slots → is_entity (Some (get_or slots at d)) ≡ true →
    (nat_lt next (length supports) && slice_index (map slot_of supports) next == at) ≡ true →
    bytes_eq (map slot_of (drop next supports)) (entities_from at (drop at slots)) ≡ bytes_eq (map slot_of (drop (next + 1) supports)) (entities_from (at + 1) (drop (at + 1) slots))
slot_supported supports next slots at d l h is =
    let parts = and_parts (nat_lt next (length supports)) (slice_index (map slot_of supports) next == at) is in
    let less = ltb-true next (length supports) parts.0 in
    let e : SupportShape = record { slot = 0; steps = [] } in
    let same : slot_of (get_or supports next e) ≡ at = sym (get_or-map slot_of supports next e 0 less) ∙ eqb-true (slice_index (map slot_of supports) next) at parts.1 in
    ap (λ us. bytes_eq (map slot_of us) (entities_from at (drop at slots))) (drop_more supports next e less)
    ∙ ap (bytes_eq (slot_of (get_or supports next e) ∷ map slot_of (drop (next + 1) supports))) (ap (entities_from at) (drop_more slots at d l) ∙ entity_yes at (get_or slots at d) (drop (at + 1) slots) h)
    ∙ ap (λ b. b && bytes_eq (map slot_of (drop (next + 1) supports)) (entities_from (at + 1) (drop (at + 1) slots))) (eq-eqb (slot_of (get_or supports next e)) at same)

pub slot_unsupported : (supports : List SupportShape) (next : ℕ) (slots : List Slot) (at : ℕ) (d : Slot) → at < length slots → is_entity (Some (get_or slots at d)) ≡ true →
    (nat_lt next (length supports) && slice_index (map slot_of supports) next == at) ≡ false →
    false ≡ bytes_eq (map slot_of (drop next supports)) (entities_from at (drop at slots))
slot_unsupported supports next slots at d l h is =
    let e : SupportShape = record { slot = 0; steps = [] } in
    let right = ap (entities_from at) (drop_more slots at d l) ∙ entity_yes at (get_or slots at d) (drop (at + 1) slots) h in
    elim (cases_lt next (length supports)) [
      | inl less ↦
          (let off : (slice_index (map slot_of supports) next == at) ≡ false = sym (ap (λ b. b && slice_index (map slot_of supports) next == at) (lt-ltb next (length supports) less)) ∙ is in
          sym (ap (λ us. bytes_eq (map slot_of us) (entities_from at (drop at slots))) (drop_more supports next e less)
          ∙ ap (bytes_eq (slot_of (get_or supports next e) ∷ map slot_of (drop (next + 1) supports))) right
          ∙ ap (λ b. b && bytes_eq (map slot_of (drop (next + 1) supports)) (entities_from (at + 1) (drop (at + 1) slots))) (ap (λ n. n == at) (sym (get_or-map slot_of supports next e 0 less)) ∙ off)))
      | inr past ↦ sym (ap (λ us. bytes_eq (map slot_of us) (entities_from at (drop at slots))) (drop_all next supports past) ∙ ap (bytes_eq []) right)
    ]

-- ---- what the test of a step's shape tells

entity_inside : (at : ℕ) (slots : List Slot) (k s : ℕ) → slice_get (entities_from at slots) k ≡ Some s → s < at + length slots
entity_inside at [] k s e = absurd cc
entity_inside at (Entity t ∷ slots) zero s e = let same : at ≡ s = cc in omega arith
entity_inside at (Entity t ∷ slots) (suc k) s e = let w = entity_inside (at + 1) slots k s e in omega arith
entity_inside at (Any t ∷ slots) k s e = let w = entity_inside (at + 1) slots k s e in omega arith
entity_inside at (Value ∷ slots) k s e = let w = entity_inside (at + 1) slots k s e in omega arith
entity_inside at (Folded ∷ slots) k s e = let w = entity_inside (at + 1) slots k s e in omega arith
entity_inside at (Fixed c ∷ slots) k s e = let w = entity_inside (at + 1) slots k s e in omega arith

supported_inside : (slots : List Slot) (k s : ℕ) → slice_get (supported_slots slots) k ≡ Some s → s < length slots
supported_inside [] k s e = absurd cc
supported_inside (first ∷ slots) k s e = let w = entity_inside 1 slots k s e in omega arith

pub has_places : (Q : Shape) (step : StepNumbers) → PatternFacts Q → numbers_have_shape Q step ≡ true → HasPlaces Q step
has_places Q step facts h =
    let parts = and_parts _ _ h in
    let counts = and_parts _ _ parts.0 in
    let slots : map slot_of step.supports ≡ supported_slots Q.slots = (bytes_eq-Decides (map slot_of step.supports) (supported_slots Q.slots)).0 parts.1 in
    record {
      left = eqb-true _ _ counts.0;
      right = eqb-true _ _ counts.1;
      some = slice_get_within Q.slots 0 _ facts.first.1;
      ends = facts.ends;
      supports = λ k d l. supported_inside Q.slots k (get_or step.supports k d).slot (ap (λ xs. slice_get xs k) (sym slots) ∙ map_at slot_of step.supports k (get_or step.supports k d) (slice_get-get_or step.supports k d l));
    }
