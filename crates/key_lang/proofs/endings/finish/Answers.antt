use Rattle.std.proofs.Common.{◌≡◌, ℕ, eqb, arith, ◌<◌, List, map, length, All, true, sym, subst, ap, ap₂, ◌∙◌}
use Rattle.std.specs.List.{list_all, range_with_len}
use Rattle.std.proofs.lemmas.Bool.{eqb-false}
use Rattle.key_file.specs.declared.slot.KeySlot.{KeySlot}
use Rattle.key_file.specs.declared.edge.KeyEdge.{KeyEdge}
use Rattle.key_file.specs.Key.{IsKey, is_used, is_connected}
use Rattle.key_lang.specs.declared.open_key.OpenEdge.{OpenEdge}
use Rattle.key_lang.specs.OpenKey.{OpenShape, slot_of_end, key_edge, whole, all_used}
use Rattle.key_lang.specs.Fair.{IsFair}
use Rattle.key_lang.proofs.WholeLemmas.{whole_valid, edges_small}
use Rattle.key_lang.proofs.endings.finish.Goals as goal

pub key_edges-requires : goal.key_edges-requires
key_edges-requires c =
    let key : OpenShape = record { name = c.key.inside.name; variables = c.key.inside.variables.items; constants = c.key.inside.constants.items; edges = c.key.inside.edges.items } in
    let fair : IsFair key = subst IsFair (sym c.key.view_is) c.requires in
    subst (λ (l : List KeySlot). All (λ (e : OpenEdge). (e.from < 256) × (slot_of_end (length l) e.to < 256)) key.edges) (sym c.as_slice-2.ensures.value) (edges_small key fair key.edges fair.ends)

-- the parts of the key that were made are those of the whole key
made_valid : (key : OpenShape) → IsFair key → (slots : List KeySlot) (edges : List KeyEdge) → slots ≡ (whole key).slots → edges ≡ (whole key).edges
    → 0 < length key.edges → list_all (is_used edges) (range_with_len 0 (length slots)) ≡ true → is_connected (length slots) edges ≡ true
    → IsKey (record { name = key.name; slots = slots; edges = edges })
made_valid key fair slots edges s e some used connected =
    let P : List KeySlot → List KeyEdge → Type 0 = λ x y. IsKey (record { name = key.name; slots = x; edges = y }) in
    let used' : all_used (whole key) ≡ true = ap₂ (λ (x : List KeyEdge) (y : List KeySlot). list_all (is_used x) (range_with_len 0 (length y))) (sym e) (sym s) ∙ used in
    let connected' : is_connected (length (whole key).slots) (whole key).edges ≡ true = ap₂ (λ (x : List KeySlot) (y : List KeyEdge). is_connected (length x) y) (sym s) (sym e) ∙ connected in
    subst (λ x. P x edges) (sym s) (subst (λ y. P (whole key).slots y) (sym e) (whole_valid key fair some used' connected'))

pub new-requires : goal.new-requires
new-requires c =
    let key : OpenShape = record { name = c.key.inside.name; variables = c.key.inside.variables.items; constants = c.key.inside.constants.items; edges = c.key.inside.edges.items } in
    let fair : IsFair key = subst IsFair (sym c.key.view_is) c.requires in
    let slots = c.in_ok-slots.slots.items in
    let edges = c.in_ok-edges.edges.items in
    let count = c.as_slice-count.ensures.value in
    made_valid key fair slots edges c.in_ok-slots.ensures
    (c.in_ok-edges.ensures ∙ ap (λ (l : List KeySlot). map (key_edge (length l)) key.edges) c.as_slice-2.ensures.value)
    (some_left (length key.edges) (eqb-false _ _ (sym (ap (λ (l : List OpenEdge). eqb (length l) 0) c.as_slice.ensures.value) ∙ sym c.is_empty.ensures ∙ c.if-is_empty.false)))
    (ap₂ (λ (e : List KeyEdge) (l : List KeySlot). list_all (is_used e) (range_with_len 0 (length l))) (sym c.deref.ensures.value) (sym count) ∙ sym c.all_used.ensures ∙ c.if-not-all_used.false)
    (ap₂ (λ (l : List KeySlot) (e : List KeyEdge). is_connected (length l) e) (sym count) (sym c.deref-2.ensures.value) ∙ sym c.is_connected.ensures.test ∙ c.if-not-is_connected.false)
  where
    some_left : (n : ℕ) → (n ≡ 0 → ⊥) → 0 < n
    some_left n h = omega (arith, h)
