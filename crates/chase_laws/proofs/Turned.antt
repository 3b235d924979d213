-- What a key identifies one way round, it does the other way round.
use Rattle.std.proofs.Common.{List, ℕ, Bool, slice_index, ◌<◌, inl, inr, IsTrue, sym, subst}
use Rattle.std.proofs.lemmas.Bool.{cases_order}
use Rattle.chase_laws.specs.declared.entry.Entry.{Entry}
use Rattle.chase_laws.specs.declared.pattern.Slot.{Slot}
use Rattle.chase_laws.specs.declared.pattern.Slot.TheVariants.{Entity, Any as AnyOf, Value, Folded, Fixed}
use Rattle.chase_laws.specs.Shape.{Shape}
use Rattle.chase_laws.specs.Graph.{NumberedGraph}
use Rattle.chase_laws.specs.Valuation.{AgreeAt, Matches}
use Rattle.chase_laws.specs.Joined.{links, joined_by, Joined}
use Rattle.chase_laws.specs.Chase.{IsClosed}
use Rattle.chase_laws.proofs.JoinedLaws.{joined_refl, joined_sym}

AgreeAt-swap : (G : NumberedGraph) (p : ℕ → ℕ → Bool) → ((m n : ℕ) → IsTrue (p m n) → IsTrue (p n m)) → (s : ℕ) (slot : Slot) (m n : ℕ) → AgreeAt G p s slot m n → AgreeAt G p s slot n m
AgreeAt-swap G p turn s (Entity t) m n h = λ o. turn m n (h o)
AgreeAt-swap G p turn s (AnyOf t) m n h = tt
AgreeAt-swap G p turn s Value m n h = sym h
AgreeAt-swap G p turn s Folded m n h = sym h
AgreeAt-swap G p turn s (Fixed c) m n h = tt

-- two valuations that coincide do so the other way round
pub Matches-swap : (G : NumberedGraph) (K : List Shape) (p : ℕ → ℕ → Bool) → ((m n : ℕ) → IsTrue (p m n) → IsTrue (p n m)) → (a b : ℕ) → Matches G K p a b → Matches G K p b a
Matches-swap G K p turn a b h =
    let x = h.witness in
    record {
      key = h.key;
      pattern = h.pattern;
      found = h.found;
      left = h.right;
      right = h.left;
      witness = record { left = x.right; right = x.left; at_a = x.at_b; at_b = x.at_a; coincide = λ s slot k. AgreeAt-swap G p turn s slot (slice_index h.left s) (slice_index h.right s) (x.coincide s slot k) };
    }

-- entries are closed where they join each pair in one order that a key identifies
pub IsClosed-from_ascending : (G : NumberedGraph) (K : List Shape) (H : List Entry) →
    ((a b : ℕ) → a < b → Matches G K (joined_by H) a b → Joined H a b) → IsClosed G K H
IsClosed-from_ascending G K H pairs a b m = elim (cases_order a b) [
  | inl e ↦ subst (Joined H a) e (joined_refl (links H) a)
  | inr c ↦ elim c [
    | inl lt ↦ pairs a b lt m
    | inr lt ↦ joined_sym (links H) b a (pairs b a lt (Matches-swap G K (joined_by H) (joined_sym (links H)) a b m))
  ]
]
