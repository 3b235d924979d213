-- Why the order of the steps is of no account.
use Rattle.std.proofs.Common.{List, [], ◌∷◌, ◌++◌, ℕ, Bool, slice_index, take, ◌≡◌, ◌↔◌, IsTrue, refl, sym, ap, subst}
use Rattle.chase_laws.specs.declared.entry.Entry.{Entry}
use Rattle.chase_laws.specs.declared.pattern.Slot.{Slot}
use Rattle.chase_laws.specs.declared.pattern.Slot.TheVariants.{Entity, Any, Value, Folded, Fixed}
use Rattle.chase_laws.specs.Shape.{Shape}
use Rattle.chase_laws.specs.Graph.{NumberedGraph}
use Rattle.chase_laws.specs.Valuation.{AgreeAt, IsMatch, Matches}
use Rattle.chase_laws.specs.Chase.{IsStep, IsDerivation, AreSame, IsClosed}
use Rattle.chase_laws.specs.Joined.{links, joined_by, Joined}
use Rattle.chase_laws.proofs.JoinedLaws.{Within, Within-nil, Within-push}
use Rattle.chase_laws.proofs.Lists.{by_fronts}

pub links-push : (H : List Entry) (e : Entry) → links (H ++ e ∷ []) ≡ links H ++ (e.a, e.b) ∷ []
links-push [] e = refl
links-push (f ∷ H) e = ap (λ ps. (f.a, f.b) ∷ ps) (links-push H e)

-- numbers that agree up to a sameness agree up to a larger one
pub AgreeAt-grows : (G : NumberedGraph) (p q : ℕ → ℕ → Bool) (s : ℕ) (slot : Slot) (m n : ℕ) → (IsTrue (p m n) → IsTrue (q m n)) → AgreeAt G p s slot m n → AgreeAt G q s slot m n
AgreeAt-grows G p q s (Entity t) m n w h = λ o. w (h o)
AgreeAt-grows G p q s (Any t) m n w h = tt
AgreeAt-grows G p q s Value m n w h = h
AgreeAt-grows G p q s Folded m n w h = h
AgreeAt-grows G p q s (Fixed c) m n w h = tt

-- the same of two lists that fit and coincide
pub IsMatch-grows : (G : NumberedGraph) (Q : Shape) (p q : ℕ → ℕ → Bool) (a b : ℕ) (v w : List ℕ) → ((m n : ℕ) → IsTrue (p m n) → IsTrue (q m n)) → IsMatch G Q p a b v w → IsMatch G Q q a b v w
IsMatch-grows G Q p q a b v w u h = record {
  left = h.left;
  right = h.right;
  at_a = h.at_a;
  at_b = h.at_b;
  coincide = λ s slot k. AgreeAt-grows G p q s slot (slice_index v s) (slice_index w s) (u (slice_index v s) (slice_index w s)) (h.coincide s slot k);
}

pub Matches-grows : (G : NumberedGraph) (K : List Shape) (p q : ℕ → ℕ → Bool) (a b : ℕ) → ((m n : ℕ) → IsTrue (p m n) → IsTrue (q m n)) → Matches G K p a b → Matches G K q a b
Matches-grows G K p q a b u h = record {
  key = h.key;
  pattern = h.pattern;
  found = h.found;
  left = h.left;
  right = h.right;
  witness = IsMatch-grows G h.pattern p q a b h.left h.right u h.witness;
}

pub IsStep-grows : (G : NumberedGraph) (K : List Shape) (H J : List Entry) (e : Entry) → IsStep G K H e → Within (links H) (links J) → IsStep G K J e
IsStep-grows G K H J e h w = record {
  pattern = h.pattern;
  key = h.key;
  witness = IsMatch-grows G h.pattern (joined_by H) (joined_by J) e.a e.b e.left e.right w h.witness;
}

pub Matches-from_step : (G : NumberedGraph) (K : List Shape) (H : List Entry) (e : Entry) → IsStep G K H e → Matches G K (joined_by H) e.a e.b
Matches-from_step G K H e h = record { key = e.key; pattern = h.pattern; found = h.key; left = e.left; right = e.right; witness = h.witness }

-- what a derivation joins, each closed list joins
pub derived_within : (G : NumberedGraph) (K : List Shape) (H J : List Entry) → IsDerivation G K H → IsClosed G K J → Within (links H) (links J)
derived_within G K H J d closed =
    by_fronts (λ xs. Within (links xs) (links J)) H (Within-nil (links J)) (λ n e at before.
    subst (λ ps. Within ps (links J)) (sym (links-push (take n H) e))
    (Within-push (links (take n H)) e.a e.b (links J)
    (closed e.a e.b (Matches-from_step G K J e (IsStep-grows G K (take n H) J e (d n e at) before)))
    before))

pub confluence : (G : NumberedGraph) (K : List Shape) (H J : List Entry) → IsDerivation G K H → IsClosed G K H → IsDerivation G K J → IsClosed G K J → (a b : ℕ) → Joined H a b ↔ Joined J a b
confluence G K H J d c e f a b = (derived_within G K H J d f a b, derived_within G K J H e c a b)

pub chase : (G : NumberedGraph) (K : List Shape) (H : List Entry) → IsDerivation G K H → IsClosed G K H → (a b : ℕ) → AreSame G K a b ↔ Joined H a b
chase G K H d c a b = ((λ s. derived_within G K s.0 H s.1 c a b s.2), (λ j. (H, d, j)))
