-- The rows of a graph are a set: their order and repeats are of no account. Nor is what names are alike to, where no key
-- has a folded value variable.
use Rattle.std.proofs.Common.{List, [], ◌∷◌, ℕ, Bool, Option, Some, None, IsSomeAnd, false, slice_get, slice_index, slice_index_or, get_or, take, ◌≡◌, ◌∙◌, inl, inr, sym, ap, subst}
use Rattle.chase_laws.specs.declared.entry.Entry.{Entry}
use Rattle.chase_laws.specs.declared.pattern.Slot.{Slot}
use Rattle.chase_laws.specs.declared.pattern.Slot.TheVariants.{Entity, Any as AnyOf, Value, Folded, Fixed}
use Rattle.chase_laws.specs.declared.pattern.Edge.{Edge}
use Rattle.chase_laws.specs.Shape.{Shape}
use Rattle.chase_laws.specs.Graph.{NumberedGraph, HasRow, HasType, AreAlike}
use Rattle.chase_laws.specs.SameRows.{HasRowsOf}
use Rattle.chase_laws.specs.Valuation.{FitsSlot, Designates, IsValuation, AgreeAt, IsMatch, Matches}
use Rattle.chase_laws.specs.Joined.{joined, joined_by}
use Rattle.chase_laws.specs.Chase.{IsDerivation, AreSame, IsClosed, IsAble}
use Rattle.chase_laws.specs.Candidate.{Shares, IsCandidate}

module _ (K : List Shape) (G F : NumberedGraph) (h : HasRowsOf K G F) where
  row : (s p o : ℕ) → HasRow G s p o → HasRow F s p o
  row s p o r = h.rows (s ∷ p ∷ o ∷ []) r

  literal_flag : (n : ℕ) → slice_index_or G.literal n false ≡ slice_index_or F.literal n false
  literal_flag n = ap (λ flags. slice_index_or flags n false) h.literal

  type : (n t : ℕ) → HasType G n t → HasType F n t
  type n t k = subst (λ o. IsSomeAnd o (λ p. HasRow F n p t)) h.rdf_type (go G.rdf_type k)
    where
      go : (o : Option ℕ) → IsSomeAnd o (λ p. HasRow G n p t) → IsSomeAnd o (λ p. HasRow F n p t)
      go None k = k
      go (Some p) k = row n p t k

  fits : (slot : Slot) (n : ℕ) → FitsSlot G slot n → FitsSlot F slot n
  fits (Entity t) n k = ((λ l. k.0 (literal_flag n ∙ l)), type n t k.1)
  fits (AnyOf t) n k = ((λ l. k.0 (literal_flag n ∙ l)), type n t k.1)
  fits Value n k = sym (literal_flag n) ∙ k
  fits Folded n k = sym (literal_flag n) ∙ k
  fits (Fixed c) n k = k

  valuation : (Q : Shape) (v : List ℕ) → IsValuation G Q v → IsValuation F Q v
  valuation Q v k = record {
    one_each = k.one_each;
    different = k.different;
    kinds = λ s slot at. fits slot (slice_index v s) (k.kinds s slot at);
    edges = λ i e l. let f : Edge = get_or Q.edges i e in row (slice_index v f.from) f.pred (slice_index v f.to) (k.edges i e l);
  }

  -- literals that are alike at a folded slot of some key
  alike : (key : ℕ) (Q : Shape) (s m n : ℕ) → slice_get K key ≡ Some Q → slice_get Q.slots s ≡ Some Folded → AreAlike G m n → AreAlike F m n
  alike key Q s m n found at k = elim h.alike [
    | inl e ↦ subst (λ a. slice_index a m ≡ slice_index a n) e k
    | inr none ↦ absurd (none key Q found s at)
  ]

  module _ (key : ℕ) (Q : Shape) (found : slice_get K key ≡ Some Q) where
    agree : (same : ℕ → ℕ → Bool) (s : ℕ) (slot : Slot) (m n : ℕ) → slice_get Q.slots s ≡ Some slot → AgreeAt G same s slot m n → AgreeAt F same s slot m n
    agree same s (Entity t) m n at k = k
    agree same s (AnyOf t) m n at k = tt
    agree same s Value m n at k = k
    agree same s Folded m n at k = alike key Q s m n found at k
    agree same s (Fixed c) m n at k = tt

    match_too : (same : ℕ → ℕ → Bool) (a b : ℕ) (v w : List ℕ) → IsMatch G Q same a b v w → IsMatch F Q same a b v w
    match_too same a b v w k = record {
      left = valuation Q v k.left;
      right = valuation Q w k.right;
      coincide = λ s slot at. agree same s slot (slice_index v s) (slice_index w s) at (k.coincide s slot at);
      at_a = k.at_a;
      at_b = k.at_b;
    }

    share : (s : ℕ) (slot : Slot) (p a b : ℕ) → slice_get Q.slots s ≡ Some slot → Shares G slot p a b → Shares F slot p a b
    share s Value p a b at k = (k.0, sym (literal_flag k.0) ∙ k.1, row a p k.0 k.2, row b p k.0 k.3)
    share s Folded p a b at k =
        (k.0, k.1, sym (literal_flag k.0) ∙ k.2, sym (literal_flag k.1) ∙ k.3, row a p k.0 k.4, row b p k.1 k.5, alike key Q s k.0 k.1 found at k.6)
    share s (Entity t) p a b at k = tt
    share s (AnyOf t) p a b at k = tt
    share s (Fixed c) p a b at k = tt

  designates_too : (Q : Shape) (n : ℕ) → Designates G Q n → Designates F Q n
  designates_too Q n d = (d.0, d.1, fits d.0 n d.2)

  matches_too : (same : ℕ → ℕ → Bool) (a b : ℕ) → Matches G K same a b → Matches F K same a b
  matches_too same a b m = record {
    key = m.key;
    pattern = m.pattern;
    found = m.found;
    left = m.left;
    right = m.right;
    witness = match_too m.key m.pattern m.found same a b m.left m.right m.witness;
  }

  pub derivation_too : (H : List Entry) → IsDerivation G K H → IsDerivation F K H
  derivation_too H d = λ i e at. let s = d i e at in record { pattern = s.pattern; key = s.key; witness = match_too e.key s.pattern s.key (joined_by (take i H)) e.a e.b e.left e.right s.witness }

  pub able_too : (a b : ℕ) → IsAble G K a b → IsAble F K a b
  able_too a b h = (h.0, (h.1.0, matches_too (joined h.1.0) a b h.1.1))

  -- what is closed over the larger graph is closed over the smaller one
  pub closed_back : (H : List Entry) → IsClosed F K H → IsClosed G K H
  closed_back H closed = λ a b m. closed a b (matches_too (joined_by H) a b m)

  pub same_too : (a b : ℕ) → AreSame G K a b → AreSame F K a b
  same_too a b k = (k.0, derivation_too k.0 k.1, k.2)

  pub candidate_too : (a b : ℕ) → IsCandidate G K a b → IsCandidate F K a b
  candidate_too a b k = record {
    below = k.below;
    key = k.key;
    pattern = k.pattern;
    found = k.found;
    under = record {
      left = designates_too k.pattern a k.under.left;
      right = designates_too k.pattern b k.under.right;
      share = λ i e l from slot at. let f : Edge = get_or k.pattern.edges i e in share k.key k.pattern k.found f.to slot f.pred a b at (k.under.share i e l from slot at);
    };
  }
