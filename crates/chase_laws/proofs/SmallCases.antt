-- Small cases of the definitions, worked out.
use Rattle.std.proofs.Common.{[], ◌∷◌, ℕ, Bool, true, false, None, IsTrue, ◌≡◌, ◌==◌, refl, arith}
use Rattle.chase_laws.specs.declared.pattern.Slot.TheVariants.{Entity, Any as AnyOf, Value, Folded}
use Rattle.chase_laws.specs.Graph.{NumberedGraph, HasType}
use Rattle.chase_laws.specs.Shape.{Shape, is_pattern}
use Rattle.chase_laws.specs.Valuation.{FitsSlot, IsValuation, AgreeAt}
use Rattle.chase_laws.specs.Joined.{joined}
use Rattle.chase_laws.specs.Signature.{signature}
use Rattle.chase_laws.specs.Report.{report_text}

-- where nothing is identified, each name is joined with itself and with no other
pub none_joined : (a : ℕ) → joined [] a a ≡ (a == a)
unfolding joined
none_joined a = refl

pub zero_and_one_apart : joined [] 0 1 ≡ false
unfolding joined
zero_and_one_apart = refl

-- one identification, and two that chain
pub one_link : joined ((0, 1) ∷ []) 1 0 ≡ true
unfolding joined
one_link = refl

pub two_links : joined ((0, 1) ∷ (2, 1) ∷ []) 0 2 ≡ true
unfolding joined
two_links = refl

-- two value variables need two literals: no valuation has one number at both
pub two_values_differ : (G : NumberedGraph) (Q : Shape) (x n : ℕ) → IsValuation G Q (x ∷ n ∷ n ∷ []) → ⊥
two_values_differ G Q x n v = v.different 1 2 0 (omega arith) (omega arith) refl

-- at a wildcard any two numbers agree; at an entity variable other than the first only what is the same does
pub wildcard_free : (G : NumberedGraph) (same : ℕ → ℕ → Bool) (t m n : ℕ) → AgreeAt G same 1 (AnyOf t) m n
wildcard_free G same t m n = tt

pub entity_same : (G : NumberedGraph) (same : ℕ → ℕ → Bool) (t m n : ℕ) → AgreeAt G same 1 (Entity t) m n → IsTrue (same m n)
entity_same G same t m n h = h (λ e. omega arith)

-- in a graph without rdf:type nothing fits a typed slot
pub untyped_unfit : (G : NumberedGraph) (t n : ℕ) → G.rdf_type ≡ None → FitsSlot G (Entity t) n → ⊥
untyped_unfit G t n e h = let k : HasType G n t = h.1 in rw e at k

-- two albums of the same name and year: the pattern of the key is valid
pub album_key_valid :
    let Q : Shape = record {
      slots = Entity 2 ∷ Value ∷ Value ∷ [];
      edges = record { from = 0; pred = 4; to = 1 } ∷ record { from = 0; pred = 6; to = 2 } ∷ [];
    } in is_pattern Q ≡ true
album_key_valid = refl

-- a pattern with a slot that no walk reaches from the first is not
pub unconnected_invalid :
    let Q : Shape = record {
      slots = Entity 2 ∷ Value ∷ AnyOf 2 ∷ AnyOf 2 ∷ [];
      edges = record { from = 0; pred = 4; to = 1 } ∷ record { from = 2; pred = 6; to = 3 } ∷ [];
    } in is_pattern Q ≡ false
unconnected_invalid = refl

-- names 0 to 3 with the texts "b", "a", "d", "c", of which 0 and 1 are the same, and 2 and 3
pub two_classes : report_text ((98 ∷ []) ∷ (97 ∷ []) ∷ (100 ∷ []) ∷ (99 ∷ []) ∷ []) (joined ((0, 1) ∷ (3, 2) ∷ [])) ≡ 97 ∷ 32 ∷ 98 ∷ 10 ∷ 99 ∷ 32 ∷ 100 ∷ 10 ∷ []
unfolding joined
two_classes = refl

-- classes of one member are not printed
pub no_classes : report_text ((98 ∷ []) ∷ (97 ∷ []) ∷ []) (joined []) ≡ []
unfolding joined
no_classes = refl

-- the signature of a valuation of x, another entity, a literal, a folded literal and a wildcard, where names 1 and 2 have
-- one label and literals 3 and 4 are alike: the literals and the labels count, and neither x nor the wildcard does
pub one_signature :
    let Q : Shape = record { slots = Entity 9 ∷ Entity 9 ∷ Value ∷ Folded ∷ AnyOf 9 ∷ []; edges = [] } in
    let G : NumberedGraph = record { rows = []; literal = []; rdf_type = None; alike = 0 ∷ 1 ∷ 2 ∷ 3 ∷ 3 ∷ 5 ∷ 6 ∷ 7 ∷ [] } in
    (signature G Q (0 ∷ 1 ∷ 1 ∷ 3 ∷ 4 ∷ 5 ∷ 6 ∷ 7 ∷ []) (0 ∷ 2 ∷ 5 ∷ 4 ∷ 6 ∷ []) ≡ (5 ∷ 3 ∷ [], 1 ∷ []))
    × (signature G Q (0 ∷ 1 ∷ 1 ∷ 3 ∷ 4 ∷ 5 ∷ 6 ∷ 7 ∷ []) (7 ∷ 1 ∷ 5 ∷ 3 ∷ 0 ∷ []) ≡ (5 ∷ 3 ∷ [], 1 ∷ []))
one_signature = (refl, refl)
