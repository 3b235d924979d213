-- The valuations of an entry's two sides.
use Rattle.std.proofs.Common.{List, ℕ, Some, length, drop, get_or, slice_get, ◌≡◌, ◌<◌, sym, ◌∙◌, ap, subst, arith}
use Rattle.std.specs.Prelude.{slice_index}
use Rattle.std.proofs.lemmas.Option.{slice_get-get_or, get_or_from_slice_get, slice_get_within}
use Rattle.chase_laws.specs.Shape.{Shape}
use Rattle.chase_laws.specs.Graph.{NumberedGraph}
use Rattle.chase_laws.specs.Signature.{SignatureParts, ArePartsOfSome}
use Rattle.key_plan.specs.Route.{Route, IsPlanOf}
use Rattle.paired_search.specs.Plans.{ArePlans}
use Rattle.key_valuations.specs.Parts.{HasParts}
use Rattle.valuation_groups.specs.Groups.{GroupShape, parts_in}

pub key_within : (G : NumberedGraph) (K : List Shape) (group : GroupShape) (row : List ℕ) (key : ℕ) → key ≡ group.key → ArePartsOfSome G K (parts_in group row) → key < length K
key_within G K group row key e h = let l = slice_get_within K group.key h.0 h.2 in omega arith

-- some valuation has the parts of a row
pub some_parts : (G : NumberedGraph) (K : List Shape) (group : GroupShape) (row : List ℕ) (key : ℕ) (d : Shape) → key ≡ group.key → ArePartsOfSome G K (parts_in group row) →
    (v : List ℕ) × HasParts G (get_or K key d) (slice_index row 0) group.values (drop 1 row) v
some_parts G K group row key d e h =
    let at : get_or K key d ≡ h.0 = ap (λ k. get_or K k d) e ∙ get_or_from_slice_get K group.key h.0 d h.2 in (
      h.1,
      subst (λ (Q : Shape). HasParts G Q (slice_index row 0) group.values (drop 1 row) h.1) (sym at) (record {
        valuation = h.3;
        name = sym (ap (λ (p : SignatureParts). p.name) h.4);
        values = sym (ap (λ (p : SignatureParts). p.values) h.4);
        images = sym (ap (λ (p : SignatureParts). p.images) h.4);
      }),
    )

-- the plan at a key's place is that of the key
pub plan_at : (K : List Shape) (plans : List Route) (key : ℕ) (d : Shape) (P : Route) → ArePlans K plans → key < length K → P ≡ get_or plans key P → IsPlanOf (get_or K key d) P
plan_at K plans key d P are h e =
    are.each key (get_or K key d) P (slice_get-get_or K key d h) (slice_get-get_or plans key P (let l = are.as_many in omega arith) ∙ ap Some (sym e))
