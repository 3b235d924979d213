-- What the test of a valid key says.
use Rattle.std.proofs.Common.{bytes_eq, length-append, ◌++◌, List, [], ◌∷◌, ℕ, zero, suc, Bool, true, false, not, Option, Some, None, length, slice_get, get_or, All, ◌≡◌, ◌≢◌, ◌<◌, ◌&&◌, ◌==◌, refl, sym, ◌∙◌, ap, subst, arith, true≢false, eq-eqb, nat_lt}
use Rattle.std.specs.List.{list_any, list_all, range_with_len, AllPairs}
use Rattle.std.proofs.lemmas.Bool.{and_parts, ltb-true, leb-true, lt-ltb, le-leb, eqb-true}
use Rattle.std.proofs.lemmas.List.{get_or_default}
use Rattle.std.proofs.lemmas.List.Folds.{list_any_at, list_any_none}
use Rattle.std.proofs.lemmas.List.FromFn.{get_or-range_with_len, length-range_with_len, length-map-range_with_len}
use Rattle.std.proofs.lemmas.List.Kept.{AllPairs-cons}
use Rattle.std.proofs.lemmas.List.Sums.{AllPass-from_list_all, list_all-from_AllPass}
use Rattle.std.proofs.lemmas.List.{length-replicate}
use Rattle.std.proofs.lemmas.List.Elements.{All-push}
use Rattle.std.proofs.lemmas.List.Quantifiers.{all_pairs_push}
use Rattle.std.proofs.lemmas.Slice.Eq.{bytes_eq-Decides}
use Rattle.gk_base.specs.declared.term.Term.{Term}
use Rattle.chase_laws.specs.Shape.{marks, AllWithin}
use Rattle.term_table.specs.Numbering.{same_term}
use Rattle.term_table.proofs.CallerLemmas.{same_term-true, same_term-refl}
use Rattle.key_file.specs.declared.slot.KeySlot.{KeySlot}
use Rattle.key_file.specs.declared.slot.KeySlot.TheVariants.{Entity, Any, Value, Folded, Fixed}
use Rattle.key_file.specs.declared.edge.KeyEdge.{KeyEdge}
use Rattle.key_file.specs.KeyShape.{KeyShape}
use Rattle.key_file.specs.KeyFile.{has_name, IsKeyFile}
use Rattle.key_file.specs.Key.{is_entity_variable, may_be_subject, same_slot, same_key_edge, all_differ, is_used, outline, is_connected, IsKey, KeyFacts}

-- tests that pass
pub both : (x y : Bool) → x ≡ true → y ≡ true → (x && y) ≡ true
both true y a b = b
both false y a b = absurd (true≢false (sym a))

pub not_true : (b : Bool) → not b ≡ true → b ≡ false
not_true true h = absurd (true≢false (sym h))
not_true false h = refl

pub fails : (b : Bool) → (b ≡ true → ⊥) → b ≡ false
fails true h = absurd (h refl)
fails false h = refl

-- elements that all differ
pub none_same : {X : Type 0} (p : X → Bool) (xs : List X) → list_any p xs ≡ false → All (λ x. p x ≡ false) xs
none_same p xs h k d l = fails (p (get_or xs k d)) (λ t. true≢false (sym (list_any_at p xs k d l t) ∙ h))

differ_pairs : {X : Type 0} (same : X → X → Bool) (xs : List X) → all_differ same xs ≡ true → AllPairs (λ x y. same x y ≡ false) xs
differ_pairs same [] h = λ i j d l m. absurd (omega arith)
differ_pairs same (x ∷ xs) h =
    let parts = and_parts (not (list_any (same x) xs)) (all_differ same xs) h in
    AllPairs-cons (λ x y. same x y ≡ false) x xs (none_same (same x) xs (not_true (list_any (same x) xs) parts.0)) (differ_pairs same xs parts.1)

pairs_differ : {X : Type 0} (same : X → X → Bool) (xs : List X) → AllPairs (λ x y. same x y ≡ false) xs → all_differ same xs ≡ true
pairs_differ same [] pairs = refl
pairs_differ same (x ∷ xs) pairs =
    both (not (list_any (same x) xs)) (all_differ same xs)
    (ap not (list_any_none (same x) xs (λ k d l. pairs 0 (suc k) d (omega arith) (omega arith))))
    (pairs_differ same xs (λ i j d l m. pairs (suc i) (suc j) d (omega arith) (omega arith)))

-- edges that the test calls the same are equal
same_edge-true : (e f : KeyEdge) → same_key_edge e f ≡ true → e ≡ f
same_edge-true e f h =
    let outer = and_parts (e.from == f.from && e.to == f.to) (same_term e.pred f.pred) h in
    let ends = and_parts (e.from == f.from) (e.to == f.to) outer.0 in
    let from : e.from ≡ f.from = eqb-true e.from f.from ends.0 in
    let to : e.to ≡ f.to = eqb-true e.to f.to ends.1 in
    let pred : e.pred ≡ f.pred = same_term-true e.pred f.pred outer.1 in
    λ i. record { from = from i; pred = pred i; to = to i }

pub same_edge-same : (e f : KeyEdge) → e.from ≡ f.from → e.pred ≡ f.pred → e.to ≡ f.to → same_key_edge e f ≡ true
same_edge-same e f from pred to =
    both (e.from == f.from && e.to == f.to) (same_term e.pred f.pred)
    (both (e.from == f.from) (e.to == f.to) (eq-eqb e.from f.from from) (eq-eqb e.to f.to to))
    (subst (λ t. same_term e.pred t ≡ true) pred (same_term-refl e.pred))

edges_apart : (e f : KeyEdge) → same_key_edge e f ≡ false → e ≢ f
edges_apart e f h same = true≢false (sym (same_edge-same e f (ap (λ (x : KeyEdge). x.from) same) (ap (λ (x : KeyEdge). x.pred) same) (ap (λ (x : KeyEdge). x.to) same)) ∙ h)

pub apart_edges : (e f : KeyEdge) → e ≢ f → same_key_edge e f ≡ false
apart_edges e f differ = fails (same_key_edge e f) (λ h. differ (same_edge-true e f h))

entity_of : (o : Option KeySlot) → is_entity_variable o ≡ true → (name : List ℕ) × (type : Term) × (o ≡ Some (Entity name type))
entity_of None h = absurd (cc)
entity_of (Some (Entity name type)) h = (name, type, refl)
entity_of (Some (Any name type)) h = absurd (cc)
entity_of (Some (Value name)) h = absurd (cc)
entity_of (Some (Folded name)) h = absurd (cc)
entity_of (Some (Fixed constant)) h = absurd (cc)

-- marks are as many as slots
pub length-outline : (count : ℕ) (edges : List KeyEdge) → length (outline count edges).slots ≡ count
length-outline count edges = length-replicate count _

pub length-marks : (count : ℕ) (edges : List KeyEdge) (n : ℕ) → length (marks (outline count edges) n) ≡ count
length-marks count edges zero = length-map-range_with_len _ 0 _ ∙ length-replicate count _
length-marks count edges (suc n) = length-map-range_with_len _ 0 _ ∙ length-replicate count _

-- the test of walks says that each slot is reached
pub connected_within : (count : ℕ) (edges : List KeyEdge) → is_connected count edges ≡ true → AllWithin (outline count edges) count
connected_within count edges h s within =
    AllPass-from_list_all (λ m. m) (marks (outline count edges) count) h s false
    (let marked = length-marks count edges count in let slots = length-outline count edges in omega arith)

pub within_connected : (count : ℕ) (edges : List KeyEdge) → AllWithin (outline count edges) count → is_connected count edges ≡ true
within_connected count edges h =
    list_all-from_AllPass (λ m. m) (marks (outline count edges) count)
    (λ k d l.
    let marked = length-marks count edges count in
    let slots = length-outline count edges in
    get_or_default (marks (outline count edges) count) k d false l ∙ h k (omega arith))

-- the test says the facts
pub key_facts : (key : KeyShape) → IsKey key → KeyFacts key
key_facts key h =
    let a = and_parts _ _ h in
    let b = and_parts _ _ a.0 in
    let c = and_parts _ _ b.0 in
    let d = and_parts _ _ c.0 in
    let e = and_parts _ _ d.0 in
    let f = and_parts _ _ e.0 in
    let g = and_parts _ _ f.0 in
    let first = and_parts _ _ g.0 in
    record {
      first = entity_of (slice_get key.slots 0) first.0;
      few_slots = leb-true (length key.slots) 16 first.1;
      slots_differ = differ_pairs same_slot key.slots g.1;
      some_edges = ltb-true 0 (length key.edges) f.1;
      few_edges = leb-true (length key.edges) 32 e.1;
      edges_differ = λ i j x l m. edges_apart (get_or key.edges i x) (get_or key.edges j x) (differ_pairs same_key_edge key.edges d.1 i j x l m);
      ends = λ k x l. let r = and_parts _ _ (AllPass-from_list_all _ key.edges c.1 k x l) in (r.1, ltb-true (get_or key.edges k x).to (length key.slots) r.0);
      used = λ s l. subst (λ n. is_used key.edges n ≡ true) (get_or-range_with_len 0 (length key.slots) s 0 l ∙ omega arith)
          (AllPass-from_list_all (is_used key.edges) (range_with_len 0 (length key.slots)) b.1 s 0 (let n = length-range_with_len 0 (length key.slots) in omega arith));
      connected = connected_within (length key.slots) key.edges a.1;
    }

-- the facts pass the test
pub facts_key : (key : KeyShape) → KeyFacts key → IsKey key
facts_key key facts =
    let is_first : is_entity_variable (slice_get key.slots 0) ≡ true = ap is_entity_variable facts.first.2 in
    let ends : list_all (λ e. nat_lt e.to (length key.slots) && may_be_subject (slice_get key.slots e.from)) key.edges ≡ true =
    list_all-from_AllPass (λ e. nat_lt e.to (length key.slots) && may_be_subject (slice_get key.slots e.from)) key.edges
    (λ k x l. let r = facts.ends k x l in both _ _ (lt-ltb (get_or key.edges k x).to (length key.slots) r.1) r.0) in
    let used : list_all (is_used key.edges) (range_with_len 0 (length key.slots)) ≡ true =
    list_all-from_AllPass (is_used key.edges) (range_with_len 0 (length key.slots))
    (λ k x l.
    let within : k < length key.slots = (let n = length-range_with_len 0 (length key.slots) in omega arith) in
    ap (is_used key.edges) (get_or-range_with_len 0 (length key.slots) k x within ∙ omega arith) ∙ facts.used k within) in
    let connected = within_connected (length key.slots) key.edges facts.connected in
    both _ _ (both _ _ (both _ _ (both _ _ (both _ _ (both _ _ (both _ _ (both _ _ is_first
    (le-leb (length key.slots) 16 facts.few_slots))
    (pairs_differ same_slot key.slots facts.slots_differ))
    (lt-ltb 0 (length key.edges) facts.some_edges))
    (le-leb (length key.edges) 32 facts.few_edges))
    (pairs_differ same_key_edge key.edges (λ i j x l m. apart_edges (get_or key.edges i x) (get_or key.edges j x) (facts.edges_differ i j x l m))))
    ends)
    used)
    connected

-- one more key of a new name
pub file_push : (keys : List KeyShape) (key : KeyShape) → IsKeyFile keys → length keys < 64 → has_name keys key.name ≡ false → IsKey key → IsKeyFile (keys ++ key ∷ [])
file_push keys key file few fresh valid = record {
  few = let more = length-append keys (key ∷ []) in omega arith;
  names_differ = all_pairs_push (λ (k l : KeyShape). k.name ≢ l.name) keys key file.names_differ
      (λ k d l same. true≢false (sym ((bytes_eq-Decides (get_or keys k d).name key.name).1 same) ∙ none_same (λ (other : KeyShape). bytes_eq other.name key.name) keys fresh k d l));
  valid = All-push IsKey keys key file.valid valid;
}
