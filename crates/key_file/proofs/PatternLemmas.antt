-- A valid key's pattern is valid.
use Rattle.std.proofs.Common.{List, [], ◌∷◌, ℕ, zero, suc, Bool, true, false, not, Option, Some, None, option_map, length, slice_get, get_or, map, ◌≡◌, ◌≢◌, ◌<◌, ◌+◌, ◌&&◌, ◌||◌, ◌==◌, nat_lt, refl, sym, ◌∙◌, ap, subst, length-append, arith, true≢false}
use Rattle.std.specs.List.{list_any, list_all, range_with_len, AllPairs, flat_map}
use Rattle.std.proofs.lemmas.Bool.{and_parts, lt-ltb, le-leb, eqb-true}
use Rattle.std.proofs.lemmas.List.{length-map}
use Rattle.std.proofs.lemmas.List.Elements.{All-map}
use Rattle.std.proofs.lemmas.List.Folds.{list_any_none, list_all-map}
use Rattle.std.proofs.lemmas.List.FromFn.{get_or-range_with_len, length-range_with_len}
use Rattle.std.proofs.lemmas.List.Sums.{list_all-from_AllPass, fold-append}
use Rattle.std.proofs.lemmas.Option.{slice_get-map, slice_get-get_or}
use Rattle.gk_base.specs.declared.term.Term.{Term}
use Rattle.chase_laws.specs.declared.pattern.Slot.{Slot}
use Rattle.chase_laws.specs.declared.pattern.Edge.{Edge}
use Rattle.chase_laws.specs.Shape as pattern
use Rattle.chase_laws.specs.Shape.{Shape, marks, touches, slot_numbers, IsPattern}
use Rattle.term_table.specs.Numbering.{is_named, place_of, with_term, with_terms}
use Rattle.term_table.proofs.CallerLemmas.{slice_get-place_of, is_named-came, length-with_terms}
use Rattle.key_file.specs.declared.slot.KeySlot.{KeySlot}
use Rattle.key_file.specs.declared.slot.KeySlot.TheVariants.{Entity, Any, Value, Folded, Fixed}
use Rattle.key_file.specs.declared.edge.KeyEdge.{KeyEdge}
use Rattle.key_file.specs.KeyShape.{KeyShape}
use Rattle.key_file.specs.Key.{may_be_subject, same_key_edge, outline, outline_edge, IsKey}
use Rattle.key_file.specs.Compile.{slot_terms, terms_of_key, slot_of, numbered_edge, shape_of}
use Rattle.key_file.proofs.KeyLemmas.{both, fails, key_facts, apart_edges, same_edge-same, length-outline}
use Rattle.key_file.proofs.WalkLemmas.{any_map}
use Rattle.key_file.proofs.CompileLemmas.{numbered_stay, map_stays, slot_stays}

-- each of these terms is a name
abbrev pub AllNamed : List Term → List Term → Type 0
AllNamed names terms = (k : ℕ) (u : Term) → slice_get terms k ≡ Some u → is_named names u ≡ true

-- slots keep their kinds
subject_option : (names : List Term) (o : Option KeySlot) → may_be_subject o ≡ true → pattern.is_subject (option_map (slot_of names) o) ≡ true
subject_option names (Some (Entity name type)) h = refl
subject_option names (Some (Any name type)) h = refl
subject_option names (Some (Value name)) h = absurd (true≢false (sym h))
subject_option names (Some (Folded name)) h = absurd (true≢false (sym h))
subject_option names (Some (Fixed constant)) h = absurd (true≢false (sym h))
subject_option names None h = absurd (true≢false (sym h))

subject_map : (names : List Term) (slots : List KeySlot) (k : ℕ) → may_be_subject (slice_get slots k) ≡ true → pattern.is_subject (slice_get (map (slot_of names) slots) k) ≡ true
subject_map names slots k h = ap pattern.is_subject (slice_get-map (slot_of names) slots k) ∙ subject_option names (slice_get slots k) h

-- different triples are different edges
same_place : (names : List Term) (t u : Term) → is_named names t ≡ true → is_named names u ≡ true → place_of names t ≡ place_of names u → t ≡ u
same_place names t u p q e =
    let both_are : Some t ≡ Some u = sym (slice_get-place_of names t p) ∙ ap (slice_get names) e ∙ slice_get-place_of names u q in
    cc

edges_apart : (names : List Term) (e f : KeyEdge) → is_named names e.pred ≡ true → is_named names f.pred ≡ true → same_key_edge e f ≡ false → pattern.same_edge (numbered_edge names e) (numbered_edge names f) ≡ false
edges_apart names e f p q differ =
    fails (pattern.same_edge (numbered_edge names e) (numbered_edge names f)) (λ h.
    let outer = and_parts (e.from == f.from && place_of names e.pred == place_of names f.pred) (e.to == f.to) h in
    let inner = and_parts (e.from == f.from) (place_of names e.pred == place_of names f.pred) outer.0 in
    let pred : e.pred ≡ f.pred = same_place names e.pred f.pred p q (eqb-true (place_of names e.pred) (place_of names f.pred) inner.1) in
    true≢false (sym (same_edge-same e f (eqb-true e.from f.from inner.0) pred (eqb-true e.to f.to outer.1)) ∙ differ))

named_at : (names : List Term) (edges : List KeyEdge) → AllNamed names (map (λ (e : KeyEdge). e.pred) edges) → (k : ℕ) (d : KeyEdge) → k < length edges → is_named names (get_or edges k d).pred ≡ true
named_at names edges named k d l =
    named k (get_or edges k d).pred (slice_get-map (λ (e : KeyEdge). e.pred) edges k ∙ ap (option_map (λ (e : KeyEdge). e.pred)) (slice_get-get_or edges k d l))

edges_differ : (names : List Term) (edges : List KeyEdge) → AllNamed names (map (λ (e : KeyEdge). e.pred) edges) → AllPairs (λ e f. e ≢ f) edges → pattern.are_different (map (numbered_edge names) edges) ≡ true
edges_differ names [] named differ = refl
edges_differ names (e ∷ edges) named differ =
    let others : AllNamed names (map (λ (f : KeyEdge). f.pred) edges) = λ k u h. named (suc k) u h in
    let none : list_any (pattern.same_edge (numbered_edge names e)) (map (numbered_edge names) edges) ≡ false =
    list_any_none (pattern.same_edge (numbered_edge names e)) (map (numbered_edge names) edges)
    (All-map (λ f. pattern.same_edge (numbered_edge names e) f ≡ false) (numbered_edge names) edges
    (λ k d l. edges_apart names e (get_or edges k d) (named 0 e.pred refl) (named_at names edges others k d l)
    (apart_edges e (get_or edges k d) (differ 0 (suc k) d (omega arith) (omega arith))))) in
    both (not (list_any (pattern.same_edge (numbered_edge names e)) (map (numbered_edge names) edges))) (pattern.are_different (map (numbered_edge names) edges)) (ap not none)
    (edges_differ names edges others (λ i j d l m. differ (suc i) (suc j) d (omega arith) (omega arith)))

-- walks stay what they are
marks_same : (P Q : Shape) → length P.slots ≡ length Q.slots → ((before : List Bool) (s : ℕ) → list_any (touches before s) P.edges ≡ list_any (touches before s) Q.edges) → (n : ℕ) → marks P n ≡ marks Q n
marks_same P Q slots edges zero = ap (λ c. map (λ s. s == 0) (range_with_len 0 c)) slots
marks_same P Q slots edges (suc n) =
    ap (λ (m : List Bool). map (λ s. get_or m s false || list_any (touches m s) P.edges) (slot_numbers P)) (marks_same P Q slots edges n)
    ∙ (λ i. map (λ s. get_or (marks Q n) s false || edges (marks Q n) s i) (slot_numbers P))
    ∙ ap (λ c. map (λ s. get_or (marks Q n) s false || list_any (touches (marks Q n) s) Q.edges) (range_with_len 0 c)) slots

key_marks : (names : List Term) (key : KeyShape) (n : ℕ) → marks (shape_of names key) n ≡ marks (outline (length key.slots) key.edges) n
key_marks names key n =
    marks_same (shape_of names key) (outline (length key.slots) key.edges) (length-map key.slots (slot_of names) ∙ sym (length-outline (length key.slots) key.edges))
    (λ before s. any_map (touches before s) (numbered_edge names) key.edges ∙ sym (any_map (touches before s) outline_edge key.edges)) n

-- the pattern of a valid key whose predicates are names
pub key_pattern : (names : List Term) (key : KeyShape) → AllNamed names (map (λ (e : KeyEdge). e.pred) key.edges) → IsKey key → IsPattern (shape_of names key)
key_pattern names key named valid =
    let facts = key_facts key valid in
    let slots : length (map (slot_of names) key.slots) ≡ length key.slots = length-map key.slots (slot_of names) in
    let edges : length (map (numbered_edge names) key.edges) ≡ length key.edges = length-map key.edges (numbered_edge names) in
    let few_slots = facts.few_slots in
    let some_edges = facts.some_edges in
    let few_edges = facts.few_edges in
    let slots_fit = le-leb (length (map (slot_of names) key.slots)) 16 (omega arith) in
    let edges_there = lt-ltb 0 (length (map (numbered_edge names) key.edges)) (omega arith) in
    let edges_fit = le-leb (length (map (numbered_edge names) key.edges)) 32 (omega arith) in
    let first : pattern.is_entity (slice_get (map (slot_of names) key.slots) 0) ≡ true =
    ap pattern.is_entity (slice_get-map (slot_of names) key.slots 0 ∙ ap (option_map (slot_of names)) facts.first.2) in
    let ends : list_all (λ (e : Edge). nat_lt e.to (length (map (slot_of names) key.slots)) && pattern.is_subject (slice_get (map (slot_of names) key.slots) e.from)) (map (numbered_edge names) key.edges) ≡ true =
    list_all-map (λ (e : Edge). nat_lt e.to (length (map (slot_of names) key.slots)) && pattern.is_subject (slice_get (map (slot_of names) key.slots) e.from)) (numbered_edge names) key.edges
    ∙ list_all-from_AllPass (λ (e : KeyEdge). nat_lt e.to (length (map (slot_of names) key.slots)) && pattern.is_subject (slice_get (map (slot_of names) key.slots) e.from)) key.edges
    (λ k d l. let r = facts.ends k d l in both _ _ (lt-ltb (get_or key.edges k d).to (length (map (slot_of names) key.slots)) (omega (arith, r.1))) (subject_map names key.slots (get_or key.edges k d).from r.0)) in
    let used : list_all (λ s. list_any (λ (e : Edge). e.from == s || e.to == s) (map (numbered_edge names) key.edges)) (range_with_len 0 (length (map (slot_of names) key.slots))) ≡ true =
    list_all-from_AllPass (λ s. list_any (λ (e : Edge). e.from == s || e.to == s) (map (numbered_edge names) key.edges)) (range_with_len 0 (length (map (slot_of names) key.slots)))
    (λ k d l.
    let n = length-range_with_len 0 (length (map (slot_of names) key.slots)) in
    ap (λ s. list_any (λ (e : Edge). e.from == s || e.to == s) (map (numbered_edge names) key.edges)) (get_or-range_with_len 0 (length (map (slot_of names) key.slots)) k d (omega arith) ∙ omega arith)
    ∙ any_map (λ (e : Edge). e.from == k || e.to == k) (numbered_edge names) key.edges ∙ facts.used k (omega arith)) in
    let connected : list_all (λ m. m) (marks (shape_of names key) (length (map (slot_of names) key.slots))) ≡ true =
    ap (list_all (λ m. m)) (ap (marks (shape_of names key)) slots ∙ key_marks names key (length key.slots)) ∙ (and_parts _ _ valid).1 in
    both _ _ (both _ _ (both _ _ (both _ _ (both _ _ (both _ _ (both _ _ first
    slots_fit) edges_there) edges_fit)
    (edges_differ names key.edges named facts.edges_differ))
    ends)
    used)
    connected

-- there is room for the predicates behind the slots' terms
pub pattern_room : (start names : List Term) (key : KeyShape) (slots : List KeySlot) (edges : List KeyEdge) (room : ℕ) → slots ≡ key.slots → edges ≡ key.edges →
    names ≡ with_terms start (flat_map slot_terms slots) → length start + length (terms_of_key key) < room → length names + length edges < room
pattern_room start names key slots edges room same_slots same_edges so_far fits =
    let grown = (length-with_terms start (flat_map slot_terms slots)).1 in
    let equal = ap length so_far in
    let terms = ap (λ (s : List KeySlot). length (flat_map slot_terms s)) same_slots in
    let count = ap (λ (e : List KeyEdge). length e) same_edges in
    let all = length-append (flat_map slot_terms key.slots) (map (λ (e : KeyEdge). e.pred) key.edges) in
    let preds = length-map key.edges (λ (e : KeyEdge). e.pred) in
    omega arith

-- the parts of a pattern: the slots keep their numbers while the edges are numbered
pub pattern_parts : (start middle names : List Term) (key : KeyShape) (slots : List KeySlot) (edges : List KeyEdge) (made_slots : List Slot) (made_edges : List Edge) →
    slots ≡ key.slots → edges ≡ key.edges →
    middle ≡ with_terms start (flat_map slot_terms slots) → names ≡ with_terms middle (map (λ (e : KeyEdge). e.pred) edges) →
    made_slots ≡ map (slot_of middle) slots → made_edges ≡ map (numbered_edge names) edges →
    ◌≡◌ {A = Shape} (record { slots = made_slots; edges = made_edges }) (shape_of names key)
pattern_parts start middle names key slots edges made_slots made_edges same_slots same_edges first second slots_are edges_are =
    let stay = map_stays slot_of slot_terms slot_stays middle names slots (numbered_stay start (flat_map slot_terms slots) (map (λ (e : KeyEdge). e.pred) edges) middle names first second) in
    let all_slots : made_slots ≡ map (slot_of names) key.slots = slots_are ∙ sym stay ∙ ap (map (slot_of names)) same_slots in
    let all_edges : made_edges ≡ map (numbered_edge names) key.edges = edges_are ∙ ap (map (numbered_edge names)) same_edges in
    λ i. record { slots = all_slots i; edges = all_edges i }

-- and it is valid
pub pattern_valid : (middle names : List Term) (key : KeyShape) (edges : List KeyEdge) (Q : Shape) → IsKey key → edges ≡ key.edges →
    names ≡ with_terms middle (map (λ (e : KeyEdge). e.pred) edges) → Q ≡ shape_of names key → IsPattern Q
pattern_valid middle names key edges Q valid same_edges second is =
    let named : AllNamed names (map (λ (e : KeyEdge). e.pred) key.edges) =
    λ k u at. subst (λ n. is_named n u ≡ true) (sym (second ∙ ap (λ (es : List KeyEdge). with_terms middle (map (λ (e : KeyEdge). e.pred) es)) same_edges))
    (is_named-came middle (map (λ (e : KeyEdge). e.pred) key.edges) k u at) in
    subst IsPattern (sym is) (key_pattern names key named valid)

-- the names of both lists of terms
pub pattern_names : (start middle names : List Term) (key : KeyShape) (slots : List KeySlot) (edges : List KeyEdge) → slots ≡ key.slots → edges ≡ key.edges →
    middle ≡ with_terms start (flat_map slot_terms slots) → names ≡ with_terms middle (map (λ (e : KeyEdge). e.pred) edges) → names ≡ with_terms start (terms_of_key key)
pattern_names start middle names key slots edges same_slots same_edges first second =
    second ∙ ap (λ l. with_terms l (map (λ (e : KeyEdge). e.pred) edges)) first
    ∙ (λ i. with_terms (with_terms start (flat_map slot_terms (same_slots i))) (map (λ (e : KeyEdge). e.pred) (same_edges i)))
    ∙ sym (fold-append with_term start (flat_map slot_terms key.slots) (map (λ (e : KeyEdge). e.pred) key.edges))
