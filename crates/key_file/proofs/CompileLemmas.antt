-- Keys as patterns over names.
use Rattle.std.proofs.Common.{List, [], ◌∷◌, ◌++◌, ℕ, suc, ◌+◌, ◌*◌, ◌<◌, ◌≤◌, true, false, Bool, Some, ◌≡◌, refl, sym, ap, subst, ◌∙◌, length, get_or, slice_get, map, take, arith, append_assoc, length-append}
use Rattle.std.specs.List.{flat_map}
use Rattle.std.proofs.lemmas.List.{take_more, map_push, length-map, append-nil}
use Rattle.std.proofs.lemmas.List.Concat.{flat_map_single, length-flat_map}
use Rattle.std.proofs.lemmas.List.Folds.{length-flat_map-take}
use Rattle.std.proofs.lemmas.List.Sums.{fold-append, sum_by-le}
use Rattle.std.proofs.lemmas.List.{flat_map_more}
use Rattle.gk_base.specs.declared.term.Term.{Term}
use Rattle.chase_laws.specs.declared.pattern.Slot.TheVariants as node
use Rattle.term_table.specs.Numbering.{is_named, place_of, with_term, with_terms, AreDistinct}
use Rattle.term_table.proofs.CallerLemmas.{slice_get-append_left, slice_get-added, place_of-at, place_of-with_terms, is_named-came, with_term-named, with_term-new, length-with_terms}
use Rattle.key_file.specs.declared.slot.KeySlot.{KeySlot}
use Rattle.key_file.specs.declared.slot.KeySlot.TheVariants.{Entity, Any, Value, Folded, Fixed}
use Rattle.key_file.specs.declared.edge.KeyEdge.{KeyEdge}
use Rattle.key_file.specs.KeyShape.{KeyShape}
use Rattle.key_file.specs.Key.{IsKey}
use Rattle.key_file.specs.KeyFile.{IsKeyFile}
use Rattle.key_file.specs.Compile.{slot_terms, terms_of_key, key_terms, slot_of, numbered_edge, shape_of, HasMoreNames}
use Rattle.key_file.proofs.KeyLemmas.{key_facts}

-- the names grow at their end
pub HasGrown-none : (names : List Term) → HasMoreNames names names
HasGrown-none names = ([], sym (append-nil names))

pub HasGrown-more : (a b c : List Term) → HasMoreNames a b → HasMoreNames b c → HasMoreNames a c
HasGrown-more a b c f g = (f.0 ++ g.0, g.1 ∙ ap (λ l. l ++ g.0) f.1 ∙ append_assoc a f.0 g.0)

grown_by : (names : List Term) (t : Term) (b : Bool) → is_named names t ≡ b → HasMoreNames names (with_term names t)
grown_by names t true h = ([], with_term-named names t h ∙ sym (append-nil names))
grown_by names t false h = (t ∷ [], with_term-new names t h)

pub HasGrown-with_term : (names : List Term) (t : Term) → HasMoreNames names (with_term names t)
HasGrown-with_term names t = grown_by names t (is_named names t) refl

-- the place of a term that was just numbered
place_of-added : (names : List Term) (t : Term) → AreDistinct (with_term names t) → place_of (with_term names t) t ≡ place_of names t
place_of-added names t distinct = place_of-at (with_term names t) distinct t (place_of names t) (slice_get-added names t)

pub numbered : (names after : List Term) (copied term : Term) (number : ℕ) → copied ≡ term → number ≡ place_of names copied → after ≡ with_term names copied → AreDistinct after → number ≡ place_of after term
numbered names after copied term number copy place then distinct =
    place ∙ sym (place_of-added names copied (subst AreDistinct then distinct)) ∙ ap (λ l. place_of l copied) (sym then) ∙ ap (place_of after) copy

-- these terms have the same numbers among later names
abbrev pub AreKept : List Term → List Term → List Term → Type 0
AreKept names later terms = (k : ℕ) (u : Term) → slice_get terms k ≡ Some u → place_of later u ≡ place_of names u

pub numbered_stay : (start terms more names later : List Term) → names ≡ with_terms start terms → later ≡ with_terms names more → AreKept names later terms
numbered_stay start terms more names later same then k u at =
    ap (λ l. place_of l u) then
    ∙ place_of-with_terms names more u (subst (λ l. is_named l u ≡ true) (sym same) (is_named-came start terms k u at))

left_stay : (names later a b : List Term) → AreKept names later (a ++ b) → AreKept names later a
left_stay names later a b kept k u at = kept k u (slice_get-append_left a b k u at)

right_stay : (names later a b : List Term) → AreKept names later (a ++ b) → AreKept names later b
right_stay names later [] b kept = kept
right_stay names later (t ∷ a) b kept = right_stay names later a b (λ k u at. kept (suc k) u at)

-- what has its terms' numbers stays what it is
pub slot_stays : (names later : List Term) (s : KeySlot) → AreKept names later (slot_terms s) → slot_of later s ≡ slot_of names s
slot_stays names later (Entity name type) kept = ap node.Entity (kept 0 type refl)
slot_stays names later (Any name type) kept = ap node.Any (kept 0 type refl)
slot_stays names later (Value name) kept = refl
slot_stays names later (Folded name) kept = refl
slot_stays names later (Fixed constant) kept = ap node.Fixed (kept 0 constant refl)

pub edge_stays : (names later : List Term) (e : KeyEdge) → AreKept names later (e.pred ∷ []) → numbered_edge later e ≡ numbered_edge names e
edge_stays names later e kept = let same = kept 0 e.pred refl in λ i. record { from = e.from; pred = same i; to = e.to }

-- the predicates of edges
pub predicates : (edges : List KeyEdge) → flat_map (λ (e : KeyEdge). e.pred ∷ []) edges ≡ map (λ (e : KeyEdge). e.pred) edges
predicates edges = flat_map_single (λ (e : KeyEdge). e.pred) edges

-- A loop that numbers the terms of each element: what is made of an element, its terms, and that it stays what it is.
module _ {X Y : Type 0} (make : List Term → X → Y) (terms : X → List Term) (stays : (names later : List Term) (x : X) → AreKept names later (terms x) → make later x ≡ make names x) where
  pub map_stays : (names later : List Term) (xs : List X) → AreKept names later (flat_map terms xs) → map (make later) xs ≡ map (make names) xs
  map_stays names later [] kept = refl
  map_stays names later (x ∷ xs) kept =
      ap (λ y. y ∷ map (make later) xs) (stays names later x (left_stay names later (terms x) (flat_map terms xs) kept))
      ∙ ap (λ ys. make names x ∷ ys) (map_stays names later xs (right_stay names later (terms x) (flat_map terms xs) kept))

  -- one more element: the names
  pub names_more : (start names after : List Term) (xs : List X) (i : ℕ) (x : X) → i < length xs → x ≡ get_or xs i x →
      names ≡ with_terms start (flat_map terms (take i xs)) → after ≡ with_terms names (terms x) →
      after ≡ with_terms start (flat_map terms (take (i + 1) xs))
  names_more start names after xs i x within is so_far then =
      then ∙ ap (λ l. with_terms l (terms x)) so_far
      ∙ sym (fold-append with_term start (flat_map terms (take i xs)) (terms x))
      ∙ ap (with_terms start)
      (flat_map_more terms [] (take i xs) x
      ∙ ap (flat_map terms) (ap (λ y. take i xs ++ y ∷ []) is ∙ sym (take_more xs i x within)))

  -- one more element: what is made
  pub made_more : (start names after : List Term) (xs : List X) (i : ℕ) (x : X) (y : Y) (made pushed : List Y) → i < length xs → x ≡ get_or xs i x →
      names ≡ with_terms start (flat_map terms (take i xs)) → after ≡ with_terms names (terms x) →
      made ≡ map (make names) (take i xs) → y ≡ make after x → pushed ≡ made ++ y ∷ [] →
      pushed ≡ map (make after) (take (i + 1) xs)
  made_more start names after xs i x y made pushed within is so_far then have one push =
      push ∙ ap (λ ys. ys ++ y ∷ []) (have ∙ sym (map_stays names after (take i xs) (numbered_stay start (flat_map terms (take i xs)) (terms x) names after so_far then)))
      ∙ ap (λ z. map (make after) (take i xs) ++ z ∷ []) one
      ∙ sym (map_push (make after) (take i xs) x)
      ∙ ap (map (make after)) (ap (λ z. take i xs ++ z ∷ []) is ∙ sym (take_more xs i x within))

-- there is room for each element's terms
pub room_more : {X : Type 0} (terms : X → List Term) (start names : List Term) (xs : List X) (i : ℕ) (x : X) (room : ℕ) → i < length xs → x ≡ get_or xs i x →
    names ≡ with_terms start (flat_map terms (take i xs)) → length start + length (flat_map terms xs) < room → length names + length (terms x) < room
room_more terms start names xs i x room within is so_far fits =
    let grown = (length-with_terms start (flat_map terms (take i xs))).1 in
    let taken = length-flat_map-take terms xs i x within in
    let same = ap (λ y. length (terms y)) is in
    let equal = ap length so_far in
    omega arith

-- a key stays what it is
pub shape_stays : (names later : List Term) (key : KeyShape) → AreKept names later (terms_of_key key) → shape_of later key ≡ shape_of names key
shape_stays names later key kept =
    let slots = map_stays slot_of slot_terms slot_stays names later key.slots (left_stay names later (flat_map slot_terms key.slots) (map (λ (e : KeyEdge). e.pred) key.edges) kept) in
    let edges = map_stays numbered_edge (λ (e : KeyEdge). e.pred ∷ []) edge_stays names later key.edges
    (subst (AreKept names later) (sym (predicates key.edges)) (right_stay names later (flat_map slot_terms key.slots) (map (λ (e : KeyEdge). e.pred) key.edges) kept)) in
    λ i. record { slots = slots i; edges = edges i }

-- a key file has few terms
one_each : (s : KeySlot) → length (slot_terms s) ≤ 1
one_each (Entity name type) = omega arith
one_each (Any name type) = omega arith
one_each (Value name) = omega arith
one_each (Folded name) = omega arith
one_each (Fixed constant) = omega arith

few_of_key : (key : KeyShape) → IsKey key → length (terms_of_key key) ≤ 48
few_of_key key valid =
    let facts = key_facts key valid in
    let few_slots = facts.few_slots in
    let few_edges = facts.few_edges in
    let all = length-append (flat_map slot_terms key.slots) (map (λ (e : KeyEdge). e.pred) key.edges) in
    let slots = length-flat_map slot_terms key.slots in
    let sum = sum_by-le (λ s. length (slot_terms s)) 1 key.slots (λ k d l. one_each (get_or key.slots k d)) in
    let edges = length-map key.edges (λ (e : KeyEdge). e.pred) in
    omega arith

pub few_terms : (keys : List KeyShape) → IsKeyFile keys → length (key_terms keys) ≤ 64 * 48
few_terms keys valid =
    let few = valid.few in
    let all = length-flat_map terms_of_key keys in
    let sum = sum_by-le (λ k. length (terms_of_key k)) 48 keys (λ k d l. few_of_key (get_or keys k d) (valid.valid k d l)) in
    omega arith
