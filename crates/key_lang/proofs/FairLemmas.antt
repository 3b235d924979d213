-- What an open key has is kept by each good line.
use Rattle.std.proofs.Common.{◌≡◌, ℕ, ◌<◌, ◌≤◌, Bool, true, false, nat_lt, cond, List, [], ◌∷◌, ◌++◌, length, codes, slice_get, position, Option, Some, None, Ok, Err, refl, sym, ap, ◌∙◌, subst, inl, inr, arith, length-append}
use Rattle.std.proofs.lemmas.Bool.{and_parts, and_from, cases_Bool, cond-true, ltb-true, ltb-false, lt-ltb, eqb-true, eq-eqb, true≢false, false_from_ne_true}
use Rattle.std.proofs.lemmas.List.Quantifiers.{position-Some}
use Rattle.std.proofs.lemmas.List.Folds.{list_all-append, list_any_none}
use Rattle.std.proofs.lemmas.List.Sums.{fails_before_first}
use Rattle.std.specs.List.{list_all, list_any, position_or_len}
use Rattle.gk_base.specs.declared.term.Term.{Term}
use Rattle.term_table.specs.Numbering.{same_term}
use Rattle.term_table.proofs.CallerLemmas.{same_term-Decides, slice_get-append}
use Rattle.key_file.specs.declared.slot.KeySlot.{KeySlot}
use Rattle.key_file.specs.declared.slot.KeySlot.TheVariants.{Entity, Any, Value, Folded, Fixed}
use Rattle.key_file.specs.KeyShape.{KeyShape}
use Rattle.key_file.specs.Key.{is_entity_variable, may_be_subject, same_slot}
use Rattle.key_file.specs.KeyFile.{has_name}
use Rattle.key_lang.specs.declared.fault.KeyFault.TheVariants.{NameUsedTwice, VariableDeclaredTwice, TooManyNodes, TooManyTriplesInKey}
use Rattle.key_lang.specs.declared.open_key.End.{End}
use Rattle.key_lang.specs.declared.open_key.End.TheVariants.{Variable, Constant}
use Rattle.key_lang.specs.declared.open_key.OpenEdge.{OpenEdge}
use Rattle.key_lang.specs.declared.open_key.Object.{Object}
use Rattle.key_lang.specs.declared.open_key.Object.TheVariants.{Declared, Given}
use Rattle.key_lang.specs.OpenKey.{OpenShape, KeyState, nodes, sigil_of, slot_name, is_named_so, begin, declare, same_end, same_triple, add, constant_or_new, placed_constant, link}
use Rattle.key_lang.specs.Fair.{is_no_constant, leads, is_inside, IsFair, IsFairState}
use Rattle.key_lang.proofs.GoodLemmas.{Good, good_if, good_link_constant}
use Rattle.key_lang.proofs.DifferLemmas.{differ_push}
use Rattle.key_lang.proofs.WholeLemmas.{some_subject, some_first}

all_more : {X : Type 0} (p q : X → Bool) (xs : List X) → ((x : X) → p x ≡ true → q x ≡ true) → list_all p xs ≡ true → list_all q xs ≡ true
all_more p q [] h a = refl
all_more p q (x ∷ xs) h a = let parts = and_parts _ _ a in and_from _ _ (h x parts.0) (all_more p q xs h parts.1)

all_push : {X : Type 0} (p : X → Bool) (xs : List X) (y : X) → list_all p xs ≡ true → p y ≡ true → list_all p (xs ++ y ∷ []) ≡ true
all_push p xs y a b = list_all-append p xs (y ∷ []) ∙ and_from _ _ a (and_from _ _ b refl)

none_passes : {X : Type 0} (p : X → Bool) (xs : List X) → position p xs ≡ None → list_any p xs ≡ false
none_passes p xs e = elim (cases_Bool (nat_lt (position_or_len p xs) (length xs))) [
  | inl found ↦ absurd (some_none (position_or_len p xs) (sym (cond-true _ _ _ found) ∙ e))
  | inr past ↦
      let all : length xs ≤ position_or_len p xs = ltb-false _ _ past in
      list_any_none p xs (λ k d below. fails_before_first p xs k d (omega (arith, below, all)))
]
  where
    some_none : (n : ℕ) → Path (Option ℕ) (Some n) None → ⊥
    some_none n h = cc

-- an open key of this name
abbrev pub IsFairAs : List ℕ → OpenShape → Type 0
IsFairAs name key = IsFair key × (key.name ≡ name)

-- slots that are the same have one sigil and one name
same_named : (x v : KeySlot) → same_slot x v ≡ true → is_named_so (sigil_of v) (slot_name v) x ≡ true
same_named (Entity a t) (Entity b u) e = e
same_named (Any a t) (Any b u) e = e
same_named (Value a) (Value b) e = e
same_named (Value a) (Folded b) e = e
same_named (Folded a) (Value b) e = e
same_named (Folded a) (Folded b) e = e
same_named (Fixed c) (Fixed d) e = refl
same_named x v e = absurd (true≢false (sym e))

named_apart : (v x : KeySlot) → is_named_so (sigil_of v) (slot_name v) x ≡ false → same_slot x v ≡ false
named_apart v x n = false_from_ne_true _ (λ e. true≢false (sym (same_named x v e) ∙ n))

module _ (key : OpenShape) (fair : IsFair key) where
  inside_variable : (slot : KeySlot) (e : OpenEdge) → is_inside key e ≡ true → is_inside (record key { variables = key.variables ++ slot ∷ [] }) e ≡ true
  inside_variable slot e p =
      let parts = and_parts _ _ p in
      and_from _ _ (ap may_be_subject (slice_get-append key.variables (slot ∷ []) e.from (some_subject key.variables e.from parts.0)) ∙ parts.0) (leads_more e.to parts.1)
    where
      leads_more : (x : End) → leads key x ≡ true → leads (record key { variables = key.variables ++ slot ∷ [] }) x ≡ true
      leads_more (Variable a) q = let less = ltb-true _ _ q in lt-ltb _ _ (omega (arith, length-append key.variables (slot ∷ [])))
      leads_more (Constant a) q = q

  inside_constant : (term : Term) (e : OpenEdge) → is_inside key e ≡ true → is_inside (record key { constants = key.constants ++ term ∷ [] }) e ≡ true
  inside_constant term e p = let parts = and_parts _ _ p in and_from _ _ parts.0 (leads_more e.to parts.1)
    where
      leads_more : (x : End) → leads key x ≡ true → leads (record key { constants = key.constants ++ term ∷ [] }) x ≡ true
      leads_more (Variable a) q = q
      leads_more (Constant a) q = let less = ltb-true _ _ q in lt-ltb _ _ (omega (arith, length-append key.constants (term ∷ [])))

  pub declare_fair : (slot : KeySlot) → is_no_constant slot ≡ true → Good (IsFairAs key.name) (declare key slot)
  declare_fair slot v =
      let grown : OpenShape = record key { variables = key.variables ++ slot ∷ [] } in
      good_if (IsFairAs key.name) (list_any (is_named_so (sigil_of slot) (slot_name slot)) key.variables) (Err VariableDeclaredTwice) (cond (nat_lt (nodes key) 16) (Ok grown) (Err TooManyNodes)) (λ _. tt) (λ new.
      good_if (IsFairAs key.name) (nat_lt (nodes key) 16) (Ok grown) (Err TooManyNodes) (λ room. (
        record {
          first = ap is_entity_variable (slice_get-append key.variables (slot ∷ []) 0 (some_first key.variables fair.first)) ∙ fair.first;
          few_nodes = let less = ltb-true _ _ room in omega (arith, length-append key.variables (slot ∷ []));
          variables = all_push is_no_constant key.variables slot fair.variables v;
          variables_differ = differ_push same_slot (is_named_so (sigil_of slot) (slot_name slot)) key.variables slot (named_apart slot) fair.variables_differ new;
          constants_differ = fair.constants_differ;
          few_edges = fair.few_edges;
          edges_differ = fair.edges_differ;
          ends = all_more (is_inside key) (is_inside (record key { variables = key.variables ++ slot ∷ [] })) key.edges (inside_variable slot) fair.ends;
        },
        refl,
      )) (λ _. tt))

  pub add_fair : (edge : OpenEdge) → is_inside key edge ≡ true → Good (IsFairAs key.name) (add key edge)
  add_fair edge inside =
      let grown : OpenShape = record key { edges = key.edges ++ edge ∷ [] } in
      good_if (IsFairAs key.name) (list_any (same_triple edge) key.edges) (Ok key) (cond (nat_lt (length key.edges) 32) (Ok grown) (Err TooManyTriplesInKey)) (λ _. (fair, refl)) (λ new.
      good_if (IsFairAs key.name) (nat_lt (length key.edges) 32) (Ok grown) (Err TooManyTriplesInKey) (λ room. (
        record {
          first = fair.first;
          few_nodes = fair.few_nodes;
          variables = fair.variables;
          variables_differ = fair.variables_differ;
          constants_differ = fair.constants_differ;
          few_edges = let less = ltb-true _ _ room in omega (arith, length-append key.edges (edge ∷ []));
          edges_differ = differ_push same_triple (same_triple edge) key.edges edge (same_back edge) fair.edges_differ new;
          ends = all_push (is_inside key) key.edges edge fair.ends inside;
        },
        refl,
      )) (λ _. tt))
    where
      same_back : (edge e : OpenEdge) → same_triple edge e ≡ false → same_triple e edge ≡ false
      same_back edge e n =
          false_from_ne_true _ (λ h.
          let parts = and_parts _ _ h in
          let ends = and_parts _ _ parts.0 in
          true≢false (sym (and_from _ _ (and_from _ _ (eq-eqb _ _ (sym (eqb-true _ _ ends.0))) ((same_term-Decides edge.pred e.pred).1 (sym ((same_term-Decides e.pred edge.pred).0 ends.1))))
          (end_back e.to edge.to parts.1)) ∙ n))
        where
          end_back : (x y : End) → same_end x y ≡ true → same_end y x ≡ true
          end_back (Variable a) (Variable b) h = eq-eqb b a (sym (eqb-true a b h))
          end_back (Constant a) (Constant b) h = eq-eqb b a (sym (eqb-true a b h))
          end_back (Variable a) (Constant b) h = absurd (true≢false (sym h))
          end_back (Constant a) (Variable b) h = absurd (true≢false (sym h))

  -- with a constant, which stands at this place
  pub placed_fair : (term : Term) → Good (λ r. IsFairAs key.name r.0 × (r.1 < length r.0.constants) × (r.0.variables ≡ key.variables)) (placed_constant key term)
  placed_fair term = by_place (position (same_term term) key.constants) refl
    where
      by_place : (o : Option ℕ) → position (same_term term) key.constants ≡ o
          → Good (λ r. IsFairAs key.name r.0 × (r.1 < length r.0.constants) × (r.0.variables ≡ key.variables)) (constant_or_new key term o)
      by_place (Some place) e = ((fair, refl), (position-Some (same_term term) key.constants place term e).0, refl)
      by_place None e =
          let grown : OpenShape = record key { constants = key.constants ++ term ∷ [] } in
          good_if (λ r. IsFairAs key.name r.0 × (r.1 < length r.0.constants) × (r.0.variables ≡ key.variables)) (nat_lt (nodes key) 16) (Ok (grown, length key.constants)) (Err TooManyNodes) (λ room. (
            (
              record {
                first = fair.first;
                few_nodes = let less = ltb-true _ _ room in omega (arith, length-append key.constants (term ∷ []));
                variables = fair.variables;
                variables_differ = fair.variables_differ;
                constants_differ = differ_push same_term (same_term term) key.constants term same_back fair.constants_differ (none_passes (same_term term) key.constants e);
                few_edges = fair.few_edges;
                edges_differ = fair.edges_differ;
                ends = all_more (is_inside key) (is_inside (record key { constants = key.constants ++ term ∷ [] })) key.edges (inside_constant term) fair.ends;
              },
              refl,
            ),
            omega (arith, length-append key.constants (term ∷ [])),
            refl,
          )) (λ _. tt)
        where
          same_back : (x : Term) → same_term term x ≡ false → same_term x term ≡ false
          same_back x n = false_from_ne_true _ (λ e. true≢false (sym ((same_term-Decides term x).1 (sym ((same_term-Decides x term).0 e))) ∙ n))

-- an object that a line names is there
abbrev pub IsThere : OpenShape → Object → Type 0
IsThere key (Declared place) = place < length key.variables
IsThere key (Given term) = Unit {0}

pub link_fair : (key : OpenShape) → IsFair key → (from : ℕ) (pred : Term) (object : Object) → may_be_subject (slice_get key.variables from) ≡ true → IsThere key object
    → Good (IsFairAs key.name) (link key from pred object)
link_fair key fair from pred (Declared place) subject there = add_fair key fair (record { from = from; pred = pred; to = Variable place }) (and_from _ _ subject (lt-ltb _ _ there))
link_fair key fair from pred (Given term) subject there =
    good_link_constant (placed_constant key term) from pred (IsFairAs key.name) {Q = IsFairAs key.name} {variables = key.variables} (placed_fair key fair term) λ k place f below same.
    add_to k place f.0 f.1 below (ap may_be_subject (ap (λ (l : List KeySlot). slice_get l from) same) ∙ subject)
  where
    add_to : (k : OpenShape) (place : ℕ) → IsFair k → k.name ≡ key.name → place < length k.constants → may_be_subject (slice_get k.variables from) ≡ true
        → Good (IsFairAs key.name) (add k (record { from = from; pred = pred; to = Constant place }))
    add_to k place f name below s = subst (λ n. Good (IsFairAs n) (add k (record { from = from; pred = pred; to = Constant place }))) name (add_fair k f (record { from = from; pred = pred; to = Constant place }) (and_from _ _ s (lt-ltb _ _ below)))

pub begin_fair : (keys : List KeyShape) (name : List ℕ) (type : Term) → length keys < 64 → Good IsFairState (begin keys name type)
begin_fair keys name type few =
    let key : OpenShape = record { name = name; variables = Entity (codes "x") type ∷ []; constants = []; edges = [] } in
    let state : KeyState = record { keys = keys; current = Some key } in
    good_if IsFairState (has_name keys name) (Err NameUsedTwice) (Ok state) (λ _. tt) (λ fresh. record {
      fair = record {
        first = refl;
        few_nodes = omega arith;
        variables = refl;
        variables_differ = refl;
        constants_differ = refl;
        few_edges = omega arith;
        edges_differ = refl;
        ends = refl;
      };
      few = few;
      fresh = fresh;
    })
