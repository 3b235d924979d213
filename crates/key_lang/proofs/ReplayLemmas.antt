-- Reading the canonical lines of a key gives the key again.
use Rattle.std.proofs.Common.{◌≡◌, ℕ, zero, suc, ◌+◌, ◌<◌, Bool, true, false, cond, nat_lt, List, [], ◌∷◌, ◌++◌, map, length, slice_get, position, Option, Some, None, Ok, Err, refl, sym, ap, ◌∙◌, subst, arith, append_assoc, append-nil, length-append}
use Rattle.std.proofs.lemmas.Bool.{and_parts, and_from, or_parts, or_from, cond-true, cond-false, ltb-true, lt-ltb, not-true, false_from_ne_true, true≢false, eqb-true, eq-eqb}
use Rattle.std.specs.List.{list_all, list_any}
use Rattle.gk_base.specs.declared.term.Term.{Term}
use Rattle.chase_laws.proofs.CallerLemmas.{slice_get-within}
use Rattle.term_table.specs.Numbering.{same_term}
use Rattle.term_table.proofs.CallerLemmas.{same_term-Decides, slice_get-append_left, slice_get-push}
use Rattle.term_text.specs.CanonicalText.{term_text}
use Rattle.key_file.specs.declared.slot.KeySlot.{KeySlot}
use Rattle.key_file.specs.declared.slot.KeySlot.TheVariants.{Entity, Any, Value, Folded, Fixed}
use Rattle.key_file.specs.KeyShape.{KeyShape}
use Rattle.key_file.specs.Key.{may_be_subject, all_differ}
use Rattle.key_lang.specs.declared.fault.KeyFault.TheVariants.{TooManyNodes, TooManyTriplesInKey}
use Rattle.key_lang.specs.declared.open_key.End.{End}
use Rattle.key_lang.specs.declared.open_key.End.TheVariants.{Variable, Constant}
use Rattle.key_lang.specs.declared.open_key.OpenEdge.{OpenEdge}
use Rattle.key_lang.specs.declared.open_key.Object.{Object}
use Rattle.key_lang.specs.declared.open_key.Object.TheVariants.{Declared, Given}
use Rattle.key_file.specs.Name.{is_name}
use Rattle.key_lang.specs.OpenKey.{OpenShape, KeyState, nodes, sigil_of, slot_name, same_end, same_triple, add, constant_or_new, link_constant, link, slot_of_end, key_edge, whole}
use Rattle.key_lang.specs.Statements.{KeyLineSays}
use Rattle.key_lang.specs.KeyText.{LinesSay, none, good}
use Rattle.key_lang.specs.Fair.{is_no_constant, leads, is_inside, IsFair}
use Rattle.key_lang.specs.CanonicalKeys.{node_at}
use Rattle.key_lang.proofs.WholeLemmas.{some_subject}
use Rattle.nt_reader.proofs.CallerLemmas.{AllOf, IsText}
use Rattle.key_lang.proofs.LineForms.{IsIri, IsGiven, NamesObject, given_named, variable_named, triple_says, triple_line}
use Rattle.key_lang.proofs.ContentLemmas.{GoodSlot, GoodNode, triple_content, text_node_at, text_triple}
use Rattle.key_lang.proofs.PlaceLemmas.{variable_place, node_variable, slot_sigil, subject_sigil, term_at, slice_get-map, slice_get-right}

-- from constants that are there, triples in order lead to variables, to constants that are there, or to a new one each
pub data Grows : List Term → List OpenEdge → List Term → Type 0 where
  done : {cs : List Term} → Grows cs [] cs
  variable : {cs ds : List Term} {es : List OpenEdge} (e : OpenEdge) (place : ℕ) → e.to ≡ Variable place → Grows cs es ds → Grows cs (e ∷ es) ds
  known : {cs ds : List Term} {es : List OpenEdge} (e : OpenEdge) (place : ℕ) (t : Term) → e.to ≡ Constant place → IsGiven t → position (same_term t) cs ≡ Some place
      → Grows cs es ds → Grows cs (e ∷ es) ds
  new : {cs ds : List Term} {es : List OpenEdge} (e : OpenEdge) (t : Term) → e.to ≡ Constant (length cs) → IsGiven t → position (same_term t) cs ≡ None
      → Grows (cs ++ t ∷ []) es ds → Grows cs (e ∷ es) ds

pub grows_append : (cs ds fs : List Term) (es more : List OpenEdge) → Grows cs es ds → Grows ds more fs → Grows cs (es ++ more) fs
grows_append cs ds fs [] more done h = h
grows_append cs ds fs (e ∷ es) more (variable e' place to g) h = variable e' place to (grows_append cs ds fs es more g h)
grows_append cs ds fs (e ∷ es) more (known e' place t to given at g) h = known e' place t to given at (grows_append cs ds fs es more g h)
grows_append cs ds fs (e ∷ es) more (new e' t to given at g) h = new e' t to given at (grows_append (cs ++ t ∷ []) ds fs es more g h)

-- the constants that are there stay
stay : (cs ds : List Term) (es : List OpenEdge) → Grows cs es ds → (more : List Term) × (ds ≡ cs ++ more)
stay cs ds [] done = ([], sym (append-nil cs))
stay cs ds (e ∷ es) (variable e' place to g) = stay cs ds es g
stay cs ds (e ∷ es) (known e' place t to given at g) = stay cs ds es g
stay cs ds (e ∷ es) (new e' t to given at g) =
    let s = stay (cs ++ t ∷ []) ds es g in
    (t ∷ s.0, s.1 ∙ append_assoc cs (t ∷ []) s.0)

stays_at : (cs ds : List Term) (es : List OpenEdge) → Grows cs es ds → (place : ℕ) (t : Term) → slice_get cs place ≡ Some t → slice_get ds place ≡ Some t
stays_at cs ds es g place t e = let s = stay cs ds es g in ap (λ (l : List Term). slice_get l place) s.1 ∙ slice_get-append_left cs s.0 place t e

pub middle : {X : Type 0} (p : X → Bool) (xs : List X) (e : X) (ys : List X) → list_any p (xs ++ e ∷ ys) ≡ false → p e ≡ false
middle p [] e ys n = (or_parts _ _ n).0
middle p (x ∷ xs) e ys n = middle p xs e ys (or_parts _ _ n).1

-- none before an element of a list without repeats is the same
before_it : {X : Type 0} (same : X → X → Bool) → ((x y : X) → same x y ≡ true → same y x ≡ true) → (xs : List X) (e : X) (ys : List X) → all_differ same (xs ++ e ∷ ys) ≡ true → list_any (same e) xs ≡ false
before_it same back [] e ys a = refl
before_it same back (x ∷ xs) e ys a =
    let parts = and_parts _ _ a in
    let apart : same x e ≡ false = middle (same x) xs e ys (not-true _ parts.0) in
    or_from (same e x) (list_any (same e) xs) (false_from_ne_true _ (λ h. true≢false (sym (back e x h) ∙ apart))) (before_it same back xs e ys parts.1)

back_end : (x y : End) → same_end x y ≡ true → same_end y x ≡ true
back_end (Variable a) (Variable b) h = eq-eqb b a (sym (eqb-true a b h))
back_end (Constant a) (Constant b) h = eq-eqb b a (sym (eqb-true a b h))
back_end (Variable a) (Constant b) h = absurd (true≢false (sym h))
back_end (Constant a) (Variable b) h = absurd (true≢false (sym h))

back_triple : (x y : OpenEdge) → same_triple x y ≡ true → same_triple y x ≡ true
back_triple x y h =
    let parts = and_parts _ _ h in
    let ends = and_parts _ _ parts.0 in
    and_from _ _ (and_from _ _ (eq-eqb y.from x.from (sym (eqb-true x.from y.from ends.0))) ((same_term-Decides y.pred x.pred).1 (sym ((same_term-Decides x.pred y.pred).0 ends.1)))) (back_end x.to y.to parts.1)

-- a key with these constants and these triples, else as another
abbrev pub part : OpenShape → List Term → List OpenEdge → OpenShape
part key cs es = record { name = key.name; variables = key.variables; constants = cs; edges = es }

add_more : (key : OpenShape) (cs : List Term) (es : List OpenEdge) (e : OpenEdge) → list_any (same_triple e) es ≡ false → length es < 32 → add (part key cs es) e ≡ Ok (part key cs (es ++ e ∷ []))
add_more key cs es e fresh few =
    cond-false (list_any (same_triple e) es) (Ok (part key cs es)) (cond (nat_lt (length es) 32) (Ok (part key cs (es ++ e ∷ []))) (Err TooManyTriplesInKey)) fresh
    ∙ cond-true (nat_lt (length es) 32) (Ok (part key cs (es ++ e ∷ []))) (Err TooManyTriplesInKey) (lt-ltb _ _ few)

edge_to : (e : OpenEdge) (to : End) → e.to ≡ to → (let x : OpenEdge = record { from = e.from; pred = e.pred; to = to } in x) ≡ e
edge_to e to h = ap (λ t. let x : OpenEdge = record { from = e.from; pred = e.pred; to = t } in x) (sym h)

some_same : {X : Type 0} (x y : X) → Path (Option X) (Some x) (Some y) → x ≡ y
some_same x y e = cc

none_some : {X : Type 0} (y : X) → Path (Option X) None (Some y) → ⊥
none_some y e = cc

good_at : (xs : List KeySlot) → AllOf GoodSlot xs → (i : ℕ) (s : KeySlot) → slice_get xs i ≡ Some s → GoodSlot s
good_at [] a i s e = absurd (none_some s e)
good_at (x ∷ xs) a zero s e = subst GoodSlot (some_same x s e) a.0
good_at (x ∷ xs) a (suc i) s e = good_at xs a.1 i s e

pub named : (s : KeySlot) → GoodSlot s → is_name (slot_name s) ≡ true
named (Entity a t) g = g.0
named (Any a t) g = g.0
named (Value a) g = g
named (Folded a) g = g
named (Fixed t) g = absurd g

node : (s : KeySlot) → GoodSlot s → GoodNode s
node (Entity a t) g = g.0
node (Any a t) g = g.0
node (Value a) g = g
node (Folded a) g = g
node (Fixed t) g = absurd g

pub plain : (s : KeySlot) → GoodSlot s → is_no_constant s ≡ true
plain (Entity a t) g = refl
plain (Any a t) g = refl
plain (Value a) g = refl
plain (Folded a) g = refl
plain (Fixed t) g = absurd g

module _ (keys : List KeyShape) (key : OpenShape) (fair : IsFair key) (slots : AllOf GoodSlot key.variables) where
  in_all : (place : ℕ) (s : KeySlot) → slice_get key.variables place ≡ Some s → slice_get (whole key).slots place ≡ Some s
  in_all place s e = slice_get-append_left key.variables (map Fixed key.constants) place s e

  constant_in_all : (place : ℕ) (t : Term) → slice_get key.constants place ≡ Some t → slice_get (whole key).slots (length key.variables + place) ≡ Some (Fixed t)
  constant_in_all place t e = slice_get-right key.variables (map Fixed key.constants) place ∙ slice_get-map Fixed key.constants place t e

  variable_text : (place : ℕ) (s : KeySlot) → slice_get key.variables place ≡ Some s → node_at (whole key).slots place ≡ sigil_of s ∷ slot_name s
  variable_text place s e = text_node_at (whole key).slots place s (in_all place s e) ∙ node_variable s (plain s (good_at key.variables slots place s e))

  to_variable : (cs : List Term) (es : List OpenEdge) (place : ℕ) (s : KeySlot) → slice_get key.variables place ≡ Some s → NamesObject (part key cs es) (Declared place) (node_at (whole key).slots place)
  to_variable cs es place s e =
      let g = good_at key.variables slots place s e in
      subst (NamesObject (part key cs es) (Declared place)) (sym (variable_text place s e))
      (variable_named (part key cs es) (sigil_of s) (slot_name s) place (slot_sigil s (plain s g)) (named s g) (variable_place key.variables fair.variables fair.variables_differ place s e))

  to_constant : (cs : List Term) (es : List OpenEdge) (place : ℕ) (t : Term) → IsGiven t → slice_get key.constants place ≡ Some t
      → NamesObject (part key cs es) (Given t) (node_at (whole key).slots (length key.variables + place))
  to_constant cs es place t g e =
      subst (NamesObject (part key cs es) (Given t)) (sym (text_node_at (whole key).slots (length key.variables + place) (Fixed t) (constant_in_all place t e))) (given_named (part key cs es) t g)

  abbrev pub line_of : OpenEdge → List ℕ
  line_of e = triple_content (whole key).slots (key_edge (length key.variables) e)

  step : (cs cs' : List Term) (es : List OpenEdge) (e : OpenEdge) (object : Object) (o : KeySlot) (to : ℕ) → may_be_subject (slice_get key.variables e.from) ≡ true → IsIri e.pred
      → slot_of_end (length key.variables) e.to ≡ to → slice_get (whole key).slots to ≡ Some o → GoodNode o → NamesObject (part key cs es) object (node_at (whole key).slots to)
      → link (part key cs es) e.from e.pred object ≡ Ok (part key cs' (es ++ e ∷ []))
      → KeyLineSays (record { keys = keys; current = Some (part key cs es) }) (line_of e) (Ok (record { keys = keys; current = Some (part key cs' (es ++ e ∷ [])) }))
  step cs cs' es e object o to subject i is o_at go named_object linked =
      let all = (whole key).slots in
      let inside = some_subject key.variables e.from subject in
      let s = slice_get-within key.variables e.from inside in
      let g = good_at key.variables slots e.from s.0 s.1 in
      let begins = subject_sigil s.0 (ap may_be_subject (sym s.1) ∙ subject) in
      let edge = key_edge (length key.variables) e in
      let o_here : slice_get all edge.to ≡ Some o = ap (slice_get all) is ∙ o_at in
      let objects : NamesObject (part key cs es) object (node_at all edge.to) = subst (λ n. NamesObject (part key cs es) object (node_at all n)) (sym is) named_object in
      let rest = 0x20 ∷ (term_text e.pred ++ 0x20 ∷ node_at all edge.to) in
      let line_is : line_of e ≡ (sigil_of s.0 ∷ slot_name s.0) ++ rest = ap (λ (l : List ℕ). l ++ rest) (variable_text e.from s.0 s.1) in
      triple_line keys (part key cs es) (part key cs' (es ++ e ∷ [])) (line_of e) (sigil_of s.0) (slot_name s.0 ++ rest)
      (text_triple all edge s.0 o (in_all e.from s.0 s.1) o_here (node s.0 g) go i) line_is begins
      (triple_says (part key cs es) (part key cs' (es ++ e ∷ [])) (line_of e) (sigil_of s.0) (slot_name s.0) e.from e.pred object (node_at all edge.to) begins (named s.0 g)
      (variable_place key.variables fair.variables fair.variables_differ e.from s.0 s.1) i objects line_is linked)

  more : (before : List OpenEdge) (e : OpenEdge) (es : List OpenEdge) (cs : List Term) → key.edges ≡ before ++ e ∷ es → add (part key cs before) e ≡ Ok (part key cs (before ++ e ∷ []))
  more before e es cs split =
      add_more key cs before e (before_it same_triple back_triple before e es (subst (λ (l : List OpenEdge). all_differ same_triple l ≡ true) split fair.edges_differ))
      (omega (arith, fair.few_edges, ap length split, length-append before (e ∷ es)))

  abbrev pub at_triples : List Term → List OpenEdge → KeyState
  at_triples cs es = record { keys = keys; current = Some (part key cs es) }

  -- the lines of its triples
  pub replay : (before es : List OpenEdge) (cs ds : List Term) (n : ℕ) → key.edges ≡ before ++ es → list_all (is_inside key) es ≡ true → AllOf (λ (e : OpenEdge). IsIri e.pred) es
      → Grows cs es ds → ds ≡ key.constants → LinesSay (at_triples cs before) n (map line_of es) (Ok (at_triples key.constants key.edges))
  replay before [] cs ds n split inside iris done same =
      subst (λ (l : List Term). LinesSay (at_triples cs before) n [] (Ok (at_triples l key.edges))) same
      (subst (λ (l : List OpenEdge). LinesSay (at_triples cs before) n [] (Ok (at_triples cs l))) (sym (split ∙ append-nil before)) none)
  replay before (e ∷ es) cs ds n split inside iris (variable e' place to g) same =
      let parts = and_parts _ _ inside in
      let this = and_parts _ _ parts.0 in
      let below = ltb-true place (length key.variables) (ap (leads key) (sym to) ∙ this.1) in
      let s = slice_get-within key.variables place below in
      good (step cs cs before e (Declared place) s.0 place this.0 iris.0 (ap (slot_of_end (length key.variables)) to) (in_all place s.0 s.1) (node s.0 (good_at key.variables slots place s.0 s.1)) (to_variable cs before place s.0 s.1)
      (ap (add (part key cs before)) (edge_to e (Variable place) to) ∙ more before e es cs split))
      (replay (before ++ e ∷ []) es cs ds (n + 1) (split ∙ sym (append_assoc before (e ∷ []) es)) parts.1 iris.1 g same)
  replay before (e ∷ es) cs ds n split inside iris (known e' place t to given at g) same =
      let parts = and_parts _ _ inside in
      let this = and_parts _ _ parts.0 in
      let here : slice_get key.constants place ≡ Some t = ap (λ (l : List Term). slice_get l place) (sym same) ∙ stays_at cs ds es g place t (term_at cs t place at) in
      good (step cs cs before e (Given t) (Fixed t) (length key.variables + place) this.0 iris.0 (ap (slot_of_end (length key.variables)) to) (constant_in_all place t here) given (to_constant cs before place t given here)
      (ap (λ o. link_constant e.from e.pred (constant_or_new (part key cs before) t o)) at ∙ ap (add (part key cs before)) (edge_to e (Constant place) to) ∙ more before e es cs split))
      (replay (before ++ e ∷ []) es cs ds (n + 1) (split ∙ sym (append_assoc before (e ∷ []) es)) parts.1 iris.1 g same)
  replay before (e ∷ es) cs ds n split inside iris (new e' t to given at g) same =
      let parts = and_parts _ _ inside in
      let this = and_parts _ _ parts.0 in
      let grown = cs ++ t ∷ [] in
      let here : slice_get key.constants (length cs) ≡ Some t = ap (λ (l : List Term). slice_get l (length cs)) (sym same) ∙ stays_at grown ds es g (length cs) t (slice_get-push cs t) in
      let kept = stay grown ds es g in
      let room : nodes (part key cs before) < 16 = omega (arith, fair.few_nodes, ap length same, ap length kept.1, length-append grown kept.0, length-append cs (t ∷ [])) in
      good (step cs grown before e (Given t) (Fixed t) (length key.variables + length cs) this.0 iris.0 (ap (slot_of_end (length key.variables)) to) (constant_in_all (length cs) t here) given (to_constant cs before (length cs) t given here)
      (ap (λ o. link_constant e.from e.pred (constant_or_new (part key cs before) t o)) at
      ∙ ap (link_constant e.from e.pred) (cond-true (nat_lt (nodes (part key cs before)) 16) (Ok (part key grown before, length cs)) (Err TooManyNodes) (lt-ltb _ _ room))
      ∙ ap (add (part key grown before)) (edge_to e (Constant (length cs)) to) ∙ more before e es grown split))
      (replay (before ++ e ∷ []) es grown ds (n + 1) (split ∙ sym (append_assoc before (e ∷ []) es)) parts.1 iris.1 g same)

  line_text : (e : OpenEdge) (o : KeySlot) (to : ℕ) → may_be_subject (slice_get key.variables e.from) ≡ true → IsIri e.pred → slot_of_end (length key.variables) e.to ≡ to
      → slice_get (whole key).slots to ≡ Some o → GoodNode o → IsText (line_of e)
  line_text e o to subject i is o_at go =
      let s = slice_get-within key.variables e.from (some_subject key.variables e.from subject) in
      text_triple (whole key).slots (key_edge (length key.variables) e) s.0 o (in_all e.from s.0 s.1) (ap (slice_get (whole key).slots) is ∙ o_at) (node s.0 (good_at key.variables slots e.from s.0 s.1)) go i

  -- the lines of its triples are texts
  pub triples_plain : (es : List OpenEdge) (cs ds : List Term) → list_all (is_inside key) es ≡ true → AllOf (λ (e : OpenEdge). IsIri e.pred) es → Grows cs es ds → ds ≡ key.constants
      → AllOf IsText (map line_of es)
  triples_plain [] cs ds inside iris g same = tt
  triples_plain (e ∷ es) cs ds inside iris (variable e' place to g) same =
      let parts = and_parts _ _ inside in
      let this = and_parts _ _ parts.0 in
      let s = slice_get-within key.variables place (ltb-true place (length key.variables) (ap (leads key) (sym to) ∙ this.1)) in
      (line_text e s.0 place this.0 iris.0 (ap (slot_of_end (length key.variables)) to) (in_all place s.0 s.1) (node s.0 (good_at key.variables slots place s.0 s.1)), triples_plain es cs ds parts.1 iris.1 g same)
  triples_plain (e ∷ es) cs ds inside iris (known e' place t to given at g) same =
      let parts = and_parts _ _ inside in
      let here : slice_get key.constants place ≡ Some t = ap (λ (l : List Term). slice_get l place) (sym same) ∙ stays_at cs ds es g place t (term_at cs t place at) in
      (line_text e (Fixed t) (length key.variables + place) (and_parts _ _ parts.0).0 iris.0 (ap (slot_of_end (length key.variables)) to) (constant_in_all place t here) given, triples_plain es cs ds parts.1 iris.1 g same)
  triples_plain (e ∷ es) cs ds inside iris (new e' t to given at g) same =
      let parts = and_parts _ _ inside in
      let grown = cs ++ t ∷ [] in
      let here : slice_get key.constants (length cs) ≡ Some t = ap (λ (l : List Term). slice_get l (length cs)) (sym same) ∙ stays_at grown ds es g (length cs) t (slice_get-push cs t) in (
        line_text e (Fixed t) (length key.variables + length cs) (and_parts _ _ parts.0).0 iris.0 (ap (slot_of_end (length key.variables)) to) (constant_in_all (length cs) t here) given,
        triples_plain es grown ds parts.1 iris.1 g same,
      )
