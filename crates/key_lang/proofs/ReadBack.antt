-- Reading the canonical text of the keys that a file says gives these keys.
use Rattle.std.proofs.Common.{◌≡◌, ◌↔◌, ℕ, ◌+◌, ◌≤◌, Bool, true, false, not, cond, eqb, nat_lt, List, [], ◌∷◌, ◌++◌, map, length, codes, slice_range, position, Option, Some, None, Result, Ok, Err, refl, sym, ap, ap₂, ◌∙◌, subst, arith, append-nil}
use Rattle.std.proofs.lemmas.Bool.{and_parts, or_from, cond-true, cond-false, le-leb, le-ltb, ltb-true, ltb-false, eqb-true, false_from_ne_true, true≢false}
use Rattle.std.proofs.lemmas.List.Concat.{flat_map-append}
use Rattle.std.specs.List.{list_all, list_any, flat_map}
use Rattle.gk_base.specs.declared.term.Term.{Term}
use Rattle.term_table.specs.Numbering.{same_term}
use Rattle.term_text.specs.CanonicalText.{term_text}
use Rattle.term_text.specs.ReadBack.{CanBeSpelled}
use Rattle.nt_reader.specs.Lines.{Lined, cut_of, last_of, lines}
use Rattle.nt_reader.specs.File.{judged}
use Rattle.nt_reader.proofs.CallerLemmas.{cut_lined, lined_once}
use Rattle.key_file.specs.declared.slot.KeySlot.{KeySlot}
use Rattle.key_file.specs.declared.slot.KeySlot.TheVariants.{Entity, Any, Value, Folded, Fixed}
use Rattle.key_file.specs.declared.edge.KeyEdge.{KeyEdge}
use Rattle.key_file.specs.Compile.{slot_terms, terms_of_key, key_terms}
use Rattle.key_file.specs.KeyShape.{KeyShape}
use Rattle.key_file.specs.Key.{is_connected}
use Rattle.key_file.specs.KeyFile.{has_name}
use Rattle.key_lang.specs.declared.fault.KeyFault.{KeyFault}
use Rattle.key_lang.specs.declared.fault.KeyFault.TheVariants.{NameUsedTwice, VariableDeclaredTwice, TooManyNodes, TooManyTriplesInKey, KeyWithoutTriples, VariableNotUsed, NotConnected, FileTooLong}
use Rattle.key_lang.specs.declared.keyword.Keyword.{Keyword}
use Rattle.key_lang.specs.declared.keyword.Keyword.TheVariants as word
use Rattle.key_lang.specs.declared.open_key.End.{End}
use Rattle.key_lang.specs.declared.open_key.End.TheVariants.{Variable, Constant}
use Rattle.key_lang.specs.declared.open_key.OpenEdge.{OpenEdge}
use Rattle.key_lang.specs.declared.open_key.Object.{Object}
use Rattle.key_lang.specs.declared.open_key.Object.TheVariants.{Declared, Given}
use Rattle.key_lang.specs.Answers.{Is, goes_on}
use Rattle.key_file.specs.Name.{is_name}
use Rattle.key_lang.specs.Tokens.{Skipping, NameSays, VariableSays, IriSays, ConstantSays, Closes, is_over}
use Rattle.key_lang.specs.OpenKey.{OpenShape, KeyState, nodes, sigil_of, slot_name, is_named_so, begin, declare, same_end, same_triple, add, constant_or_new, link_constant, link, key_edge, whole, all_used, finish}
use Rattle.key_lang.specs.Statements.{KeySays, typed_slot, TypedSays, slot_of_value, ValueSays, DeclaredSays, KeySubjectSays, ObjectSays, TripleSays, Changes, KeyEndSays, OutsideSays, InsideSays, WordSays, LinkSays, keyword_of, StatementSays, KeyLineSays, no_text, text}
use Rattle.key_lang.specs.KeyText.{LinesSay, none, good, start, ended, KeysSay}
use Rattle.key_lang.specs.Fair.{leads, is_inside, IsFair, IsFairBeside, IsFairState}
use Rattle.key_lang.specs.CanonicalKeys.{key_text, keys_text}
use Rattle.key_lang.proofs.GoodLemmas.{Good, Keeps, good_if, keeps_is, keeps_then, keeps_where, keeps_skip, keeps_word, keeps_close}
use Rattle.key_lang.proofs.FairSteps.{line_keeps}
use Rattle.key_lang.proofs.LinesLemmas.{lines_append}
use Rattle.nt_reader.proofs.CallerLemmas.{AllOf, joined, joined_lined, with_end, IsText}
use Rattle.key_lang.proofs.LineForms.{IsIri, IsGiven}
use Rattle.key_lang.proofs.SpelledLemmas.{IsNamed, iri_keeps, constant_keeps, name_keeps, variable_keeps}
use Rattle.key_lang.proofs.ContentLemmas.{all_of_append, GoodSlot}
use Rattle.key_lang.proofs.ReplayLemmas.{Grows, done, variable, known, new, grows_append}
use Rattle.key_lang.proofs.KeyAgain.{IsSpelled, contents, contents_say, contents_text, contents_plain}

-- the canonical text of keys says them, their terms can be spelled, and they have names
pub record IsReplayed (keys : List KeyShape) : Type 0 where
  pub content : List (List ℕ)
  pub says : LinesSay start 1 content (Ok (record { keys = keys; current = None }))
  pub whole : keys_text keys ≡ joined content
  pub plain : AllOf IsText content
  pub spelled : AllOf CanBeSpelled (key_terms keys)
  pub named : AllOf (λ (key : KeyShape). is_name key.name ≡ true) keys

abbrev IsSpelledCurrent : Option OpenShape → Type 0
IsSpelledCurrent None = Unit {0}
IsSpelledCurrent (Some key) = IsSpelled key

-- what a file has as far as it was read can be written and read again
abbrev IsSpelledState : KeyState → Type 0
IsSpelledState state = IsReplayed state.keys × IsSpelledCurrent state.current

begin_spelled : (keys : List KeyShape) (name : List ℕ) (type : Term) → IsReplayed keys → is_name name ≡ true → IsIri type → Good IsSpelledState (begin keys name type)
begin_spelled keys name type r n i =
    let key : OpenShape = record { name = name; variables = Entity (codes "x") type ∷ []; constants = []; edges = [] } in
    let state : KeyState = record { keys = keys; current = Some key } in
    let spelled : IsSpelled key = record { name = n; type = type; others = []; variables = refl; iri = i; slots = tt; preds = tt; grows = done } in
    good_if IsSpelledState (has_name keys name) (Err NameUsedTwice) (Ok state) (λ _. tt) (λ _. (r, spelled))

abbrev GoodObject : Object → Type 0
GoodObject (Declared place) = Unit {0}
GoodObject (Given t) = IsGiven t

module _ (key : OpenShape) (s : IsSpelled key) where
  declare_spelled : (slot : KeySlot) → GoodSlot slot → Good IsSpelled (declare key slot)
  declare_spelled slot g =
      let grown : OpenShape = record key { variables = key.variables ++ slot ∷ [] } in
      let spelled : IsSpelled grown = record {
        name = s.name;
        type = s.type;
        others = s.others ++ slot ∷ [];
        variables = ap (λ (l : List KeySlot). l ++ slot ∷ []) s.variables;
        iri = s.iri;
        slots = all_of_append GoodSlot s.others (slot ∷ []) s.slots (g, tt);
        preds = s.preds;
        grows = s.grows;
      } in
      good_if IsSpelled (list_any (is_named_so (sigil_of slot) (slot_name slot)) key.variables) (Err VariableDeclaredTwice) (cond (nat_lt (nodes key) 16) (Ok grown) (Err TooManyNodes)) (λ _. tt) (λ _.
      good_if IsSpelled (nat_lt (nodes key) 16) (Ok grown) (Err TooManyNodes) (λ _. spelled) (λ _. tt))

  -- with these constants and one more triple
  with_edge : (cs : List Term) (e : OpenEdge) → IsIri e.pred → Grows key.constants (e ∷ []) cs → IsSpelled (record key { constants = cs; edges = key.edges ++ e ∷ [] })
  with_edge cs e i g = record {
    name = s.name;
    type = s.type;
    others = s.others;
    variables = s.variables;
    iri = s.iri;
    slots = s.slots;
    preds = all_of_append (λ (e : OpenEdge). IsIri e.pred) key.edges (e ∷ []) s.preds (i, tt);
    grows = grows_append [] key.constants cs key.edges (e ∷ []) s.grows g;
  }

  add_spelled : (e : OpenEdge) → IsIri e.pred → Grows key.constants (e ∷ []) key.constants → Good IsSpelled (add key e)
  add_spelled e i g =
      let grown : OpenShape = record key { edges = key.edges ++ e ∷ [] } in
      good_if IsSpelled (list_any (same_triple e) key.edges) (Ok key) (cond (nat_lt (length key.edges) 32) (Ok grown) (Err TooManyTriplesInKey)) (λ _. s) (λ _.
      good_if IsSpelled (nat_lt (length key.edges) 32) (Ok grown) (Err TooManyTriplesInKey) (λ _. with_edge key.constants e i g) (λ _. tt))

  module _ (fair : IsFair key) (from : ℕ) (pred : Term) (i : IsIri pred) where
    -- no triple leads to a constant that is not there
    ends_apart : (x : End) → leads key x ≡ true → same_end (Constant (length key.constants)) x ≡ false
    ends_apart (Variable a) p = refl
    ends_apart (Constant a) p = let less = ltb-true _ _ p in false_from_ne_true _ (λ h. absurd (omega (arith, eqb-true (length key.constants) a h, less)))

    unlinked : (es : List OpenEdge) → list_all (is_inside key) es ≡ true → list_any (same_triple (record { from = from; pred = pred; to = Constant (length key.constants) })) es ≡ false
    unlinked [] a = refl
    unlinked (e ∷ es) a =
        let parts = and_parts _ _ a in
        or_from _ _ (false_from_ne_true _ (λ h. true≢false (sym (and_parts _ _ h).1 ∙ ends_apart e.to (and_parts _ _ parts.0).1))) (unlinked es parts.1)

    by_place : (t : Term) → IsGiven t → (o : Option ℕ) → position (same_term t) key.constants ≡ o → Good IsSpelled (link_constant from pred (constant_or_new key t o))
    by_place t g (Some place) at = add_spelled (record { from = from; pred = pred; to = Constant place }) i (known _ place t refl g at done)
    by_place t g None at =
        let grown : OpenShape = record key { constants = key.constants ++ t ∷ [] } in
        by_room grown (nat_lt (nodes key) 16)
      where
        e : OpenEdge
        e = record { from = from; pred = pred; to = Constant (length key.constants) }

        by_room : (grown : OpenShape) (b : Bool) → Good IsSpelled (link_constant from pred (cond b (Ok (record key { constants = key.constants ++ t ∷ [] }, length key.constants)) (Err TooManyNodes)))
        by_room grown false = tt
        by_room grown true =
            let with : OpenShape = record key { constants = key.constants ++ t ∷ [] } in
            let more : OpenShape = record key { constants = key.constants ++ t ∷ []; edges = key.edges ++ (record { from = from; pred = pred; to = Constant (length key.constants) }) ∷ [] } in
            good_if IsSpelled (list_any (same_triple (record { from = from; pred = pred; to = Constant (length key.constants) })) key.edges) (Ok with) (cond (nat_lt (length key.edges) 32) (Ok more) (Err TooManyTriplesInKey))
            (λ h. absurd (true≢false (sym h ∙ unlinked key.edges fair.ends)))
            (λ _. good_if IsSpelled (nat_lt (length key.edges) 32) (Ok more) (Err TooManyTriplesInKey)
            (λ _. with_edge (key.constants ++ t ∷ []) (record { from = from; pred = pred; to = Constant (length key.constants) }) i (new _ t refl g at done)) (λ _. tt))

    link_spelled : (object : Object) → GoodObject object → Good IsSpelled (link key from pred object)
    link_spelled (Declared place) g = add_spelled (record { from = from; pred = pred; to = Variable place }) i (variable _ place refl done)
    link_spelled (Given t) g = by_place t g (position (same_term t) key.constants) refl

object_keeps : (key : OpenShape) (line : List ℕ) (at : ℕ) → Keeps (λ r. GoodObject r.0) (ObjectSays key line at)
object_keeps key line at =
    keeps_where (λ r. GoodObject r.0) _ _ _
    (λ _. keeps_then (λ r. GoodObject r.0) (DeclaredSays key line at) _ (λ read says. keeps_is (λ r. GoodObject r.0) _ tt))
    (λ _. keeps_then (λ r. GoodObject r.0) (ConstantSays line at) _ (λ read says. keeps_is (λ r. GoodObject r.0) _ (constant_keeps line at (Ok read) says)))

iri_here : (line : List ℕ) (at : ℕ) (read : Term × ℕ) → Skipping line at (IriSays line) (Ok read) → IsIri read.0
iri_here line at read says = keeps_skip (λ r. IsIri r.0) line at (IriSays line) (λ n. iri_keeps line n) (Ok read) says

module _ (key : OpenShape) (s : IsSpelled key) (line : List ℕ) (at : ℕ) where
  typed_spelled : (sigil : ℕ) → Keeps IsSpelled (TypedSays sigil key line at)
  typed_spelled sigil =
      keeps_then IsSpelled (Skipping line at (VariableSays sigil line)) _ (λ name n. keeps_then IsSpelled (Skipping line name.1 (IriSays line)) _ (λ type i. keeps_close IsSpelled line type.1 _
      (keeps_is IsSpelled _ (declare_spelled key s (typed_slot sigil name.0 type.0)
      (either (eqb sigil 0x3F) name.0 type.0 (keeps_skip IsNamed line at (VariableSays sigil line) (λ k. variable_keeps sigil line k) (Ok name) n) (iri_here line name.1 type i))))))
    where
      either : (b : Bool) (name : List ℕ) (type : Term) → is_name name ≡ true → IsIri type → GoodSlot (cond b (Entity name type) (Any name type))
      either true name type n i = (n, i)
      either false name type n i = (n, i)

  value_spelled : (folded : Bool) → Keeps IsSpelled (ValueSays folded key line at)
  value_spelled folded =
      keeps_then IsSpelled (Skipping line at (VariableSays 0x24 line)) _ (λ name n. keeps_close IsSpelled line name.1 _
      (keeps_is IsSpelled _ (declare_spelled key s (slot_of_value folded name.0) (either folded name.0 (keeps_skip IsNamed line at (VariableSays 0x24 line) (λ k. variable_keeps 0x24 line k) (Ok name) n)))))
    where
      either : (b : Bool) (name : List ℕ) → is_name name ≡ true → GoodSlot (slot_of_value b name)
      either true name n = n
      either false name n = n

  triple_spelled : IsFair key → Keeps IsSpelled (TripleSays key line at)
  triple_spelled fair =
      keeps_then IsSpelled (KeySubjectSays key line at) _ (λ from _. keeps_then IsSpelled (Skipping line from.1 (IriSays line)) _ (λ pred i.
      keeps_then IsSpelled (Skipping line pred.1 (ObjectSays key line)) _ (λ to object. keeps_close IsSpelled line to.1 _ (keeps_is IsSpelled _
      (link_spelled key s fair from.0 pred.0 (iri_here line from.1 pred i) to.0
      (keeps_skip (λ r. GoodObject r.0) line pred.1 (ObjectSays key line) (λ n. object_keeps key line n) (Ok to) object))))))

changes_spelled : (keys : List KeyShape) → IsReplayed keys → (Says : Result OpenShape KeyFault → Type 0) → Keeps IsSpelled Says → Keeps IsSpelledState (Changes keys Says)
changes_spelled keys r Says h = keeps_then IsSpelledState Says _ (λ changed says. keeps_is IsSpelledState _ (r, h (Ok changed) says))

key_spelled : (keys : List KeyShape) → IsReplayed keys → (line : List ℕ) (at : ℕ) → Keeps IsSpelledState (KeySays keys line at)
key_spelled keys r line at =
    keeps_then IsSpelledState (Skipping line at (NameSays line)) _ (λ name n. keeps_then IsSpelledState (Skipping line name.1 (IriSays line)) _ (λ type i. keeps_close IsSpelledState line type.1 _ (keeps_is IsSpelledState _
    (begin_spelled keys name.0 type.0 r (keeps_skip IsNamed line at (NameSays line) (λ k. name_keeps line k) (Ok name) n) (iri_here line name.1 type i)))))

-- a key that ended is the whole of the open one
abbrev Finishes : OpenShape → KeyShape → Type 0
Finishes key w = (finish key ≡ Ok w) × (w ≡ whole key)

finishes : (key : OpenShape) → Good (Finishes key) (finish key)
finishes key = both (finish key) refl is_whole
  where
    is_whole : Good (λ w. w ≡ whole key) (finish key)
    is_whole =
        good_if (λ w. w ≡ whole key) (eqb (length key.edges) 0) (Err KeyWithoutTriples) _ (λ _. tt) (λ _.
        good_if (λ w. w ≡ whole key) (not (all_used (whole key))) (Err VariableNotUsed) _ (λ _. tt) (λ _.
        good_if (λ w. w ≡ whole key) (is_connected (length (whole key).slots) (whole key).edges) (Ok (whole key)) (Err NotConnected) (λ _. refl) (λ _. tt)))

    both : (r : Result KeyShape KeyFault) → finish key ≡ r → Good (λ w. w ≡ whole key) r → Good (Finishes key) r
    both (Ok w) e i = (e, i)
    both (Err f) e i = tt

-- the terms of a key that can be written can be spelled
iri_spelled : (t : Term) → IsIri t → CanBeSpelled t
iri_spelled t i = record { piece = term_text t; spells = i.spells }

grown_spelled : (cs ds : List Term) (es : List OpenEdge) → Grows cs es ds → AllOf CanBeSpelled cs → AllOf CanBeSpelled ds
grown_spelled cs ds [] done a = a
grown_spelled cs ds (e ∷ es) (variable e' place to g) a = grown_spelled cs ds es g a
grown_spelled cs ds (e ∷ es) (known e' place t to given at g) a = grown_spelled cs ds es g a
grown_spelled cs ds (e ∷ es) (new e' t to given at g) a =
    grown_spelled (cs ++ t ∷ []) ds es g (all_of_append CanBeSpelled cs (t ∷ []) a (record { piece = term_text t; spells = given.spells }, tt))

slots_spelled : (slots : List KeySlot) → AllOf GoodSlot slots → AllOf CanBeSpelled (flat_map slot_terms slots)
slots_spelled [] a = tt
slots_spelled (Entity name type ∷ slots) a = (iri_spelled type a.0.1, slots_spelled slots a.1)
slots_spelled (Any name type ∷ slots) a = (iri_spelled type a.0.1, slots_spelled slots a.1)
slots_spelled (Value name ∷ slots) a = slots_spelled slots a.1
slots_spelled (Folded name ∷ slots) a = slots_spelled slots a.1
slots_spelled (Fixed constant ∷ slots) a = absurd a.0

constants_spelled : (cs : List Term) → AllOf CanBeSpelled cs → AllOf CanBeSpelled (flat_map slot_terms (map Fixed cs))
constants_spelled [] a = tt
constants_spelled (c ∷ cs) a = (a.0, constants_spelled cs a.1)

preds_spelled : (count : ℕ) (es : List OpenEdge) → AllOf (λ (e : OpenEdge). IsIri e.pred) es → AllOf CanBeSpelled (map (λ (e : KeyEdge). e.pred) (map (key_edge count) es))
preds_spelled count [] a = tt
preds_spelled count (e ∷ es) a = (iri_spelled e.pred a.0, preds_spelled count es a.1)

whole_spelled : (key : OpenShape) → IsSpelled key → AllOf CanBeSpelled (terms_of_key (whole key))
whole_spelled key s =
    let constants = map Fixed key.constants in
    let variables : AllOf CanBeSpelled (flat_map slot_terms key.variables) =
    subst (λ (vs : List KeySlot). AllOf CanBeSpelled (flat_map slot_terms vs)) (sym s.variables) (iri_spelled s.type s.iri, slots_spelled s.others s.slots) in
    let slots : AllOf CanBeSpelled (flat_map slot_terms (key.variables ++ constants)) =
    subst (AllOf CanBeSpelled) (sym (flat_map-append slot_terms key.variables constants))
    (all_of_append CanBeSpelled (flat_map slot_terms key.variables) (flat_map slot_terms constants) variables (constants_spelled key.constants (grown_spelled [] key.constants key.edges s.grows tt))) in
    all_of_append CanBeSpelled (flat_map slot_terms (key.variables ++ constants)) (map (λ (e : KeyEdge). e.pred) (map (key_edge (length key.variables)) key.edges)) slots
    (preds_spelled (length key.variables) key.edges s.preds)

-- one more key
replayed_more : (keys : List KeyShape) (key : OpenShape) → IsReplayed keys → IsFairBeside keys key → IsSpelled key → finish key ≡ Ok (whole key) → IsReplayed (keys ++ whole key ∷ [])
replayed_more keys key r beside s e = record {
  content = r.content ++ contents key s;
  says = lines_append r.content (contents key s) start (record { keys = keys; current = None }) 1 (1 + length r.content) _ refl r.says (contents_say keys key beside.fair s (1 + length r.content) beside.few beside.fresh e);
  whole = flat_map-append key_text keys (whole key ∷ []) ∙ ap₂ (λ (u v : List ℕ). u ++ v) r.whole (append-nil (key_text (whole key)) ∙ contents_text keys key beside.fair s)
      ∙ sym (flat_map-append with_end r.content (contents key s));
  plain = all_of_append IsText r.content (contents key s) r.plain (contents_plain keys key beside.fair s);
  spelled = subst (AllOf CanBeSpelled) (sym (flat_map-append terms_of_key keys (whole key ∷ [])))
      (all_of_append CanBeSpelled (key_terms keys) (flat_map terms_of_key (whole key ∷ [])) r.spelled
      (subst (AllOf CanBeSpelled) (sym (append-nil (terms_of_key (whole key)))) (whole_spelled key s)));
  named = all_of_append (λ (k : KeyShape). is_name k.name ≡ true) keys (whole key ∷ []) r.named (s.name, tt);
}

end_spelled : (keys : List KeyShape) (key : OpenShape) → IsReplayed keys → IsFairBeside keys key → IsSpelled key → (line : List ℕ) (at : ℕ) → Keeps IsSpelledState (KeyEndSays keys key line at)
end_spelled keys key r beside s line at =
    keeps_then IsSpelledState (Closes line at (Is (finish key))) _ (λ w says. keeps_is IsSpelledState _
    (let f = keeps_close (Finishes key) line at (Is (finish key)) (keeps_is (Finishes key) (finish key) (finishes key)) (Ok w) says in
    let replayed : IsReplayed (keys ++ w ∷ []) =
    subst (λ k. IsReplayed (keys ++ k ∷ [])) (sym f.1) (replayed_more keys key r beside s (f.0 ∙ ap (λ k. let x : Result KeyShape KeyFault = Ok k in x) f.1)) in
    (replayed, tt)))

outside_spelled : (keys : List KeyShape) → IsReplayed keys → (w : Keyword) (line : List ℕ) (at : ℕ) → Keeps IsSpelledState (OutsideSays keys w line at)
outside_spelled keys r word.Key line at = keeps_where IsSpelledState (nat_lt (length keys) 64) _ _ (λ _. key_spelled keys r line at) (λ _. keeps_is IsSpelledState _ tt)
outside_spelled keys r word.Entity line at = keeps_is IsSpelledState _ tt
outside_spelled keys r word.Any line at = keeps_is IsSpelledState _ tt
outside_spelled keys r word.Value line at = keeps_is IsSpelledState _ tt
outside_spelled keys r word.Folded line at = keeps_is IsSpelledState _ tt
outside_spelled keys r word.End line at = keeps_is IsSpelledState _ tt

inside_spelled : (keys : List KeyShape) (key : OpenShape) → IsReplayed keys → IsFairBeside keys key → IsSpelled key → (w : Keyword) (line : List ℕ) (at : ℕ) → Keeps IsSpelledState (InsideSays keys key w line at)
inside_spelled keys key r beside s word.Key line at = keeps_is IsSpelledState _ tt
inside_spelled keys key r beside s word.Entity line at = changes_spelled keys r _ (typed_spelled key s line at 0x3F)
inside_spelled keys key r beside s word.Any line at = changes_spelled keys r _ (typed_spelled key s line at 0x5F)
inside_spelled keys key r beside s word.Value line at = changes_spelled keys r _ (value_spelled key s line at false)
inside_spelled keys key r beside s word.Folded line at = changes_spelled keys r _ (value_spelled key s line at true)
inside_spelled keys key r beside s word.End line at = end_spelled keys key r beside s line at

words_spelled : (keys : List KeyShape) (current : Option OpenShape) → IsFairState (record { keys = keys; current = current }) → IsReplayed keys → IsSpelledCurrent current → (w : Option Keyword) (line : List ℕ) (at : ℕ)
    → Keeps IsSpelledState (WordSays (record { keys = keys; current = current }) w line at)
words_spelled keys current fair r s None line at = keeps_is IsSpelledState _ tt
words_spelled keys None fair r s (Some w) line at = outside_spelled keys r w line at
words_spelled keys (Some key) fair r s (Some w) line at = inside_spelled keys key r fair s w line at

link_says : (keys : List KeyShape) (current : Option OpenShape) → IsFairState (record { keys = keys; current = current }) → IsReplayed keys → IsSpelledCurrent current → (line : List ℕ) (at : ℕ)
    → Keeps IsSpelledState (LinkSays keys current line at)
link_says keys None fair r s line at = keeps_is IsSpelledState _ tt
link_says keys (Some key) fair r s line at = changes_spelled keys r _ (triple_spelled key s line at fair.fair)

line_spelled : (state : KeyState) → IsFairState state → IsSpelledState state → (line : List ℕ) → Keeps IsSpelledState (KeyLineSays state line)
line_spelled state fair s line answer (no_text n) = tt
line_spelled state fair s line answer (text u says) =
    keeps_skip IsSpelledState line 0 _ (λ at. keeps_where IsSpelledState (is_over line at) _ (StatementSays state line at) (λ _. keeps_is IsSpelledState _ s) (λ _.
    keeps_where IsSpelledState _ _ _ (λ _. link_says state.keys state.current fair s.0 s.1 line at)
    (λ _. keeps_word IsSpelledState line at _ (λ end run. words_spelled state.keys state.current fair s.0 s.1 (keyword_of (slice_range line at end)) line end)))) answer says

lines_spelled : (content : List (List ℕ)) (state next : KeyState) (n : ℕ) → IsFairState state → IsSpelledState state → LinesSay state n content (Ok next) → IsSpelledState next
lines_spelled [] state next n fair s none = s
lines_spelled (line ∷ content) state next n fair s (good {next = t} x y) =
    lines_spelled content t next (n + 1) (line_keeps state fair line (Ok t) x) (line_spelled state fair s line (Ok t) x) y

replayed_none : IsSpelledState start
replayed_none = (record { content = []; says = none; whole = refl; plain = tt; spelled = tt; named = tt }, tt)

-- the keys of a file
keys_replayed : (limit : ℕ) (bytes : List ℕ) → Keeps IsReplayed (KeysSay limit bytes)
keys_replayed limit bytes =
    keeps_then IsReplayed (LinesSay start 1 (judged limit bytes)) _ (λ state says. keeps_is IsReplayed _
    (let s = lines_spelled (judged limit bytes) start state 1 tt replayed_none says in
    good_if IsReplayed (nat_lt limit (length bytes)) (Err (record { line = _; fault = FileTooLong })) (ended state.keys state.current (length (lines bytes))) (λ _. tt)
    (λ _. at_end state.keys state.current (length (lines bytes)) s.0)))
  where
    at_end : (keys : List KeyShape) (current : Option OpenShape) (last : ℕ) → IsReplayed keys → Good IsReplayed (ended keys current last)
    at_end keys None last r = r
    at_end keys (Some key) last r = tt

-- the terms of the keys of a file can be spelled
pub keys_spelled : (limit : ℕ) (bytes : List ℕ) (keys : List KeyShape) → KeysSay limit bytes (Ok keys) → AllOf CanBeSpelled (key_terms keys)
keys_spelled limit bytes keys says = let r = keys_replayed limit bytes (Ok keys) says in r.spelled

-- and they have names
pub keys_named : (limit : ℕ) (bytes : List ℕ) (keys : List KeyShape) → KeysSay limit bytes (Ok keys) → AllOf (λ (key : KeyShape). is_name key.name ≡ true) keys
keys_named limit bytes keys says = let r = keys_replayed limit bytes (Ok keys) says in r.named

-- a file that says keys is within the limit
says_within : (limit : ℕ) (bytes : List ℕ) → Keeps {A = List KeyShape} (λ _. length bytes ≤ limit) (KeysSay limit bytes)
says_within limit bytes =
    let Fits : List KeyShape → Type 0 = λ _. length bytes ≤ limit in
    keeps_then Fits (LinesSay start 1 (judged limit bytes)) _ (λ state says. keeps_is Fits _
    (good_if Fits (nat_lt limit (length bytes)) (Err (record { line = _; fault = FileTooLong })) (ended state.keys state.current (length (lines bytes))) (λ _. tt)
    (λ test. at_end state.keys state.current (length (lines bytes)) (ltb-false limit (length bytes) test))))
  where
    at_end : (keys : List KeyShape) (current : Option OpenShape) (last : ℕ) → length bytes ≤ limit → Good (λ _. length bytes ≤ limit) (ended keys current last)
    at_end keys None last h = h
    at_end keys (Some key) last h = tt

-- their canonical text says them, under each limit that it fits
text_says : (first limit : ℕ) (bytes : List ℕ) (keys : List KeyShape) → KeysSay first bytes (Ok keys) → length (keys_text keys) ≤ limit → KeysSay limit (keys_text keys) (Ok keys)
text_says first limit bytes keys says within =
    let r = keys_replayed first bytes (Ok keys) says in
    let all = keys_text keys in
    let lined : Lined r.content [] all = subst (Lined r.content []) (sym r.whole) (joined_lined r.content r.plain) in
    let same = lined_once (cut_of all).ended r.content (cut_of all).rest [] all (cut_lined all) lined in
    let lines_are : lines all ≡ r.content = ap₂ (λ (u : List (List ℕ)) (v : List ℕ). u ++ last_of v) same.0 same.1 ∙ append-nil r.content in
    let judges : judged limit all ≡ r.content = cond-true _ _ _ (le-leb _ _ within) ∙ lines_are in
    goes_on {x = record { keys = keys; current = None }} (subst (λ (l : List (List ℕ)). LinesSay start 1 l (Ok (record { keys = keys; current = None }))) (sym judges) r.says)
    (sym (cond-false _ _ _ (le-ltb limit (length all) within)))

-- and under no other
pub keys_again : (first limit : ℕ) (bytes : List ℕ) (keys : List KeyShape) → KeysSay first bytes (Ok keys) →
    (length (keys_text keys) ≤ limit) ↔ KeysSay limit (keys_text keys) (Ok keys)
keys_again first limit bytes keys says = (text_says first limit bytes keys says, says_within limit (keys_text keys) (Ok keys))
