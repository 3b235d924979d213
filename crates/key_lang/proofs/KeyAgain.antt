-- Reading the canonical text of a key gives the key again.
use Rattle.std.proofs.Common.{◌≡◌, ℕ, ◌+◌, ◌<◌, ◌≤◌, true, false, cond, nat_lt, List, [], ◌∷◌, ◌++◌, map, length, codes, drop, slice_get, Some, None, Ok, Err, refl, sym, ap, ap₂, ◌∙◌, subst, arith, append_assoc, append-nil, length-append}
use Rattle.std.proofs.lemmas.Bool.{and_parts, and_from, or_from, cond-true, cond-false, lt-ltb, not-true, false_from_ne_true, true≢false}
use Rattle.std.proofs.lemmas.List.Folds.{list_all-append}
use Rattle.std.proofs.lemmas.List.Concat.{flat_map-append}
use Rattle.std.specs.List.{list_all, list_any, flat_map}
use Rattle.gk_base.specs.declared.term.Term.{Term}
use Rattle.term_text.specs.CanonicalText.{term_text}
use Rattle.key_file.specs.declared.slot.KeySlot.{KeySlot}
use Rattle.key_file.specs.declared.slot.KeySlot.TheVariants.{Entity, Any, Value, Folded, Fixed}
use Rattle.key_file.specs.KeyShape.{KeyShape}
use Rattle.key_file.specs.Key.{same_slot, all_differ}
use Rattle.key_file.specs.KeyFile.{has_name}
use Rattle.key_lang.specs.declared.fault.KeyFault.TheVariants.{NameUsedTwice, VariableDeclaredTwice, TooManyNodes}
use Rattle.key_lang.specs.declared.keyword.Keyword.TheVariants as word
use Rattle.key_lang.specs.declared.open_key.OpenEdge.{OpenEdge}
use Rattle.key_lang.specs.Answers.{Is, goes_on, yes}
use Rattle.key_file.specs.Name.{is_name}
use Rattle.key_lang.specs.OpenKey.{OpenShape, KeyState, nodes, sigil_of, slot_name, is_named_so, declare, key_edge, whole, finish}
use Rattle.key_lang.specs.Statements.{KeyLineSays}
use Rattle.key_lang.specs.KeyText.{LinesSay, none, good}
use Rattle.key_lang.specs.Fair.{is_no_constant, IsFair}
use Rattle.key_lang.specs.CanonicalKeys.{declaration_text, triple_line, first_line, key_text}
use Rattle.key_lang.proofs.LinesLemmas.{lines_append}
use Rattle.nt_reader.proofs.CallerLemmas.{AllOf, joined, with_end, IsText}
use Rattle.key_lang.proofs.CursorLemmas.{at_first, at_more, says_close}
use Rattle.key_lang.proofs.LineForms.{IsIri, key_says, typed_says, value_says, word_line}
use Rattle.key_lang.proofs.ContentLemmas.{all_of_append, joined_map, all_map, GoodSlot, first_content, declaration_content, triple_content, first_ended, declaration_ended, triple_ended, text_first, text_declaration, text_end}
use Rattle.key_lang.proofs.PlaceLemmas.{named_same}
use Rattle.key_lang.proofs.ReplayLemmas.{Grows, plain, middle, replay, triples_plain}

-- an open key whose names and terms can be written, and whose constants came in order of their first triples
pub record IsSpelled (key : OpenShape) : Type 0 where
  pub name : is_name key.name ≡ true
  pub type : Term
  pub others : List KeySlot
  pub variables : key.variables ≡ Entity (codes "x") type ∷ others
  pub iri : IsIri type
  pub slots : AllOf GoodSlot others
  pub preds : AllOf (λ (e : OpenEdge). IsIri e.pred) key.edges
  pub grows : Grows [] key.edges key.constants

-- the declared variable is new
fresh_among : (done : List KeySlot) (slot : KeySlot) (more : List KeySlot) → list_all is_no_constant done ≡ true → is_no_constant slot ≡ true → all_differ same_slot (done ++ slot ∷ more) ≡ true
    → list_any (is_named_so (sigil_of slot) (slot_name slot)) done ≡ false
fresh_among [] slot more a p d = refl
fresh_among (x ∷ done) slot more a p d =
    let parts = and_parts _ _ d in
    let kinds = and_parts _ _ a in
    or_from (is_named_so (sigil_of slot) (slot_name slot) x) (list_any (is_named_so (sigil_of slot) (slot_name slot)) done)
    (false_from_ne_true _ (λ h. true≢false (sym (named_same x slot kinds.0 p h) ∙ middle (same_slot x) done slot more (not-true _ parts.0))))
    (fresh_among done slot more kinds.1 p parts.1)

abbrev declared : List ℕ → List KeySlot → OpenShape
declared name variables = record { name = name; variables = variables; constants = []; edges = [] }

abbrev at_declared : List KeyShape → List ℕ → List KeySlot → KeyState
at_declared keys name variables = record { keys = keys; current = Some (declared name variables) }

declare_line : (keys : List KeyShape) (key next : OpenShape) (slot : KeySlot) → GoodSlot slot → declare key slot ≡ Ok next
    → KeyLineSays (record { keys = keys; current = Some key }) (declaration_content slot) (Ok (record { keys = keys; current = Some next }))
declare_line keys key next (Entity name type) g d =
    word_line _ _ 101 (codes "ntity") (0x20 ∷ ((0x3F ∷ name) ++ 0x20 ∷ term_text type)) (Some word.Entity) (text_declaration (Entity name type) g) refl refl refl refl refl refl
    (goes_on {x = next} (typed_says 0x3F key next _ 6 name type refl refl g.0 g.1 (at_more (declaration_content (Entity name type)) 0 (codes "entity") _ (at_first _)) d) refl)
declare_line keys key next (Any name type) g d =
    word_line _ _ 97 (codes "ny") (0x20 ∷ ((0x5F ∷ name) ++ 0x20 ∷ term_text type)) (Some word.Any) (text_declaration (Any name type) g) refl refl refl refl refl refl
    (goes_on {x = next} (typed_says 0x5F key next _ 3 name type refl refl g.0 g.1 (at_more (declaration_content (Any name type)) 0 (codes "any") _ (at_first _)) d) refl)
declare_line keys key next (Value name) g d =
    word_line _ _ 118 (codes "alue") (0x20 ∷ 0x24 ∷ name) (Some word.Value) (text_declaration (Value name) g) refl refl refl refl refl refl
    (goes_on {x = next} (value_says false key next _ 5 name g (at_more (declaration_content (Value name)) 0 (codes "value") _ (at_first _)) d) refl)
declare_line keys key next (Folded name) g d =
    word_line _ _ 102 (codes "olded") (0x20 ∷ 0x24 ∷ name) (Some word.Folded) (text_declaration (Folded name) g) refl refl refl refl refl refl
    (goes_on {x = next} (value_says true key next _ 6 name g (at_more (declaration_content (Folded name)) 0 (codes "folded") _ (at_first _)) d) refl)
declare_line keys key next (Fixed term) g d = absurd g

declarations : (keys : List KeyShape) (name : List ℕ) (done todo : List KeySlot) (n : ℕ) → all_differ same_slot (done ++ todo) ≡ true → list_all is_no_constant done ≡ true → AllOf GoodSlot todo
    → length (done ++ todo) ≤ 16 → LinesSay (at_declared keys name done) n (map declaration_content todo) (Ok (at_declared keys name (done ++ todo)))
declarations keys name done [] n differ kinds good_slots few = subst (λ (l : List KeySlot). LinesSay (at_declared keys name done) n [] (Ok (at_declared keys name l))) (sym (append-nil done)) none
declarations keys name done (slot ∷ todo) n differ kinds good_slots few =
    let p = plain slot good_slots.0 in
    let grown = done ++ slot ∷ [] in
    let split : grown ++ todo ≡ done ++ slot ∷ todo = append_assoc done (slot ∷ []) todo in
    let one : declare (declared name done) slot ≡ Ok (declared name grown) =
    cond-false (list_any (is_named_so (sigil_of slot) (slot_name slot)) done) (Err VariableDeclaredTwice) (cond (nat_lt (nodes (declared name done)) 16) (Ok (declared name grown)) (Err TooManyNodes))
    (fresh_among done slot todo kinds p differ)
    ∙ cond-true (nat_lt (nodes (declared name done)) 16) (Ok (declared name grown)) (Err TooManyNodes) (lt-ltb _ _ (omega (arith, few, length-append done (slot ∷ todo))))
    in
    good (declare_line keys (declared name done) (declared name grown) slot good_slots.0 one)
    (subst (λ (l : List KeySlot). LinesSay (at_declared keys name grown) (n + 1) (map declaration_content todo) (Ok (at_declared keys name l))) split
    (declarations keys name grown todo (n + 1) (ap (all_differ same_slot) split ∙ differ) (list_all-append is_no_constant done (slot ∷ []) ∙ and_from _ _ kinds (and_from _ _ p refl)) good_slots.1 (omega (arith, few, ap length split))))

-- the lines of a key without their ends
abbrev pub contents : (key : OpenShape) → IsSpelled key → List (List ℕ)
contents key s = first_content key.name s.type ∷ (map declaration_content s.others
    ++ (map (λ (e : OpenEdge). triple_content (whole key).slots (key_edge (length key.variables) e)) key.edges ++ codes "end" ∷ []))

module _ (keys : List KeyShape) (key : OpenShape) (fair : IsFair key) (s : IsSpelled key) where
  slots : AllOf GoodSlot key.variables
  slots = subst (AllOf GoodSlot) (sym s.variables) ((refl, s.iri), s.slots)

  first_says : length keys < 64 → has_name keys key.name ≡ false
      → KeyLineSays (record { keys = keys; current = None }) (first_content key.name s.type) (Ok (at_declared keys key.name (Entity (codes "x") s.type ∷ [])))
  first_says few fresh =
      let next = at_declared keys key.name (Entity (codes "x") s.type ∷ []) in
      word_line _ _ 107 (codes "ey") (0x20 ∷ (key.name ++ 0x20 ∷ term_text s.type)) (Some word.Key) (text_first key.name s.type s.name s.iri) refl refl refl refl refl refl
      (yes (lt-ltb _ _ few) (key_says keys _ 3 key.name s.type next s.name s.iri (at_more (first_content key.name s.type) 0 (codes "key") _ (at_first _))
      (cond-false (has_name keys key.name) (Err NameUsedTwice) (Ok next) fresh)))

  end_says : finish key ≡ Ok (whole key) → KeyLineSays (record { keys = keys; current = Some key }) (codes "end") (Ok (record { keys = keys ++ whole key ∷ []; current = None }))
  end_says e =
      word_line _ _ 101 (codes "nd") [] (Some word.End) text_end refl refl refl refl tt refl
      (goes_on {x = whole key} (says_close (codes "end") 3 (Is (finish key)) (Ok (whole key)) (at_more (codes "end") 0 (codes "end") [] (at_first (codes "end"))) (sym e)) refl)

  -- its lines say it
  pub contents_say : (n : ℕ) → length keys < 64 → has_name keys key.name ≡ false → finish key ≡ Ok (whole key)
      → LinesSay (record { keys = keys; current = None }) n (contents key s) (Ok (record { keys = keys ++ whole key ∷ []; current = None }))
  contents_say n few fresh e =
      let first : KeySlot = Entity (codes "x") s.type in
      let decls = map declaration_content s.others in
      let triples = map (λ (e : OpenEdge). triple_content (whole key).slots (key_edge (length key.variables) e)) key.edges in
      let all_variables : List KeySlot = first ∷ s.others in
      let declared_lines : LinesSay (at_declared keys key.name (first ∷ [])) (n + 1) decls (Ok (at_declared keys key.name key.variables)) =
      subst (λ (l : List KeySlot). LinesSay (at_declared keys key.name (first ∷ [])) (n + 1) decls (Ok (at_declared keys key.name l))) (sym s.variables)
      (declarations keys key.name (first ∷ []) s.others (n + 1) (ap (all_differ same_slot) (sym s.variables) ∙ fair.variables_differ) refl s.slots (omega (arith, fair.few_nodes, ap length s.variables)))
      in
      good (first_says few fresh)
      (lines_append decls (triples ++ codes "end" ∷ []) _ _ (n + 1) _ _ refl declared_lines
      (lines_append triples (codes "end" ∷ []) _ _ (n + 1 + length decls) _ _ refl
      (replay keys key fair slots [] key.edges [] key.constants (n + 1 + length decls) refl fair.ends s.preds s.grows refl)
      (good (end_says e) none)))

  no_lines : (constants : List Term) → flat_map declaration_text (map Fixed constants) ≡ []
  no_lines [] = refl
  no_lines (t ∷ ts) = no_lines ts

  triples_text : (es : List OpenEdge) → flat_map (triple_line (whole key).slots) (map (key_edge (length key.variables)) es)
      ≡ joined (map (λ (e : OpenEdge). triple_content (whole key).slots (key_edge (length key.variables) e)) es)
  triples_text [] = refl
  triples_text (e ∷ es) = ap₂ (λ (u v : List ℕ). u ++ v) (triple_ended (whole key).slots (key_edge (length key.variables) e)) (triples_text es)

  -- they are its canonical text
  pub contents_text : key_text (whole key) ≡ joined (contents key s)
  contents_text =
      let fixed : List KeySlot = map Fixed key.constants in
      let decls = map declaration_content s.others in
      let triples = map (λ (e : OpenEdge). triple_content (whole key).slots (key_edge (length key.variables) e)) key.edges in
      let first : first_line key.name (slice_get (whole key).slots 0) ≡ with_end (first_content key.name s.type) =
      ap (λ (l : List KeySlot). first_line key.name (slice_get (l ++ fixed) 0)) s.variables ∙ first_ended key.name (codes "x") s.type
      in
      let declared_text : flat_map declaration_text (drop 1 (whole key).slots) ≡ joined decls =
      ap (λ (l : List KeySlot). flat_map declaration_text (drop 1 (l ++ fixed))) s.variables ∙ flat_map-append declaration_text s.others fixed
      ∙ ap (λ (l : List ℕ). flat_map declaration_text s.others ++ l) (no_lines key.constants) ∙ append-nil (flat_map declaration_text s.others)
      ∙ joined_map declaration_content declaration_text GoodSlot declaration_ended s.others s.slots
      in
      let last : (flat_map (triple_line (whole key).slots) (whole key).edges ++ codes "end") ++ 0x0A ∷ [] ≡ joined (triples ++ codes "end" ∷ []) =
      append_assoc (flat_map (triple_line (whole key).slots) (whole key).edges) (codes "end") (0x0A ∷ []) ∙ ap (λ (l : List ℕ). l ++ (codes "end" ++ 0x0A ∷ [])) (triples_text key.edges)
      ∙ sym (flat_map-append with_end triples (codes "end" ∷ []))
      in
      ap₂ (λ (u v : List ℕ). u ++ v) first (ap₂ (λ (u v : List ℕ). u ++ v) declared_text last ∙ sym (flat_map-append with_end decls (triples ++ codes "end" ∷ [])))

  pub contents_plain : AllOf IsText (contents key s)
  contents_plain =
      let triples = map (λ (e : OpenEdge). triple_content (whole key).slots (key_edge (length key.variables) e)) key.edges in (
        text_first key.name s.type s.name s.iri,
        all_of_append IsText (map declaration_content s.others) (triples ++ codes "end" ∷ []) (all_map declaration_content GoodSlot text_declaration s.others s.slots)
            (all_of_append IsText triples (codes "end" ∷ []) (triples_plain keys key fair slots key.edges [] key.constants fair.ends s.preds s.grows refl) (text_end, tt)),
      )
