-- The lines of the canonical text, each read where it stands.
use Rattle.std.proofs.Common.{◌≡◌, ℕ, ◌+◌, Bool, true, false, eqb, List, [], ◌∷◌, ◌++◌, length, get_or, position, Option, Some, Result, Ok, refl, sym, ap, ◌∙◌, subst, arith, append-nil}
use Rattle.std.proofs.lemmas.Bool.{and_from, or_from, cond-true, eq-eqb, ne_eqb}
use Rattle.std.proofs.lemmas.Bool.Decides.{nat_tests}
use Rattle.std.specs.List.{list_all}
use Rattle.gk_base.specs.declared.term.Term.{Term}
use Rattle.nt_lex.specs.Chars.{is_blank}
use Rattle.nt_lex.specs.Scans.{NextFails}
use Rattle.nt_lex.specs.Spelling.{Spells}
use Rattle.nt_lex.specs.Reading.{TermStops}
use Rattle.term_text.specs.CanonicalText.{term_text}
use Rattle.key_file.specs.KeyShape.{KeyShape}
use Rattle.key_lang.specs.declared.fault.KeyFault.{KeyFault}
use Rattle.key_lang.specs.declared.fault.KeyFault.TheVariants.{BadIri, UnknownStatement}
use Rattle.key_lang.specs.declared.keyword.Keyword.{Keyword}
use Rattle.key_lang.specs.declared.open_key.Object.{Object}
use Rattle.key_lang.specs.declared.open_key.Object.TheVariants.{Declared, Given}
use Rattle.key_lang.specs.Answers.{Is, goes_on, yes, no}
use Rattle.key_file.specs.Name.{is_name}
use Rattle.key_lang.specs.Tokens.{Skipping, is_word_byte, name_of, variable_of, NameSays, VariableSays, begins_iri, IriSays, begins_constant}
use Rattle.key_lang.specs.OpenKey.{OpenShape, KeyState, is_named_so, begin, declare, link}
use Rattle.key_lang.specs.Statements.{keyword_of, KeySays, typed_slot, TypedSays, slot_of_value, ValueSays, found, declared_of, DeclaredSays, begins_key_subject, is_sigil, ObjectSays, TripleSays, WordSays, StatementSays, begins_triple, KeyLineSays, text}
use Rattle.nt_reader.proofs.CallerLemmas.{IsText}
use Rattle.key_lang.proofs.CursorLemmas.{At, at_first, at_byte, at_more, run_here, says_skip, says_word, says_close, says_term, name_all, name_first}

-- an IRI, by its canonical text
pub record IsIri (t : Term) : Type 0 where
  pub spells : Spells (term_text t) t
  pub stops : (rest : List ℕ) → TermStops spells rest
  pub more : List ℕ
  pub first : term_text t ≡ 0x3C ∷ more

-- an IRI or a literal, by its canonical text
pub record IsGiven (t : Term) : Type 0 where
  pub spells : Spells (term_text t) t
  pub stops : TermStops spells []
  pub head : ℕ
  pub more : List ℕ
  pub first : term_text t ≡ head ∷ more
  pub begins : begins_constant head ≡ true

constant_sigil : (b : ℕ) → begins_constant b ≡ true → is_sigil b ≡ false
constant_sigil b h = grind (arith, nat_tests)

pub constant_blank : (b : ℕ) → begins_constant b ≡ true → is_blank b ≡ false
constant_blank b h = grind (arith, nat_tests)

-- one space, and then a token
skip_to : {A : Type 0} (line : List ℕ) (at b : ℕ) (w more rest : List ℕ) (Says : ℕ → Result A KeyFault → Type 0) (answer : Result A KeyFault)
    → At line at (0x20 ∷ (w ++ rest)) → w ≡ b ∷ more → is_blank b ≡ false → Says (at + 1) answer → Skipping line at Says answer
skip_to line at b w more rest Says answer a first other says =
    says_skip line at b (more ++ rest) Says answer (subst (λ (l : List ℕ). At line at (0x20 ∷ (l ++ rest))) first a) other says

past_space : (line : List ℕ) (at : ℕ) (rest : List ℕ) → At line at (0x20 ∷ rest) → At line (at + 1) rest
past_space line at rest a = at_more line at (0x20 ∷ []) rest a

iri_says : (line : List ℕ) (at : ℕ) (t : Term) (rest : List ℕ) → IsIri t → At line at (term_text t ++ rest) → IriSays line at (Ok (t, at + length (term_text t)))
iri_says line at t rest i a = says_term begins_iri BadIri line at 0x3C (term_text t) i.more rest t i.spells (i.stops rest) i.first refl a

skip_iri : (line : List ℕ) (at : ℕ) (t : Term) (rest : List ℕ) → IsIri t → At line at (0x20 ∷ (term_text t ++ rest)) → Skipping line at (IriSays line) (Ok (t, at + 1 + length (term_text t)))
skip_iri line at t rest i a =
    skip_to line at 0x3C (term_text t) i.more rest (IriSays line) (Ok (t, at + 1 + length (term_text t))) a i.first refl (iri_says line (at + 1) t rest i (past_space line at (term_text t ++ rest) a))

ended : (line : List ℕ) (at : ℕ) (w : List ℕ) → At line at w → At line (at + length w) []
ended line at w a = at_more line at w [] (subst (At line at) (sym (append-nil w)) a)

-- `key NAME <type>`, after the first word
pub key_says : (keys : List KeyShape) (line : List ℕ) (at : ℕ) (name : List ℕ) (type : Term) (next : KeyState) → is_name name ≡ true → IsIri type
    → At line at (0x20 ∷ (name ++ 0x20 ∷ term_text type)) → begin keys name type ≡ Ok next → KeySays keys line at (Ok next)
key_says keys line at name type next n i a e =
    let f = name_first name n in
    let after = at + 1 + length name in
    let here : At line after (0x20 ∷ term_text type) = at_more line (at + 1) name (0x20 ∷ term_text type) (past_space line at (name ++ 0x20 ∷ term_text type) a) in
    let last : At line after (0x20 ∷ (term_text type ++ [])) = subst (λ (l : List ℕ). At line after (0x20 ∷ l)) (sym (append-nil (term_text type))) here in
    goes_on {x = (name, after)}
    (skip_to line at f.0 name f.1 (0x20 ∷ term_text type) (NameSays line) (Ok (name, after)) a f.2 f.3
    (says_word line (at + 1) name (0x20 ∷ term_text type) (λ word end. Is (name_of word end)) (Ok (name, after)) (past_space line at (name ++ 0x20 ∷ term_text type) a) (name_all name n) refl
    (sym (cond-true _ _ _ n))))
    (goes_on {x = (type, after + 1 + length (term_text type))} (skip_iri line after type [] i last)
    (says_close line (after + 1 + length (term_text type)) (Is (begin keys name type)) (Ok next) (ended line (after + 1) (term_text type) (past_space line after (term_text type) here)) (sym e)))

-- a variable that is declared, after the first word
variable_says : (sigil : ℕ) (line : List ℕ) (at : ℕ) (name rest : List ℕ) → is_blank sigil ≡ false → is_word_byte sigil ≡ true → is_name name ≡ true → NextFails is_word_byte rest
    → At line at (0x20 ∷ ((sigil ∷ name) ++ rest)) → Skipping line at (VariableSays sigil line) (Ok (name, at + 1 + length (sigil ∷ name)))
variable_says sigil line at name rest b w n next a =
    let after = at + 1 + length (sigil ∷ name) in
    skip_to line at sigil (sigil ∷ name) name rest (VariableSays sigil line) (Ok (name, after)) a refl b
    (says_word line (at + 1) (sigil ∷ name) rest (λ word end. Is (variable_of sigil word end)) (Ok (name, after)) (past_space line at ((sigil ∷ name) ++ rest) a) (and_from _ _ w (name_all name n)) next
    (sym (cond-true _ _ _ (and_from _ _ (eq-eqb sigil sigil refl) n))))

-- `entity ?y <type>` and `any _w <type>`
pub typed_says : (sigil : ℕ) (key next : OpenShape) (line : List ℕ) (at : ℕ) (name : List ℕ) (type : Term) → is_blank sigil ≡ false → is_word_byte sigil ≡ true → is_name name ≡ true → IsIri type
    → At line at (0x20 ∷ ((sigil ∷ name) ++ 0x20 ∷ term_text type)) → declare key (typed_slot sigil name type) ≡ Ok next → TypedSays sigil key line at (Ok next)
typed_says sigil key next line at name type b w n i a e =
    let after = at + 1 + length (sigil ∷ name) in
    let here : At line after (0x20 ∷ term_text type) = at_more line (at + 1) (sigil ∷ name) (0x20 ∷ term_text type) (past_space line at ((sigil ∷ name) ++ 0x20 ∷ term_text type) a) in
    let last : At line after (0x20 ∷ (term_text type ++ [])) = subst (λ (l : List ℕ). At line after (0x20 ∷ l)) (sym (append-nil (term_text type))) here in
    goes_on {x = (name, after)} (variable_says sigil line at name (0x20 ∷ term_text type) b w n refl a)
    (goes_on {x = (type, after + 1 + length (term_text type))} (skip_iri line after type [] i last)
    (says_close line (after + 1 + length (term_text type)) (Is (declare key (typed_slot sigil name type))) (Ok next) (ended line (after + 1) (term_text type) (past_space line after (term_text type) here)) (sym e)))

-- `value $n` and `folded $n`
pub value_says : (folded : Bool) (key next : OpenShape) (line : List ℕ) (at : ℕ) (name : List ℕ) → is_name name ≡ true → At line at (0x20 ∷ 0x24 ∷ name)
    → declare key (slot_of_value folded name) ≡ Ok next → ValueSays folded key line at (Ok next)
value_says folded key next line at name n a e =
    let after = at + 1 + length (0x24 ∷ name) in
    goes_on {x = (name, after)} (variable_says 0x24 line at name [] refl refl n tt (subst (λ (l : List ℕ). At line at (0x20 ∷ 0x24 ∷ l)) (sym (append-nil name)) a))
    (says_close line after (Is (declare key (slot_of_value folded name))) (Ok next) (ended line (at + 1) (0x24 ∷ name) (past_space line at (0x24 ∷ name) a)) (sym e))

-- a declared variable that a line names
declared_says : (key : OpenShape) (line : List ℕ) (at sigil : ℕ) (name rest : List ℕ) (place : ℕ) → is_word_byte sigil ≡ true → is_name name ≡ true → NextFails is_word_byte rest
    → At line at ((sigil ∷ name) ++ rest) → position (is_named_so sigil name) key.variables ≡ Some place → DeclaredSays key line at (Ok (place, at + length (sigil ∷ name)))
declared_says key line at sigil name rest place w n next a p =
    let end = at + length (sigil ∷ name) in
    says_word line at (sigil ∷ name) rest (λ word e. Is (declared_of key.variables word e)) (Ok (place, end)) a (and_from _ _ w (name_all name n)) next
    (sym (cond-true _ _ _ n ∙ ap (λ (o : Option ℕ). found o end) p))

-- an object at the end of a line
pub record NamesObject (key : OpenShape) (object : Object) (piece : List ℕ) : Type 0 where
  pub head : ℕ
  pub more : List ℕ
  pub first : piece ≡ head ∷ more
  pub other : is_blank head ≡ false
  pub says : (line : List ℕ) (at : ℕ) → At line at piece → ObjectSays key line at (Ok (object, at + length piece))

pub given_named : (key : OpenShape) (t : Term) → IsGiven t → NamesObject key (Given t) (term_text t)
given_named key t g = record {
  head = g.head;
  more = g.more;
  first = g.first;
  other = constant_blank g.head g.begins;
  says = λ line at a.
      let whole : At line at (g.head ∷ g.more) = subst (At line at) g.first a in
      no (ap is_sigil (at_byte line at g.head g.more whole) ∙ constant_sigil g.head g.begins)
      (goes_on {x = (t, at + length (term_text t))}
      (says_term begins_constant UnknownStatement line at g.head (term_text t) g.more [] t g.spells g.stops g.first g.begins (subst (At line at) (sym (append-nil (term_text t))) a)) refl);
}

pub variable_named : (key : OpenShape) (sigil : ℕ) (name : List ℕ) (place : ℕ) → is_sigil sigil ≡ true → is_name name ≡ true → position (is_named_so sigil name) key.variables ≡ Some place
    → NamesObject key (Declared place) (sigil ∷ name)
variable_named key sigil name place s n p = record {
  head = sigil;
  more = name;
  first = refl;
  other = sigil_blank sigil s;
  says = λ line at a.
      yes (ap is_sigil (at_byte line at sigil name a) ∙ s)
      (goes_on {x = (place, at + length (sigil ∷ name))}
      (declared_says key line at sigil name [] place (sigil_word sigil s) n tt (subst (λ (l : List ℕ). At line at (sigil ∷ l)) (sym (append-nil name)) a) p) refl);
}
  where
    sigil_blank : (b : ℕ) → is_sigil b ≡ true → is_blank b ≡ false
    sigil_blank b h = grind (arith, nat_tests)

    sigil_word : (b : ℕ) → is_sigil b ≡ true → is_word_byte b ≡ true
    sigil_word b h = grind (arith, nat_tests)

-- `S <p> O`
pub triple_says : (key next : OpenShape) (line : List ℕ) (sigil : ℕ) (name : List ℕ) (from : ℕ) (pred : Term) (object : Object) (piece : List ℕ) → begins_key_subject sigil ≡ true → is_name name ≡ true
    → position (is_named_so sigil name) key.variables ≡ Some from → IsIri pred → NamesObject key object piece → line ≡ (sigil ∷ name) ++ 0x20 ∷ (term_text pred ++ 0x20 ∷ piece)
    → link key from pred object ≡ Ok next → TripleSays key line 0 (Ok next)
triple_says key next line sigil name from pred object piece s n p i o whole e =
    let rest = term_text pred ++ 0x20 ∷ piece in
    let begun : At line 0 ((sigil ∷ name) ++ 0x20 ∷ rest) = subst (At line 0) whole (at_first line) in
    let after = 0 + length (sigil ∷ name) in
    let here : At line after (0x20 ∷ rest) = at_more line 0 (sigil ∷ name) (0x20 ∷ rest) begun in
    let then = after + 1 + length (term_text pred) in
    let gap : At line then (0x20 ∷ piece) = at_more line (after + 1) (term_text pred) (0x20 ∷ piece) (past_space line after rest here) in
    let last : At line (then + 1) piece = past_space line then piece gap in
    goes_on {x = (from, after)}
    (yes (ap begins_key_subject (at_byte line 0 sigil (name ++ 0x20 ∷ rest) begun) ∙ s) (declared_says key line 0 sigil name (0x20 ∷ rest) from (subject_word sigil s) n refl begun p))
    (goes_on {x = (pred, then)} (skip_iri line after pred (0x20 ∷ piece) i here)
    (goes_on {x = (object, then + 1 + length piece)}
    (skip_to line then o.head piece o.more [] (ObjectSays key line) (Ok (object, then + 1 + length piece)) (subst (λ (l : List ℕ). At line then (0x20 ∷ l)) (sym (append-nil piece)) gap) o.first o.other (o.says line (then + 1) last))
    (says_close line (then + 1 + length piece) (Is (link key from pred object)) (Ok next) (ended line (then + 1) piece last) (sym e))))
  where
    subject_word : (b : ℕ) → begins_key_subject b ≡ true → is_word_byte b ≡ true
    subject_word b h = grind (arith, nat_tests)

-- a line that says a statement
pub statement_line : (state next : KeyState) (line : List ℕ) (b : ℕ) (more : List ℕ) → IsText line → line ≡ b ∷ more → is_blank b ≡ false → eqb b 0x23 ≡ false → StatementSays state line 0 (Ok next)
    → KeyLineSays state line (Ok next)
statement_line state next line b more t whole other comment says =
    let begun : At line 0 (b ∷ more) = subst (At line 0) whole (at_first line) in
    text t.utf8 (record {
      next = 0;
      skips = run_here is_blank line 0 [] (b ∷ more) begun refl other;
      says = no (or_from (eqb 0 (length line)) (eqb (get_or line 0 0) 0x23) (ne_eqb 0 (length line) (λ e. absurd (omega (arith, e, ap length whole)))) (ap (λ n. eqb n 0x23) (at_byte line 0 b more begun) ∙ comment)) says;
    })

-- a line that says a triple
pub triple_line : (keys : List KeyShape) (key next : OpenShape) (line : List ℕ) (sigil : ℕ) (more : List ℕ) → IsText line → line ≡ sigil ∷ more → begins_key_subject sigil ≡ true → TripleSays key line 0 (Ok next)
    → KeyLineSays (record { keys = keys; current = Some key }) line (Ok (record { keys = keys; current = Some next }))
triple_line keys key next line sigil more t whole s says =
    let begun : At line 0 (sigil ∷ more) = subst (At line 0) whole (at_first line) in
    statement_line _ _ line sigil more t whole (subject_blank sigil s) (subject_comment sigil s)
    (yes (ap begins_triple (at_byte line 0 sigil more begun) ∙ subject_triple sigil s) (goes_on {x = next} says refl))
  where
    subject_blank : (b : ℕ) → begins_key_subject b ≡ true → is_blank b ≡ false
    subject_blank b h = grind (arith, nat_tests)

    subject_comment : (b : ℕ) → begins_key_subject b ≡ true → eqb b 0x23 ≡ false
    subject_comment b h = grind (arith, nat_tests)

    subject_triple : (b : ℕ) → begins_key_subject b ≡ true → begins_triple b ≡ true
    subject_triple b h = grind (arith, nat_tests)

-- a line that begins with a word
pub word_line : (state next : KeyState) (b : ℕ) (w rest : List ℕ) (keyword : Option Keyword) → IsText ((b ∷ w) ++ rest) → is_blank b ≡ false → eqb b 0x23 ≡ false → begins_triple b ≡ false
    → list_all is_word_byte (b ∷ w) ≡ true → NextFails is_word_byte rest → keyword_of (b ∷ w) ≡ keyword → WordSays state keyword ((b ∷ w) ++ rest) (0 + length (b ∷ w)) (Ok next)
    → KeyLineSays state ((b ∷ w) ++ rest) (Ok next)
word_line state next b w rest keyword t other comment triple all stops is says =
    let line = (b ∷ w) ++ rest in
    statement_line state next line b (w ++ rest) t refl other comment
    (no (ap begins_triple (at_byte line 0 b (w ++ rest) (at_first line)) ∙ triple)
    (says_word line 0 (b ∷ w) rest (λ word end. WordSays state (keyword_of word) line end) (Ok next) (at_first line) all stops
    (subst (λ (k : Option Keyword). WordSays state k line (0 + length (b ∷ w)) (Ok next)) (sym is) says)))
