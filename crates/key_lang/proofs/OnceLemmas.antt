-- A line and a file say one thing.
use Rattle.std.proofs.Common.{◌≡◌, ℕ, ◌+◌, Bool, true, false, List, [], ◌∷◌, Option, Some, None, Result, Ok, Err, refl, ap, subst}
use Rattle.nt_lex.specs.Reading.{Says}
use Rattle.nt_lex.proofs.CallerLemmas.{says_once}
use Rattle.nt_reader.specs.File.{judged}
use Rattle.key_file.specs.KeyShape.{KeyShape}
use Rattle.key_lang.specs.declared.fault.KeyFault.{KeyFault}
use Rattle.key_lang.specs.declared.fault.KeyRefusal.{KeyRefusal}
use Rattle.key_lang.specs.Answers.{KeyStop, Is, Where}
use Rattle.gk_base.specs.declared.stop.Stop.TheVariants.{NoMemory, Fault}
use Rattle.key_lang.specs.declared.keyword.Keyword.{Keyword}
use Rattle.key_lang.specs.declared.keyword.Keyword.TheVariants as word
use Rattle.gk_base.specs.Answers.{HasOne, IsSo, Gives}
use Rattle.key_lang.specs.declared.fault.KeyFault.TheVariants.{BadIri, UnknownStatement}
use Rattle.key_lang.specs.Tokens.{Skipping, is_over, begins_iri, begins_constant, TokenSays, NameSays, VariableSays, IriSays}
use Rattle.key_lang.specs.OpenKey.{OpenShape, KeyState}
use Rattle.key_lang.specs.Statements.{KeySays, TypedSays, ValueSays, DeclaredSays, KeySubjectSays, ObjectSays, TripleSays, Changes, OutsideSays, InsideSays, PlacedSays, WordSays, LinkSays, keyword_of, StatementSays, KeyLineSays, no_text, text}
use Rattle.key_lang.specs.KeyText.{LinesSay, none, faulty, good, start, KeysSay}
use Rattle.key_lang.proofs.AnswerLemmas.{is_once, then_once, where_once, skip_once, word_once, close_once, lexed_once}

term_once : (begins : ℕ → Bool) (expected : KeyFault) (line : List ℕ) (at : ℕ) → HasOne (TokenSays begins expected line at)
term_once begins expected line at = where_once _ _ _ (lexed_once (Says line at) (says_once line at)) (is_once _)

name_once : (line : List ℕ) (at : ℕ) → HasOne (NameSays line at)
name_once line at = word_once line at _ (λ w n. is_once _)

variable_once : (sigil : ℕ) (line : List ℕ) (at : ℕ) → HasOne (VariableSays sigil line at)
variable_once sigil line at = word_once line at _ (λ w n. is_once _)

declared_once : (key : OpenShape) (line : List ℕ) (at : ℕ) → HasOne (DeclaredSays key line at)
declared_once key line at = word_once line at _ (λ w n. is_once _)

iri_once : (line : List ℕ) (at : ℕ) → HasOne (Skipping line at (IriSays line))
iri_once line at = skip_once line at _ (λ n. term_once begins_iri BadIri line n)

key_once : (keys : List KeyShape) (line : List ℕ) (at : ℕ) → HasOne (KeySays keys line at)
key_once keys line at = then_once _ _ (skip_once line at _ (λ n. name_once line n)) (λ name. then_once _ _ (iri_once line name.1) (λ type. close_once line type.1 _ (is_once _)))

typed_once : (sigil : ℕ) (key : OpenShape) (line : List ℕ) (at : ℕ) → HasOne (TypedSays sigil key line at)
typed_once sigil key line at =
    then_once _ _ (skip_once line at _ (λ n. variable_once sigil line n)) (λ name. then_once _ _ (iri_once line name.1) (λ type. close_once line type.1 _ (is_once _)))

value_once : (folded : Bool) (key : OpenShape) (line : List ℕ) (at : ℕ) → HasOne (ValueSays folded key line at)
value_once folded key line at = then_once _ _ (skip_once line at _ (λ n. variable_once 0x24 line n)) (λ name. close_once line name.1 _ (is_once _))

subject_once : (key : OpenShape) (line : List ℕ) (at : ℕ) → HasOne (KeySubjectSays key line at)
subject_once key line at = where_once _ _ _ (declared_once key line at) (is_once _)

object_once : (key : OpenShape) (line : List ℕ) (at : ℕ) → HasOne (ObjectSays key line at)
object_once key line at = where_once _ _ _ (then_once _ _ (declared_once key line at) (λ x. is_once _)) (then_once _ _ (term_once begins_constant UnknownStatement line at) (λ x. is_once _))

triple_once : (key : OpenShape) (line : List ℕ) (at : ℕ) → HasOne (TripleSays key line at)
triple_once key line at =
    then_once _ _ (subject_once key line at) (λ from. then_once _ _ (iri_once line from.1) (λ pred.
    then_once _ _ (skip_once line pred.1 _ (λ n. object_once key line n)) (λ to. close_once line to.1 _ (is_once _))))

changes_once : (keys : List KeyShape) (Says : Result OpenShape KeyFault → Type 0) → HasOne Says → HasOne (Changes keys Says)
changes_once keys Says one = then_once _ _ one (λ key. is_once _)

outside_once : (keys : List KeyShape) (w : Keyword) (line : List ℕ) (at : ℕ) → HasOne (OutsideSays keys w line at)
outside_once keys word.Key line at = where_once _ _ _ (key_once keys line at) (is_once _)
outside_once keys word.Entity line at = is_once _
outside_once keys word.Any line at = is_once _
outside_once keys word.Value line at = is_once _
outside_once keys word.Folded line at = is_once _
outside_once keys word.End line at = is_once _

inside_once : (keys : List KeyShape) (key : OpenShape) (w : Keyword) (line : List ℕ) (at : ℕ) → HasOne (InsideSays keys key w line at)
inside_once keys key word.Key line at = is_once _
inside_once keys key word.Entity line at = changes_once keys _ (typed_once 0x3F key line at)
inside_once keys key word.Any line at = changes_once keys _ (typed_once 0x5F key line at)
inside_once keys key word.Value line at = changes_once keys _ (value_once false key line at)
inside_once keys key word.Folded line at = changes_once keys _ (value_once true key line at)
inside_once keys key word.End line at = then_once _ _ (close_once line at _ (is_once _)) (λ x. is_once _)

placed_once : (keys : List KeyShape) (current : Option OpenShape) (w : Keyword) (line : List ℕ) (at : ℕ) → HasOne (PlacedSays keys current w line at)
placed_once keys None w line at = outside_once keys w line at
placed_once keys (Some key) w line at = inside_once keys key w line at

words_once : (state : KeyState) (w : Option Keyword) (line : List ℕ) (at : ℕ) → HasOne (WordSays state w line at)
words_once state None line at = is_once _
words_once state (Some w) line at = placed_once state.keys state.current w line at

link_once : (keys : List KeyShape) (current : Option OpenShape) (line : List ℕ) (at : ℕ) → HasOne (LinkSays keys current line at)
link_once keys None line at = is_once _
link_once keys (Some key) line at = changes_once keys _ (triple_once key line at)

statement_once : (state : KeyState) (line : List ℕ) (at : ℕ) → HasOne (StatementSays state line at)
statement_once state line at = where_once _ _ _ (link_once state.keys state.current line at) (word_once line at _ (λ w n. words_once state (keyword_of w) line n))

-- a line says one thing
pub line_once : (state : KeyState) (line : List ℕ) → HasOne (KeyLineSays state line)
line_once state line a b (no_text n) (no_text m) = refl
line_once state line a b (no_text n) (text u s) = absurd (n u)
line_once state line a b (text u s) (no_text m) = absurd (m u)
line_once state line a b (text u s) (text v t) =
    skip_once line 0 (λ at. Where (is_over line at) (Is (Ok state)) (StatementSays state line at)) (λ n. where_once _ _ _ (is_once _) (statement_once state line n)) a b s t

ok_same : {A F : Type 0} (x y : A) → Path (Result A F) (Ok x) (Ok y) → x ≡ y
ok_same x y e = cc

err_same : {A F : Type 0} (f g : F) → Path (Result A F) (Err f) (Err g) → f ≡ g
err_same f g e = cc

ok_err : {A F : Type 0} (x : A) (f : F) → Path (Result A F) (Ok x) (Err f) → ⊥
ok_err x f e = cc

lines_once : (content : List (List ℕ)) (state : KeyState) (number : ℕ) → HasOne (LinesSay state number content)
lines_once [] state number a b none none = refl
lines_once (l ∷ ls) state number a b (faulty {fault = f} x) (faulty {fault = g} y) =
    ap (λ (e : KeyFault). let r : Result KeyState KeyRefusal = Err (record { line = number; fault = e }) in r) (err_same f g (line_once state l (Err f) (Err g) x y))
lines_once (l ∷ ls) state number a b (faulty {fault = f} x) (good {next = t} y z) = absurd (ok_err t f (line_once state l (Ok t) (Err f) y x))
lines_once (l ∷ ls) state number a b (good {next = t} y z) (faulty {fault = f} x) = absurd (ok_err t f (line_once state l (Ok t) (Err f) y x))
lines_once (l ∷ ls) state number a b (good {next = t} y z) (good {next = t'} y' z') =
    lines_once ls t' (number + 1) a b (subst (λ s. LinesSay s (number + 1) ls a) (ok_same t t' (line_once state l (Ok t) (Ok t') y y')) z) z'

-- a file says one thing
pub keys_once : (limit : ℕ) (bytes : List ℕ) → HasOne (KeysSay limit bytes)
keys_once limit bytes = then_once _ _ (lines_once (judged limit bytes) start 1) (λ state. is_once _)

-- what a file says was answered
pub only_told : (limit : ℕ) (bytes : List ℕ) (r : Result (List KeyShape) KeyStop) → IsSo (KeysSay limit bytes) r → (answer : Result (List KeyShape) KeyRefusal)
    → KeysSay limit bytes answer → Gives r answer
only_told limit bytes (Ok keys) so answer says = keys_once limit bytes (Ok keys) answer so says
only_told limit bytes (Err NoMemory) so answer says = tt
only_told limit bytes (Err (Fault refusal)) so answer says = keys_once limit bytes (Err refusal) answer so says
