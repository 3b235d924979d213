-- What a key file says is a key file.
use Rattle.std.proofs.Common.{◌≡◌, ℕ, ◌+◌, ◌<◌, not, eqb, nat_lt, List, [], ◌∷◌, length, slice_range, Option, Some, None, Result, Ok, Err, refl, ap, ◌∙◌, arith}
use Rattle.std.proofs.lemmas.Bool.{eqb-false, not-false}
use Rattle.std.proofs.lemmas.List.Elements.{All-nil}
use Rattle.gk_base.specs.declared.term.Term.{Term}
use Rattle.nt_reader.specs.Lines.{lines}
use Rattle.nt_reader.specs.File.{judged}
use Rattle.key_file.specs.KeyShape.{KeyShape}
use Rattle.key_file.specs.Key.{IsKey, is_connected}
use Rattle.key_file.specs.KeyFile.{has_name, IsKeyFile}
use Rattle.key_file.proofs.CallerLemmas.{file_push}
use Rattle.key_lang.specs.declared.fault.KeyFault.{KeyFault}
use Rattle.key_lang.specs.declared.fault.KeyFault.TheVariants.{NameUsedTwice, KeyWithoutTriples, VariableNotUsed, NotConnected, FileTooLong}
use Rattle.key_lang.specs.declared.keyword.Keyword.{Keyword}
use Rattle.key_lang.specs.declared.keyword.Keyword.TheVariants as word
use Rattle.key_lang.specs.Answers.{Is}
use Rattle.key_lang.specs.Tokens.{Closes, is_over}
use Rattle.key_lang.specs.OpenKey.{OpenShape, KeyState, begin, whole, all_used, finish}
use Rattle.key_lang.specs.Statements.{KeySays, Changes, KeyEndSays, OutsideSays, InsideSays, WordSays, LinkSays, keyword_of, StatementSays, KeyLineSays, no_text, text}
use Rattle.key_lang.specs.KeyText.{LinesSay, none, good, start, ended, KeysSay}
use Rattle.key_lang.specs.Fair.{IsFair, IsFairBeside, IsFairState}
use Rattle.key_lang.proofs.GoodLemmas.{Good, Keeps, good_if, keeps_is, keeps_then, keeps_where, keeps_skip, keeps_word, keeps_close}
use Rattle.key_lang.proofs.WholeLemmas.{whole_valid}
use Rattle.key_lang.proofs.FairSteps.{line_keeps}

-- the keys that have ended are those of a key file
abbrev IsFile : KeyState → Type 0
IsFile state = IsKeyFile state.keys

-- a key that ends is valid, and has the name of the open one
abbrev EndsAs : OpenShape → KeyShape → Type 0
EndsAs key ended = IsKey ended × (ended.name ≡ key.name)

ends_valid : (key : OpenShape) → IsFair key → Good (EndsAs key) (finish key)
ends_valid key fair =
    good_if (EndsAs key) (eqb (length key.edges) 0) (Err KeyWithoutTriples) _ (λ _. tt) (λ some.
    good_if (EndsAs key) (not (all_used (whole key))) (Err VariableNotUsed) _ (λ _. tt) (λ used.
    good_if (EndsAs key) (is_connected (length (whole key).slots) (whole key).edges) (Ok (whole key)) (Err NotConnected)
    (λ connected. (whole_valid key fair (some_left (length key.edges) (eqb-false _ _ some)) (not-false _ used) connected, refl)) (λ _. tt)))
  where
    some_left : (n : ℕ) → (n ≡ 0 → ⊥) → 0 < n
    some_left n h = omega (arith, h)

module _ (keys : List KeyShape) (file : IsKeyFile keys) where
  key_file : (line : List ℕ) (at : ℕ) → Keeps IsFile (KeySays keys line at)
  key_file line at =
      keeps_then IsFile _ _ (λ name _. keeps_then IsFile _ _ (λ type _. keeps_close IsFile line type.1 _ (keeps_is IsFile _ (begun name.0 type.0))))
    where
      begun : (name : List ℕ) (type : Term) → Good IsFile (begin keys name type)
      begun name type = good_if IsFile (has_name keys name) (Err NameUsedTwice) _ (λ _. tt) (λ _. file)

  changes_file : (Says : Result OpenShape KeyFault → Type 0) → Keeps IsFile (Changes keys Says)
  changes_file Says = keeps_then IsFile Says _ (λ changed _. keeps_is IsFile _ file)

  end_file : (key : OpenShape) → IsFairBeside keys key → (line : List ℕ) (at : ℕ) → Keeps IsFile (KeyEndSays keys key line at)
  end_file key beside line at =
      keeps_then IsFile (Closes line at (Is (finish key))) _ (λ ended says. keeps_is IsFile _
      (let ends = keeps_close (EndsAs key) line at (Is (finish key)) (keeps_is (EndsAs key) (finish key) (ends_valid key beside.fair)) (Ok ended) says in
      file_push keys ended file beside.few (ap (has_name keys) ends.1 ∙ beside.fresh) ends.0))

  outside_file : (w : Keyword) (line : List ℕ) (at : ℕ) → Keeps IsFile (OutsideSays keys w line at)
  outside_file word.Key line at = keeps_where IsFile (nat_lt (length keys) 64) _ _ (λ _. key_file line at) (λ _. keeps_is IsFile _ tt)
  outside_file word.Entity line at = keeps_is IsFile _ tt
  outside_file word.Any line at = keeps_is IsFile _ tt
  outside_file word.Value line at = keeps_is IsFile _ tt
  outside_file word.Folded line at = keeps_is IsFile _ tt
  outside_file word.End line at = keeps_is IsFile _ tt

  inside_file : (key : OpenShape) → IsFairBeside keys key → (w : Keyword) (line : List ℕ) (at : ℕ) → Keeps IsFile (InsideSays keys key w line at)
  inside_file key beside word.Key line at = keeps_is IsFile _ tt
  inside_file key beside word.Entity line at = changes_file _
  inside_file key beside word.Any line at = changes_file _
  inside_file key beside word.Value line at = changes_file _
  inside_file key beside word.Folded line at = changes_file _
  inside_file key beside word.End line at = end_file key beside line at

  words_file : (current : Option OpenShape) → IsFairState (record { keys = keys; current = current }) → (w : Option Keyword) (line : List ℕ) (at : ℕ)
      → Keeps IsFile (WordSays (record { keys = keys; current = current }) w line at)
  words_file current fair None line at = keeps_is IsFile _ tt
  words_file None fair (Some w) line at = outside_file w line at
  words_file (Some key) fair (Some w) line at = inside_file key fair w line at

  link_file : (current : Option OpenShape) (line : List ℕ) (at : ℕ) → Keeps IsFile (LinkSays keys current line at)
  link_file None line at = keeps_is IsFile _ tt
  link_file (Some key) line at = changes_file _

line_file : (state : KeyState) → IsFairState state → IsFile state → (line : List ℕ) → Keeps IsFile (KeyLineSays state line)
line_file state fair file line answer (no_text n) = tt
line_file state fair file line answer (text u says) =
    keeps_skip IsFile line 0 _ (λ at. keeps_where IsFile (is_over line at) _ (StatementSays state line at) (λ _. keeps_is IsFile _ file) (λ _.
    keeps_where IsFile _ _ _ (λ _. link_file state.keys file state.current line at)
    (λ _. keeps_word IsFile line at _ (λ end run. words_file state.keys file state.current fair (keyword_of (slice_range line at end)) line end)))) answer says

lines_file : (content : List (List ℕ)) (state next : KeyState) (n : ℕ) → IsFairState state → IsFile state → LinesSay state n content (Ok next) → IsFile next
lines_file [] state next n fair file none = file
lines_file (line ∷ content) state next n fair file (good {next = t} x y) =
    lines_file content t next (n + 1) (line_keeps state fair line (Ok t) x) (line_file state fair file line (Ok t) x) y

-- the keys of a file
pub says_key_file : (limit : ℕ) (bytes : List ℕ) (keys : List KeyShape) → KeysSay limit bytes (Ok keys) → IsKeyFile keys
says_key_file limit bytes keys says = all (Ok keys) says
  where
    none_yet : IsKeyFile []
    none_yet = record { few = omega arith; names_differ = λ i j d l m. absurd (omega arith); valid = All-nil IsKey }

    at_end : (keys : List KeyShape) (current : Option OpenShape) (last : ℕ) → IsKeyFile keys → Good IsKeyFile (ended keys current last)
    at_end keys None last file = file
    at_end keys (Some key) last file = tt

    all : Keeps IsKeyFile (KeysSay limit bytes)
    all =
        keeps_then IsKeyFile (LinesSay start 1 (judged limit bytes)) _ (λ state says. keeps_is IsKeyFile _
        (good_if IsKeyFile (nat_lt limit (length bytes)) (Err (record { line = _; fault = FileTooLong })) (ended state.keys state.current (length (lines bytes))) (λ _. tt)
        (λ _. at_end state.keys state.current (length (lines bytes)) (lines_file (judged limit bytes) start state 1 tt none_yet says))))
