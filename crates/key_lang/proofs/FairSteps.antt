-- Each good line keeps what a file has as far as it was read.
use Rattle.std.proofs.Common.{◌≡◌, ℕ, ◌-◌, ◌<◌, Bool, true, false, cond, eqb, nat_lt, List, [], ◌∷◌, length, take, drop, get_or, slice_get, slice_range, position, Option, Some, None, Result, Ok, Err, refl, sym, ap, ◌∙◌, inl, inr, arith}
use Rattle.std.proofs.lemmas.Bool.{and_parts, cases_lt, ltb-true, eqb-true, true≢false}
use Rattle.std.proofs.lemmas.List.{get_or-take, get_or-drop}
use Rattle.std.proofs.lemmas.List.Quantifiers.{position-Some}
use Rattle.std.proofs.lemmas.Option.{get_or_from_slice_get}
use Rattle.gk_base.specs.declared.term.Term.{Term}
use Rattle.chase_laws.proofs.CallerLemmas.{slice_get-within}
use Rattle.key_file.specs.declared.slot.KeySlot.{KeySlot}
use Rattle.key_file.specs.declared.slot.KeySlot.TheVariants.{Entity, Any, Value, Folded, Fixed}
use Rattle.key_file.specs.KeyShape.{KeyShape}
use Rattle.key_file.specs.Key.{may_be_subject}
use Rattle.key_file.specs.KeyFile.{has_name}
use Rattle.key_lang.specs.declared.fault.KeyFault.{KeyFault}
use Rattle.key_lang.specs.declared.fault.KeyFault.TheVariants.{BadName}
use Rattle.key_lang.specs.declared.keyword.Keyword.{Keyword}
use Rattle.key_lang.specs.declared.keyword.Keyword.TheVariants as word
use Rattle.key_file.specs.Name.{is_name}
use Rattle.key_lang.specs.Tokens.{Skipping, is_over}
use Rattle.key_lang.specs.OpenKey.{OpenShape, KeyState, sigil_of, is_named_so}
use Rattle.key_lang.specs.Statements.{KeySays, typed_slot, TypedSays, slot_of_value, ValueSays, found, declared_of, DeclaredSays, begins_key_subject, KeySubjectSays, ObjectSays, TripleSays, Changes, OutsideSays, InsideSays, WordSays, LinkSays, keyword_of, StatementSays, KeyLineSays, no_text, text}
use Rattle.key_lang.specs.Fair.{is_no_constant, IsFair, IsFairBeside, IsFairState}
use Rattle.key_lang.proofs.GoodLemmas.{Good, Keeps, good_if, keeps_is, keeps_then, keeps_where, keeps_skip, keeps_word, keeps_close}
use Rattle.key_lang.proofs.FairLemmas.{IsFairAs, declare_fair, IsThere, link_fair, begin_fair}

-- the slot at the first place that passes
at_place : (p : KeySlot → Bool) (slots : List KeySlot) (place : ℕ) → position p slots ≡ Some place → (s : KeySlot) × (slice_get slots place ≡ Some s) × (p s ≡ true)
at_place p slots place e =
    let s = slice_get-within slots place (position-Some p slots place (Fixed_zero) e).0 in
    let is = position-Some p slots place s.0 e in
    (s.0, s.1, ap p (sym (get_or_from_slice_get slots place s.0 s.0 s.1)) ∙ is.1)
  where
    Fixed_zero : KeySlot
    Fixed_zero = Value []

-- what a declared variable is
pub declared_good : (P : ℕ × ℕ → Type 0) (variables : List KeySlot) (w : List ℕ) (end : ℕ)
    → ((sigil : ℕ) (name : List ℕ) (place : ℕ) (s : KeySlot) → w ≡ sigil ∷ name → slice_get variables place ≡ Some s → sigil_of s ≡ sigil → place < length variables → P (place, end))
    → Good P (declared_of variables w end)
declared_good P variables [] end h = tt
declared_good P variables (sigil ∷ name) end h =
    good_if P (is_name name) (found (position (is_named_so sigil name) variables) end) (Err BadName) (λ _. of_place (position (is_named_so sigil name) variables) refl) (λ _. tt)
  where
    of_place : (o : Option ℕ) → position (is_named_so sigil name) variables ≡ o → Good P (found o end)
    of_place None e = tt
    of_place (Some place) e =
        let s = at_place (is_named_so sigil name) variables place e in
        h sigil name place s.0 refl s.1 (eqb-true _ _ (and_parts _ _ s.2).0) (position-Some (is_named_so sigil name) variables place s.0 e).0

-- the first byte of a word
pub word_head : (line : List ℕ) (at end b : ℕ) (more : List ℕ) → slice_range line at end ≡ b ∷ more → get_or line at 0 ≡ b
word_head line at end b more e = elim (cases_lt 0 (end - at)) [
  | inl some ↦ ap (λ n. get_or line n 0) (omega arith) ∙ sym (get_or-drop at line 0 0) ∙ sym (get_or-take (end - at) (drop at line) 0 0 some) ∙ ap (λ (l : List ℕ). get_or l 0 0) e
  | inr past ↦ absurd (nothing (sym (take_none (end - at) (drop at line) (omega (arith, past))) ∙ e))
]
  where
    nothing : [] ≡ b ∷ more → ⊥
    nothing h = cc

    take_none : (n : ℕ) (xs : List ℕ) → n ≡ 0 → take n xs ≡ []
    take_none n xs z = ap (λ k. take k xs) z

subject_slot : (s : KeySlot) (sigil : ℕ) → sigil_of s ≡ sigil → begins_key_subject sigil ≡ true → may_be_subject (Some s) ≡ true
subject_slot (Entity a t) sigil e b = refl
subject_slot (Any a t) sigil e b = refl
subject_slot (Value a) sigil e b = absurd (true≢false (sym b ∙ ap begins_key_subject (sym e)))
subject_slot (Folded a) sigil e b = absurd (true≢false (sym b ∙ ap begins_key_subject (sym e)))
subject_slot (Fixed t) sigil e b = absurd (true≢false (sym b ∙ ap begins_key_subject (sym e)))

subject_keeps : (key : OpenShape) (line : List ℕ) (at : ℕ) → Keeps (λ r. may_be_subject (slice_get key.variables r.0) ≡ true) (KeySubjectSays key line at)
subject_keeps key line at =
    keeps_where P (begins_key_subject (get_or line at 0)) (DeclaredSays key line at) _
    (λ begins. keeps_word P line at _ (λ end run. keeps_is P _ (declared_good P key.variables (slice_range line at end) end
    (λ sigil name place s w here is inside. ap may_be_subject here ∙ subject_slot s sigil is (ap begins_key_subject (sym (word_head line at end sigil name w)) ∙ begins)))))
    (λ _. keeps_is P _ tt)
  where
    P : ℕ × ℕ → Type 0
    P r = may_be_subject (slice_get key.variables r.0) ≡ true

object_keeps : (key : OpenShape) (line : List ℕ) (at : ℕ) → Keeps (λ r. IsThere key r.0) (ObjectSays key line at)
object_keeps key line at =
    keeps_where (λ r. IsThere key r.0) _ _ _
    (λ _. keeps_then (λ r. IsThere key r.0) (DeclaredSays key line at) _ (λ read says. keeps_is (λ r. IsThere key r.0) _
    (keeps_word (λ r. r.0 < length key.variables) line at _ (λ end run. keeps_is (λ r. r.0 < length key.variables) _ (declared_good (λ r. r.0 < length key.variables) key.variables (slice_range line at end) end
    (λ sigil name place s w here is inside. inside))) (Ok read) says)))
    (λ _. keeps_then (λ r. IsThere key r.0) _ _ (λ read says. keeps_is (λ r. IsThere key r.0) _ tt))

module _ (key : OpenShape) (fair : IsFair key) (line : List ℕ) (at : ℕ) where
  typed_keeps : (sigil : ℕ) → Keeps (IsFairAs key.name) (TypedSays sigil key line at)
  typed_keeps sigil =
      keeps_then (IsFairAs key.name) _ _ (λ name _. keeps_then (IsFairAs key.name) _ _ (λ type _. keeps_close (IsFairAs key.name) line type.1 _
      (keeps_is (IsFairAs key.name) _ (declare_fair key fair (typed_slot sigil name.0 type.0) (typed_variable sigil name.0 type.0)))))
    where
      typed_variable : (sigil : ℕ) (name : List ℕ) (type : Term) → is_no_constant (typed_slot sigil name type) ≡ true
      typed_variable sigil name type = either (eqb sigil 0x3F)
        where
          either : (b : Bool) → is_no_constant (cond b (Entity name type) (Any name type)) ≡ true
          either true = refl
          either false = refl

  value_keeps : (folded : Bool) → Keeps (IsFairAs key.name) (ValueSays folded key line at)
  value_keeps folded =
      keeps_then (IsFairAs key.name) _ _ (λ name _. keeps_close (IsFairAs key.name) line name.1 _
      (keeps_is (IsFairAs key.name) _ (declare_fair key fair (slot_of_value folded name.0) (value_variable folded name.0))))
    where
      value_variable : (folded : Bool) (name : List ℕ) → is_no_constant (slot_of_value folded name) ≡ true
      value_variable true name = refl
      value_variable false name = refl

  triple_keeps : Keeps (IsFairAs key.name) (TripleSays key line at)
  triple_keeps =
      keeps_then (IsFairAs key.name) (KeySubjectSays key line at) _ (λ from subject. keeps_then (IsFairAs key.name) _ _ (λ pred _.
      keeps_then (IsFairAs key.name) (Skipping line pred.1 (ObjectSays key line)) _ (λ to object. keeps_close (IsFairAs key.name) line to.1 _ (keeps_is (IsFairAs key.name) _
      (link_fair key fair from.0 pred.0 to.0 (subject_keeps key line at (Ok from) subject)
      (keeps_skip (λ r. IsThere key r.0) line pred.1 (ObjectSays key line) (λ n. object_keeps key line n) (Ok to) object))))))

changes_keeps : (keys : List KeyShape) (key : OpenShape) → IsFairBeside keys key → (Says : Result OpenShape KeyFault → Type 0) → Keeps (IsFairAs key.name) Says
    → Keeps IsFairState (Changes keys Says)
changes_keeps keys key beside Says h =
    keeps_then IsFairState Says _ (λ changed says. keeps_is IsFairState _
    (let f = h (Ok changed) says in record { fair = f.0; few = beside.few; fresh = ap (has_name keys) f.1 ∙ beside.fresh }))

key_keeps : (keys : List KeyShape) (line : List ℕ) (at : ℕ) → length keys < 64 → Keeps IsFairState (KeySays keys line at)
key_keeps keys line at few =
    keeps_then IsFairState _ _ (λ name _. keeps_then IsFairState _ _ (λ type _. keeps_close IsFairState line type.1 _ (keeps_is IsFairState _ (begin_fair keys name.0 type.0 few))))

outside_keeps : (keys : List KeyShape) (w : Keyword) (line : List ℕ) (at : ℕ) → Keeps IsFairState (OutsideSays keys w line at)
outside_keeps keys word.Key line at = keeps_where IsFairState (nat_lt (length keys) 64) _ _ (λ few. key_keeps keys line at (ltb-true _ _ few)) (λ _. keeps_is IsFairState _ tt)
outside_keeps keys word.Entity line at = keeps_is IsFairState _ tt
outside_keeps keys word.Any line at = keeps_is IsFairState _ tt
outside_keeps keys word.Value line at = keeps_is IsFairState _ tt
outside_keeps keys word.Folded line at = keeps_is IsFairState _ tt
outside_keeps keys word.End line at = keeps_is IsFairState _ tt

inside_keeps : (keys : List KeyShape) (key : OpenShape) → IsFairBeside keys key → (w : Keyword) (line : List ℕ) (at : ℕ) → Keeps IsFairState (InsideSays keys key w line at)
inside_keeps keys key beside word.Key line at = keeps_is IsFairState _ tt
inside_keeps keys key beside word.Entity line at = changes_keeps keys key beside _ (typed_keeps key beside.fair line at 0x3F)
inside_keeps keys key beside word.Any line at = changes_keeps keys key beside _ (typed_keeps key beside.fair line at 0x5F)
inside_keeps keys key beside word.Value line at = changes_keeps keys key beside _ (value_keeps key beside.fair line at false)
inside_keeps keys key beside word.Folded line at = changes_keeps keys key beside _ (value_keeps key beside.fair line at true)
inside_keeps keys key beside word.End line at = keeps_then IsFairState _ _ (λ whole _. keeps_is IsFairState _ tt)

words_keep : (keys : List KeyShape) (current : Option OpenShape) → IsFairState (record { keys = keys; current = current }) → (w : Option Keyword) (line : List ℕ) (at : ℕ)
    → Keeps IsFairState (WordSays (record { keys = keys; current = current }) w line at)
words_keep keys current fair None line at = keeps_is IsFairState _ tt
words_keep keys None fair (Some w) line at = outside_keeps keys w line at
words_keep keys (Some key) fair (Some w) line at = inside_keeps keys key fair w line at

link_keeps : (keys : List KeyShape) (current : Option OpenShape) → IsFairState (record { keys = keys; current = current }) → (line : List ℕ) (at : ℕ) → Keeps IsFairState (LinkSays keys current line at)
link_keeps keys None fair line at = keeps_is IsFairState _ tt
link_keeps keys (Some key) fair line at = changes_keeps keys key fair _ (triple_keeps key fair.fair line at)

-- each good line
pub line_keeps : (state : KeyState) → IsFairState state → (line : List ℕ) → Keeps IsFairState (KeyLineSays state line)
line_keeps state fair line answer (no_text n) = tt
line_keeps state fair line answer (text u s) =
    keeps_skip IsFairState line 0 _ (λ at. keeps_where IsFairState (is_over line at) _ (StatementSays state line at) (λ _. keeps_is IsFairState _ fair) (λ _.
    keeps_where IsFairState _ _ _ (λ _. link_keeps state.keys state.current fair line at)
    (λ _. keeps_word IsFairState line at _ (λ end run. words_keep state.keys state.current fair (keyword_of (slice_range line at end)) line end)))) answer s
