-- What a key file says in its terms and names, as far as it was read, can be written again.
use Rattle.std.proofs.Common.{◌≡◌, ℕ, true, false, eqb, List, [], ◌∷◌, ◌++◌, drop, get_or, slice_range, bytes_eq, Result, Ok, Err, refl, sym, ap, ◌∙◌, arith, inl, inr}
use Rattle.std.proofs.lemmas.Bool.{and_parts, cases_Bool, eq-eqb, true≢false}
use Rattle.std.proofs.lemmas.List.{get_or-drop}
use Rattle.std.specs.Cmp.Lexicographic.{bytes_decides}
use Rattle.gk_base.specs.declared.lex_fault.LexFault.{LexFault}
use Rattle.gk_base.specs.declared.term.Term.{Term}
use Rattle.gk_base.specs.declared.term.Term.TheVariants.{Iri}
use Rattle.nt_lex.specs.Spelling.{xsd_string, SpellsSuffix, plain, typed, tagged, Spells, iri, blank, literal}
use Rattle.nt_lex.specs.Reading.{Says, TermStops}
use Rattle.term_text.specs.CanonicalText.{term_text}
use Rattle.term_text.proofs.CallerLemmas.{spelled_whole}
use Rattle.gk_base.specs.Answers.{Gives}
use Rattle.key_lang.specs.declared.fault.KeyFault.TheVariants.{BadName}
use Rattle.key_lang.specs.Answers.{Lexed, reads, fails}
use Rattle.key_file.specs.Name.{is_name}
use Rattle.key_lang.specs.Tokens.{is_variable, variable_of, NameSays, VariableSays, begins_iri, IriSays, begins_constant, ConstantSays}
use Rattle.key_lang.proofs.GoodLemmas.{Good, Keeps, good_if, keeps_is, keeps_where, keeps_word}
use Rattle.key_lang.proofs.LineForms.{IsIri, IsGiven}

-- the byte with which what stands at a place begins
head_is : (line : List ℕ) (at b : ℕ) (more : List ℕ) → drop at line ≡ b ∷ more → get_or line at 0 ≡ b
head_is line at b more e = ap (λ n. get_or line n 0) (omega arith) ∙ sym (get_or-drop at line 0 0) ∙ ap (λ (l : List ℕ). get_or l 0 0) e

heads : (a b : ℕ) (m n : List ℕ) → eqb a b ≡ false → a ∷ m ≡ b ∷ n → ⊥
heads a b m n apart e = true≢false (sym (ap (λ (l : List ℕ). eqb (get_or l 0 0) b) e ∙ eq_refl b) ∙ apart)
  where
    eq_refl : (b : ℕ) → eqb b b ≡ true
    eq_refl b = eq-eqb b b refl

-- an IRIREF stops at its `>`
stops_iri : (piece : List ℕ) (t : Term) (x : Spells piece t) (more : List ℕ) → piece ≡ 0x3C ∷ more → (rest : List ℕ) → TermStops x rest
stops_iri piece t (iri s) more e rest = tt
stops_iri piece t (blank s) more e rest = absurd (heads 0x5F 0x3C _ more refl (sym s.whole ∙ e))
stops_iri piece t (literal {suffix = after} s suffix whole) more e rest = absurd (heads 0x22 0x3C _ more refl (sym (whole ∙ ap (λ (l : List ℕ). l ++ after) s.whole) ∙ e))

iri_kind : (piece rest line : List ℕ) (at : ℕ) (t : Term) → Spells piece t → drop at line ≡ piece ++ rest → begins_iri (get_or line at 0) ≡ true → IsIri t
iri_kind piece rest line at t (iri {text = text} s) e b = record {
  spells = (spelled_whole piece (Iri text) (iri s)).spells;
  stops = stops_iri (term_text (Iri text)) (Iri text) (spelled_whole piece (Iri text) (iri s)).spells _ refl;
  more = _;
  first = refl;
}
iri_kind piece rest line at t (blank s) e b =
    absurd (true≢false (sym b ∙ ap begins_iri (head_is line at 0x5F _ (e ∙ ap (λ (l : List ℕ). l ++ rest) s.whole))))
iri_kind piece rest line at t (literal {suffix = after} s suffix whole) e b =
    absurd (true≢false (sym b ∙ ap begins_iri (head_is line at 0x22 _ (e ∙ ap (λ (l : List ℕ). l ++ rest) (whole ∙ ap (λ (l : List ℕ). l ++ after) s.whole)))))

-- the canonical text of a literal begins with a quotation mark
quoted : (suffix form : List ℕ) (t : Term) → SpellsSuffix suffix form t → (more : List ℕ) × (term_text t ≡ 0x22 ∷ more)
quoted suffix form t (plain e) = (_, refl)
quoted suffix form t (typed {datatype = datatype} carets spells has) = elim (cases_Bool (bytes_eq datatype xsd_string)) [
  | inl is ↦ (_, ap term_text (has.plain ((bytes_decides datatype xsd_string).0 is)))
  | inr isnt ↦ (_, ap term_text (has.typed (λ e. true≢false (sym ((bytes_decides datatype xsd_string).1 e) ∙ isnt))))
]
quoted suffix form t (tagged at is) = (_, refl)

given_kind : (piece rest line : List ℕ) (at : ℕ) (t : Term) → Spells piece t → drop at line ≡ piece ++ rest → begins_constant (get_or line at 0) ≡ true → IsGiven t
given_kind piece rest line at t (iri {text = text} s) e b =
    let w = spelled_whole piece (Iri text) (iri s) in
    record { spells = w.spells; stops = w.stops; head = 0x3C; more = _; first = refl; begins = refl }
given_kind piece rest line at t (blank s) e b =
    absurd (true≢false (sym b ∙ ap begins_constant (head_is line at 0x5F _ (e ∙ ap (λ (l : List ℕ). l ++ rest) s.whole))))
given_kind piece rest line at t (literal {string = string} {form = form} {suffix = suffix} s sfx whole) e b =
    let w = spelled_whole piece t (literal s sfx whole) in
    let q = quoted suffix form t sfx in
    record { spells = w.spells; stops = w.stops; head = 0x22; more = q.0; first = q.1; begins = refl }

-- what the tokens of a line are
lexed_keeps : {A : Type 0} (P : A → Type 0) (Gives : Result A LexFault → Type 0) → ((x : A) → Gives (Ok x) → P x) → Keeps P (Lexed {A = A} Gives)
lexed_keeps {A} P Gives h answer (reads {x = x} r) = h x r
lexed_keeps {A} P Gives h answer (fails f) = tt

pub iri_keeps : (line : List ℕ) (at : ℕ) → Keeps (λ r. IsIri r.0) (IriSays line at)
iri_keeps line at =
    keeps_where (λ r. IsIri r.0) _ _ _ (λ b. lexed_keeps (λ r. IsIri r.0) (Says line at) (λ x r. iri_kind r.piece r.rest line at x.0 r.spells r.here b)) (λ _. keeps_is (λ r. IsIri r.0) _ tt)

pub constant_keeps : (line : List ℕ) (at : ℕ) → Keeps (λ r. IsGiven r.0) (ConstantSays line at)
constant_keeps line at =
    keeps_where (λ r. IsGiven r.0) _ _ _ (λ b. lexed_keeps (λ r. IsGiven r.0) (Says line at) (λ x r. given_kind r.piece r.rest line at x.0 r.spells r.here b)) (λ _. keeps_is (λ r. IsGiven r.0) _ tt)

abbrev pub IsNamed : List ℕ × ℕ → Type 0
IsNamed r = is_name r.0 ≡ true

pub name_keeps : (line : List ℕ) (at : ℕ) → Keeps IsNamed (NameSays line at)
name_keeps line at =
    keeps_word IsNamed line at _ (λ end run. keeps_is IsNamed _
    (good_if IsNamed (is_name (slice_range line at end)) (Ok (slice_range line at end, end)) (Err BadName) (λ n. n) (λ _. tt)))

pub variable_keeps : (sigil : ℕ) (line : List ℕ) (at : ℕ) → Keeps IsNamed (VariableSays sigil line at)
variable_keeps sigil line at = keeps_word IsNamed line at _ (λ end run. keeps_is IsNamed _ (of_word (slice_range line at end) end))
  where
    of_word : (w : List ℕ) (end : ℕ) → Good IsNamed (variable_of sigil w end)
    of_word [] end = tt
    of_word (b ∷ name) end = good_if IsNamed (is_variable sigil (b ∷ name)) (Ok (name, end)) (Err BadName) (λ n. (and_parts _ _ n).1) (λ _. tt)
