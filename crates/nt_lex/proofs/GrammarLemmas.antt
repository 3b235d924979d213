-- IRIs and strings: one reading, or one fault.
use Rattle.std.proofs.Common.{◌≡◌, ℕ, List, [], ◌∷◌, ◌++◌, drop, refl, sym, ap, ◌∙◌, subst, arith, append_assoc}
use Rattle.gk_base.specs.declared.lex_fault.LexFault.{LexFault}
use Rattle.gk_base.specs.declared.lex_fault.LexFault.TheVariants.{RelativeIri}
use Rattle.nt_lex.specs.Chars.{is_iri_excluded, is_string_excluded, is_escape_letter, is_absolute}
use Rattle.nt_lex.specs.Written.{Written, in_iri, in_string, is_no_letter, spelling, meaning, Stops, Runs}
use Rattle.nt_lex.specs.Spelling.{SpellsIri, SpellsString}
use Rattle.nt_lex.specs.Reading.{iri_fault, string_fault, IriFails, StringFails}
use Rattle.nt_lex.proofs.CharLemmas.{high_iri, high_string}
use Rattle.nt_lex.proofs.WrittenLemmas.{Runs_once, stop_byte, true_false}

pub iri_runs_once : (bytes : List ℕ) (ws vs : List Written) (r t : List ℕ) → Runs in_iri bytes ws r → Runs in_iri bytes vs t → (ws ≡ vs) × (r ≡ t)
iri_runs_once bytes ws vs r t x y = Runs_once is_iri_excluded is_no_letter refl refl refl bytes ws vs r t x y

pub string_runs_once : (bytes : List ℕ) (ws vs : List Written) (r t : List ℕ) → Runs in_string bytes ws r → Runs in_string bytes vs t → (ws ≡ vs) × (r ≡ t)
string_runs_once bytes ws vs r t x y = Runs_once is_string_excluded is_escape_letter refl refl refl bytes ws vs r t x y

iri_closes : (more : List ℕ) → Stops in_iri (0x3E ∷ more)
iri_closes more = record { none = λ w rest m e. stop_byte is_iri_excluded is_no_letter refl refl refl high_iri 0x3E more rest w refl (λ p. omega (arith, p)) m e }

string_closes : (more : List ℕ) → Stops in_string (0x22 ∷ more)
string_closes more = record { none = λ w rest m e. stop_byte is_string_excluded is_escape_letter refl refl refl high_string 0x22 more rest w refl (λ p. omega (arith, p)) m e }

-- the characters of an IRI that more bytes follow
pub iri_runs : (piece text r : List ℕ) (s : SpellsIri piece text) → Runs in_iri (drop 1 (piece ++ r)) s.written (0x3E ∷ r)
iri_runs piece text r s = record {
  each = s.each;
  whole = ap (λ (l : List ℕ). drop 1 (l ++ r)) s.whole ∙ append_assoc (spelling s.written) (0x3E ∷ []) r;
  stops = iri_closes r;
}

pub string_runs : (piece text r : List ℕ) (s : SpellsString piece text) → Runs in_string (drop 1 (piece ++ r)) s.written (0x22 ∷ r)
string_runs piece text r s = record {
  each = s.each;
  whole = ap (λ (l : List ℕ). drop 1 (l ++ r)) s.whole ∙ append_assoc (spelling s.written) (0x22 ∷ []) r;
  stops = string_closes r;
}

pub iri_once : (p q t u r s : List ℕ) → SpellsIri p t → SpellsIri q u → p ++ r ≡ q ++ s → (p ≡ q) × (t ≡ u) × (r ≡ s)
iri_once p q t u r s x y e =
    let one = iri_runs_once (drop 1 (p ++ r)) x.written y.written (0x3E ∷ r) (0x3E ∷ s) (iri_runs p t r x)
    (subst (λ (l : List ℕ). Runs in_iri (drop 1 l) y.written (0x3E ∷ s)) (sym e) (iri_runs q u s y)) in
    (x.whole ∙ ap (λ ws. 0x3C ∷ (spelling ws ++ 0x3E ∷ [])) one.0 ∙ sym y.whole, x.says ∙ ap meaning one.0 ∙ sym y.says, ap (drop 1) one.1)

pub string_once : (p q t u r s : List ℕ) → SpellsString p t → SpellsString q u → p ++ r ≡ q ++ s → (p ≡ q) × (t ≡ u) × (r ≡ s)
string_once p q t u r s x y e =
    let one = string_runs_once (drop 1 (p ++ r)) x.written y.written (0x22 ∷ r) (0x22 ∷ s) (string_runs p t r x)
    (subst (λ (l : List ℕ). Runs in_string (drop 1 l) y.written (0x22 ∷ s)) (sym e) (string_runs q u s y)) in
    (x.whole ∙ ap (λ ws. 0x22 ∷ (spelling ws ++ 0x22 ∷ [])) one.0 ∙ sym y.whole, x.says ∙ ap meaning one.0 ∙ sym y.says, ap (drop 1) one.1)

-- what spells an IRI is not faulty
pub iri_conflict : (p t r more : List ℕ) (fault : LexFault) → SpellsIri p t → p ++ r ≡ 0x3C ∷ more → IriFails more fault → ⊥
iri_conflict p t r more fault x e f =
    let one = iri_runs_once more x.written f.written (0x3E ∷ r) f.rest
    (subst (λ (l : List ℕ). Runs in_iri (drop 1 l) x.written (0x3E ∷ r)) e (iri_runs p t r x)) f.runs in
    let is : fault ≡ RelativeIri = f.cause ∙ ap iri_fault (sym one.1) in
    true_false (sym x.absolute ∙ ap is_absolute (x.says ∙ ap meaning one.0) ∙ f.relative is)

pub iri_fault_once : (more : List ℕ) (fault other : LexFault) → IriFails more fault → IriFails more other → fault ≡ other
iri_fault_once more fault other a b =
    let one = iri_runs_once more a.written b.written a.rest b.rest a.runs b.runs in
    a.cause ∙ ap iri_fault one.1 ∙ sym b.cause

-- what spells a string is not faulty
pub string_conflict : (p t r more : List ℕ) (fault : LexFault) → SpellsString p t → p ++ r ≡ 0x22 ∷ more → StringFails more fault → ⊥
string_conflict p t r more fault x e f =
    let one = string_runs_once more x.written f.written (0x22 ∷ r) f.rest
    (subst (λ (l : List ℕ). Runs in_string (drop 1 l) x.written (0x22 ∷ r)) e (string_runs p t r x)) f.runs in
    f.open_still r (sym one.1)

pub string_fault_once : (more : List ℕ) (fault other : LexFault) → StringFails more fault → StringFails more other → fault ≡ other
string_fault_once more fault other a b =
    let one = string_runs_once more a.written b.written a.rest b.rest a.runs b.runs in
    a.cause ∙ ap string_fault one.1 ∙ sym b.cause
