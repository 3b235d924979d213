-- What stands at a place is one thing.
use Rattle.std.proofs.Common.{◌≡◌, ℕ, ◌+◌, false, eqb, List, [], ◌∷◌, ◌++◌, length, drop, Ok, Err, refl, sym, ap, ap₂, ◌∙◌, subst, inl, inr, ◌⊎◌, append_assoc}
use Rattle.gk_base.specs.declared.term.Term.{Term}
use Rattle.gk_base.specs.declared.term.Term.TheVariants.{Iri, Blank}
use Rattle.gk_base.specs.declared.lex_fault.LexFault.{LexFault}
use Rattle.gk_base.specs.declared.lex_fault.LexFault.TheVariants.{ObjectExpected, BadBlankNodeLabel}
use Rattle.gk_base.specs.Answers.{HasOne}
use Rattle.nt_lex.specs.Scans.{NextFails}
use Rattle.nt_lex.specs.Written.{spelling}
use Rattle.nt_lex.specs.Spelling.{SpellsIri, SpellsString, SpellsLabel, SpellsSuffix, Spells, iri, blank, literal}
use Rattle.nt_lex.specs.Reading.{TermStops, SuffixStops, IriFails, LabelFails, StringFails, SuffixFails, begins_term, FailsFrom, no_term, bad_iri, bad_label, bad_string, bad_suffix, Reads, Says}
use Rattle.nt_lex.proofs.ScanLemmas.{heads_differ, next_fails}
use Rattle.nt_lex.proofs.GrammarLemmas.{iri_once, iri_conflict, iri_fault_once, string_once, string_conflict, string_fault_once}
use Rattle.nt_lex.proofs.LabelLemmas.{label_once, label_conflict}
use Rattle.nt_lex.proofs.SuffixLemmas.{suffix_once, suffix_conflict, suffix_fault_once}

-- the byte with which each term begins, and the rest of it with more that follows
pub iri_head : {p t : List ℕ} (r : List ℕ) (x : SpellsIri p t) → p ++ r ≡ 0x3C ∷ ((spelling x.written ++ 0x3E ∷ []) ++ r)
iri_head r x = ap (λ (l : List ℕ). l ++ r) x.whole

pub string_head : {p t : List ℕ} (r : List ℕ) (x : SpellsString p t) → p ++ r ≡ 0x22 ∷ ((spelling x.written ++ 0x22 ∷ []) ++ r)
string_head r x = ap (λ (l : List ℕ). l ++ r) x.whole

pub label_head : {p l : List ℕ} (r : List ℕ) (x : SpellsLabel p l) → p ++ r ≡ 0x5F ∷ (0x3A ∷ l ++ r)
label_head {p} {l} r x = ap (λ (q : List ℕ). q ++ r) x.whole

pub literal_bytes : (p string suffix r : List ℕ) → p ≡ string ++ suffix → p ++ r ≡ string ++ (suffix ++ r)
literal_bytes p string suffix r e = ap (λ (l : List ℕ). l ++ r) e ∙ append_assoc string suffix r

-- the same bytes begin with one byte
two_heads : (a b : ℕ) (l m n : List ℕ) → eqb a b ≡ false → l ≡ a ∷ m → l ≡ b ∷ n → ⊥
two_heads a b l m n other x y = heads_differ a b m n other (sym x ∙ y)

same_form : {form form' suffix suffix' : List ℕ} {t u : Term} (r s : List ℕ) → form ≡ form' → (xs : SpellsSuffix suffix form t) (ys : SpellsSuffix suffix' form' u)
    → SuffixStops xs r → SuffixStops ys s → suffix ++ r ≡ suffix' ++ s → (t ≡ u) × (suffix ≡ suffix')
same_form {form} {form'} {suffix} {suffix'} {t} {u} r s forms =
    subst (λ f. (xs : SpellsSuffix suffix form t) (ys : SpellsSuffix suffix' f u) → SuffixStops xs r → SuffixStops ys s → suffix ++ r ≡ suffix' ++ s → (t ≡ u) × (suffix ≡ suffix'))
    forms (λ xs ys sx sy e. suffix_once suffix suffix' form r s t u xs ys sx sy e)

-- two readings of literals whose strings are the same
literal_once : (p q r s : List ℕ) (t u : Term) (string string' form form' suffix suffix' : List ℕ) (xs : SpellsSuffix suffix form t) (ys : SpellsSuffix suffix' form' u)
    → p ≡ string ++ suffix → q ≡ string' ++ suffix' → SuffixStops xs r → SuffixStops ys s → string ≡ string' → form ≡ form' → suffix ++ r ≡ suffix' ++ s → (t ≡ u) × (p ≡ q)
literal_once p q r s t u string string' form form' suffix suffix' xs ys v w sx sy strings forms e =
    let one = same_form r s forms xs ys sx sy e in
    (one.0, v ∙ ap₂ (λ (a b : List ℕ). a ++ b) strings one.1 ∙ sym w)

-- two readings of the same bytes
pub term_once : (p q r s : List ℕ) (t u : Term) (x : Spells p t) (y : Spells q u) → TermStops x r → TermStops y s → p ++ r ≡ q ++ s → (t ≡ u) × (p ≡ q)
term_once p q r s t u (iri {text} x) (iri {text = text'} y) sx sy e = let one = iri_once p q text text' r s x y e in (ap Iri one.1, one.0)
term_once p q r s t u (iri x) (blank y) sx sy e = absurd (two_heads 0x3C 0x5F (p ++ r) _ _ refl (iri_head r x) (e ∙ label_head s y))
term_once p q r s t u (iri x) (literal {string} {form} {suffix} y ys w) sx sy e =
    absurd (two_heads 0x3C 0x22 (p ++ r) _ _ refl (iri_head r x) (e ∙ literal_bytes q string suffix s w ∙ string_head (suffix ++ s) y))
term_once p q r s t u (blank x) (iri y) sx sy e = absurd (two_heads 0x5F 0x3C (p ++ r) _ _ refl (label_head r x) (e ∙ iri_head s y))
term_once p q r s t u (blank {label} x) (blank {label = label'} y) sx sy e = let one = label_once p q label label' r s x y sx sy e in (ap Blank one.1, one.0)
term_once p q r s t u (blank x) (literal {string} {form} {suffix} y ys w) sx sy e =
    absurd (two_heads 0x5F 0x22 (p ++ r) _ _ refl (label_head r x) (e ∙ literal_bytes q string suffix s w ∙ string_head (suffix ++ s) y))
term_once p q r s t u (literal {string} {form} {suffix} x xs v) (iri y) sx sy e =
    absurd (two_heads 0x22 0x3C (p ++ r) _ _ refl (literal_bytes p string suffix r v ∙ string_head (suffix ++ r) x) (e ∙ iri_head s y))
term_once p q r s t u (literal {string} {form} {suffix} x xs v) (blank y) sx sy e =
    absurd (two_heads 0x22 0x5F (p ++ r) _ _ refl (literal_bytes p string suffix r v ∙ string_head (suffix ++ r) x) (e ∙ label_head s y))
term_once p q r s t u (literal {string} {form} {suffix} x xs v) (literal {string = string'} {form = form'} {suffix = suffix'} y ys w) sx sy e =
    let one = string_once string string' form form' (suffix ++ r) (suffix' ++ s) x y (sym (literal_bytes p string suffix r v) ∙ e ∙ literal_bytes q string' suffix' s w) in
    literal_once p q r s t u string string' form form' suffix suffix' xs ys v w sx sy one.0 one.1 one.2

-- what stands at the byte of each kind, where no term is read
pub at_none : (bytes : List ℕ) (fault : LexFault) → NextFails begins_term bytes → FailsFrom bytes fault → fault ≡ ObjectExpected
at_none bytes fault n (no_term m) = refl
at_none bytes fault n (bad_iri {more} e f) = absurd (next_fails begins_term 0x3C more bytes n e refl)
at_none bytes fault n (bad_label {more} e f) = absurd (next_fails begins_term 0x5F more bytes n e refl)
at_none bytes fault n (bad_string {more} e f) = absurd (next_fails begins_term 0x22 more bytes n e refl)
at_none bytes fault n (bad_suffix {string} {form} {after} x e f) = absurd (next_fails begins_term 0x22 _ bytes n (e ∙ string_head after x) refl)

pub at_iri : (bytes more : List ℕ) (fault : LexFault) → bytes ≡ 0x3C ∷ more → FailsFrom bytes fault → IriFails more fault
at_iri bytes more fault is (no_term n) = absurd (next_fails begins_term 0x3C more bytes n is refl)
at_iri bytes more fault is (bad_iri {more = other} e f) = subst (λ l. IriFails l fault) (ap (drop 1) (sym e ∙ is)) f
at_iri bytes more fault is (bad_label e f) = absurd (two_heads 0x3C 0x5F bytes _ _ refl is e)
at_iri bytes more fault is (bad_string e f) = absurd (two_heads 0x3C 0x22 bytes _ _ refl is e)
at_iri bytes more fault is (bad_suffix {string} {form} {after} x e f) = absurd (two_heads 0x3C 0x22 bytes _ _ refl is (e ∙ string_head after x))

pub at_label : (bytes more : List ℕ) (fault : LexFault) → bytes ≡ 0x5F ∷ more → FailsFrom bytes fault → (fault ≡ BadBlankNodeLabel) × LabelFails more
at_label bytes more fault is (no_term n) = absurd (next_fails begins_term 0x5F more bytes n is refl)
at_label bytes more fault is (bad_iri e f) = absurd (two_heads 0x5F 0x3C bytes _ _ refl is e)
at_label bytes more fault is (bad_label {more = other} e f) = (refl, subst LabelFails (ap (drop 1) (sym e ∙ is)) f)
at_label bytes more fault is (bad_string e f) = absurd (two_heads 0x5F 0x22 bytes _ _ refl is e)
at_label bytes more fault is (bad_suffix {string} {form} {after} x e f) = absurd (two_heads 0x5F 0x22 bytes _ _ refl is (e ∙ string_head after x))

-- the suffix of a literal is faulty
record SuffixCase (bytes : List ℕ) (fault : LexFault) : Type 0 where
  string : List ℕ
  form : List ℕ
  after : List ℕ
  spells : SpellsString string form
  whole : bytes ≡ string ++ after
  fails : SuffixFails after fault

at_string : (bytes more : List ℕ) (fault : LexFault) → bytes ≡ 0x22 ∷ more → FailsFrom bytes fault → StringFails more fault ⊎ SuffixCase bytes fault
at_string bytes more fault is (no_term n) = absurd (next_fails begins_term 0x22 more bytes n is refl)
at_string bytes more fault is (bad_iri e f) = absurd (two_heads 0x22 0x3C bytes _ _ refl is e)
at_string bytes more fault is (bad_label e f) = absurd (two_heads 0x22 0x5F bytes _ _ refl is e)
at_string bytes more fault is (bad_string {more = other} e f) = inl (subst (λ l. StringFails l fault) (ap (drop 1) (sym e ∙ is)) f)
at_string bytes more fault is (bad_suffix {string} {form} {after} x e f) = inr (record { string = string; form = form; after = after; spells = x; whole = e; fails = f })

-- what is read is not faulty
pub term_conflict : (p r bytes : List ℕ) (t : Term) (fault : LexFault) (x : Spells p t) → TermStops x r → p ++ r ≡ bytes → FailsFrom bytes fault → ⊥
term_conflict p r bytes t fault (iri {text} x) stops e f =
    iri_conflict p text r _ fault x (iri_head r x) (at_iri bytes _ fault (sym e ∙ iri_head r x) f)
term_conflict p r bytes t fault (blank {label} x) stops e f =
    label_conflict p label r _ x (label_head r x) (at_label bytes _ fault (sym e ∙ label_head r x) f).1
term_conflict p r bytes t fault (literal {string} {form} {suffix} x s w) stops e f =
    let whole : bytes ≡ string ++ (suffix ++ r) = sym e ∙ literal_bytes p string suffix r w in
    elim (at_string bytes _ fault (whole ∙ string_head (suffix ++ r) x) f) [
      | inl g ↦ string_conflict string form (suffix ++ r) _ fault x (string_head (suffix ++ r) x) g
      | inr g ↦ suffix_conflict suffix form r g.after t fault s stops (string_once string g.string form g.form (suffix ++ r) g.after x g.spells (sym whole ∙ g.whole)).2 g.fails
    ]

string_cases : (bytes more : List ℕ) (fault other : LexFault) → bytes ≡ 0x22 ∷ more → StringFails more fault → FailsFrom bytes other → fault ≡ other
string_cases bytes more fault other is f g = elim (at_string bytes more other is g) [
  | inl h ↦ string_fault_once more fault other f h
  | inr h ↦ absurd (string_conflict h.string h.form h.after more fault h.spells (sym h.whole ∙ is) f)
]

suffix_cases : (bytes string form after : List ℕ) (fault other : LexFault) → SpellsString string form → bytes ≡ string ++ after → SuffixFails after fault
    → FailsFrom bytes other → fault ≡ other
suffix_cases bytes string form after fault other x e f g = elim (at_string bytes _ other (e ∙ string_head after x) g) [
  | inl h ↦ absurd (string_conflict string form after _ other x (string_head after x) h)
  | inr h ↦ suffix_fault_once after fault other f
      (subst (λ l. SuffixFails l other) (sym (string_once string h.string form h.form after h.after x h.spells (sym e ∙ h.whole)).2) h.fails)
]

-- there is one fault
pub fault_once : (bytes : List ℕ) (fault other : LexFault) → FailsFrom bytes fault → FailsFrom bytes other → fault ≡ other
fault_once bytes fault other (no_term n) g = sym (at_none bytes other n g)
fault_once bytes fault other (bad_iri {more} e f) g = iri_fault_once more fault other f (at_iri bytes more other e g)
fault_once bytes fault other (bad_label {more} e f) g = sym (at_label bytes more other e g).0
fault_once bytes fault other (bad_string {more} e f) g = string_cases bytes more fault other e f g
fault_once bytes fault other (bad_suffix {string} {form} {after} x e f) g = suffix_cases bytes string form after fault other x e f g

pub reads_once : (line : List ℕ) (at end other : ℕ) (t u : Term) → Reads line at t end → Reads line at u other → (t ≡ u) × (end ≡ other)
reads_once line at end other t u x y =
    let one = term_once x.piece y.piece x.rest y.rest t u x.spells y.spells x.stops y.stops (sym x.here ∙ y.here) in
    (one.0, x.ends ∙ ap (λ (q : List ℕ). at + length q) one.1 ∙ sym y.ends)

pub says_once : (line : List ℕ) (at : ℕ) → HasOne (Says line at)
says_once line at (Ok x) (Ok y) a b = let one = reads_once line at x.1 y.1 x.0 y.0 a b in ap₂ (λ t n. Ok (t, n)) one.0 one.1
says_once line at (Ok x) (Err f) a b = absurd (term_conflict a.piece a.rest (drop at line) x.0 f a.spells a.stops (sym a.here) b)
says_once line at (Err f) (Ok x) a b = absurd (term_conflict b.piece b.rest (drop at line) x.0 f b.spells b.stops (sym b.here) a)
says_once line at (Err f) (Err g) a b = ap Err (fault_once (drop at line) f g a b)
