-- A file says one thing.
use Rattle.std.proofs.Common.{◌≡◌, ℕ, ◌+◌, ◌<◌, ◌≤◌, List, [], ◌∷◌, ◌++◌, length, take, drop, refl, sym, ap, ap₂, ◌∙◌, subst, inl, inr, arith, length-append, Option, Some, Result, Ok, Err}
use Rattle.std.proofs.lemmas.Bool.{cond-true, cond-false, le-leb, lt-leb}
use Rattle.std.proofs.lemmas.List.Elements.{filter_map-append}
use Rattle.std.specs.List.{AllZip}
use Rattle.gk_base.specs.declared.term.Triple.{Triple}
use Rattle.gk_base.specs.declared.limits.Limits.{Limits}
use Rattle.gk_base.specs.declared.lex_fault.LexFault.{LexFault}
use Rattle.gk_base.specs.declared.read_fault.ReadFault.{ReadFault}
use Rattle.gk_base.specs.declared.read_fault.ReadFault.TheVariants.{Lex}
use Rattle.gk_base.specs.declared.read_fault.ReadRefusal.{ReadRefusal}
use Rattle.nt_reader.specs.Line.{LineSays}
use Rattle.nt_reader.specs.Lines.{cut_of, lines}
use Rattle.nt_reader.specs.File.{triples_of, IsGood, AreGood, RefusesLine, StopsIn, judged, IsTooLong, FileSays}
use Rattle.nt_reader.proofs.LineLemmas.{line_once}

said_same : (x y : Option Triple) → Path (Result (Option Triple) LexFault) (Ok x) (Ok y) → x ≡ y
said_same x y e = cc

said_err : (x : Option Triple) (f : LexFault) → Path (Result (Option Triple) LexFault) (Ok x) (Err f) → ⊥
said_err x f e = cc

err_same : (f g : LexFault) → Path (Result (Option Triple) LexFault) (Err f) (Err g) → f ≡ g
err_same f g e = cc

-- the triples that answers have
abbrev told : List (Option Triple) → List Triple
told answers = triples_of answers

-- good lines have one list of answers
answers_once : (content : List (List ℕ)) (a b : List (Option Triple)) → AllZip IsGood content a → AllZip IsGood content b → a ≡ b
answers_once [] [] [] x y = refl
answers_once [] [] (b ∷ bs) x y = absurd y
answers_once [] (a ∷ as') bs x y = absurd x
answers_once (l ∷ ls) [] bs x y = absurd x
answers_once (l ∷ ls) (a ∷ as') [] x y = absurd y
answers_once (l ∷ ls) (a ∷ as') (b ∷ bs) x y =
    ap₂ (λ u (us : List (Option Triple)). u ∷ us) (said_same a b (line_once l (Ok a) (Ok b) x.0 y.0)) (answers_once ls as' bs x.1 y.1)

good_once : (content : List (List ℕ)) (s t : List Triple) → AreGood content s → AreGood content t → s ≡ t
good_once content s t x y = x.have ∙ ap told (answers_once content x.answers y.answers x.each y.each) ∙ sym y.have

-- a refused line is not a good one, under a limit that the whole keeps
refused_good : (most : ℕ) (before : List Triple) (bad : List ℕ) (fault : ReadFault) (a : Option Triple) (more : List (Option Triple))
    → RefusesLine most before bad fault → LineSays bad (Ok a) → length (before ++ told (a ∷ more)) ≤ most → ⊥
refused_good most before bad fault a more r good few = elim r.why [
  | inl x ↦ said_err a x.0 (line_once bad (Ok a) (Err x.0) good x.1)
  | inr x ↦
      let same : a ≡ Some x.0 = said_same a (Some x.0) (line_once bad (Ok a) (Ok (Some x.0)) good x.1) in
      let shown : told (a ∷ more) ≡ x.0 ∷ told more = ap (λ (o : Option Triple). told (o ∷ more)) same in
      omega (arith, x.2, few, ap length shown, length-append before (told (a ∷ more)))
]

fault_once : (most : ℕ) (before : List Triple) (bad : List ℕ) (f g : ReadFault) → RefusesLine most before bad f → RefusesLine most before bad g → f ≡ g
fault_once most before bad f g x y = elim x.why [
  | inl a ↦ elim y.why [
    | inl b ↦ a.2 ∙ ap Lex (err_same a.0 b.0 (line_once bad (Err a.0) (Err b.0) a.1 b.1)) ∙ sym b.2
    | inr b ↦ absurd (said_err (Some b.0) a.0 (line_once bad (Ok (Some b.0)) (Err a.0) b.1 a.1))
  ]
  | inr a ↦ elim y.why [
    | inl b ↦ absurd (said_err (Some a.0) b.0 (line_once bad (Ok (Some a.0)) (Err b.0) a.1 b.1))
    | inr b ↦ a.3 ∙ sym b.3
  ]
]

-- the answers of lines, split at one of them
record Split (good : List (List ℕ)) (bad : List ℕ) (answers : List (Option Triple)) : Type 0 where
  front : List (Option Triple)
  answer : Option Triple
  back : List (Option Triple)
  whole : answers ≡ front ++ answer ∷ back
  each : AllZip IsGood good front
  says : LineSays bad (Ok answer)

split_more : (g bad : List ℕ) (good : List (List ℕ)) (a : Option Triple) (answers : List (Option Triple)) → IsGood g a → Split good bad answers → Split (g ∷ good) bad (a ∷ answers)
split_more g bad good a answers h s = record {
  front = a ∷ s.front;
  answer = s.answer;
  back = s.back;
  whole = ap (λ (l : List (Option Triple)). a ∷ l) s.whole;
  each = (h, s.each);
  says = s.says;
}

split : (good : List (List ℕ)) (bad : List ℕ) (more : List (List ℕ)) (answers : List (Option Triple)) → AllZip IsGood (good ++ bad ∷ more) answers → Split good bad answers
split [] bad more [] z = absurd z
split [] bad more (a ∷ answers) z = record { front = []; answer = a; back = answers; whole = refl; each = tt; says = z.0 }
split (g ∷ good) bad more [] z = absurd z
split (g ∷ good) bad more (a ∷ answers) z = split_more g bad good a answers z.0 (split good bad more answers z.1)

-- where all lines are good and few, none of them is refused
good_conflict : (most : ℕ) (content good : List (List ℕ)) (bad : List ℕ) (more : List (List ℕ)) (all before : List Triple) (fault : ReadFault)
    → content ≡ good ++ bad ∷ more → AreGood content all → length all ≤ most → AreGood good before → RefusesLine most before bad fault → ⊥
good_conflict most content good bad more all before fault e g few h r =
    let s = split good bad more g.answers (subst (λ (l : List (List ℕ)). AllZip IsGood l g.answers) e g.each) in
    let front : before ≡ told s.front = h.have ∙ ap told (answers_once good h.answers s.front h.each s.each) in
    let whole : all ≡ before ++ told (s.answer ∷ s.back) =
    g.have ∙ ap told s.whole ∙ filter_map-append (λ answer. answer) s.front (s.answer ∷ s.back) ∙ ap (λ (l : List Triple). l ++ told (s.answer ∷ s.back)) (sym front) in
    refused_good most before bad fault s.answer s.back r s.says (omega (arith, ap length whole, few))

-- of two lines of a list one comes first
data Order (g h : List (List ℕ)) (b c : List ℕ) : Type 0 where
  same : g ≡ h → b ≡ c → Order g h b c
  before : (k : List (List ℕ)) → h ≡ g ++ b ∷ k → Order g h b c
  after : (k : List (List ℕ)) → g ≡ h ++ c ∷ k → Order g h b c

order_more : (x y : List ℕ) (g h : List (List ℕ)) (b c : List ℕ) → x ≡ y → Order g h b c → Order (x ∷ g) (y ∷ h) b c
order_more x y g h b c e (same p q) = same (ap₂ (λ u (us : List (List ℕ)). u ∷ us) e p) q
order_more x y g h b c e (before k p) = before k (ap₂ (λ u (us : List (List ℕ)). u ∷ us) (sym e) p)
order_more x y g h b c e (after k p) = after k (ap₂ (λ u (us : List (List ℕ)). u ∷ us) e p)

head_same : (x y : List ℕ) (m n : List (List ℕ)) → x ∷ m ≡ y ∷ n → x ≡ y
head_same x y m n e = cc

order : (g h : List (List ℕ)) (b c : List ℕ) (m n : List (List ℕ)) → g ++ b ∷ m ≡ h ++ c ∷ n → Order g h b c
order [] [] b c m n e = same refl (head_same b c m n e)
order [] (y ∷ h) b c m n e = before h (ap (λ (x : List ℕ). x ∷ h) (sym (head_same b y m (h ++ c ∷ n) e)))
order (x ∷ g) [] b c m n e = after g (ap (λ (l : List ℕ). l ∷ g) (head_same x c (g ++ b ∷ m) n e))
order (x ∷ g) (y ∷ h) b c m n e = order_more x y g h b c (head_same x y (g ++ b ∷ m) (h ++ c ∷ n) e) (order g h b c m n (ap (drop 1) e))

refusals : (r s : ReadRefusal) → r.line ≡ s.line → r.fault ≡ s.fault → r ≡ s
refusals r s l f = ap₂ (λ n g. let x : ReadRefusal = record { line = n; fault = g } in x) l f

stops_of : (most : ℕ) (content : List (List ℕ)) (r s : ReadRefusal) (x : StopsIn most content r) (y : StopsIn most content s) → Order x.good y.good x.bad y.bad → r ≡ s
stops_of most content r s x y (same p q) =
    let triples : x.triples ≡ y.triples = good_once y.good x.triples y.triples (subst (λ (l : List (List ℕ)). AreGood l x.triples) p x.before) y.before in
    refusals r s (x.number ∙ ap (λ (l : List (List ℕ)). length l + 1) p ∙ sym y.number)
    (fault_once most y.triples y.bad r.fault s.fault (subst (λ (t : List Triple). RefusesLine most t y.bad r.fault) triples (subst (λ (l : List ℕ). RefusesLine most x.triples l r.fault) q x.refused)) y.refused)
stops_of most content r s x y (before k p) = absurd (good_conflict most y.good x.good x.bad k y.triples x.triples r.fault p y.before y.few x.before x.refused)
stops_of most content r s x y (after k p) = absurd (good_conflict most x.good y.good y.bad k x.triples y.triples s.fault p x.before x.few y.before y.refused)

stops_once : (most : ℕ) (content : List (List ℕ)) (r s : ReadRefusal) → StopsIn most content r → StopsIn most content s → r ≡ s
stops_once most content r s x y = stops_of most content r s x y (order x.good y.good x.bad y.bad x.more y.more (sym x.here ∙ y.here))

good_stops : (most : ℕ) (content : List (List ℕ)) (all : List Triple) (r : ReadRefusal) → AreGood content all → length all ≤ most → StopsIn most content r → ⊥
good_stops most content all r g few x = good_conflict most content x.good x.bad x.more all x.triples r.fault x.here g few x.before x.refused

pub within_judged : (most : ℕ) (bytes : List ℕ) → length bytes ≤ most → judged most bytes ≡ lines bytes
within_judged most bytes le = cond-true _ _ _ (le-leb _ _ le)

pub beyond_judged : (most : ℕ) (bytes : List ℕ) → most < length bytes → judged most bytes ≡ (cut_of (take most bytes)).ended
beyond_judged most bytes lt = cond-false _ _ _ (lt-leb (length bytes) most lt)

stops_long : (limits : Limits) (bytes : List ℕ) (r s : ReadRefusal) → StopsIn limits.triples (judged limits.bytes bytes) r → IsTooLong limits bytes s → ⊥
stops_long limits bytes r s x y =
    good_stops limits.triples (cut_of (take limits.bytes bytes)).ended y.triples r y.before y.few
    (subst (λ (l : List (List ℕ)). StopsIn limits.triples l r) (beyond_judged limits.bytes bytes y.longer) x)

good_refused : (limits : Limits) (bytes : List ℕ) (all : List Triple) (r : ReadRefusal) → FileSays limits bytes (Ok all) → FileSays limits bytes (Err r) → ⊥
good_refused limits bytes all r x (inl y) =
    good_stops limits.triples (lines bytes) all r x.1 x.2 (subst (λ (l : List (List ℕ)). StopsIn limits.triples l r) (within_judged limits.bytes bytes x.0) y)
good_refused limits bytes all r x (inr y) = omega (arith, x.0, y.longer)

refused_once : (limits : Limits) (bytes : List ℕ) (r s : ReadRefusal) → FileSays limits bytes (Err r) → FileSays limits bytes (Err s) → r ≡ s
refused_once limits bytes r s (inl x) (inl y) = stops_once limits.triples (judged limits.bytes bytes) r s x y
refused_once limits bytes r s (inl x) (inr y) = absurd (stops_long limits bytes r s x y)
refused_once limits bytes r s (inr x) (inl y) = absurd (stops_long limits bytes s r y x)
refused_once limits bytes r s (inr x) (inr y) = refusals r s (x.line ∙ sym y.line) (x.fault ∙ sym y.fault)

-- a file says one thing
pub file_once : (limits : Limits) (bytes : List ℕ) (a b : Result (List Triple) ReadRefusal) → FileSays limits bytes a → FileSays limits bytes b → a ≡ b
file_once limits bytes (Ok s) (Ok t) x y = ap Ok (good_once (lines bytes) s t x.1 y.1)
file_once limits bytes (Ok s) (Err r) x y = absurd (good_refused limits bytes s r x y)
file_once limits bytes (Err r) (Ok s) x y = absurd (good_refused limits bytes s r y x)
file_once limits bytes (Err r) (Err s) x y = ap Err (refused_once limits bytes r s x y)
