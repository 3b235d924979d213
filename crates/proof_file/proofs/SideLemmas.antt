-- Sides of steps, and terms of lines.
use Rattle.std.proofs.Common.{List, [], ◌∷◌, ◌++◌, ℕ, ◌-◌, ◌<◌, ◌≤◌, Bool, true, false, Option, Some, None, Result, Ok, Err, Vec, All, bytes_eq, map, length, slice_get, slice_index, slice_range, if◌then◌else◌, ◌≡◌, ◌≢◌, refl, sym, ap, ap₂, subst, ◌∙◌, arith, append-nil, append_assoc, length-append}
use Rattle.std.specs.declared.alloc.Global.{Global}
use Rattle.std.specs.Option.{option_map}
use Rattle.std.proofs.lemmas.List.{get_or_append_left, length-drop, map_push}
use Rattle.std.proofs.lemmas.List.Elements.{All-nil, All-cons, All-head, All-tail, All-weaker, All-push}
use Rattle.std.proofs.lemmas.Option.{slice_get-map, slice_get_within, get_or_from_slice_get}
use Rattle.chase_laws.proofs.CallerLemmas.{All-at}
use Rattle.gk_base.specs.declared.term.Term.{Term}
use Rattle.gk_base.specs.declared.term.Term.TheVariants.{Plain}
use Rattle.gk_base.specs.declared.lex_fault.LexFault.{LexFault}
use Rattle.gk_base.specs.declared.stop.Stop.TheVariants.{NoMemory, Fault}
use Rattle.nt_lex.specs.Chars.{is_blank}
use Rattle.nt_lex.specs.Scans.{IsRunAt}
use Rattle.nt_lex.proofs.CallerLemmas.{run_from}
use Rattle.nt_lex.specs.Spelling.{Spells, iri, blank, literal}
use Rattle.nt_lex.specs.Reading.{begins_term, Reads, Says}
use Rattle.key_file.specs.Compile.{HasMoreNames}
use Rattle.proof_file.specs.Steps.{term_at}
use Rattle.proof_file.specs.Words.{words_of, decimal_number, FirstWord}
use Rattle.proof_file.specs.ProofText as text
use Rattle.proof_file.specs.ProofText.{or_out_of_range, numbered_one, one_before, numbered_all, numbered_side, TermsSay, OneTermSays, some_terms, SideSays}
use Rattle.proof_file.specs.declared.fault.ProofFault.{ProofFault}
use Rattle.proof_file.specs.declared.fault.ProofFault.TheVariants.{Lex, BadLine}
use Rattle.proof_file.specs.declared.version.Version.TheVariants.{One, Two}
use Rattle.proof_file.specs.Progress.{ProofLineStop, ItemsAre, AreBelow, TermRead, TermTold, SideTold, OneTermTold, more_of, ReadsOn}

-- ---- numbers of a list

pub more_of-none : {X : Type 0} (answer : Result (List X) ProofFault) → more_of [] answer ≡ answer
more_of-none (Err fault) = refl
more_of-none (Ok xs) = refl

pub numbered_all-more : {X : Type 0} (done terms : List X) (words rest : List (List ℕ)) (word : List ℕ) (x : X) → words ≡ word ∷ rest → numbered_one terms (decimal_number 1 word) ≡ Ok x →
    more_of done (numbered_all terms words) ≡ more_of (done ++ x ∷ []) (numbered_all terms rest)
numbered_all-more {X} done terms words rest word x split one =
    ap (λ ws. more_of done (numbered_all terms ws)) split ∙ ap (λ r. more_of done (one_before r (numbered_all terms rest))) one ∙ by (numbered_all terms rest)
  where
    by : (r : Result (List X) ProofFault) → more_of done (one_before (Ok x) r) ≡ more_of (done ++ x ∷ []) r
    by (Err fault) = refl
    by (Ok xs) = ap Ok (sym (append_assoc done (x ∷ []) xs))

pub numbered_all-fault : {X : Type 0} (done terms : List X) (words rest : List (List ℕ)) (word : List ℕ) (fault : ProofFault) → words ≡ word ∷ rest → numbered_one terms (decimal_number 1 word) ≡ Err fault →
    more_of done (numbered_all terms words) ≡ Err fault
numbered_all-fault done terms words rest word fault split one =
    ap (λ ws. more_of done (numbered_all terms ws)) split ∙ ap (λ r. more_of done (one_before r (numbered_all terms rest))) one

pub numbered_all-end : {X : Type 0} (done terms : List X) (words : List (List ℕ)) → words ≡ [] → more_of done (numbered_all terms words) ≡ Ok done
numbered_all-end done terms words none = ap (λ ws. more_of done (numbered_all terms ws)) none ∙ ap Ok (append-nil done)

-- what a list has after a change of each element, where there is no fault
abbrev changed : {X Y : Type 0} → (X → Y) → Result X ProofFault → Result Y ProofFault
changed f (Err fault) = Err fault
changed f (Ok x) = Ok (f x)

numbered_one-map : {X Y : Type 0} (f : X → Y) (xs : List X) (number : Option ℕ) → numbered_one (map f xs) number ≡ changed f (numbered_one xs number)
numbered_one-map f xs None = refl
numbered_one-map {X} {Y} f xs (Some n) = ap or_out_of_range (slice_get-map f xs (n - 1)) ∙ by (slice_get xs (n - 1))
  where
    by : (o : Option X) → or_out_of_range (option_map f o) ≡ changed f (or_out_of_range o)
    by None = refl
    by (Some x) = refl

numbered_all-map : {X Y : Type 0} (f : X → Y) (xs : List X) (words : List (List ℕ)) → numbered_all (map f xs) words ≡ changed (map f) (numbered_all xs words)
numbered_all-map f xs [] = refl
numbered_all-map {X} {Y} f xs (word ∷ words) =
    ap₂ one_before (numbered_one-map f xs (decimal_number 1 word)) (numbered_all-map f xs words) ∙ by (numbered_one xs (decimal_number 1 word)) (numbered_all xs words)
  where
    by : (one : Result X ProofFault) (later : Result (List X) ProofFault) → one_before (changed f one) (changed (map f) later) ≡ changed (map f) (one_before one later)
    by (Err fault) later = refl
    by (Ok x) (Err fault) = refl
    by (Ok x) (Ok ys) = refl

numbered_side-map : {X Y : Type 0} (f : X → Y) (xs : List X) (word : List ℕ) (words : List (List ℕ)) → numbered_side word (map f xs) words ≡ changed (map f) (numbered_side word xs words)
numbered_side-map f xs word [] = refl
numbered_side-map f xs word (first ∷ []) = refl
numbered_side-map {X} {Y} f xs word (first ∷ number ∷ numbers) =
    ap (λ r. if bytes_eq first word then r else Err BadLine) (numbered_all-map f xs (number ∷ numbers)) ∙ by (bytes_eq first word) (numbered_all xs (number ∷ numbers))
  where
    by : (b : Bool) (r : Result (List X) ProofFault) → (if b then changed (map f) r else Err BadLine) ≡ changed (map f) (if b then r else Err BadLine)
    by true r = refl
    by false r = refl

-- what holds of each element of the list holds of what has the numbers
abbrev AllOf : {X : Type 0} → (X → Type 0) → Result (List X) ProofFault → Type 0
AllOf P (Err fault) = Unit {0}
AllOf P (Ok xs) = All P xs

numbered_one-holds : {X : Type 0} (P : X → Type 0) (xs : List X) (number : Option ℕ) (x : X) → All P xs → numbered_one xs number ≡ Ok x → P x
numbered_one-holds P xs None x h e = absurd (conflict x BadLine (sym e))
  where
    conflict : {A F : Type 0} (a : A) (f : F) → ◌≡◌ {A = Result A F} (Ok a) (Err f) → ⊥
    conflict a f h = cc
numbered_one-holds {X} P xs (Some n) x h e = by (slice_get xs (n - 1)) refl e
  where
    by : (o : Option X) → slice_get xs (n - 1) ≡ o → or_out_of_range o ≡ Ok x → P x
    by None at same = absurd cc
    by (Some y) at same = let k : y ≡ x = cc in subst P k (All-at P xs (n - 1) y h at)

numbered_all-holds : {X : Type 0} (P : X → Type 0) (xs : List X) (words : List (List ℕ)) → All P xs → AllOf P (numbered_all xs words)
numbered_all-holds P xs [] h = All-nil P
numbered_all-holds {X} P xs (word ∷ words) h = by (numbered_one xs (decimal_number 1 word)) (numbered_all xs words) (λ x e. numbered_one-holds P xs (decimal_number 1 word) x h e) (numbered_all-holds P xs words h)
  where
    by : (one : Result X ProofFault) (later : Result (List X) ProofFault) → ((x : X) → one ≡ Ok x → P x) → AllOf P later → AllOf P (one_before one later)
    by (Err fault) later p q = tt
    by (Ok x) (Err fault) p q = tt
    by (Ok x) (Ok ys) p q = All-cons P x ys (p x refl) q

numbered_side-holds : {X : Type 0} (P : X → Type 0) (xs : List X) (word : List ℕ) (words : List (List ℕ)) → All P xs → AllOf P (numbered_side word xs words)
numbered_side-holds P xs word [] h = tt
numbered_side-holds P xs word (first ∷ []) h = tt
numbered_side-holds {X} P xs word (first ∷ number ∷ numbers) h = by (bytes_eq first word) (numbered_all xs (number ∷ numbers)) (numbered_all-holds P xs (number ∷ numbers) h)
  where
    by : (b : Bool) (r : Result (List X) ProofFault) → AllOf P r → AllOf P (if b then r else Err BadLine)
    by true r h = h
    by false r h = tt

-- numbers of the list of a file are those of its terms
pub numbers_told : (names : List Term) (listed : List ℕ) (word line : List ℕ) (r : Result (Vec ℕ Global) ProofLineStop) → AreBelow (length names) listed →
    ItemsAre (numbered_side word listed (words_of line)) r → SideTold names (SideSays word line (map (term_at names) listed) Two) r
numbers_told names listed word line (Ok v) below are = (
  subst (SideSays word line (map (term_at names) listed) Two) (numbered_side-map (term_at names) listed word (words_of line) ∙ ap (changed (map (term_at names))) are) text.by_numbers,
  subst (AllOf (λ n. n < length names)) are (numbered_side-holds (λ n. n < length names) listed word (words_of line) below),
)
numbers_told names listed word line (Err NoMemory) below are = tt
numbers_told names listed word line (Err (Fault fault)) below are =
    subst (SideSays word line (map (term_at names) listed) Two) (numbered_side-map (term_at names) listed word (words_of line) ∙ ap (changed (map (term_at names))) are) text.by_numbers

-- ---- terms

-- the terms of numbers stay as names come
pub term_stays : (names more : List Term) (n : ℕ) → HasMoreNames names more → n < length names → term_at more n ≡ term_at names n
term_stays names more n grown l = ap (λ ts. term_at ts n) grown.1 ∙ get_or_append_left names grown.0 (Plain []) n l

pub terms_stay : (names more : List Term) (ns : List ℕ) → HasMoreNames names more → AreBelow (length names) ns → map (term_at more) ns ≡ map (term_at names) ns
terms_stay names more [] grown below = refl
terms_stay names more (n ∷ ns) grown below =
    let P : ℕ → Type 0 = λ m. m < length names in
    ap₂ (λ t ts. t ∷ ts) (term_stays names more n grown (All-head P n ns below)) (terms_stay names more ns grown (All-tail P n ns below))

pub names_more : (names more : List Term) → HasMoreNames names more → length names ≤ length more
names_more names more grown = let n = ap length grown.1 in let m = length-append names grown.0 in omega arith

pub below_stays : (names more : List Term) (ns : List ℕ) → HasMoreNames names more → AreBelow (length names) ns → AreBelow (length more) ns
below_stays names more ns grown below = let le = names_more names more grown in All-weaker (λ n. n < length names) (λ n. n < length more) (λ n l. omega arith) ns below

-- names come, and then more
pub names_come : (names more all : List Term) → HasMoreNames names more → HasMoreNames more all → HasMoreNames names all
names_come names more all first later = (first.0 ++ later.0, later.1 ∙ ap (λ l. l ++ later.0) first.1 ∙ append_assoc names first.0 later.0)

-- a term takes at least one byte
spelled_some : (piece : List ℕ) (t : Term) → Spells piece t → 0 < length piece
spelled_some piece t (iri s) = let n = ap length s.whole in omega arith
spelled_some piece t (blank s) = let n = ap length s.whole in omega arith
spelled_some piece t (literal {string = string} {suffix = suffix} s f whole) = let n = ap length s.whole in let m = ap length whole in let k = length-append string suffix in omega arith

-- the place after a term
pub read_ends : (line : List ℕ) (at end : ℕ) (t : Term) → Reads line at t end → (at < end) × (end ≤ length line)
read_ends line at end t reads =
    let some = spelled_some reads.piece t reads.spells in
    let ends = reads.ends in
    let n = ap length reads.here in
    let m = length-append reads.piece reads.rest in
    let k = length-drop at line in
    (omega arith, omega arith)

-- blanks before terms say nothing
run_here : (line : List ℕ) (at next : ℕ) → IsRunAt is_blank line at next → IsRunAt is_blank line next next
run_here line at next run = record { ordered = omega arith; in_range = run.in_range; pass = λ k from below. absurd (omega arith); stops = run.stops }

run_more : (line : List ℕ) (at next end : ℕ) → IsRunAt is_blank line at next → IsRunAt is_blank line next end → IsRunAt is_blank line at end
run_more line at next end run more = run_from is_blank line at next end run.ordered run.pass more

terms_after : (line : List ℕ) (at next : ℕ) (rest : Result (List Term) ProofFault) → IsRunAt is_blank line at next → TermsSay line next rest → TermsSay line at rest
terms_after line at next rest run (text.no_more r) = text.no_more (run_more line at next (length line) run r)
terms_after line at next rest run (text.not_a_term r inside none) = text.not_a_term (run_more line at next _ run r) inside none
terms_after line at next rest run (text.bad_term r some says) = text.bad_term (run_more line at next _ run r) some says
terms_after line at next rest run (text.term_then r some says more) = text.term_then (run_more line at next _ run r) some says more
terms_after line at next rest run (text.bad_later r some says more) = text.bad_later (run_more line at next _ run r) some says more

-- before the first term
pub reads_begin : (line : List ℕ) (begin next : ℕ) → IsRunAt is_blank line begin next → IsRunAt is_blank line next next × ReadsOn line begin next []
reads_begin line begin next run = (run_here line begin next run, λ rest says. subst (TermsSay line begin) (sym (more_of-none rest)) (terms_after line begin next rest run says))

-- where a term may begin
module _ (line : List ℕ) (begin next : ℕ) (terms : List Term) (run : IsRunAt is_blank line next next) (on : ReadsOn line begin next terms) where
  pub terms_end : next ≡ length line → TermsSay line begin (Ok terms)
  terms_end whole = subst (TermsSay line begin) (ap Ok (append-nil terms)) (on (Ok []) (text.no_more (subst (IsRunAt is_blank line next) whole run)))

  pub no_term_there : next ≢ length line → begins_term (slice_index line next) ≡ false → TermsSay line begin (Err BadLine)
  no_term_there inside none = on (Err BadLine) (text.not_a_term run inside none)

  pub bad_term_there : (fault : LexFault) → begins_term (slice_index line next) ≡ true → Says line next (Err fault) → TermsSay line begin (Err (Lex fault))
  bad_term_there fault some says = on (Err (Lex fault)) (text.bad_term run some says)

  one_term_more : (end : ℕ) (t : Term) → begins_term (slice_index line next) ≡ true → Says line next (Ok (t, end)) → ReadsOn line begin end (terms ++ t ∷ [])
  one_term_more end t some says (Ok rest) more = subst (TermsSay line begin) (ap Ok (sym (append_assoc terms (t ∷ []) rest))) (on (Ok (t ∷ rest)) (text.term_then run some says more))
  one_term_more end t some says (Err fault) more = on (Err fault) (text.bad_later run some says more)

  pub term_more : (end after : ℕ) (t : Term) → begins_term (slice_index line next) ≡ true → Says line next (Ok (t, end)) → IsRunAt is_blank line end after → IsRunAt is_blank line after after × ReadsOn line begin after (terms ++ t ∷ [])
  term_more end after t some says gap = (run_here line end after gap, λ rest more. one_term_more end t some says rest (terms_after line end after rest gap more))

-- the terms of numbers, and one number more, as names come
pub numbers_read : (names more : List Term) (ns : List ℕ) (n : ℕ) → HasMoreNames names more → AreBelow (length names) ns → map (term_at names) ns ++ term_at more n ∷ [] ≡ map (term_at more) (ns ++ n ∷ [])
numbers_read names more ns n grown below = ap (λ ts. ts ++ term_at more n ∷ []) (sym (terms_stay names more ns grown below)) ∙ sym (map_push (term_at more) ns n)

-- before the first term, and after one more
pub terms_begin : (names : List Term) (line : List ℕ) (begin next : ℕ) (ns : List ℕ) → ns ≡ [] → IsRunAt is_blank line begin next →
    AreBelow (length names) ns × (IsRunAt is_blank line next next × ReadsOn line begin next (map (term_at names) ns))
terms_begin names line begin next ns none run = (
  subst (AreBelow (length names)) (sym none) (All-nil (λ n. n < length names)),
  subst (λ l. IsRunAt is_blank line next next × ReadsOn line begin next (map (term_at names) l)) (sym none) (reads_begin line begin next run),
)

pub terms_more : (names more : List Term) (line : List ℕ) (begin next end after : ℕ) (ns : List ℕ) (n : ℕ) (all : List ℕ) → all ≡ ns ++ n ∷ [] → HasMoreNames names more → AreBelow (length names) ns →
    IsRunAt is_blank line next next → ReadsOn line begin next (map (term_at names) ns) → begins_term (slice_index line next) ≡ true → TermRead more line next n end → IsRunAt is_blank line end after →
    AreBelow (length more) all × (IsRunAt is_blank line after after × ReadsOn line begin after (map (term_at more) all))
terms_more names more line begin next end after ns n all is grown below run on begins read gap = (
  subst (AreBelow (length more)) (sym is) (All-push (λ m. m < length more) ns n (below_stays names more ns grown below) read.below),
  subst (λ l. IsRunAt is_blank line after after × ReadsOn line begin after l) (numbers_read names more ns n grown below ∙ ap (map (term_at more)) (sym is))
      (term_more line begin next (map (term_at names) ns) run on end after (term_at more n) begins read.says gap),
)

-- the terms of a side were not all read
pub terms_stop : (names more : List Term) (line : List ℕ) (begin next : ℕ) (terms : List Term) (stop : ProofLineStop) → IsRunAt is_blank line next next → ReadsOn line begin next terms → begins_term (slice_index line next) ≡ true →
    TermTold more line next (Err stop) → SideTold more (TermsSay line begin) (Err stop)
terms_stop names more line begin next terms NoMemory run on begins told = tt
terms_stop names more line begin next terms (Fault fault) run on begins told = subst (λ f. TermsSay line begin (Err f)) (sym told.1) (bad_term_there line begin next terms run on told.0 begins told.2)

-- a side of terms was read
pub side_read : (names terms : List Term) (word line : List ℕ) (begin end : ℕ) (ns : List ℕ) → FirstWord line begin end → bytes_eq (slice_range line begin end) word ≡ true → TermsSay line end (Ok (map (term_at names) ns)) → (length ns ≡ 0 → ⊥) →
    SideSays word line terms One (Ok (map (term_at names) ns))
side_read names terms word line begin end [] first is says some = absurd (some refl)
side_read names terms word line begin end (n ∷ ns) first is says some = text.by_terms first is says

-- a side without terms
pub no_side_read : (names terms : List Term) (word line : List ℕ) (begin end : ℕ) (ns : List ℕ) → FirstWord line begin end → bytes_eq (slice_range line begin end) word ≡ true → TermsSay line end (Ok (map (term_at names) ns)) → length ns ≡ 0 →
    SideSays word line terms One (Err BadLine)
no_side_read names terms word line begin end [] first is says none = text.by_terms first is says
no_side_read names terms word line begin end (n ∷ ns) first is says none = absurd (omega arith)

-- a side was not read
pub side_stops : (names terms : List Term) (word line : List ℕ) (begin end : ℕ) (stop : ProofLineStop) → FirstWord line begin end → bytes_eq (slice_range line begin end) word ≡ true → SideTold names (TermsSay line end) (Err stop) →
    SideTold names (SideSays word line terms One) (Err stop)
side_stops names terms word line begin end NoMemory first is told = tt
side_stops names terms word line begin end (Fault fault) first is told = text.by_terms first is told

-- a term that was read, with its number
pub term_read : (names : List Term) (line : List ℕ) (at n end : ℕ) (t : Term) → Says line at (Ok (t, end)) → slice_get names n ≡ Some t → TermRead names line at n end
term_read names line at n end t says is =
    let ends = read_ends line at end t says in
    record {
      says = subst (λ u. Says line at (Ok (u, end))) (sym (get_or_from_slice_get names n t (Plain []) is)) says;
      below = slice_get_within names n t is;
      later = ends.0;
      inside = ends.1;
    }

-- the one term of a line was not read
pub one_term_stops : (names : List Term) (line : List ℕ) (at : ℕ) (stop : ProofLineStop) → IsRunAt is_blank line 0 at → begins_term (slice_index line at) ≡ true → TermTold names line at (Err stop) → OneTermTold names (OneTermSays line) (Err stop)
one_term_stops names line at NoMemory run begins told = tt
one_term_stops names line at (Fault fault) run begins told = subst (λ f. OneTermSays line (Err f)) (sym told.1) (text.bad_term run begins told.2)
