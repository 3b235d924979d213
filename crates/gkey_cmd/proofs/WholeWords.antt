-- What a whole word spells is what is read from its start on.
use Rattle.std.proofs.Common.{List, [], ◌∷◌, ◌++◌, ℕ, Result, Ok, Err, length, encode_utf8, ◌≡◌, refl, sym, ap, arith, append-nil, length-append}
use Rattle.std.proofs.lemmas.Str.{length-encode, len_utf8_bounds}
use Rattle.gk_base.specs.declared.lex_fault.LexFault.{LexFault}
use Rattle.gk_base.specs.declared.term.Term.{Term}
use Rattle.nt_lex.specs.Spelling.{SpellsSuffix, plain, typed, tagged, Spells, iri, blank, literal}
use Rattle.nt_lex.specs.Reading.{SuffixStops, TermStops, Reads, Says}
use Rattle.nt_lex.proofs.CallerLemmas.{says_once}

-- the end of the word stops each term
no_character : (c : ℕ) (more : List ℕ) → [] ≡ encode_utf8 c ++ more → ⊥
no_character c more e =
    let long : 0 ≡ length (encode_utf8 c ++ more) = ap length e in
    absurd (omega (arith, long, length-append (encode_utf8 c) more, length-encode c, (len_utf8_bounds c).0))

nothing_behind : (before : List ℕ) (b : ℕ) (after : List ℕ) → [] ≡ before ++ b ∷ after → ⊥
nothing_behind [] b after e = absurd cc
nothing_behind (a ∷ before) b after e = absurd cc

suffix_stops : (piece form : List ℕ) (t : Term) (s : SpellsSuffix piece form t) → SuffixStops s []
suffix_stops piece form t (plain e) = record {
  no_datatype = λ more x. nothing_behind x.gap 0x5E (0x5E ∷ (x.space ++ more)) x.whole;
  no_tag = λ more x. nothing_behind x.gap 0x40 more x.whole;
}
suffix_stops piece form t (typed carets name datatype) = tt
suffix_stops piece form t (tagged at is) = record { last = tt; dash = tt }

term_stops : (piece : List ℕ) (t : Term) (x : Spells piece t) → TermStops x []
term_stops piece t (iri x) = tt
term_stops piece t (blank x) = record { dots = []; after = []; each = refl; whole = refl; none = λ c more is e. no_character c more e }
term_stops piece t (literal {form = form} {suffix = suffix} x s whole) = suffix_stops suffix form t s

whole_reads : (word : List ℕ) (t : Term) → Spells word t → Reads word 0 t (length word)
whole_reads word t x = record { piece = word; rest = []; spells = x; stops = term_stops word t x; here = sym (append-nil word); ends = omega arith }

-- a word spells one term
pub one_term : (word : List ℕ) (term other : Term) → Spells word term → Spells word other → term ≡ other
one_term word term other x y =
    let answer : Result (Term × ℕ) LexFault = Ok (term, length word) in
    let same : answer ≡ Ok (other, length word) = says_once word 0 answer (Ok (other, length word)) (whole_reads word term x) (whole_reads word other y) in
    let one : Term × ℕ = (term, length word) in
    let two : Term × ℕ = (other, length word) in
    let pair : one ≡ two = cc in
    ap (λ (p : Term × ℕ). p.0) pair

-- what is read is the one term that the word can spell, and it ends with the word
pub one_spelled : (word : List ℕ) (term other : Term) (end : ℕ) → Says word 0 (Ok (term, end)) → Spells word other → (other ≡ term) × (end ≡ length word)
one_spelled word term other end reads x =
    let answer : Result (Term × ℕ) LexFault = Ok (term, end) in
    let same : answer ≡ Ok (other, length word) = says_once word 0 answer (Ok (other, length word)) reads (whole_reads word other x) in
    let read : Term × ℕ = (term, end) in
    let whole : Term × ℕ = (other, length word) in
    let pair : read ≡ whole = cc in
    (sym (ap (λ (p : Term × ℕ). p.0) pair), ap (λ (p : Term × ℕ). p.1) pair)

-- where no term is read, it spells none
pub none_spelled : (word : List ℕ) (fault : LexFault) → Says word 0 (Err fault) → (term : Term) → Spells word term → ⊥
none_spelled word fault fails term x =
    let answer : Result (Term × ℕ) LexFault = Err fault in
    let same : answer ≡ Ok (term, length word) = says_once word 0 answer (Ok (term, length word)) fails (whole_reads word term x) in
    absurd cc
