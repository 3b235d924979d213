-- A proof file says one thing.
use Rattle.std.proofs.Common.{List, [], ◌∷◌, ℕ, ◌+◌, Bool, true, false, Option, Some, None, Result, Ok, Err, bytes_eq, codes, length, slice_index, slice_range, ◌≡◌, ◌≢◌, refl, sym, ap, ap₂, subst, ◌∙◌, true≢false}
use Rattle.gk_base.specs.declared.term.Term.{Term}
use Rattle.gk_base.specs.Answers.{IsSo, Gives}
use Rattle.gk_base.specs.declared.lex_fault.LexFault.{LexFault}
use Rattle.gk_base.specs.declared.stop.Stop.{Stop}
use Rattle.gk_base.specs.declared.stop.Stop.TheVariants.{NoMemory, Fault}
use Rattle.nt_lex.specs.Chars.{is_blank}
use Rattle.nt_lex.specs.Scans.{IsRunAt}
use Rattle.nt_lex.specs.Reading.{begins_term, Says}
use Rattle.nt_lex.proofs.CallerLemmas.{says_once}
use Rattle.nt_reader.specs.File.{judged}
use Rattle.nt_reader.proofs.CallerLemmas.{run_once}
use Rattle.proof_file.specs.Steps.{StepShape}
use Rattle.proof_file.specs.Words.{no_blank, FirstWord}
use Rattle.proof_file.specs.ProofText as text
use Rattle.proof_file.specs.ProofText.{StageShape, AtHeader, AtCount, AtTerm, AtStep, AtLeft, AtRight, AtSupport, AtEnd, ProofState, proof_start, TermsSay, OneTermSays, some_terms, SideSays, after_term, after_left, after_right, StageSays, ProofLineSays, ProofLinesSay, proof_or_refusal, ProofSays}
use Rattle.proof_file.specs.declared.fault.ProofFault.{ProofFault}
use Rattle.proof_file.specs.declared.fault.ProofFault.TheVariants.{Lex}
use Rattle.proof_file.specs.declared.fault.ProofRefusal.{ProofRefusal}
use Rattle.proof_file.specs.declared.version.Version.{Version}

-- what stands at the next term
begins_at : (line : List ℕ) (at m n : ℕ) (b c : Bool) → IsRunAt is_blank line at m → IsRunAt is_blank line at n → begins_term (slice_index line m) ≡ b → begins_term (slice_index line n) ≡ c → b ≡ c
begins_at line at m n b c p q e f = sym e ∙ ap (λ i. begins_term (slice_index line i)) (run_once is_blank line at m n p q) ∙ f

says_at : (line : List ℕ) (at m n : ℕ) (a b : Result (Term × ℕ) LexFault) → IsRunAt is_blank line at m → IsRunAt is_blank line at n → Says line m a → Says line n b → a ≡ b
says_at line at m n a b p q x y = says_once line n a b (subst (λ i. Says line i a) (run_once is_blank line at m n p q) x) y

conflict : {A F : Type 0} (x : A) (f : F) → ◌≡◌ {A = Result A F} (Ok x) (Err f) → ⊥
conflict x f h = cc

mixed : (line : List ℕ) (at m n : ℕ) (x : Term × ℕ) (f : LexFault) → IsRunAt is_blank line at m → IsRunAt is_blank line at n → Says line m (Err f) → Says line n (Ok x) → ⊥
mixed line at m n x f p q a b = conflict x f (says_at line at n m (Ok x) (Err f) q p b a)

pub begins_inside : (line : List ℕ) (at m : ℕ) → IsRunAt is_blank line at m → begins_term (slice_index line m) ≡ true → m ≢ length line
begins_inside line at m r h e = true≢false (sym h ∙ ap (λ i. begins_term (slice_index line i)) e ∙ ap begins_term (past line))
  where
    past : (line : List ℕ) → slice_index line (length line) ≡ 0
    past [] = refl
    past (b ∷ line) = past line

-- no term begins at the end of the line
ends_inside : (line : List ℕ) (at m : ℕ) → IsRunAt is_blank line at (length line) → IsRunAt is_blank line at m → begins_term (slice_index line m) ≡ true → ⊥
ends_inside line at m r s e = begins_inside line at m s e (run_once is_blank line at m (length line) s r)

abbrev end_in : Result (Term × ℕ) LexFault → ℕ
end_in (Ok r) = r.1
end_in (Err f) = 0

abbrev term_in : Result (Term × ℕ) LexFault → Option Term
term_in (Ok r) = Some r.0
term_in (Err f) = None

terms_once : (line : List ℕ) (at : ℕ) (a b : Result (List Term) ProofFault) → TermsSay line at a → TermsSay line at b → a ≡ b
terms_once line at a b (text.no_more r) (text.no_more s) = refl
terms_once line at a b (text.no_more r) (text.not_a_term s l e) = absurd (l (run_once is_blank line at _ _ s r))
terms_once line at a b (text.no_more r) (text.bad_term s e x) = absurd (ends_inside line at _ r s e)
terms_once line at a b (text.no_more r) (text.term_then s e x t) = absurd (ends_inside line at _ r s e)
terms_once line at a b (text.no_more r) (text.bad_later s e x t) = absurd (ends_inside line at _ r s e)
terms_once line at a b (text.not_a_term r l d) (text.no_more s) = absurd (l (run_once is_blank line at _ _ r s))
terms_once line at a b (text.not_a_term r l d) (text.not_a_term s m e) = refl
terms_once line at a b (text.not_a_term r l d) (text.bad_term s e x) = absurd (true≢false (begins_at line at _ _ true false s r e d))
terms_once line at a b (text.not_a_term r l d) (text.term_then s e x t) = absurd (true≢false (begins_at line at _ _ true false s r e d))
terms_once line at a b (text.not_a_term r l d) (text.bad_later s e x t) = absurd (true≢false (begins_at line at _ _ true false s r e d))
terms_once line at a b (text.bad_term r d w) (text.no_more s) = absurd (ends_inside line at _ s r d)
terms_once line at a b (text.bad_term r d w) (text.not_a_term s l e) = absurd (true≢false (begins_at line at _ _ true false r s d e))
terms_once line at a b (text.bad_term {fault = f} r d w) (text.bad_term {fault = g} s e x) = let h = says_at line at _ _ (Err f) (Err g) r s w x in let k : f ≡ g = cc in ap (λ q. Err (Lex q)) k
terms_once line at a b (text.bad_term r d w) (text.term_then s e x t) = absurd (mixed line at _ _ _ _ r s w x)
terms_once line at a b (text.bad_term r d w) (text.bad_later s e x t) = absurd (mixed line at _ _ _ _ r s w x)
terms_once line at a b (text.term_then r d w u) (text.no_more s) = absurd (ends_inside line at _ s r d)
terms_once line at a b (text.term_then r d w u) (text.not_a_term s l e) = absurd (true≢false (begins_at line at _ _ true false r s d e))
terms_once line at a b (text.term_then r d w u) (text.bad_term s e x) = absurd (mixed line at _ _ _ _ s r x w)
terms_once line at a b (text.term_then {end = m} {term = p} {terms = ps} r d w u) (text.term_then {end = n} {term = q} {terms = qs} s e x t) =
    let h = says_at line at _ _ (Ok (p, m)) (Ok (q, n)) r s w x in
    let kk : Some p ≡ Some q = ap term_in h in
    let k : p ≡ q = cc in
    let l : m ≡ n = ap end_in h in
    let ih = terms_once line m (Ok ps) (Ok qs) u (subst (λ i. TermsSay line i (Ok qs)) (sym l) t) in
    let j : ps ≡ qs = cc in
    λ i. Ok (k i ∷ j i)
terms_once line at a b (text.term_then {end = m} {term = p} {terms = ps} r d w u) (text.bad_later {end = n} {term = q} {fault = g} s e x t) =
    let h = says_at line at _ _ (Ok (p, m)) (Ok (q, n)) r s w x in
    let l : m ≡ n = ap end_in h in
    absurd (conflict ps g (terms_once line m (Ok ps) (Err g) u (subst (λ i. TermsSay line i (Err g)) (sym l) t)))
terms_once line at a b (text.bad_later r d w u) (text.no_more s) = absurd (ends_inside line at _ s r d)
terms_once line at a b (text.bad_later r d w u) (text.not_a_term s l e) = absurd (true≢false (begins_at line at _ _ true false r s d e))
terms_once line at a b (text.bad_later r d w u) (text.bad_term s e x) = absurd (mixed line at _ _ _ _ s r x w)
terms_once line at a b (text.bad_later {end = m} {term = p} {fault = f} r d w u) (text.term_then {end = n} {term = q} {terms = qs} s e x t) =
    let h = says_at line at _ _ (Ok (p, m)) (Ok (q, n)) r s w x in
    let l : m ≡ n = ap end_in h in
    absurd (conflict qs f (sym (terms_once line m (Err f) (Ok qs) u (subst (λ i. TermsSay line i (Ok qs)) (sym l) t))))
terms_once line at a b (text.bad_later {end = m} {term = p} {fault = f} r d w u) (text.bad_later {end = n} {term = q} {fault = g} s e x t) =
    let h = says_at line at _ _ (Ok (p, m)) (Ok (q, n)) r s w x in
    let l : m ≡ n = ap end_in h in
    terms_once line m (Err f) (Err g) u (subst (λ i. TermsSay line i (Err g)) (sym l) t)

-- the place after the one term, which others follow or not
followed_once : (line : List ℕ) (m n after : ℕ) (x y : Term) → ◌≡◌ {A = Result (Term × ℕ) LexFault} (Ok (x, m)) (Ok (y, n)) → IsRunAt is_blank line m (length line) → IsRunAt is_blank line n after → after ≢ length line → ⊥
followed_once line m n after x y same run other more = more (run_once is_blank line n after (length line) other (subst (λ i. IsRunAt is_blank line i (length line)) (ap end_in same) run))

one_term_once : (line : List ℕ) (a b : Result Term ProofFault) → OneTermSays line a → OneTermSays line b → a ≡ b
one_term_once line a b (text.not_a_term r d) (text.not_a_term s e) = refl
one_term_once line a b (text.not_a_term r d) (text.bad_term s e x) = absurd (true≢false (begins_at line 0 _ _ true false s r e d))
one_term_once line a b (text.not_a_term r d) (text.only_term s e x t) = absurd (true≢false (begins_at line 0 _ _ true false s r e d))
one_term_once line a b (text.not_a_term r d) (text.followed s e x t n) = refl
one_term_once line a b (text.bad_term r d w) (text.not_a_term s e) = absurd (true≢false (begins_at line 0 _ _ true false r s d e))
one_term_once line a b (text.bad_term {fault = f} r d w) (text.bad_term {fault = g} s e x) = let h = says_at line 0 _ _ (Err f) (Err g) r s w x in let k : f ≡ g = cc in ap (λ q. Err (Lex q)) k
one_term_once line a b (text.bad_term r d w) (text.only_term s e x t) = absurd (mixed line 0 _ _ _ _ r s w x)
one_term_once line a b (text.bad_term r d w) (text.followed s e x t n) = absurd (mixed line 0 _ _ _ _ r s w x)
one_term_once line a b (text.only_term r d w u) (text.not_a_term s e) = absurd (true≢false (begins_at line 0 _ _ true false r s d e))
one_term_once line a b (text.only_term r d w u) (text.bad_term s e x) = absurd (mixed line 0 _ _ _ _ s r x w)
one_term_once line a b (text.only_term {end = m} {term = p} r d w u) (text.only_term {end = n} {term = q} s e x t) = let h = says_at line 0 _ _ (Ok (p, m)) (Ok (q, n)) r s w x in let kk : Some p ≡ Some q = ap term_in h in let k : p ≡ q = cc in ap Ok k
one_term_once line a b (text.only_term {end = m} {term = p} r d w u) (text.followed {end = n} {after = k} {term = q} s e x t m2) = absurd (followed_once line m n k p q (says_at line 0 _ _ (Ok (p, m)) (Ok (q, n)) r s w x) u t m2)
one_term_once line a b (text.followed r d w u m1) (text.not_a_term s e) = refl
one_term_once line a b (text.followed r d w u m1) (text.bad_term s e x) = absurd (mixed line 0 _ _ _ _ s r x w)
one_term_once line a b (text.followed {end = m} {after = k} {term = p} r d w u m1) (text.only_term {end = n} {term = q} s e x t) = absurd (followed_once line n m k q p (says_at line 0 _ _ (Ok (q, n)) (Ok (p, m)) s r x w) t u m1)
one_term_once line a b (text.followed r d w u m1) (text.followed s e x t m2) = refl

-- one word comes first
words_once : (line : List ℕ) (a b c d : ℕ) → FirstWord line a b → FirstWord line c d → (a ≡ c) × (b ≡ d)
words_once line a b c d f g =
    let begins = run_once is_blank line 0 a c f.blanks g.blanks in
    (begins, run_once no_blank line c b d (subst (λ i. IsRunAt no_blank line i b) begins f.run) g.run)

same_word : (line : List ℕ) (a b c d : ℕ) → FirstWord line a b → FirstWord line c d → slice_range line a b ≡ slice_range line c d
same_word line a b c d f g = let same = words_once line a b c d f g in ap₂ (slice_range line) same.0 same.1

side_once : (word line : List ℕ) (terms : List Term) (v : Version) (a b : Result (List Term) ProofFault) → SideSays word line terms v a → SideSays word line terms v b → a ≡ b
side_once word line terms v a b (text.other_word f e) (text.other_word g d) = refl
side_once word line terms v a b (text.other_word f e) (text.by_terms g d t) = absurd (true≢false (sym d ∙ ap (λ w. bytes_eq w word) (same_word line _ _ _ _ g f) ∙ e))
side_once word line terms v a b (text.by_terms f e u) (text.other_word g d) = absurd (true≢false (sym e ∙ ap (λ w. bytes_eq w word) (same_word line _ _ _ _ f g) ∙ d))
side_once word line terms v a b (text.by_terms {begin = i} {end = j} {answer = p} f e u) (text.by_terms {begin = k} {end = l} {answer = q} g d t) =
    let ends = (words_once line i j k l f g).1 in
    ap some_terms (terms_once line j p q u (subst (λ n. TermsSay line n q) (sym ends) t))
side_once word line terms v a b text.by_numbers text.by_numbers = refl

stage_once : (p : ProofState) (stage : StageShape) (line : List ℕ) (a b : Result ProofState ProofFault) → StageSays p stage line a → StageSays p stage line b → a ≡ b
stage_once p AtHeader line a b x y = x ∙ sym y
stage_once p AtCount line a b x y = x ∙ sym y
stage_once p (AtTerm n) line a b x y = x.2 ∙ ap (after_term p n) (one_term_once line x.0 y.0 x.1 y.1) ∙ sym y.2
stage_once p AtStep line a b x y = x ∙ sym y
stage_once p (AtLeft key) line a b x y = x.2 ∙ ap (after_left p key) (side_once (codes "left") line p.terms p.version x.0 y.0 x.1 y.1) ∙ sym y.2
stage_once p (AtRight key left) line a b x y = x.2 ∙ ap (after_right p key left) (side_once (codes "right") line p.terms p.version x.0 y.0 x.1 y.1) ∙ sym y.2
stage_once p (AtSupport step) line a b x y = x ∙ sym y
stage_once p AtEnd line a b x y = x ∙ sym y

line_once : (p : ProofState) (line : List ℕ) (a b : Result ProofState ProofFault) → ProofLineSays p line a → ProofLineSays p line b → a ≡ b
line_once p line a b (text.no_utf8 n) (text.no_utf8 m) = refl
line_once p line a b (text.no_utf8 n) (text.in_utf8 u t) = absurd (n u)
line_once p line a b (text.in_utf8 u t) (text.no_utf8 m) = absurd (m u)
line_once p line a b (text.in_utf8 u x) (text.in_utf8 v y) = stage_once p p.stage line a b x y

pub lines_once : (p : ProofState) (number : ℕ) (content : List (List ℕ)) (a b : Result ProofState ProofRefusal) → ProofLinesSay p number content a → ProofLinesSay p number content b → a ≡ b
lines_once p number content a b text.no_line text.no_line = refl
lines_once p number content a b (text.faulty_line {line = l} {fault = f} x) (text.faulty_line {fault = g} y) =
    let h = line_once p l (Err f) (Err g) x y in let k : f ≡ g = cc in ap (λ q. Err (record { line = number; fault = q })) k
lines_once p number content a b (text.faulty_line {line = l} {fault = f} x) (text.good_line {next = n} y more) = absurd (conflict n f (line_once p l (Ok n) (Err f) y x))
lines_once p number content a b (text.good_line {next = n} {line = l} x more) (text.faulty_line {fault = f} y) = absurd (conflict n f (line_once p l (Ok n) (Err f) x y))
lines_once p number content a b (text.good_line {next = m} {line = l} {more = ls} x more) (text.good_line {next = n} y others) =
    let h = line_once p l (Ok m) (Ok n) x y in
    let k : m ≡ n = cc in
    lines_once m (number + 1) ls a b more (subst (λ q. ProofLinesSay q (number + 1) ls b) (sym k) others)

-- a proof file says at most one thing
pub proof_once : (limit : ℕ) (bytes : List ℕ) (a b : Result (List StepShape) ProofRefusal) → ProofSays limit bytes a → ProofSays limit bytes b → a ≡ b
proof_once limit bytes a b x y = x.2 ∙ ap (proof_or_refusal limit bytes) (lines_once proof_start 1 (judged limit bytes) x.0 y.0 x.1 y.1) ∙ sym y.2

-- so what was answered is what it says
pub only_told : (limit : ℕ) (bytes : List ℕ) (r : Result (List StepShape) (Stop ProofRefusal)) → IsSo (ProofSays limit bytes) r → (answer : Result (List StepShape) ProofRefusal) → ProofSays limit bytes answer → Gives r answer
only_told limit bytes (Ok steps) so answer says = proof_once limit bytes (Ok steps) answer so says
only_told limit bytes (Err NoMemory) so answer says = tt
only_told limit bytes (Err (Fault refusal)) so answer says = proof_once limit bytes (Err refusal) answer so says
