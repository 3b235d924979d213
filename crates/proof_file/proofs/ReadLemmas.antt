-- Lines of a proof file, one by one.
use Rattle.std.proofs.Common.{List, [], ◌∷◌, ◌++◌, ℕ, zero, suc, ◌+◌, ◌-◌, ◌<◌, ◌≤◌, Bool, true, false, ◌&&◌, ◌==◌, nat_le, nat_lt, Result, Ok, Err, Vec, All, map, length, take, slice_index, if◌then◌else◌, ◌≡◌, inl, inr, refl, sym, ap, ap₂, subst, ◌∙◌, arith, true≢false, append-nil, length-append}
use Rattle.std.specs.declared.alloc.Global.{Global}
use Rattle.std.proofs.lemmas.Bool.{cond-true, cond-false, le-leb, lt-leb, le-ltb, lt-ltb, cases_lt}
use Rattle.std.proofs.lemmas.List.{take_all}
use Rattle.std.proofs.lemmas.List.Elements.{All-nil}
use Rattle.std.specs.Iterator.{Yields}
use Rattle.std.specs.Vec.Iter.{into_iter_items, into_iter_steps}
use Rattle.std.specs.declared.vec.IntoIter.{IntoIter}
use Rattle.gk_base.specs.Answers.{IsSo}
use Rattle.gk_base.specs.declared.term.Term.{Term}
use Rattle.gk_base.specs.declared.stop.Stop.{Stop}
use Rattle.gk_base.specs.declared.stop.Stop.TheVariants.{NoMemory, Fault}
use Rattle.nt_reader.specs.Lines.{cut_of, last_of, lines}
use Rattle.nt_reader.specs.File.{judged, line_of_next}
use Rattle.proof_file.specs.Steps.{StepShape, StepNumbers, term_at, step_with, IsNumberedBelow}
use Rattle.proof_file.specs.ProofText as text
use Rattle.proof_file.specs.ProofText.{ProofState, proof_start, ProofLineSays, ProofLinesSay, proof_ended, ProofSays}
use Rattle.proof_file.specs.Splitting.{HasNoEnd, returned_after, IsSplit}
use Rattle.proof_file.specs.declared.fault.ProofRefusal.{ProofRefusal}
use Rattle.proof_file.specs.declared.fault.ProofFault.TheVariants.{FileTooLong}
use Rattle.proof_file.specs.declared.version.Version.TheVariants.{One}
use Rattle.proof_file.specs.declared.stage.Stage.TheVariants as stage
use Rattle.proof_file.specs.declared.progress.Progress.{Progress}
use Rattle.proof_file.specs.Progress.{AreBelow, stage_with, progress_with, IsBelow}
use Rattle.proof_file.specs.ReadLines.{LineTold, HasReadLines, LinesTold, HasReadAll, AllLinesTold, next_number}

-- whatever lines follow those that end in the rest of a text, it and they say what they say after the lines that were read
abbrev pub GoesOn : List ℕ → ProofState → ℕ → List ℕ → Type 0
GoesOn text p number rest = (more : List (List ℕ)) (answer : Result ProofState ProofRefusal) → ProofLinesSay p number ((cut_of rest).ended ++ more) answer
    → ProofLinesSay proof_start 1 ((cut_of text).ended ++ more) answer

pub goes_begin : (text : List ℕ) → GoesOn text proof_start 1 text
goes_begin text more answer says = says

-- one line more
module _ (bytes rest line after : List ℕ) (returned : Bool) (p : ProofState) (number : ℕ) (split : IsSplit rest line after returned) (on : GoesOn bytes p number rest) where
  pub goes_good : (q : ProofState) → ProofLineSays p line (Ok q) → GoesOn bytes q (number + 1) after
  goes_good q says more answer later = on more answer (subst (λ (l : List (List ℕ)). ProofLinesSay p number (l ++ more) answer) (sym split.ended) (text.good_line says later))

  pub goes_bad : (refusal : ProofRefusal) → refusal.line ≡ number → ProofLineSays p line (Err refusal.fault) → (more : List (List ℕ)) → ProofLinesSay proof_start 1 ((cut_of bytes).ended ++ more) (Err refusal)
  goes_bad refusal is says more =
      on more (Err refusal) (subst (λ (l : List (List ℕ)). ProofLinesSay p number (l ++ more) (Err refusal)) (sym split.ended)
      (subst (λ n. ProofLinesSay p number (line ∷ ((cut_of after).ended ++ more)) (Err (record { line = n; fault = refusal.fault }))) (sym is) (text.faulty_line says)))

-- no line more
pub goes_end : (bytes rest : List ℕ) (p : ProofState) (number : ℕ) → HasNoEnd rest → GoesOn bytes p number rest →
    (more : List (List ℕ)) (answer : Result ProofState ProofRefusal) → ProofLinesSay p number more answer → ProofLinesSay proof_start 1 ((cut_of bytes).ended ++ more) answer
goes_end bytes rest p number none on more answer says = on more answer (subst (λ (l : List (List ℕ)). ProofLinesSay p number (l ++ more) answer) (sym none.ended) says)

-- whether a carriage return came last
pub returned_more : (bytes rest line after : List ℕ) (before returned : Bool) → IsSplit rest line after returned → (cut_of bytes).returned ≡ returned_after before rest → (cut_of bytes).returned ≡ returned_after returned after
returned_more bytes [] line after before returned split is = absurd (let l = split.shorter in omega arith)
returned_more bytes (b ∷ rest) line after before returned split is = is ∙ split.returned_is

pub returned_end : (bytes rest : List ℕ) (returned empty : Bool) → HasNoEnd rest → (cut_of bytes).returned ≡ returned_after returned rest → (rest ≡ [] → empty ≡ true) → (0 < length rest → empty ≡ false) → (if returned then empty else false) ≡ (cut_of bytes).returned
returned_end bytes [] returned empty none is all some = ap (λ e. if returned then e else false) (all refl) ∙ same returned ∙ sym is
  where
    same : (b : Bool) → (if b then true else false) ≡ b
    same true = refl
    same false = refl
returned_end bytes (b ∷ rest) returned empty none is all some = ap (λ e. if returned then e else false) (some (omega arith)) ∙ same returned ∙ sym (is ∙ none.returned)
  where
    same : (b : Bool) → (if b then false else false) ≡ false
    same true = refl
    same false = refl

-- before the first line
pub begin_is : (names : List Term) (listed : Vec ℕ Global) (steps : Vec StepNumbers Global) → listed.items ≡ [] → steps.items ≡ [] →
    progress_with names (record { known = record { version = One; listed = listed; steps = steps }; stage = stage.Header }) ≡ proof_start
begin_is names listed steps a b = ap₂ (λ l s. record { version = One; terms = map (term_at names) l; steps = map (step_with names) s; stage = text.AtHeader }) a b

pub begin_below : (names : List Term) (listed : Vec ℕ Global) (steps : Vec StepNumbers Global) → listed.items ≡ [] → steps.items ≡ [] →
    IsBelow (length names) (record { known = record { version = One; listed = listed; steps = steps }; stage = stage.Header })
begin_below names listed steps a b = record {
  known = record {
    listed = subst (AreBelow (length names)) (sym a) (All-nil (λ n. n < length names));
    steps = subst (All (IsNumberedBelow (length names))) (sym b) (All-nil (IsNumberedBelow (length names)));
  };
  stage = tt;
}

pub none_of : {X : Type 0} (xs : List X) → length xs ≡ 0 → xs ≡ []
none_of [] h = refl
none_of (x ∷ xs) h = absurd (omega arith)

pub some_there : (n : ℕ) → false ≡ (n == 0) → 0 < n
some_there zero h = absurd (true≢false (sym h))
some_there (suc n) h = omega arith

-- a line was not read
pub lines_stop : (more : List Term) (bytes rest line after : List ℕ) (returned : Bool) (p : ProofState) (number : ℕ) → IsSplit rest line after returned → GoesOn bytes p number rest → (stop : Stop ProofRefusal) →
    LineTold more p line number (Err stop) → LinesTold more bytes (Err stop)
lines_stop more bytes rest line after returned p number split on NoMemory told = tt
lines_stop more bytes rest line after returned p number split on (Fault refusal) told = goes_bad bytes rest line after returned p number split on refusal told.0 told.1

-- the last line, which has no end
module _ (names : List Term) (bytes : List ℕ) (progress : Progress) (number : ℕ) (rest : List ℕ) (returned : Bool) (read : HasReadLines names bytes progress number rest returned) where
  pub no_last : length rest ≡ 0 → HasReadAll names bytes progress (number - 1)
  no_last count =
      let none = none_of rest count in
      let empty : last_of (cut_of bytes).rest ≡ [] = ap last_of (sym read.rest_is ∙ none) in
      let is = read.number_is in
      let all = ap length (ap (λ l. (cut_of bytes).ended ++ l) empty ∙ append-nil (cut_of bytes).ended) in
      record {
        says = subst (λ l. ProofLinesSay proof_start 1 ((cut_of bytes).ended ++ l) (Ok (progress_with names progress))) (sym empty) (read.on [] (Ok (progress_with names progress)) text.no_line);
        last_is = omega arith;
        below = read.below;
      }

  last_there : (b : ℕ) (more : List ℕ) → rest ≡ b ∷ more → last_of (cut_of bytes).rest ≡ rest ∷ []
  last_there b more is = ap last_of (sym read.rest_is ∙ is) ∙ ap (λ l. l ∷ []) (sym is)

  pub last_good : (after : List Term) (next : Progress) → 0 < length rest → ProofLineSays (progress_with names progress) rest (Ok (progress_with after next)) → IsBelow (length after) next → HasReadAll after bytes next number
  last_good after next some says below = by rest refl
    where
      by : (r : List ℕ) → rest ≡ r → HasReadAll after bytes next number
      by [] none = absurd (let n = ap length none in omega arith)
      by (b ∷ more) is =
          let one = last_there b more is in
          let number_is = read.number_is in
          let count = ap length (ap (λ l. (cut_of bytes).ended ++ l) one) in
          let sum = length-append (cut_of bytes).ended (rest ∷ []) in
          record {
            says = subst (λ l. ProofLinesSay proof_start 1 ((cut_of bytes).ended ++ l) (Ok (progress_with after next))) (sym one) (read.on (rest ∷ []) (Ok (progress_with after next)) (text.good_line says text.no_line));
            last_is = omega arith;
            below = below;
          }

  pub last_bad : (refusal : ProofRefusal) → 0 < length rest → refusal.line ≡ number → ProofLineSays (progress_with names progress) rest (Err refusal.fault) → ProofLinesSay proof_start 1 (lines bytes) (Err refusal)
  last_bad refusal some at says = by rest refl
    where
      by : (r : List ℕ) → rest ≡ r → ProofLinesSay proof_start 1 (lines bytes) (Err refusal)
      by [] none = absurd (let n = ap length none in omega arith)
      by (b ∷ more) is =
          subst (λ l. ProofLinesSay proof_start 1 ((cut_of bytes).ended ++ l) (Err refusal)) (sym (last_there b more is))
          (read.on (rest ∷ []) (Err refusal) (subst (λ n. ProofLinesSay (progress_with names progress) number (rest ∷ []) (Err (record { line = n; fault = refusal.fault }))) (sym at) (text.faulty_line says)))

  pub last_stops : (after : List Term) (stop : Stop ProofRefusal) → 0 < length rest → LineTold after (progress_with names progress) rest number (Err stop) → AllLinesTold after bytes (Err stop)
  last_stops after NoMemory some told = tt
  last_stops after (Fault refusal) some told = last_bad refusal some told.0 told.1

-- the lines of a file that is too long
pub long_says : (names : List Term) (limit : ℕ) (bytes : List ℕ) (progress : Progress) (number : ℕ) (rest : List ℕ) (returned : Bool) → HasReadLines names (take limit bytes) progress number rest returned → limit < length bytes →
    ProofSays limit bytes (Err (record { line = next_number number returned (slice_index bytes limit); fault = FileTooLong }))
long_says names limit bytes progress number rest returned read long =
    let front = take limit bytes in
    let state = progress_with names progress in
    let says = subst (λ l. ProofLinesSay proof_start 1 l (Ok state)) (append-nil (cut_of front).ended) (read.on [] (Ok state) text.no_line) in
    let same : judged limit bytes ≡ (cut_of front).ended = cond-false (nat_le (length bytes) limit) (lines bytes) (cut_of front).ended (lt-leb (length bytes) limit long) in
    let b = slice_index bytes limit in
    let line : next_number number returned b ≡ line_of_next front b =
    ap₂ (λ n r. next_number n r b) read.number_is read.returned_is ∙ by (length (cut_of front).ended) ((cut_of front).returned && b == 0x0A)
    in (
      Ok state,
      subst (λ l. ProofLinesSay proof_start 1 l (Ok state)) (sym same) says,
      ap (λ n. Err (record { line = n; fault = FileTooLong })) line
          ∙ sym (cond-true (nat_lt limit (length bytes)) (Err (record { line = line_of_next front b; fault = FileTooLong })) (proof_ended state state.stage (length (lines bytes))) (lt-ltb limit (length bytes) long)),
    )
  where
    by : (n : ℕ) (r : Bool) → (if r then (n + 1) - 1 else (n + 1)) ≡ (if r then n else (n + 1))
    by n true = omega arith
    by n false = refl

-- the lines of a file that is not
module _ (limit : ℕ) (bytes : List ℕ) (short : length bytes ≤ limit) where
  whole : take limit bytes ≡ bytes
  whole = take_all limit bytes short

  all_judged : judged limit bytes ≡ lines bytes
  all_judged = cond-true (nat_le (length bytes) limit) (lines bytes) (cut_of (take limit bytes)).ended (le-leb (length bytes) limit short)

  pub short_front : (front : List ℕ) → front ≡ take limit bytes → front ≡ bytes
  short_front front is = is ∙ whole

  pub short_good : (names : List Term) (progress : Progress) (last : ℕ) → HasReadAll names bytes progress last → (answer : Result (List StepShape) ProofRefusal) → answer ≡ proof_ended (progress_with names progress) (stage_with names progress.stage) last
      → ProofSays limit bytes answer
  short_good names progress last read answer is =
      let state = progress_with names progress in (
        Ok state,
        subst (λ l. ProofLinesSay proof_start 1 l (Ok state)) (sym all_judged) read.says,
        is ∙ ap (proof_ended state state.stage) read.last_is
            ∙ sym (cond-false (nat_lt limit (length bytes)) (Err (record { line = line_of_next (take limit bytes) (slice_index bytes limit); fault = FileTooLong })) (proof_ended state state.stage (length (lines bytes))) (le-ltb limit (length bytes) short)),
      )

  pub short_bad : (refusal : ProofRefusal) → ProofLinesSay proof_start 1 (lines bytes) (Err refusal) → ProofSays limit bytes (Err refusal)
  short_bad refusal says = (Err refusal, subst (λ l. ProofLinesSay proof_start 1 l (Err refusal)) (sym all_judged) says, refl)

-- a line that ends within the limit is refused
pub front_bad : (limit : ℕ) (bytes front : List ℕ) (refusal : ProofRefusal) → front ≡ take limit bytes → ((more : List (List ℕ)) → ProofLinesSay proof_start 1 ((cut_of front).ended ++ more) (Err refusal)) → ProofSays limit bytes (Err refusal)
front_bad limit bytes front refusal is says = elim (cases_lt limit (length bytes)) [
  | inr short ↦
      let whole = is ∙ take_all limit bytes short in (
        Err refusal,
        subst (λ l. ProofLinesSay proof_start 1 l (Err refusal)) (ap lines whole ∙ sym (cond-true (nat_le (length bytes) limit) (lines bytes) (cut_of (take limit bytes)).ended (le-leb (length bytes) limit short)))
            (says (last_of (cut_of front).rest)),
        refl,
      )
  | inl long ↦ (
    Err refusal,
    subst (λ l. ProofLinesSay proof_start 1 l (Err refusal))
        (append-nil (cut_of front).ended ∙ ap (λ f. (cut_of f).ended) is ∙ sym (cond-false (nat_le (length bytes) limit) (lines bytes) (cut_of (take limit bytes)).ended (lt-leb (length bytes) limit long)))
        (says []),
    refl,
  )
]

-- a line that ends within the limit was not read
pub front_stops : (names : List Term) (limit : ℕ) (bytes front : List ℕ) (stop : Stop ProofRefusal) → front ≡ take limit bytes → LinesTold names front (Err stop) → IsSo (ProofSays limit bytes) (Err stop)
front_stops names limit bytes front NoMemory is told = tt
front_stops names limit bytes front (Fault refusal) is told = front_bad limit bytes front refusal is told

-- the last line was not read
pub short_stops : (names : List Term) (limit : ℕ) (bytes : List ℕ) (stop : Stop ProofRefusal) → length bytes ≤ limit → AllLinesTold names bytes (Err stop) → IsSo (ProofSays limit bytes) (Err stop)
short_stops names limit bytes NoMemory short told = tt
short_stops names limit bytes (Fault refusal) short told = short_bad limit bytes short refusal told

-- the file says what its lines come to
pub ended_so : (limit : ℕ) (bytes : List ℕ) (ended : Result (List StepShape) ProofRefusal) (r : Result (List StepShape) (Stop ProofRefusal)) → ((answer : Result (List StepShape) ProofRefusal) → answer ≡ ended → ProofSays limit bytes answer) →
    IsSo (λ answer. answer ≡ ended) r → IsSo (ProofSays limit bytes) r
ended_so limit bytes ended (Ok steps) says is = says (Ok steps) is
ended_so limit bytes ended (Err NoMemory) says is = tt
ended_so limit bytes ended (Err (Fault refusal)) says is = says (Err refusal) is

-- what the iterator of a vector has given is a front of its items
pub taken_front : {X A : Type 0} (s : IntoIter X A) (xs : List X) (t : IntoIter X A) → Yields into_iter_steps s xs t → into_iter_items s ≡ xs ++ into_iter_items t
taken_front s [] t y = ap into_iter_items y
taken_front s (x ∷ xs) t y = y.1.0 ∙ ap (λ ys. x ∷ ys) (taken_front y.0 xs t y.2)
