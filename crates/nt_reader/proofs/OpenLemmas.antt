-- A text whose lines are good so far is not refused: it may go on with spaces to the limit of bytes, and then it is too long.
use Rattle.std.proofs.Common.{◌≡◌, ◌≢◌, ◌↔◌, ℕ, Bool, true, false, zero, suc, ◌-◌, ◌≤◌, List, [], ◌∷◌, ◌++◌, length, take, drop, replicate, Result, Ok, Err, IsOk, refl, sym, ap, ◌∙◌, subst, arith, inl, inr, append_assoc, append-nil, length-append}
use Rattle.std.proofs.lemmas.List.{take-append-drop, length-replicate}
use Rattle.std.proofs.lemmas.List.Elements.{All-replicate}
use Rattle.gk_base.specs.declared.limits.Limits.{Limits}
use Rattle.gk_base.specs.declared.term.Triple.{Triple}
use Rattle.gk_base.specs.declared.read_fault.ReadFault.TheVariants.{TooLong}
use Rattle.gk_base.specs.declared.read_fault.ReadRefusal.{ReadRefusal}
use Rattle.gk_base.specs.Answers.{ReadStop, IsSo}
use Rattle.gk_base.specs.declared.stop.Stop.TheVariants.{NoMemory, Fault}
use Rattle.nt_reader.specs.File.{AreGood, FileSays, Refuses, IsOpen, line_of_next}
use Rattle.nt_reader.specs.Lines.{Cut, cut_of, is_line_byte}
use Rattle.nt_reader.specs.declared.state.State.{State}
use Rattle.nt_reader.specs.Reading.{Front, Reading, front_of, so_far_of}
use Rattle.nt_reader.specs.Kept.{IsFrontOf, IsStopped, HasCome, HasRead, FinishSays}
use Rattle.nt_reader.specs.Keeping.{Takes}
use Rattle.nt_reader.proofs.CutLemmas.{cut_append, some_plain}
use Rattle.nt_reader.proofs.FileLemmas.{long_for_good}
use Rattle.nt_reader.proofs.OneFile.{file_once}
use Rattle.nt_reader.proofs.StateLemmas.{all_few, refuses_more, stopped_more, finish_stopped}

-- spaces behind a text end no line
ended_before_spaces : (bytes : List ℕ) (n : ℕ) → (cut_of (bytes ++ replicate n 0x20)).ended ≡ (cut_of bytes).ended
ended_before_spaces bytes zero = ap (λ b. (cut_of b).ended) (append-nil bytes)
ended_before_spaces bytes (suc n) =
    ap (λ (c : Cut). c.ended)
    (cut_append bytes (replicate (suc n) 0x20)
    ∙ some_plain (cut_of bytes) (replicate (suc n) 0x20) (All-replicate (λ b. is_line_byte b ≡ true) (suc n) 0x20 refl) (omega (arith, length-replicate {A = ℕ} (suc n) 0x20)))

-- within the limit of bytes no file is too long
not_long : (limits : Limits) (bytes : List ℕ) (refusal : ReadRefusal) → length bytes ≤ limits.bytes → refusal.fault ≡ TooLong → FileSays limits bytes (Err refusal) → ⊥
not_long limits bytes refusal within long (inl h) = elim h.refused.why [ inl w ↦ (let e = w.2 in cc) | inr w ↦ (let e = w.3 in cc) ]
not_long limits bytes refusal within long (inr h) = omega (arith, h.longer)

module _ (limits : Limits) (seen : List ℕ) (triples : List Triple) (within : length seen ≤ limits.bytes) (good : AreGood (cut_of seen).ended triples) (few : length triples ≤ limits.triples) where
  -- the text filled up with spaces to the limit
  full : List ℕ
  full = seen ++ replicate (limits.bytes - length seen) 0x20

  length-full : length full ≡ limits.bytes
  unfolding full
  length-full = omega (arith, length-append seen (replicate (limits.bytes - length seen) 0x20), length-replicate {A = ℕ} (limits.bytes - length seen) 0x20)

  late : ReadRefusal
  late = record { line = line_of_next full 0x20; fault = TooLong }

  -- one byte more is too many
  long_later : Refuses limits (full ++ 0x20 ∷ []) late
  unfolding full late
  long_later =
      long_for_good limits full [] 0x20 triples late length-full
      (subst (λ (l : List (List ℕ)). AreGood l triples) (sym (ended_before_spaces seen (limits.bytes - length seen))) good) few refl refl

  -- a text whose lines are good so far is not yet refused, since it may go on with spaces
  pub open_so_far : IsOpen limits seen
  unfolding full late
  open_so_far = λ refusal h.
      let more : List ℕ = replicate (limits.bytes - length seen) 0x20 ++ 0x20 ∷ [] in
      let whole : seen ++ more ≡ (full ++ 0x20 ∷ []) ++ [] = sym (append_assoc seen (replicate (limits.bytes - length seen) 0x20) (0x20 ∷ [])) ∙ sym (append-nil (full ++ 0x20 ∷ [])) in
      let same : Err refusal ≡ Err late = file_once limits (seen ++ more) (Err refusal) (Err late) (h.always more) (subst (λ b. FileSays limits b (Err late)) (sym whole) (long_later.always [])) in
      let long : refusal.fault ≡ TooLong = cc in
      not_long limits seen refusal within long (subst (λ b. FileSays limits b (Err refusal)) (append-nil seen) (h.always []))

pub nothing_open : (limits : Limits) → IsOpen limits []
unfolding cut_of
nothing_open limits = open_so_far limits [] [] (omega arith) (record { answers = []; each = tt; have = refl }) (omega arith)

-- nor is a front of it
pub open_front : (limits : Limits) (bytes : List ℕ) → IsOpen limits bytes → (n : ℕ) → IsOpen limits (take n bytes)
open_front limits bytes h n = λ refusal r.
    h refusal (subst (λ b. Refuses limits b refusal) (take-append-drop n bytes) (refuses_more limits (take n bytes) (drop n bytes) refusal r))

-- nor is what stands
pub stands_open : (limits : Limits) (state : Front) (taken : List Triple) (seen : List ℕ) → IsFrontOf limits state taken seen → IsOpen limits seen
stands_open limits state taken seen s = open_so_far limits seen (taken ++ state.triples) s.within s.good (all_few limits state taken seen s)

-- a text is refused in one way
pub refused_one_way : (limits : Limits) (bytes : List ℕ) (r s : ReadRefusal) → Refuses limits bytes r → Refuses limits bytes s → r ≡ s
refused_one_way limits bytes r s x y = let same : Err r ≡ Err s = file_once limits (bytes ++ []) (Err r) (Err s) (x.always []) (y.always []) in cc

-- what was answered for a piece, against what the bytes so far have come to
abbrev pub Fed : {A : Type 0} → Limits → List ℕ → Result A ReadStop → Type 0
Fed limits bytes (Ok x) = IsOpen limits bytes
Fed limits bytes (Err stop) = IsStopped limits bytes stop

takes_fed : {A : Type 0} (limits : Limits) (old new : State) (taken : List Triple) (seen piece : List ℕ) (result : Result A ReadStop) →
    Takes limits old new piece result → IsFrontOf limits (front_of old) taken seen → Fed limits (seen ++ piece) result
takes_fed limits old new taken seen piece (Ok x) takes s = stands_open limits (front_of new) taken (seen ++ piece) (takes taken seen s)
takes_fed limits old new taken seen piece (Err stop) takes s = takes taken seen s

-- it was answered that these bytes are not refused
pub fed_open : {A : Type 0} (limits : Limits) (bytes : List ℕ) (answer : Result A ReadStop) → Fed limits bytes answer → IsOk answer → IsOpen limits bytes
fed_open limits bytes (Ok x) h k = h
fed_open limits bytes (Err stop) h k = absurd (cc)

-- a refusal was answered exactly where these bytes are refused so
pub fed_refused : {A : Type 0} (limits : Limits) (bytes : List ℕ) (answer : Result A ReadStop) → Fed limits bytes answer → answer ≢ Err NoMemory →
    (refusal : ReadRefusal) → (answer ≡ Err (Fault refusal)) ↔ Refuses limits bytes refusal
fed_refused limits bytes (Ok x) h n refusal = ((λ e. absurd (cc)), (λ r. absurd (h refusal r)))
fed_refused limits bytes (Err NoMemory) h n refusal = absurd (n refl)
fed_refused {A} limits bytes (Err (Fault s)) h n refusal = (
  (λ e. let same : s ≡ refusal = cc in subst (Refuses limits bytes) same h),
  (λ r. ap (λ w. let x : Result A ReadStop = Err (Fault w) in x) (refused_one_way limits bytes s refusal h r)),
)

-- ---- what clauses see of a reader, by its fields

module _ (reading : Reading) (limits : Limits) (running : Bool) (state : State) (stop : ReadStop)
    (is : Path Reading (record { limits = limits; so_far = so_far_of running state stop }) reading) where
  stopped_is : running ≡ false → reading.so_far ≡ Err stop
  stopped_is e = ap (λ (r : Reading). r.so_far) (sym is) ∙ ap (λ b. so_far_of b state stop) e

  running_is : running ≡ true → reading.so_far ≡ Ok (front_of state)
  running_is e = ap (λ (r : Reading). r.so_far) (sym is) ∙ ap (λ b. so_far_of b state stop) e

  limits_are : reading.limits ≡ limits
  limits_are = ap (λ (r : Reading). r.limits) (sym is)

  -- a running reader has what its state has
  pub standing : running ≡ true → (taken : List Triple) (seen : List ℕ) → HasRead reading taken seen → IsFrontOf limits (front_of state) taken seen
  standing e taken seen h =
      subst (λ (l : Limits). IsFrontOf l (front_of state) taken seen) limits_are (subst (λ (r : Result Front ReadStop). IsSo (HasCome reading.limits taken seen) r) (running_is e) h)

  -- another one has stopped, and no more bytes change that
  pub stopped_for_good : running ≡ false → (taken : List Triple) (seen piece : List ℕ) → HasRead reading taken seen → IsStopped reading.limits (seen ++ piece) stop
  stopped_for_good e taken seen piece h =
      stopped_more reading.limits seen (seen ++ piece) piece stop refl (subst (λ (r : Result Front ReadStop). IsSo (HasCome reading.limits taken seen) r) (stopped_is e) h)

  -- what was answered for a piece is what the bytes have come to
  pub piece_fed : {A : Type 0} (new : State) (piece : List ℕ) (result : Result A ReadStop) → running ≡ true → Takes limits state new piece result →
      (taken : List Triple) (seen : List ℕ) → HasRead reading taken seen → Fed reading.limits (seen ++ piece) result
  piece_fed new piece result e takes taken seen h =
      subst (λ (l : Limits). Fed l (seen ++ piece) result) (sym limits_are) (takes_fed limits state new taken seen piece result takes (standing e taken seen h))

  -- what the file says under the state's limits is the answer at the end
  pub finish_under : (taken : List Triple) (bytes : List ℕ) (result : Result (List Triple) ReadStop) → IsSo (FinishSays limits taken bytes) result → IsSo (FinishSays reading.limits taken bytes) result
  finish_under taken bytes result says = subst (λ (l : Limits). IsSo (FinishSays l taken bytes) result) (sym limits_are) says

  -- it answers so at the end, too
  pub stopped_at_end : running ≡ false → (taken : List Triple) (bytes : List ℕ) → HasRead reading taken bytes → IsSo (FinishSays reading.limits taken bytes) (Err stop)
  stopped_at_end e taken bytes h =
      finish_stopped reading.limits taken bytes stop (subst (λ (r : Result Front ReadStop). IsSo (HasCome reading.limits taken bytes) r) (stopped_is e) h)
