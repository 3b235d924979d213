-- What is judged of the first bytes of a key file or a proof file, up to one more than the limit, is true of the file, and no
-- more of it is read.
use Rattle.std.proofs.Common.{List, ◌++◌, ◌≤◌, ℕ, Option, Some, None, IfSome, IsSomeAnd, Result, Ok, Err, if◌then◌else◌, ◌≡◌, ◌+◌, ◌<◌, refl, sym, ◌∙◌, ap, ap₂, subst, take, length, slice_index, arith, inl, inr}
use Rattle.std.proofs.lemmas.List.{take-take, take_all, length-take-le, get_or-take}
use Rattle.std.proofs.lemmas.Bool.{cases_lt, lt-ltb, lt-leb}
use Rattle.gk_base.specs.Answers.{IsSo}
use Rattle.gk_base.specs.declared.limits.Limits.{Limits}
use Rattle.gk_base.specs.declared.stop.Stop.{Stop}
use Rattle.gk_base.specs.declared.stop.Stop.TheVariants as stop
use Rattle.gk_io.specs.Files.{bytes_of}
use Rattle.gk_io.specs.declared.shelf.Shelf
use Rattle.nt_reader.specs.Lines.{cut_of, lines}
use Rattle.nt_reader.specs.File.{judged, line_of_next}
use Rattle.key_file.specs.KeyShape.{KeyShape}
use Rattle.key_lang.specs.declared.fault.KeyFault.TheVariants.{FileTooLong}
use Rattle.key_lang.specs.declared.fault.KeyRefusal.{KeyRefusal}
use Rattle.key_lang.specs.Answers.{stops, goes_on}
use Rattle.key_lang.specs.OpenKey.{KeyState}
use Rattle.key_lang.specs.KeyText.{LinesSay, KeysSay, start, ended, after_lines}
use Rattle.proof_file.specs.Steps.{StepShape}
use Rattle.proof_file.specs.ProofText.{ProofState, ProofLinesSay, ProofSays, proof_start, proof_ended, after_proof_lines, proof_or_refusal}
use Rattle.proof_file.specs.declared.fault.ProofFault.TheVariants as proof_fault
use Rattle.proof_file.specs.declared.fault.ProofRefusal.{ProofRefusal}
use Rattle.gkey_cmd.specs.HowFar.{IsReadWithin, KeysLeft, ProofLeft}
use Rattle.gkey_cmd.specs.Endings.{keys_ending, proof_ending, EndsAt}
use Rattle.gkey_cmd.specs.declared.file.File.TheVariants.{Keys, Proof}

-- the first bytes of a longer file
module _ (limit : ℕ) (bytes : List ℕ) (longer : limit < length bytes) where
  abbrev front : List ℕ
  front = take (limit + 1) bytes

  length_front : length front ≡ limit + 1
  length_front = length-take-le (limit + 1) bytes (omega arith)

  same_front : take limit front ≡ take limit bytes
  same_front = take-take limit (limit + 1) bytes (omega arith)

  judged_long : (xs : List ℕ) → limit < length xs → judged limit xs ≡ (cut_of (take limit xs)).ended
  judged_long xs h = ap (λ b. if b then lines xs else (cut_of (take limit xs)).ended) (lt-leb (length xs) limit h)

  same_judged : judged limit front ≡ judged limit bytes
  same_judged = judged_long front (omega (arith, length_front)) ∙ ap (λ xs. (cut_of xs).ended) same_front ∙ sym (judged_long bytes longer)

  abbrev refusal_of : List ℕ → Result (List KeyShape) KeyRefusal
  refusal_of xs = Err (record { line = line_of_next (take limit xs) (slice_index xs limit); fault = FileTooLong })

  after_long : (xs : List ℕ) → limit < length xs → (state : KeyState) → after_lines limit xs state ≡ refusal_of xs
  after_long xs h state = ap (λ b. if b then refusal_of xs else ended state.keys state.current (length (lines xs))) (lt-ltb limit (length xs) h)

  same_refusal : refusal_of front ≡ refusal_of bytes
  same_refusal = ap₂ (λ xs b. Err (record { line = line_of_next xs b; fault = FileTooLong })) same_front (get_or-take (limit + 1) bytes limit 0 (omega arith))

  same_after : (state : KeyState) → after_lines limit front state ≡ after_lines limit bytes state
  same_after state = after_long front (omega (arith, length_front)) state ∙ same_refusal ∙ sym (after_long bytes longer state)

  keys_long : (answer : Result (List KeyShape) KeyRefusal) → KeysSay limit front answer → KeysSay limit bytes answer
  keys_long (Err refusal) (stops h) = stops (subst (λ ls. LinesSay start 1 ls (Err refusal)) same_judged h)
  keys_long answer (goes_on {x} h e) = goes_on (subst (λ ls. LinesSay start 1 ls (Ok x)) same_judged h) (e ∙ same_after x)

  -- the same of a proof file
  abbrev proof_refusal_of : List ℕ → Result (List StepShape) ProofRefusal
  proof_refusal_of xs = Err (record { line = line_of_next (take limit xs) (slice_index xs limit); fault = proof_fault.FileTooLong })

  after_long_proof : (xs : List ℕ) → limit < length xs → (state : ProofState) → after_proof_lines limit xs state ≡ proof_refusal_of xs
  after_long_proof xs h state = ap (λ b. if b then proof_refusal_of xs else proof_ended state state.stage (length (lines xs))) (lt-ltb limit (length xs) h)

  same_proof_refusal : proof_refusal_of front ≡ proof_refusal_of bytes
  same_proof_refusal = ap₂ (λ xs b. Err (record { line = line_of_next xs b; fault = proof_fault.FileTooLong })) same_front (get_or-take (limit + 1) bytes limit 0 (omega arith))

  same_proof : (read : Result ProofState ProofRefusal) → proof_or_refusal limit front read ≡ proof_or_refusal limit bytes read
  same_proof (Err refusal) = refl
  same_proof (Ok state) = after_long_proof front (omega (arith, length_front)) state ∙ same_proof_refusal ∙ sym (after_long_proof bytes longer state)

  proof_long : (answer : Result (List StepShape) ProofRefusal) → ProofSays limit front answer → ProofSays limit bytes answer
  proof_long answer h = (h.0, subst (λ ls. ProofLinesSay proof_start 1 ls h.0) same_judged h.1, h.2 ∙ same_proof h.0)

keys_front : (limit : ℕ) (bytes : List ℕ) (answer : Result (List KeyShape) KeyRefusal) → KeysSay limit (take (limit + 1) bytes) answer → KeysSay limit bytes answer
keys_front limit bytes answer h = elim (cases_lt limit (length bytes)) [
  | inl longer ↦ keys_long limit bytes longer answer h
  | inr whole ↦ subst (λ xs. KeysSay limit xs answer) (take_all (limit + 1) bytes (omega arith)) h
]

proof_front : (limit : ℕ) (bytes : List ℕ) (answer : Result (List StepShape) ProofRefusal) → ProofSays limit (take (limit + 1) bytes) answer → ProofSays limit bytes answer
proof_front limit bytes answer h = elim (cases_lt limit (length bytes)) [
  | inl longer ↦ proof_long limit bytes longer answer h
  | inr whole ↦ subst (λ xs. ProofSays limit xs answer) (take_all (limit + 1) bytes (omega arith)) h
]

pub proof_loaded : (held : Option (List (List ℕ × List ℕ))) (limit : ℕ) (name bytes seen : List ℕ) (answer : Result (List StepShape) ProofRefusal) →
    IfSome held (λ files. bytes ≡ take (limit + 1) (bytes_of files name)) → seen ≡ bytes → ProofSays limit seen answer →
    IfSome held (λ files. ProofSays limit (bytes_of files name) answer)
proof_loaded None limit name bytes seen answer h e j = tt
proof_loaded (Some files) limit name bytes seen answer h e j =
    proof_front limit (bytes_of files name) answer (subst (λ xs. ProofSays limit xs answer) (e ∙ h) j)

pub keys_loaded : (held : Option (List (List ℕ × List ℕ))) (limit : ℕ) (name bytes seen : List ℕ) (answer : Result (List KeyShape) KeyRefusal) →
    IfSome held (λ files. bytes ≡ take (limit + 1) (bytes_of files name)) → seen ≡ bytes → KeysSay limit seen answer →
    IfSome held (λ files. KeysSay limit (bytes_of files name) answer)
keys_loaded None limit name bytes seen answer h e j = tt
keys_loaded (Some files) limit name bytes seen answer h e j =
    keys_front limit (bytes_of files name) answer (subst (λ xs. KeysSay limit xs answer) (e ∙ h) j)

-- a file whose first bytes were read is left within one byte of its limit
left_within : (limit : ℕ) (bytes : List ℕ) (rest : Option (List ℕ)) (read : List ℕ) → length read ≤ limit + 1 →
    IsSomeAnd rest (λ left. read ++ left ≡ bytes) → IsSomeAnd rest (λ left. IsReadWithin limit bytes left)
left_within limit bytes None read within h = h
left_within limit bytes (Some left) read within h = record { gone = read; whole = sym h; within = within }

pub file_left : (asked : Option (List ℕ)) (held : Option (List (List ℕ × List ℕ))) (rest : Option (List ℕ)) (name : List ℕ) (limit : ℕ) (read : List ℕ) →
    asked ≡ Some name → length read ≤ limit + 1 → IfSome held (λ files. IsSomeAnd rest (λ left. read ++ left ≡ bytes_of files name)) →
    (asked ≡ Some name) × IfSome held (λ files. IsSomeAnd rest (λ left. IsReadWithin limit (bytes_of files name) left))
file_left asked None rest name limit read e within h = (e, tt)
file_left asked (Some files) rest name limit read e within h = (e, left_within limit (bytes_of files name) rest read within h)

-- the first bytes say no keys, and the run ends at the key file
pub keys_end : {K : Type 0} (shelf : Shelf.Ghosts K) (before after : K) (limits : Limits) (name bytes seen : List ℕ) (stop : Stop KeyRefusal) → shelf.faults after ≡ shelf.faults before →
    IfSome (shelf.held before) (λ files. bytes ≡ take (limits.key_bytes + 1) (bytes_of files name)) → seen ≡ bytes → KeysLeft shelf before after limits name →
    IsSo {A = List KeyShape} (KeysSay limits.key_bytes seen) (Err stop) → EndsAt shelf before after limits Keys name (keys_ending stop)
keys_end shelf before after limits name bytes seen stop.NoMemory count loaded same left says = count
keys_end shelf before after limits name bytes seen (stop.Fault refusal) count loaded same left says =
    (count, keys_loaded (shelf.held before) limits.key_bytes name bytes seen (Err refusal) loaded same says, left)

-- the first bytes say no proof, and the run ends at the proof file
pub proof_end : {K : Type 0} (shelf : Shelf.Ghosts K) (before after : K) (limits : Limits) (name bytes seen : List ℕ) (stop : Stop ProofRefusal) → shelf.faults after ≡ shelf.faults before →
    IfSome (shelf.held before) (λ files. bytes ≡ take (limits.bytes + 1) (bytes_of files name)) → seen ≡ bytes → ProofLeft shelf before after limits name →
    IsSo {A = List StepShape} (ProofSays limits.bytes seen) (Err stop) → EndsAt shelf before after limits Proof name (proof_ending stop)
proof_end shelf before after limits name bytes seen stop.NoMemory count loaded same left says = count
proof_end shelf before after limits name bytes seen (stop.Fault refusal) count loaded same left says =
    (count, proof_loaded (shelf.held before) limits.bytes name bytes seen (Err refusal) loaded same says, left)
