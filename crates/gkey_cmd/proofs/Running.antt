-- What a run leaves, from how it ends.
use Rattle.std.proofs.Common.{List, [], ◌∷◌, ℕ, Option, Some, None, IfSome, IsTrue, vec_items, ◌==◌, ◌≡◌, ◌≢◌, ◌⊎◌, ◌↔◌, ◌∙◌, inl, inr, refl, sym, ap, subst, append-nil, arith}
use Rattle.std.specs.List.{list_any}
use Rattle.gk_base.specs.declared.limits.Limits.{Limits}
use Rattle.gk_io.specs.Cause.{Rose}
use Rattle.gk_io.specs.Taken.{Appends}
use Rattle.gk_io.specs.declared.shelf.Shelf
use Rattle.gk_io.specs.declared.sink.Sink
use Rattle.graph_rows.proofs.CallerLemmas.{told, told_more}
use Rattle.gkey_cmd.specs.Commands.{Wanted, AsksNoFiles}
use Rattle.gkey_cmd.specs.Texts.{usage, out_of_memory, write_failed, read_failed, refused_text}
use Rattle.gkey_cmd.specs.Reading.{NamedFiles}
use Rattle.gkey_cmd.specs.HowFar.{LeavesFiles, StopsReading}
use Rattle.gkey_cmd.specs.Failing.{HasFailed}
use Rattle.gkey_cmd.specs.Sent.{TookAll, TookLess, Sent}
use Rattle.gkey_cmd.specs.Written.{status_of, IsAnswer, IsRefused, AreAccepted, IsAnswered, WritesFor, AsNoCommand, AsRefused, AsAnswered}
use Rattle.gkey_cmd.specs.Demo.{files_for}
use Rattle.gkey_cmd.specs.Endings.{Caused, IsNoFailure, LeavesShelf, IsReportedAs, IsTold}
use Rattle.gkey_cmd.specs.Run.{IsRun}
use Rattle.gkey_cmd.proofs.RefusedOnce.{refusal_once, not_refused}
use Rattle.gkey_cmd.specs.declared.file.File.{File}
use Rattle.gkey_cmd.specs.declared.ending.Answer.{Answer}
use Rattle.gkey_cmd.specs.declared.ending.Answer.TheVariants.{Given, NotAccepted, NotTheSame}
use Rattle.gkey_cmd.specs.declared.ending.Refusal.{Refusal}
use Rattle.gkey_cmd.specs.declared.ending.Ending.{Ending}
use Rattle.gkey_cmd.specs.declared.ending.Ending.TheVariants.{NoCommand, Failed, Refused, NoMemory, Done}

-- ---- sinks that took nothing

appends_nothing : (taken : Option (List ℕ)) → Appends taken taken []
appends_nothing None = tt
appends_nothing (Some bytes) = sym (append-nil bytes)

-- a sink that is as before took the whole of nothing
took_nothing : {O : Type 0} (sink : Sink.Ghosts O) (old new : O) → new ≡ old → TookAll sink old new []
took_nothing sink old new e = record {
  count = ap (λ s. sink.faults s) e;
  bytes = subst (λ s. Appends (sink.taken old) (sink.taken s) []) (sym e) (appends_nothing (sink.taken old));
}

-- ---- statuses

is_answer : (answer : Answer) → IsAnswer (status_of answer)
is_answer Given = inl refl
is_answer NotAccepted = inr refl
is_answer NotTheSame = inr refl

not_two : (answer : Answer) → status_of answer ≡ 2 → ⊥
not_two Given e = omega arith
not_two NotAccepted e = omega arith
not_two NotTheSame e = omega arith

not_three : (answer : Answer) → status_of answer ≡ 3 → ⊥
not_three Given e = omega arith
not_three NotAccepted e = omega arith
not_three NotTheSame e = omega arith

not_five : (answer : Answer) → status_of answer ≡ 5 → ⊥
not_five Given e = omega arith
not_five NotAccepted e = omega arith
not_five NotTheSame e = omega arith

not_sixty_four : (answer : Answer) → status_of answer ≡ 64 → ⊥
not_sixty_four Given e = omega arith
not_sixty_four NotAccepted e = omega arith
not_sixty_four NotTheSame e = omega arith

not_four : (answer : Answer) → status_of answer ≡ 4 → ⊥
not_four Given e = omega arith
not_four NotAccepted e = omega arith
not_four NotTheSame e = omega arith

no_answer : (status other : ℕ) → status ≡ other → 1 ≢ other → 0 ≢ other → IsAnswer status → ⊥
no_answer status other e one zero h = elim h [ inl k ↦ zero (sym k ∙ e) | inr k ↦ one (sym k ∙ e) ]

no_answer_nor_four : (status other : ℕ) → status ≡ other → 1 ≢ other → 0 ≢ other → 4 ≢ other → IsAnswer status ⊎ (status ≡ 4) → ⊥
no_answer_nor_four status other e one zero four h = elim h [ inl k ↦ no_answer status other e one zero k | inr k ↦ four (sym k ∙ e) ]

-- ---- a whole run

module _ {K O E : Type 0} (shelf : Shelf.Ghosts K) (out : Sink.Ghosts O) (err : Sink.Ghosts E) (old new : K) (out_before out_after : O) (err_before err_after : E) (command : Option Wanted) (limits : Limits) (status : ℕ) where
  -- the files that the command goes by
  abbrev pub told_files : Option NamedFiles
  told_files = files_for command (shelf.held old)

  told_for : (asked : Wanted) → command ≡ Some asked → (P : NamedFiles → Type 0) → IfSome (files_for (Some asked) (shelf.held old)) P → IfSome told_files P
  told_for asked e P h = subst (λ w. IfSome (files_for w (shelf.held old)) P) (sym e) h

  abbrev pub WritesAll : NamedFiles → Type 0
  WritesAll files = status ≢ 3 → status ≢ 4 → status ≢ 5 →
      (output error : List ℕ) × WritesFor command files limits status output error × TookAll out out_before out_after output × Sent err err_before err_after error

  pub written_of : (ending : Ending) → Caused shelf old new command limits ending → IsReportedAs out err out_before out_after err_before err_after ending status → IfSome told_files WritesAll
  written_of NoCommand c d = told told_files _ (λ files n3 n4 n5. ([], usage, AsNoCommand c.0 d.0 refl refl, took_nothing out out_before out_after d.1, d.2))
  written_of (Failed file) c d = told told_files _ (λ files n3 n4 n5. absurd (n3 d.0))
  written_of (Refused refusal) c d = told_more told_files (λ files. IsRefused (Some c.0) files limits refusal) _
      (λ files r n3 n4 n5. (
        [],
        refused_text refusal,
        AsRefused refusal (subst (λ w. IsRefused w files limits refusal) (sym c.1) r) d.0 refl refl,
        took_nothing out out_before out_after d.1,
        d.2,
      )) (told_for c.0 c.1 (λ files. IsRefused (Some c.0) files limits refusal) c.2.1)
  written_of NoMemory c d = told told_files _ (λ files n3 n4 n5. absurd (n5 d.0))
  written_of (Done answer text) c d = told_more told_files (λ files. IsAnswered (Some c.0) files limits answer (vec_items text)) _
      (λ files a n3 n4 n5. elim d [
        | inl w ↦ (
          vec_items text,
          [],
          AsAnswered answer (subst (λ x. IsAnswered x files limits answer (vec_items text)) (sym c.1) a) w.0 refl,
          w.1,
          inl (took_nothing err err_before err_after w.2),
        )
        | inr w ↦ absurd (n4 w.0)
      ]) (told_for c.0 c.1 (λ files. IsAnswered (Some c.0) files limits answer (vec_items text)) c.2.1)

  abbrev pub NamesRefusal : NamedFiles → Type 0
  NamesRefusal files = (refusal : Refusal) → IsRefused command files limits refusal → ¬ (Rose (shelf.faults old) (shelf.faults new)) →
      status ≢ 5 → (status ≡ 2) × Sent err err_before err_after (refused_text refusal)

  pub refuses_of : (ending : Ending) → Caused shelf old new command limits ending → IsReportedAs out err out_before out_after err_before err_after ending status → IfSome told_files NamesRefusal
  refuses_of NoCommand c d = told told_files _ (λ files r h n n5. absurd (subst (λ w. IsRefused w files limits r) c.0 h))
  refuses_of (Failed file) c d = told told_files _ (λ files r h n n5. absurd (n c.2.rose))
  refuses_of (Refused refusal) c d = told_more told_files (λ files. IsRefused (Some c.0) files limits refusal) _
      (λ files k r h n n5.
      let same : refusal ≡ r = refusal_once limits files c.0 refusal r k (subst (λ w. IsRefused w files limits r) c.1 h) in
      (d.0, subst (λ t. Sent err err_before err_after t) (ap refused_text same) d.2)) (told_for c.0 c.1 (λ files. IsRefused (Some c.0) files limits refusal) c.2.1)
  refuses_of NoMemory c d = told told_files _ (λ files r h n n5. absurd (n5 d.0))
  refuses_of (Done answer text) c d = told_more told_files (λ files. IsAnswered (Some c.0) files limits answer (vec_items text)) _
      (λ files a r h n n5. absurd (not_refused limits files c.0 r (subst (λ w. IsRefused w files limits r) c.1 h) a.0)) (told_for c.0 c.1 (λ files. IsAnswered (Some c.0) files limits answer (vec_items text)) c.2.1)

  abbrev pub IsAnsweredThen : NamedFiles → Type 0
  IsAnsweredThen files = AreAccepted command files limits → ¬ (Rose (shelf.faults old) (shelf.faults new)) →
      ¬ (Rose (out.faults out_before) (out.faults out_after)) → status ≢ 5 → IsAnswer status

  pub answers_of : (ending : Ending) → Caused shelf old new command limits ending → IsReportedAs out err out_before out_after err_before err_after ending status → IfSome told_files IsAnsweredThen
  answers_of NoCommand c d = told told_files _ (λ files h n m n5. absurd (subst (λ w. AreAccepted w files limits) c.0 h))
  answers_of (Failed file) c d = told told_files _ (λ files h n m n5. absurd (n c.2.rose))
  answers_of (Refused refusal) c d = told_more told_files (λ files. IsRefused (Some c.0) files limits refusal) _
      (λ files k h n m n5. absurd (not_refused limits files c.0 refusal k (subst (λ w. AreAccepted w files limits) c.1 h))) (told_for c.0 c.1 (λ files. IsRefused (Some c.0) files limits refusal) c.2.1)
  answers_of NoMemory c d = told told_files _ (λ files h n m n5. absurd (n5 d.0))
  answers_of (Done answer text) c d = told told_files _ (λ files h n m n5. elim d [
    | inl w ↦ subst IsAnswer (sym w.0) (is_answer answer)
    | inr w ↦ absurd (m w.1.rose)
  ])

  pub done_of : (ending : Ending) → Caused shelf old new command limits ending → IsReportedAs out err out_before out_after err_before err_after ending status → IsAnswer status →
      (err_after ≡ err_before) × ((answer : Answer) × (output : List ℕ) × (status ≡ status_of answer) × TookAll out out_before out_after output
      × IfSome told_files (λ files. IsAnswered command files limits answer output))
  done_of NoCommand c d h = absurd (no_answer status 64 d.0 (λ k. omega arith) (λ k. omega arith) h)
  done_of (Failed file) c d h = absurd (no_answer status 3 d.0 (λ k. omega arith) (λ k. omega arith) h)
  done_of (Refused refusal) c d h = absurd (no_answer status 2 d.0 (λ k. omega arith) (λ k. omega arith) h)
  done_of NoMemory c d h = absurd (no_answer status 5 d.0 (λ k. omega arith) (λ k. omega arith) h)
  done_of (Done answer text) c (inl w) h = (
    w.2,
    (
      answer,
      vec_items text,
      w.0,
      w.1,
      told_more told_files (λ files. IsAnswered (Some c.0) files limits answer (vec_items text)) _
          (λ files a. subst (λ x. IsAnswered x files limits answer (vec_items text)) (sym c.1) a) (told_for c.0 c.1 (λ files. IsAnswered (Some c.0) files limits answer (vec_items text)) c.2.1),
    ),
  )
  done_of (Done answer text) c (inr w) h = absurd (no_answer status 4 w.0 (λ k. omega arith) (λ k. omega arith) h)

  pub stops_of : (ending : Ending) → Caused shelf old new command limits ending → IsReportedAs out err out_before out_after err_before err_after ending status → status ≡ 2 →
      (refusal : Refusal) × Sent err err_before err_after (refused_text refusal) × IfSome told_files (λ files. IsRefused command files limits refusal)
      × StopsReading shelf old new command limits refusal
  stops_of NoCommand c d two = absurd (omega arith)
  stops_of (Failed file) c d two = absurd (omega arith)
  stops_of (Refused refusal) c d two = (
    refusal,
    d.2,
    told_more told_files (λ files. IsRefused (Some c.0) files limits refusal) _
        (λ files r. subst (λ w. IsRefused w files limits refusal) (sym c.1) r) (told_for c.0 c.1 (λ files. IsRefused (Some c.0) files limits refusal) c.2.1),
    subst (λ w. StopsReading shelf old new w limits refusal) (sym c.1) c.2.2,
  )
  stops_of NoMemory c d two = absurd (omega arith)
  stops_of (Done answer text) c (inl w) two = absurd (not_two answer (sym w.0 ∙ two))
  stops_of (Done answer text) c (inr w) two = absurd (let four = w.0 in omega arith)

  pub unwritten_of : (ending : Ending) → Caused shelf old new command limits ending → IsReportedAs out err out_before out_after err_before err_after ending status → status ≡ 4 →
      Sent err err_before err_after write_failed × ((answer : Answer) × (output : List ℕ) × TookLess out out_before out_after output
      × IfSome told_files (λ files. IsAnswered command files limits answer output))
  unwritten_of NoCommand c d four = absurd (omega arith)
  unwritten_of (Failed file) c d four = absurd (omega arith)
  unwritten_of (Refused refusal) c d four = absurd (omega arith)
  unwritten_of NoMemory c d four = absurd (omega arith)
  unwritten_of (Done answer text) c (inl w) four = absurd (not_four answer (sym w.0 ∙ four))
  unwritten_of (Done answer text) c (inr w) four = (
    w.2,
    (
      answer,
      vec_items text,
      w.1,
      told_more told_files (λ files. IsAnswered (Some c.0) files limits answer (vec_items text)) _
          (λ files a. subst (λ x. IsAnswered x files limits answer (vec_items text)) (sym c.1) a) (told_for c.0 c.1 (λ files. IsAnswered (Some c.0) files limits answer (vec_items text)) c.2.1),
    ),
  )

  pub leaves_of : (ending : Ending) → Caused shelf old new command limits ending → IsReportedAs out err out_before out_after err_before err_after ending status → IsAnswer status ⊎ (status ≡ 4) →
      (wanted : Wanted) × (command ≡ Some wanted) × LeavesFiles shelf old new wanted limits
  leaves_of NoCommand c d h = absurd (no_answer_nor_four status 64 d.0 (λ k. omega arith) (λ k. omega arith) (λ k. omega arith) h)
  leaves_of (Failed file) c d h = absurd (no_answer_nor_four status 3 d.0 (λ k. omega arith) (λ k. omega arith) (λ k. omega arith) h)
  leaves_of (Refused refusal) c d h = absurd (no_answer_nor_four status 2 d.0 (λ k. omega arith) (λ k. omega arith) (λ k. omega arith) h)
  leaves_of NoMemory c d h = absurd (no_answer_nor_four status 5 d.0 (λ k. omega arith) (λ k. omega arith) (λ k. omega arith) h)
  leaves_of (Done answer text) c d h = (c.0, c.1, c.2.2)

  pub unread_of : (ending : Ending) → Caused shelf old new command limits ending → IsReportedAs out err out_before out_after err_before err_after ending status → status ≡ 3 →
      (file : File) × (wanted : Wanted) × (command ≡ Some wanted) × Sent err err_before err_after (read_failed file) × HasFailed shelf old new wanted limits file
  unread_of NoCommand c d three = absurd (omega arith)
  unread_of (Failed file) c d three = (file, c.0, c.1, d.2, c.2)
  unread_of (Refused refusal) c d three = absurd (omega arith)
  unread_of NoMemory c d three = absurd (omega arith)
  unread_of (Done answer text) c (inl w) three = absurd (not_three answer (sym w.0 ∙ three))
  unread_of (Done answer text) c (inr w) three = absurd (let four = w.0 in omega arith)

  pub read_of : (ending : Ending) → Caused shelf old new command limits ending → IsReportedAs out err out_before out_after err_before err_after ending status → status ≢ 3 → shelf.faults new ≡ shelf.faults old
  read_of NoCommand c d n3 = c.1
  read_of (Failed file) c d n3 = absurd (n3 d.0)
  read_of (Refused refusal) c d n3 = c.2.0
  read_of NoMemory c d n3 = c.2
  read_of (Done answer text) c d n3 = c.2.0

  pub wrote_of : (ending : Ending) → IsReportedAs out err out_before out_after err_before err_after ending status → status ≢ 4 → out.faults out_after ≡ out.faults out_before
  wrote_of NoCommand d n4 = ap (λ s. out.faults s) d.1
  wrote_of (Failed file) d n4 = ap (λ s. out.faults s) d.1
  wrote_of (Refused refusal) d n4 = ap (λ s. out.faults s) d.1
  wrote_of NoMemory d n4 = ap (λ s. out.faults s) d.1
  wrote_of (Done answer text) (inl w) n4 = w.1.count
  wrote_of (Done answer text) (inr w) n4 = absurd (n4 w.0)

  pub no_memory_of : (ending : Ending) → IsReportedAs out err out_before out_after err_before err_after ending status → status ≡ 5 → Sent err err_before err_after out_of_memory
  no_memory_of NoCommand d five = absurd (let s = d.0 in omega arith)
  no_memory_of (Failed file) d five = absurd (let s = d.0 in omega arith)
  no_memory_of (Refused refusal) d five = absurd (let s = d.0 in omega arith)
  no_memory_of NoMemory d five = d.2
  no_memory_of (Done answer text) (inl w) five = absurd (not_five answer (sym w.0 ∙ five))
  no_memory_of (Done answer text) (inr w) five = absurd (let four = w.0 in omega arith)

  pub no_command_of : (ending : Ending) → Caused shelf old new command limits ending → IsReportedAs out err out_before out_after err_before err_after ending status → (status ≡ 64) ↔ (command ≡ None)
  no_command_of NoCommand c d = ((λ h. c.0), (λ h. d.0))
  no_command_of (Failed file) c d = ((λ h. absurd (let s = d.0 in omega arith)), (λ h. absurd (let s = c.1 in cc)))
  no_command_of (Refused refusal) c d = ((λ h. absurd (let s = d.0 in omega arith)), (λ h. absurd (let s = c.1 in cc)))
  no_command_of NoMemory c d = ((λ h. absurd (let s = d.0 in omega arith)), (λ h. absurd (let s = c.1 in cc)))
  no_command_of (Done answer text) c (inl w) = ((λ h. absurd (not_sixty_four answer (sym w.0 ∙ h))), (λ h. absurd (let s = c.1 in cc)))
  no_command_of (Done answer text) c (inr w) = ((λ h. absurd (let s = w.0 in omega arith)), (λ h. absurd (let s = c.1 in cc)))

  pub usage_of : (ending : Ending) → IsReportedAs out err out_before out_after err_before err_after ending status → status ≡ 64 → Sent err err_before err_after usage
  usage_of NoCommand d h = d.2
  usage_of (Failed file) d h = absurd (let s = d.0 in omega arith)
  usage_of (Refused refusal) d h = absurd (let s = d.0 in omega arith)
  usage_of NoMemory d h = absurd (let s = d.0 in omega arith)
  usage_of (Done answer text) (inl w) h = absurd (not_sixty_four answer (sym w.0 ∙ h))
  usage_of (Done answer text) (inr w) h = absurd (let s = w.0 in omega arith)

  pub untouched_of : (ending : Ending) → IsReportedAs out err out_before out_after err_before err_after ending status → ¬ (IsAnswer status) → status ≢ 4 → out_after ≡ out_before
  untouched_of NoCommand d none n4 = d.1
  untouched_of (Failed file) d none n4 = d.1
  untouched_of (Refused refusal) d none n4 = d.1
  untouched_of NoMemory d none n4 = d.1
  untouched_of (Done answer text) (inl w) none n4 = absurd (none (subst IsAnswer (sym w.0) (is_answer answer)))
  untouched_of (Done answer text) (inr w) none n4 = absurd (n4 w.0)

  -- an ending at no file that could not be read
  not_unread : (ending : Ending) → IsNoFailure ending → IsReportedAs out err out_before out_after err_before err_after ending status → status ≢ 3
  not_unread NoCommand f d three = let s = d.0 in omega arith
  not_unread (Failed file) f d three = f
  not_unread (Refused refusal) f d three = let s = d.0 in omega arith
  not_unread NoMemory f d three = let s = d.0 in omega arith
  not_unread (Done answer text) f (inl w) three = not_three answer (sym w.0 ∙ three)
  not_unread (Done answer text) f (inr w) three = let four = w.0 in omega arith

  pub asks_no_files_of : (ending : Ending) → LeavesShelf old new command ending → IsReportedAs out err out_before out_after err_before err_after ending status →
      AsksNoFiles command → (new ≡ old) × (status ≢ 3)
  asks_no_files_of ending left d none = ((left none).0, not_unread ending (left none).1 d)

  abbrev IsOneOf : ℕ → Type 0
  IsOneOf n = IsTrue (list_any (λ s. s == n) (0 ∷ 1 ∷ 2 ∷ 3 ∷ 4 ∷ 5 ∷ 64 ∷ []))

  pub one_of : (ending : Ending) → IsReportedAs out err out_before out_after err_before err_after ending status → IsOneOf status
  one_of NoCommand d = subst IsOneOf (sym d.0) refl
  one_of (Failed file) d = subst IsOneOf (sym d.0) refl
  one_of (Refused refusal) d = subst IsOneOf (sym d.0) refl
  one_of NoMemory d = subst IsOneOf (sym d.0) refl
  one_of (Done Given text) (inl w) = subst IsOneOf (sym w.0) refl
  one_of (Done NotAccepted text) (inl w) = subst IsOneOf (sym w.0) refl
  one_of (Done NotTheSame text) (inl w) = subst IsOneOf (sym w.0) refl
  one_of (Done answer text) (inr w) = subst IsOneOf (sym w.0) refl

  -- the whole contract
  run_of : (ending : Ending) → Caused shelf old new command limits ending → LeavesShelf old new command ending → IsReportedAs out err out_before out_after err_before err_after ending status →
      IsRun shelf out err command limits old new out_before out_after err_before err_after status
  run_of ending c left d = record {
    written = written_of ending c d;
    refuses = refuses_of ending c d;
    answers = answers_of ending c d;
    done = done_of ending c d;
    stops_reading = stops_of ending c d;
    unread = unread_of ending c d;
    read = read_of ending c d;
    unwritten = unwritten_of ending c d;
    wrote = wrote_of ending d;
    leaves_files = leaves_of ending c d;
    asks_no_files = asks_no_files_of ending left d;
    no_memory = no_memory_of ending d;
    no_command = no_command_of ending c d;
    usage_text = usage_of ending d;
    untouched = untouched_of ending d;
    one_of = one_of ending d;
  }

  -- it holds also where no memory was to be had for the text of a refusal: such a run may end as one that wants memory
  pub run_told : (ending : Ending) → Caused shelf old new command limits ending → LeavesShelf old new command ending → IsTold out err out_before out_after err_before err_after ending status →
      IsRun shelf out err command limits old new out_before out_after err_before err_after status
  run_told NoCommand c left d = run_of NoCommand c left d
  run_told (Failed file) c left d = run_of (Failed file) c left d
  run_told (Refused refusal) c left (inl d) = run_of (Refused refusal) c left d
  run_told (Refused refusal) c left (inr d) = run_of NoMemory (c.0, c.1, c.2.0) left d
  run_told NoMemory c left d = run_of NoMemory c left d
  run_told (Done answer text) c left d = run_of (Done answer text) c left d
