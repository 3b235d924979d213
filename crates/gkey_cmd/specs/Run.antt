-- The contract of the top call: what a run leaves, and why, said once for all limits.
use Rattle.std.specs.Prelude.{List, [], ◌∷◌, ℕ, Option, Some, None, IfSome, IsTrue, ◌==◌, ◌≡◌, ◌≢◌, ◌⊎◌, ◌↔◌}
use Rattle.std.specs.List.{list_any}
use Rattle.gk_base.specs.declared.limits.Limits.{Limits}
use Rattle.gk_io.specs.Cause.{Rose}
use Rattle.gk_io.specs.declared.shelf.Shelf
use Rattle.gk_io.specs.declared.sink.Sink
use Rattle.gkey_cmd.specs.Commands.{Wanted, AsksNoFiles}
use Rattle.gkey_cmd.specs.Texts.{usage, out_of_memory, write_failed, read_failed, refused_text}
use Rattle.gkey_cmd.specs.HowFar.{LeavesFiles, StopsReading}
use Rattle.gkey_cmd.specs.Failing.{HasFailed}
use Rattle.gkey_cmd.specs.Sent.{TookAll, TookLess, Sent}
use Rattle.gkey_cmd.specs.Demo.{files_for}
use Rattle.gkey_cmd.specs.Written.{status_of, IsAnswer, IsRefused, AreAccepted, IsAnswered, WritesFor}
use Rattle.gkey_cmd.specs.declared.file.File.{File}
use Rattle.gkey_cmd.specs.declared.ending.Answer.{Answer}
use Rattle.gkey_cmd.specs.declared.ending.Refusal.{Refusal}

-- A run asked for this command, or for none, with these limits, and ended with this status. `shelf`, `out` and `err` say
-- what is known of the shelf of files, of standard output and of the error stream; each comes before and after the run.
pub record IsRun {S O E : Type 0} (shelf : Shelf.Ghosts S) (out : Sink.Ghosts O) (err : Sink.Ghosts E) (command : Option Wanted) (limits : Limits)
    (shelf_before shelf_after : S) (out_before out_after : O) (err_before err_after : E) (status : ℕ) : Type 0 where
  -- Where the files are told that the command goes by, the run writes what goes with the words and the files, unless a device
  -- fails or memory is wanting. They are the files of the shelf, and a demo's own texts; help and version go by none, and so this
  -- holds of them whatever the shelf tells.
  pub written : IfSome (files_for command (shelf.held shelf_before)) (λ files. status ≢ 3 → status ≢ 4 → status ≢ 5 →
      (output error : List ℕ) × WritesFor command files limits status output error
      × TookAll out out_before out_after output × Sent err err_before err_after error)
  -- A file that is refused is named with its line and fault, and accepted files are answered.
  pub refuses : IfSome (files_for command (shelf.held shelf_before)) (λ files. (refusal : Refusal) → IsRefused command files limits refusal →
      ¬ (Rose (shelf.faults shelf_before) (shelf.faults shelf_after)) → status ≢ 5 →
      (status ≡ 2) × Sent err err_before err_after (refused_text refusal))
  pub answers : IfSome (files_for command (shelf.held shelf_before)) (λ files. AreAccepted command files limits →
      ¬ (Rose (shelf.faults shelf_before) (shelf.faults shelf_after)) → ¬ (Rose (out.faults out_before) (out.faults out_after)) →
      status ≢ 5 → IsAnswer status)
  -- 0 and 1: the whole output, and no error text.
  pub done : IsAnswer status → (err_after ≡ err_before) × ((answer : Answer) × (output : List ℕ)
      × (status ≡ status_of answer) × TookAll out out_before out_after output
      × IfSome (files_for command (shelf.held shelf_before)) (λ files. IsAnswered command files limits answer output))
  -- 2: the text names the refusal, and it is so of the files where they are told. Where it is one of the graph, or of the
  -- graph that is added to it, `more`, that graph was asked for last, and of its bytes fewer than 65,536 are read beyond the one
  -- at which it is refused, under the limits that are left to it; else the key
  -- file or the proof file that is refused was asked for last, or the key file where a word names no entity or there are too many
  -- pairs, and no more than one byte is read beyond its limit. A demo asks the shelf for nothing. Help and version are never
  -- refused.
  pub stops_reading : status ≡ 2 → (refusal : Refusal) × Sent err err_before err_after (refused_text refusal)
      × IfSome (files_for command (shelf.held shelf_before)) (λ files. IsRefused command files limits refusal)
      × StopsReading shelf shelf_before shelf_after command limits refusal
  -- 3: the shelf failed at the file that the text names; at no other status did it fail.
  pub unread : status ≡ 3 → (file : File) × (wanted : Wanted) × (command ≡ Some wanted)
      × Sent err err_before err_after (read_failed file) × HasFailed shelf shelf_before shelf_after wanted limits file
  pub read : status ≢ 3 → shelf.faults shelf_after ≡ shelf.faults shelf_before
  -- 4: the output failed, and took a front of its text that is not the whole; at no other status did it fail.
  pub unwritten : status ≡ 4 → Sent err err_before err_after write_failed × ((answer : Answer) × (output : List ℕ)
      × TookLess out out_before out_after output
      × IfSome (files_for command (shelf.held shelf_before)) (λ files. IsAnswered command files limits answer output))
  pub wrote : status ≢ 4 → out.faults out_after ≡ out.faults out_before
  -- 0, 1 and 4 come after the last file: it was asked for last, and no more than one byte is read beyond its limit. A demo, help
  -- and version ask the shelf for nothing.
  pub leaves_files : IsAnswer status ⊎ (status ≡ 4) → (wanted : Wanted) × (command ≡ Some wanted)
      × LeavesFiles shelf shelf_before shelf_after wanted limits
  -- Where the words ask the shelf for nothing, it is left as it was, whatever the status, and 3 is none of it: so it is of a
  -- demo, of help and version, and of words that ask for no command.
  pub asks_no_files : AsksNoFiles command → (shelf_after ≡ shelf_before) × (status ≢ 3)
  -- 5 may come at any time.
  pub no_memory : status ≡ 5 → Sent err err_before err_after out_of_memory
  -- 64: exactly where the words ask for no command.
  pub no_command : (status ≡ 64) ↔ (command ≡ None)
  pub usage_text : status ≡ 64 → Sent err err_before err_after usage
  -- Nothing is written before the answer is known.
  pub untouched : ¬ (IsAnswer status) → status ≢ 4 → out_after ≡ out_before
  pub one_of : IsTrue (list_any (λ s. s == status) (0 ∷ 1 ∷ 2 ∷ 3 ∷ 4 ∷ 5 ∷ 64 ∷ []))
