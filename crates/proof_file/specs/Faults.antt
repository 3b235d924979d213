-- What each fault of a proof file is called in an error message: this project's own texts.
use Rattle.std.specs.Prelude.{List, ℕ, codes}
use Rattle.gk_base.specs.Faults.{lex_text}
use Rattle.proof_file.specs.declared.fault.ProofFault.{ProofFault}
use Rattle.proof_file.specs.declared.fault.ProofFault.TheVariants as fault

-- the text of a fault of a proof file
abbrev pub proof_fault_text : ProofFault → List ℕ
proof_fault_text (fault.Lex of_term) = lex_text of_term
proof_fault_text fault.BadHeader = codes "bad header"
proof_fault_text fault.BadLine = codes "bad line"
proof_fault_text fault.CountDiffers = codes "count differs"
proof_fault_text fault.TextAfterTheEnd = codes "text after the end"
proof_fault_text fault.FileTooLong = codes "file too long"
proof_fault_text fault.FileEndsInsideAProof = codes "proof ends early"
proof_fault_text fault.TermNumberOutOfRange = codes "term number out of range"
