-- Why a file was not read.
use Rattle.gk_base.specs.declared.stop.Stop.{Stop}
use Rattle.gk_base.specs.declared.stop.Stop.TheVariants.{NoMemory, Fault}
use Rattle.gk_io.specs.declared.file_fault.FileFault.{FileFault}
use Rattle.gk_io.specs.declared.file_fault.FileFault.TheVariants.{Refused}

-- Why a file was not read whose bytes stopped so: what is wrong with them is a refusal of the file (this project's own).
abbrev pub file_stop : {R : Type 0} → Stop R → Stop (FileFault R)
file_stop NoMemory = NoMemory
file_stop (Fault refusal) = Fault (Refused refusal)
