-- What a refused line stops the program with. Assumes nothing.
use Rattle.std.specs.Prelude.{ℕ}
use Rattle.pagebook.specs.declared.fault.Fault.{Fault}
use Rattle.pagebook.specs.declared.fault.Fault.TheVariants as faults
use Rattle.words.specs.declared.refusal.Refusal.{Refusal}
use Rattle.words.specs.declared.refusal.Refusal.TheVariants.{Malformed, OutOfMemory}

-- a line that is malformed is told by its number
abbrev pub fault_at : ℕ → Refusal → Fault
fault_at number Malformed = faults.Malformed number
fault_at number OutOfMemory = faults.Memory
