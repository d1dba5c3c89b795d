-- What taking the next field of a sheet gives.
use Rattle.std.specs.Prelude.{◌≡◌, ℕ, ◌++◌, ◌⊎◌, List, Some, None}
use Rattle.sheet.specs.Blocks.{Block, shown, block_bytes}
use Rattle.sheet.specs.Refusals.{fault_at}
use Rattle.sheet.specs.Stages.{Stage, stage, cause_of, after}
use Rattle.sheet.specs.Wrongs.{NoField}
use Rattle.sheet.specs.declared.faults.Cause.{Cause}
use Rattle.sheet.specs.declared.faults.SheetFault.{SheetFault}
use Rattle.sheet.specs.declared.faults.SheetFault.TheVariants.{Ends}
use Rattle.reader.specs.declared.steps.Step.{Step}

-- The bytes begin with a field of which nothing is wrong after a stage.
pub record Accepts (d : Stage) (bytes : List ℕ) (s : Step) : Type 0 where
  pub first : bytes ≡ block_bytes (shown s.field) ++ s.rest.now
  pub fine : cause_of d (shown s.field) ≡ None
  pub known : stage s.due ≡ after d (shown s.field)

-- The bytes begin with a field of which something is wrong after a stage.
pub record Faults (d : Stage) (bytes : List ℕ) (place : ℕ) (fault : SheetFault) : Type 0 where
  pub field : Block
  pub rest : List ℕ
  pub cause : Cause
  pub first : bytes ≡ block_bytes field ++ rest
  pub wrong : cause_of d field ≡ Some cause
  pub fault_is : fault ≡ fault_at place cause

-- No whole field is there, or something is wrong with it.
abbrev pub Refused : Stage → List ℕ → ℕ → SheetFault → Type 0
Refused d bytes place fault = (NoField bytes × (fault ≡ Ends place)) ⊎ Faults d bytes place fault
