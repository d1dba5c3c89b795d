-- What the call that writes a sheet answers.
use Rattle.std.specs.Prelude.{◌≡◌, ℕ, List, length, take, drop, Option, nat_lt}
use Rattle.std.specs.Option.{option_map}
use Rattle.model.specs.Firsts.{when, first_of}
use Rattle.model.specs.Meaning.{State}
use Rattle.model.specs.Reading.{first_fault}
use Rattle.sheet.specs.Sheets.{sheet_of, Stands}
use Rattle.sheet.specs.declared.faults.SheetFault.TheVariants.{Short, Ends}
use Rattle.writer.specs.declared.faults.WriteFault.{WriteFault}
use Rattle.writer.specs.declared.faults.WriteFault.TheVariants.{Model, Sheet}

-- Why nothing is written: the first fault of the model, or else bytes that are fewer than those of
-- the sheet, or else a sheet of more than 65,536 bytes.
abbrev pub write_fault : List State → List ℕ → ℕ → Option WriteFault
write_fault m ps room =
    first_of (option_map Model (first_fault m))
    (first_of (when (nat_lt room (length (sheet_of m ps))) (Sheet (Short 0))) (when (nat_lt 65536 (length (sheet_of m ps))) (Sheet (Ends 65536))))

-- The first bytes are the sheet of a model and its prices, and the others are as they were.
pub record Written (m : List State) (ps : List ℕ) (n : ℕ) (old new : List ℕ) : Type 0 where
  pub count : n ≡ length (sheet_of m ps)
  pub stands : Stands (take n new) m ps
  pub rest : drop n new ≡ drop n old
