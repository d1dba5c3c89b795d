-- What is true of all sheets.
use Rattle.std.specs.Prelude.{◌≡◌, ℕ, ◌<◌, List}
use Rattle.std.specs.List.{AllByRecursion}
use Rattle.model.specs.Meaning.{State}
use Rattle.sheet.specs.Sheets.{Stands}
use Rattle.sheet.specs.Wrongs.{Wrong}
use Rattle.sheet.specs.declared.faults.SheetFault.{SheetFault}

-- A list of numbers that are bytes.
abbrev pub Bytes : List ℕ → Type 0
Bytes bytes = AllByRecursion (λ x. x < 256) bytes

-- A sheet stands for one model and one list of prices.
abbrev pub SheetStandsForOne : Type 0
SheetStandsForOne =
    (bytes : List ℕ) (m m' : List State) (ps ps' : List ℕ) → Stands bytes m ps → Stands bytes m' ps' → (m ≡ m') × (ps ≡ ps')

-- Nothing is wrong with a sheet.
abbrev pub SheetHasNoFault : Type 0
SheetHasNoFault = (bytes : List ℕ) (f : SheetFault) (m : List State) (ps : List ℕ) → Wrong bytes f → Stands bytes m ps → ⊥

-- No two faults hold of the same bytes.
abbrev pub FaultIsOne : Type 0
FaultIsOne = (bytes : List ℕ) (f g : SheetFault) → Bytes bytes → Wrong bytes f → Wrong bytes g → f ≡ g
