-- What carrying over a sheet or a model answers.
use Rattle.std.specs.Prelude.{◌≡◌, ℕ, List, ◌++◌, length, drop, Some, vec_items}
use Rattle.model.specs.Meaning.{State}
use Rattle.cost.specs.Prices.{figures}
use Rattle.sheet.specs.Sheets.{sheet_of, Stands}
use Rattle.sheet.specs.Wrongs.{Wrong}
use Rattle.table.specs.Tables.{table_meaning}
use Rattle.writer.specs.Writing.{write_fault}
use Rattle.transfer.specs.declared.faults.TransferFault.{TransferFault}
use Rattle.transfer.specs.declared.faults.TransferFault.TheVariants.{Sheet, Write, Memory}
use Rattle.transfer.specs.declared.loading.Loaded.{Loaded}

-- The model in tables that were read.
abbrev pub loaded_model : Loaded → List State
loaded_model l = table_meaning (vec_items l.states) (vec_items l.actions) (vec_items l.outcomes)

-- Bytes are the sheet of what was read.
abbrev pub Loads : List ℕ → Loaded → Type 0
Loads bytes l = Stands bytes (loaded_model l) (figures l.prices)

-- Bytes were not read: they are no sheet, or there is no memory.
abbrev pub NotLoaded : List ℕ → TransferFault → Type 0
NotLoaded bytes (Sheet f) = Wrong bytes f
NotLoaded bytes (Write f) = ⊥
NotLoaded bytes Memory = Unit {0}

-- What was read is a model at its prices.
abbrev pub Same : List State → List ℕ → Loaded → Type 0
Same m ps l = (loaded_model l ≡ m) × (figures l.prices ≡ ps)

-- A model was not written to so many bytes and read again: it was refused, or there is no memory.
abbrev pub NotCarried : List State → List ℕ → ℕ → TransferFault → Type 0
NotCarried m ps room (Sheet f) = ⊥
NotCarried m ps room (Write f) = write_fault m ps room ≡ Some f
NotCarried m ps room Memory = Unit {0}

-- Bytes begin with the sheet of a model at its prices; the others are as they were.
abbrev pub Carries : List State → List ℕ → List ℕ → List ℕ → Type 0
Carries m ps old new = new ≡ sheet_of m ps ++ drop (length (sheet_of m ps)) old

-- What the bytes hold where a model was not carried over: a refused model changes none.
abbrev pub BytesLeft : List State → List ℕ → List ℕ → List ℕ → TransferFault → Type 0
BytesLeft m ps old new (Sheet f) = ⊥
BytesLeft m ps old new (Write f) = new ≡ old
BytesLeft m ps old new Memory = Carries m ps old new
