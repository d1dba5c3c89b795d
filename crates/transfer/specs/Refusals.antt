-- The refusal of a call that carries a sheet or a model over.
use Rattle.std.specs.Prelude.{ℕ, List, Some, None, codes, Option}
use Rattle.model.specs.declared.refusals.Refusal.{Refusal}
use Rattle.sheet.specs.Refusals.{sheet_refusal, sheet_words}
use Rattle.transfer.specs.declared.faults.TransferFault.{TransferFault}
use Rattle.transfer.specs.declared.faults.TransferFault.TheVariants.{Sheet, Write, Memory}
use Rattle.writer.specs.Refusals.{write_refusal, write_words}

-- The number of the refusal and the values that it returns are those of the fault; want of memory
-- has none.
abbrev pub transfer_refusal : TransferFault → Option Refusal
transfer_refusal (Sheet fault) = Some (sheet_refusal fault)
transfer_refusal (Write fault) = Some (write_refusal fault)
transfer_refusal Memory = None

-- The cause in words.
abbrev pub transfer_words : TransferFault → List ℕ
transfer_words (Sheet fault) = sheet_words fault
transfer_words (Write fault) = write_words fault
transfer_words Memory = codes "out of memory"
