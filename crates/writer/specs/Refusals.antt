-- The refusal of a call that writes a sheet.
use Rattle.std.specs.Prelude.{ℕ, List}
use Rattle.model.specs.Refusals.{model_refusal, model_words}
use Rattle.model.specs.declared.refusals.Refusal.{Refusal}
use Rattle.sheet.specs.Refusals.{sheet_refusal, sheet_words}
use Rattle.writer.specs.declared.faults.WriteFault.{WriteFault}
use Rattle.writer.specs.declared.faults.WriteFault.TheVariants.{Model, Sheet}

-- The number of the refusal and the values that it returns are those of the fault.
abbrev pub write_refusal : WriteFault → Refusal
write_refusal (Model fault) = model_refusal fault
write_refusal (Sheet fault) = sheet_refusal fault

-- The cause in words is that of the fault.
abbrev pub write_words : WriteFault → List ℕ
write_words (Model fault) = model_words fault
write_words (Sheet fault) = sheet_words fault
