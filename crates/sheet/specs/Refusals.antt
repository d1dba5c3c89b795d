-- The number of the refusal of a sheet and the values that it returns.
use Rattle.std.specs.Prelude.{ℕ, List, codes}
use Rattle.model.specs.Refusals.{refused}
use Rattle.model.specs.declared.refusals.Refusal.{Refusal}
use Rattle.model.specs.declared.refusals.Values.TheVariants.{One}
use Rattle.sheet.specs.declared.faults.Cause.{Cause}
use Rattle.sheet.specs.declared.faults.Cause.TheVariants as cause
use Rattle.sheet.specs.declared.faults.SheetFault.{SheetFault}
use Rattle.sheet.specs.declared.faults.SheetFault.TheVariants.{Short, Ends, Tag, Length, Value}

-- The refusal of a sheet.
abbrev pub sheet_refusal : SheetFault → Refusal
sheet_refusal (Short list) = refused 18 (One list)
sheet_refusal (Ends place) = refused 23 (One place)
sheet_refusal (Tag place) = refused 24 (One place)
sheet_refusal (Length place) = refused 25 (One place)
sheet_refusal (Value place) = refused 26 (One place)

-- The cause in words, which say what the value of the refusal is.
abbrev pub sheet_words : SheetFault → List ℕ
sheet_words (Short list) = codes "list that is too short"
sheet_words (Ends place) = codes "place where the sheet ends too soon, or has more than 65536 bytes"
sheet_words (Tag place) = codes "place of a field whose tag is not due"
sheet_words (Length place) = codes "place of a field whose length is wrong for its tag"
sheet_words (Value place) = codes "place of a field with a value outside its limits"

-- What is wrong with the field at a place.
abbrev pub fault_at : ℕ → Cause → SheetFault
fault_at p cause.Tag = Tag p
fault_at p cause.Length = Length p
fault_at p cause.Value = Value p
