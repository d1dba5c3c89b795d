use Rattle.sheet.proofs.Exactly.{sheet_has_no_fault_lem}
use Rattle.sheet.proofs.facts.sheet_has_no_fault.Goals as goal

pub returns : goal.returns
returns c = sheet_has_no_fault_lem
