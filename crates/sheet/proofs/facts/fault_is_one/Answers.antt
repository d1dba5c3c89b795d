use Rattle.sheet.proofs.Exactly.{fault_is_one_lem}
use Rattle.sheet.proofs.facts.fault_is_one.Goals as goal

pub returns : goal.returns
returns c = fault_is_one_lem
