use Rattle.sheet.proofs.Exactly.{stands_for_one}
use Rattle.sheet.proofs.facts.sheet_stands_for_one.Goals as goal

pub returns : goal.returns
returns c = stands_for_one
