use Rattle.valve.proofs.SetParts.{tests_part_sets_lem}
use Rattle.valve.proofs.facts.tests_part_sets.Goals as goal

pub returns : goal.returns
returns c = tests_part_sets_lem
