use Rattle.plan.proofs.PlanFacts.{every_state_has_one_best_lem}
use Rattle.plan.proofs.facts.every_state_has_one_best.Goals as goal

pub returns : goal.returns
returns c = every_state_has_one_best_lem
