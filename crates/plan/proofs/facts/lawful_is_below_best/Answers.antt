use Rattle.plan.proofs.PlanFacts.{lawful_is_below_best_lem}
use Rattle.plan.proofs.facts.lawful_is_below_best.Goals as goal

pub returns : goal.returns
returns c = lawful_is_below_best_lem
