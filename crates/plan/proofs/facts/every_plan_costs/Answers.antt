use Rattle.plan.proofs.PlanFacts.{every_plan_costs_lem}
use Rattle.plan.proofs.facts.every_plan_costs.Goals as goal

pub returns : goal.returns
returns c = every_plan_costs_lem
