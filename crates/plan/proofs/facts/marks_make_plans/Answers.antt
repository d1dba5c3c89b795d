use Rattle.plan.proofs.PlanFacts.{marks_make_plans_lem}
use Rattle.plan.proofs.facts.marks_make_plans.Goals as goal

pub returns : goal.returns
returns c = marks_make_plans_lem
