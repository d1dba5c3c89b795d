use Rattle.plan.proofs.PlanFacts.{lawful_is_kept_always}
use Rattle.plan.proofs.facts.lawful_is_kept.Goals as goal

pub returns : goal.returns
returns c = lawful_is_kept_always
