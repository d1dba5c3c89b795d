-- The facts about plans, best costs and bounds.
use Rattle.plan.specs.Facts.{EveryPlanCosts, EveryStateHasOneBest, LawfulIsBelowBest, LawfulIsKeptAlways, MarksMakePlans}
use Rattle.plan.proofs.Depth.{cost_exists}
use Rattle.plan.proofs.Fixed.{best_once}
use Rattle.plan.proofs.Kept.{raise_lawful, rise_lawful, none_lawful}
use Rattle.plan.proofs.LawfulBelow.{lawful_best}
use Rattle.plan.proofs.Marked.{marked_closed, marked_proper, marked_costs, marked_best}
use Rattle.plan.proofs.PlanShape.{costs_once, costs_closed, costs_proper}
use Rattle.plan.proofs.Lowering.{best_exists}

pub every_plan_costs_lem : EveryPlanCosts
every_plan_costs_lem = λ m value prices opens p s there. record {
  has_one = λ closed proper. cost_exists m value prices p opens s closed proper there;
  only_one = λ c d. costs_once m p value prices s c d;
  closed = λ c. costs_closed m p value prices s c;
  proper = λ c. costs_proper m p value prices s c;
}

pub every_state_has_one_best_lem : EveryStateHasOneBest
every_state_has_one_best_lem = λ m value prices opens rule range s there.
    let b = best_exists m value prices opens rule range s there in
    (b.0, b.1, λ c best. best_once m value prices opens rule range s c b.0 best b.1)

pub lawful_is_below_best_lem : LawfulIsBelowBest
lawful_is_below_best_lem = lawful_best

pub lawful_is_kept_always : LawfulIsKeptAlways
lawful_is_kept_always = λ m value opens rule. record {
  raise = λ prices v lawful s as' there e. raise_lawful m value opens rule prices v lawful s as' there e;
  rise = rise_lawful m value opens rule;
  none = none_lawful m value opens rule;
}

pub marks_make_plans_lem : MarksMakePlans
marks_make_plans_lem = λ m value prices opens rule range v lawful planned kept marks s there mark. record {
  closed = marked_closed m value prices opens rule range v lawful planned kept marks s there mark;
  proper = marked_proper m value prices opens rule range v lawful planned kept marks s there mark;
  costs = marked_costs m value prices opens rule range v lawful planned kept marks s there mark;
  best = marked_best m value prices opens rule range v lawful planned kept marks s there mark;
}
