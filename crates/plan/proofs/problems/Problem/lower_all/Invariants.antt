use Rattle.cost.specs.Prices.{figures}
use Rattle.plan.proofs.RoundSteps.{Come}
use Rattle.plan.proofs.problems.Problem.lower_all.Given as goal

abbrev pub invariant-loop-state : goal.invariant-loop-state
invariant-loop-state g l = Come (g.M.Model.meaning l.self.model.now) g.R.Rule.value (figures l.self.prices.now) l.initial.costs l.costs l.lowered l.state
