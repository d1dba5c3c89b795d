use Rattle.std.proofs.Common.{◌≡◌}
use Rattle.cost.specs.Prices.{figures}
use Rattle.plan.specs.Bounds.{bounds_of, action_cost, least_below, FirstLeast}
use Rattle.plan.proofs.problems.Problem.least_action.Given as goal

abbrev pub invariant-loop-action : goal.invariant-loop-action
invariant-loop-action g l =
    let m = g.M.Model.meaning l.self.model.now in
    let value = g.R.Rule.value in
    let prices = figures l.self.prices.now in
    let v = bounds_of l.bounds in
    (l.least.cost.value ≡ least_below (action_cost m value prices v l.state) l.action) × FirstLeast m value prices v l.state l.action l.least.action
