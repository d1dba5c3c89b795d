use Rattle.std.proofs.Common.{length}
use Rattle.cost.specs.Prices.{figures}
use Rattle.plan.specs.Bounds.{bounds_of}
use Rattle.plan.specs.Sweeps.{Above, total}
use Rattle.plan.proofs.problems.Problem.best_costs.Given as goal

abbrev pub invariant-loop-known : goal.invariant-loop-known
invariant-loop-known g l =
    Above (g.M.Model.meaning l.self.model.now) g.R.Rule.value (figures l.self.prices.now) (bounds_of l.known)

abbrev pub decreases-loop-known : goal.decreases-loop-known
decreases-loop-known g l = total (bounds_of l.known) (length (g.M.Model.meaning l.self.model.now))
