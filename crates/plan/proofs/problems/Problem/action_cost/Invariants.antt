use Rattle.std.proofs.Common.{map}
use Rattle.plan.specs.Bounds.{bounds_of}
use Rattle.plan.proofs.problems.Problem.action_cost.Given as goal

abbrev pub invariant-loop-outcome : goal.invariant-loop-outcome
invariant-loop-outcome g l = g.R.Rule.took l.tally (map (bounds_of l.bounds) l.yielded)
