use Rattle.std.proofs.Common.{◌≡◌, not, None}
use Rattle.cost.specs.Prices.{figures}
use Rattle.model.specs.Firsts.{when, first_below}
use Rattle.model.specs.Meaning.{state_at}
use Rattle.book.specs.Estimates.{estimate_right}
use Rattle.book.specs.declared.faults.EstimateFault.TheVariants.{Estimate}
use Rattle.book.proofs.estimates.check_estimates.Given as goal

abbrev pub invariant-loop-state : goal.invariant-loop-state
invariant-loop-state g l =
    first_below (λ s. when (not (estimate_right (g.M.Model.meaning l.problem.model.now) g.R.Rule.value (figures l.problem.prices.now) l.estimates s (state_at (g.M.Model.meaning l.problem.model.now) s))) (Estimate s)) l.state ≡ None
