use Rattle.std.proofs.Common.{◌≡◌, ℕ, ◌<◌}
use Rattle.model.specs.Meaning.{state_at}
use Rattle.plan.specs.Bounds.{bounds_of}
use Rattle.plan.specs.Sweeps.{highest}
use Rattle.plan.proofs.rounds.set_highest.Given as goal

abbrev pub invariant-loop-state : goal.invariant-loop-state
invariant-loop-state g l = (s : ℕ) → s < l.state → bounds_of l.costs s ≡ highest (state_at (g.M.Model.meaning l.model) s)
