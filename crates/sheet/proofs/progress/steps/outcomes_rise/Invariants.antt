use Rattle.std.proofs.Common.{◌≡◌, drop}
use Rattle.sheet.specs.Stages.{outcomes_in, rising}
use Rattle.sheet.proofs.progress.steps.outcomes_rise.Given as goal

abbrev pub invariant-loop-outcome : goal.invariant-loop-outcome
invariant-loop-outcome l = rising l.count l.lowest (drop l.outcome-index (outcomes_in l.body)) ≡ rising l.count 0 (outcomes_in l.body)
