use Rattle.std.proofs.Common.{◌≡◌, None}
use Rattle.model.specs.Firsts.{first_below}
use Rattle.model.specs.Reading.{state_fault}
use Rattle.model.proofs.reading.check.Given as goal

abbrev pub invariant-loop-state : goal.invariant-loop-state
invariant-loop-state g l = first_below (state_fault (g.M.Model.meaning l.model)) l.state ≡ None
