use Rattle.std.proofs.Common.{◌≡◌, None}
use Rattle.model.specs.Firsts.{first_below}
use Rattle.model.specs.Reading.{outcome_fault}
use Rattle.model.proofs.reading.check_action.Given as goal

abbrev pub invariant-loop-place : goal.invariant-loop-place
invariant-loop-place g l = first_below (outcome_fault (g.M.Model.meaning l.model) l.state l.action) l.place ≡ None
