use Rattle.std.proofs.Common.{◌≡◌, None}
use Rattle.model.specs.Firsts.{first_below}
use Rattle.model.specs.Reading.{action_fault}
use Rattle.model.proofs.reading.check_state.Given as goal

abbrev pub invariant-loop-action : goal.invariant-loop-action
invariant-loop-action g l = first_below (action_fault (g.M.Model.meaning l.model) l.state) l.action ≡ None
