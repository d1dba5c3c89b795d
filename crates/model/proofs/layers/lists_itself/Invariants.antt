use Rattle.std.proofs.Common.{◌≡◌, false, take}
use Rattle.model.specs.Meaning.{outcomes, action_at}
use Rattle.model.specs.Trims.{lists}
use Rattle.model.proofs.layers.lists_itself.Given as goal

abbrev pub invariant-loop-place : goal.invariant-loop-place
invariant-loop-place g l = lists l.state (take l.place (outcomes (action_at (g.M.Model.meaning l.model) l.state l.action))) ≡ false
