use Rattle.std.proofs.Common.{◌≡◌, ◌++◌}
use Rattle.std.specs.List.{flat_map}
use Rattle.model.specs.Meaning.{outcomes, action_at}
use Rattle.model.specs.Outcomes.{outcomes_from}
use Rattle.sheet.specs.Blocks.{two}
use Rattle.writer.specs.Puts.{Puts}
use Rattle.writer.proofs.fields.put_outcomes.Given as goal

abbrev pub invariant-loop-outcome : goal.invariant-loop-outcome
invariant-loop-outcome g l =
    let i = l.outcome-iterator in
    Puts l.initial.page l.page (flat_map two l.yielded)
    × (l.yielded ++ outcomes_from (g.M.Model.meaning i.model.now) i.state i.action i.places.start ≡ outcomes (action_at (g.M.Model.meaning l.model) l.state l.action))
