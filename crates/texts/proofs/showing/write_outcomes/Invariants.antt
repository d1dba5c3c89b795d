use Rattle.std.proofs.Common.{◌≡◌, ◌++◌, string_bytes}
use Rattle.model.specs.Meaning.{action_at, outcomes}
use Rattle.model.specs.Outcomes.{outcomes_from}
use Rattle.texts.specs.Texts.{outcomes_text}
use Rattle.texts.proofs.showing.write_outcomes.Given as goal

abbrev pub invariant-loop-outcome : goal.invariant-loop-outcome
invariant-loop-outcome g l =
    let i = l.outcome-iterator in
    string_bytes l.lines ++ outcomes_text (outcomes_from (g.M.Model.meaning i.model.now) i.state i.action i.places.start)
    ≡ string_bytes l.initial.lines ++ outcomes_text (outcomes (action_at (g.M.Model.meaning l.model) l.state l.action))
