use Rattle.std.proofs.Common.{◌≡◌, ◌++◌, drop, string_bytes}
use Rattle.model.specs.Meaning.{actions, state_at}
use Rattle.texts.specs.Texts.{numbered, action_text}
use Rattle.texts.proofs.showing.write_actions.Given as goal

abbrev pub invariant-loop-action : goal.invariant-loop-action
invariant-loop-action g l =
    let acts = actions (state_at (g.M.Model.meaning l.model) l.state) in
    string_bytes l.lines ++ numbered (action_text l.state) l.action (drop l.action acts)
    ≡ string_bytes l.initial.lines ++ numbered (action_text l.state) 0 acts
