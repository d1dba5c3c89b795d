use Rattle.std.proofs.Common.{◌≡◌, ◌++◌, drop, string_bytes}
use Rattle.texts.specs.Texts.{numbered, state_text}
use Rattle.texts.proofs.showing.write_states.Given as goal

abbrev pub invariant-loop-state : goal.invariant-loop-state
invariant-loop-state g l =
    let m = g.M.Model.meaning l.model in
    string_bytes l.lines ++ numbered state_text l.state (drop l.state m) ≡ string_bytes l.initial.lines ++ numbered state_text 0 m
