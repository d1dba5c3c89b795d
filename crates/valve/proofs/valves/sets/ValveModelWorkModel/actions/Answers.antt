use Rattle.std.proofs.Common.{◌^◌, ◌<◌, length, sym, ap, arith}
use Rattle.model.specs.Meaning.{actions}
use Rattle.valve.proofs.ValveStates.{length_meaning, open_actions, end_actions, state_past}
use Rattle.valve.proofs.valves.sets.ValveModelWorkModel.actions.Goals as goal
use Rattle.valve.proofs.valves.sets.ValveModelWorkModel.actions.Goals.{else-state-states-via-then-state-states+else-state-ge2, else-state-states-via-else-state-states}

pub returns-then-state-ge2 : goal.returns-then-state-ge2
returns-then-state-ge2 c =
    let v = c.args.self.now in
    let m = c.args.state in
    let there : m < 2 ^ v.candidates = omega (arith, length_meaning v) in
    open_actions v m there (omega arith)

pub returns-else-state-states : goal.returns-else-state-states
returns-else-state-states c =
    let v = c.args.self.now in
    let m = c.args.state in
    elim c.else-state-states.branch [
      | else-state-states-via-then-state-states+else-state-ge2 w ↦ end_actions v m (omega (arith, length_meaning v, w.if-state-states.true)) (omega (arith, w.if-state-ge2.false))
      | else-state-states-via-else-state-states w ↦ sym (ap (λ s. length (actions s)) (state_past v m (omega (arith, length_meaning v, w.if-state-states.false))))
    ]
