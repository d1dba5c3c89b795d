use Rattle.std.proofs.Common.{◌^◌, ◌<◌, sym, ap, ◌∙◌, arith}
use lib.Count.{count_trailing_zeros}
use Rattle.std.proofs.lemmas.List.{get_or-take}
use Rattle.model.specs.Meaning.{end_cost}
use Rattle.valve.proofs.ValveStates.{candidates_few, length_meaning, single_place, single_state, no_end_cost, state_past}
use Rattle.valve.proofs.valves.sets.ValveModelWorkModel.end_cost.Goals as goal
use Rattle.valve.proofs.valves.sets.ValveModelWorkModel.end_cost.Goals.{else-state-states-via-then-state-states+else-state-eq1, else-state-states-via-else-state-states}

pub bounds-self-state : goal.bounds-self-state
bounds-self-state c =
    let v = c.args.self.now in
    let m = c.args.state in
    let there : m < 2 ^ v.candidates = omega (arith, length_meaning v) in
    omega (arith, candidates_few v, single_place v m there (omega arith))

pub returns-then-state-eq1 : goal.returns-then-state-eq1
returns-then-state-eq1 c =
    let v = c.args.self.now in
    let m = c.args.state in
    let there : m < 2 ^ v.candidates = omega (arith, length_meaning v) in
    sym (ap end_cost (single_state v m there (omega arith)) ∙ get_or-take v.candidates v.repairs (count_trailing_zeros 64 m) 0 (single_place v m there (omega arith)))

pub returns-else-state-states : goal.returns-else-state-states
returns-else-state-states c =
    let v = c.args.self.now in
    let m = c.args.state in
    elim c.else-state-states.branch [
      | else-state-states-via-then-state-states+else-state-eq1 w ↦ no_end_cost v m (omega (arith, length_meaning v, w.if-state-states.true)) (λ e. omega (arith, w.if-state-eq1.false))
      | else-state-states-via-else-state-states w ↦ sym (ap end_cost (state_past v m (omega (arith, length_meaning v, w.if-state-states.false))))
    ]
