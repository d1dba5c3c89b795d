use Rattle.std.proofs.Common.{rules, length, sym, arith}
use Rattle.model.specs.Meaning.{actions, state_at}
use Rattle.model.specs.Reading.{action_fault}
use Rattle.model.proofs.Firsts.{found}
use Rattle.model.proofs.reading.check_state.Goals as goal

pub returns-in_err-check_action : goal.returns-in_err-check_action
returns-in_err-check_action g c =
    let m = g.M.Model.meaning c.args.model.now in
    let s = c.args.state in
    let met = found (action_fault m s) c.loop-action.action (length (actions (state_at m s))) _ (omega arith) c.loop-action.invariant (sym c.in_err-check_action.ensures) in
    search rules
