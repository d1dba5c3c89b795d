use Rattle.std.proofs.Common.{◌≡◌, None, rules, length, sym, subst, arith}
use Rattle.model.specs.Reading.{first_fault, FirstFault, state_fault}
use Rattle.model.proofs.Firsts.{found}
use Rattle.model.proofs.ReadingLaw.{first_fault_first}
use Rattle.model.proofs.reading.check.Goals as goal

pub returns-in_err-check_state-clause-value : goal.returns-in_err-check_state-clause-value
returns-in_err-check_state-clause-value g c =
    let m = g.M.Model.meaning c.args.model.now in
    let met = found (state_fault m) c.loop-state.state (length m) _ (omega arith) c.loop-state.invariant (sym c.in_err-check_state.ensures) in
    search rules

pub returns-in_err-check_state-clause-first : goal.returns-in_err-check_state-clause-first
returns-in_err-check_state-clause-first g c =
    let m = g.M.Model.meaning c.args.model.now in
    subst (FirstFault m) (sym (returns-in_err-check_state-clause-value g c)) (first_fault_first m)

pub returns-clause-first : goal.returns-clause-first
returns-clause-first g c =
    let m = g.M.Model.meaning c.args.model.now in
    let fault : None ≡ first_fault m = search rules in
    subst (FirstFault m) (sym fault) (first_fault_first m)
