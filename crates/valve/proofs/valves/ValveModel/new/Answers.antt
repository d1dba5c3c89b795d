use Rattle.std.proofs.Common.{◌≡◌, Some, None, rules, arith}
use Rattle.valve.specs.SetUp.{set_up_fault}
use Rattle.valve.specs.declared.faults.ValveFault.TheVariants as fault
use Rattle.valve.proofs.SetUpSteps.{fault_first, by_positions}
use Rattle.valve.proofs.ValveOpens.{valve_opens}
use Rattle.valve.proofs.valves.ValveModel.new.Goals as goal

pub returns-in-Some : goal.returns-in-Some
returns-in-Some c =
    let rs = c.args.repairs.now in
    let ts = c.args.tests.now in
    let law = by_positions rs ts (omega arith) (omega arith) (omega arith) (omega arith) in
    let value : set_up_fault rs ts ≡ Some (fault.Test c.in-Some.test) = search rules in
    record { value = search rules; first = search (rules, fault_first rs ts _ value); opens = tt }

pub returns-in-Some-faulty_repair : goal.returns-in-Some-faulty_repair
returns-in-Some-faulty_repair c =
    let rs = c.args.repairs.now in
    let ts = c.args.tests.now in
    let law = by_positions rs ts (omega arith) (omega arith) (omega arith) (omega arith) in
    let value : set_up_fault rs ts ≡ Some (fault.Repair c.in-Some-faulty_repair.candidate) = search rules in
    record { value = search rules; first = search (rules, fault_first rs ts _ value); opens = tt }

pub returns : goal.returns
returns c =
    let rs = c.args.repairs.now in
    let ts = c.args.tests.now in
    let law = by_positions rs ts (omega arith) (omega arith) (omega arith) (omega arith) in
    let clear : set_up_fault rs ts ≡ None = search rules in
    record { value = (clear, search rules, search rules); first = fault_first rs ts _ clear; opens = search (rules, valve_opens) }

pub invariant_of-result : goal.invariant_of-result
invariant_of-result c =
    let law = by_positions c.args.repairs.now c.args.tests.now (omega arith) (omega arith) (omega arith) (omega arith) in
    search rules
