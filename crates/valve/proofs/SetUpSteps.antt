-- What the tests of a set-up tell, one after the other.
use Rattle.std.proofs.Common.{◌≡◌, ℕ, ◌≤◌, false, ltb, List, length, Option, ◌∙◌, subst, ap₂}
use Rattle.std.proofs.lemmas.Bool.{or_from, le-ltb}
use Rattle.std.specs.List.{position}
use Rattle.std.specs.Option.{option_map}
use Rattle.model.specs.Firsts.{when, first_of, first_below, outside, IsFirst}
use Rattle.valve.specs.SetUp.{is_faulty, test_fault, repair_fault, set_up_fault, SetUpHolds, set_up_place}
use Rattle.valve.specs.declared.faults.ValveFault.{ValveFault}
use Rattle.valve.specs.declared.faults.ValveFault.TheVariants as fault
use Rattle.valve.specs.declared.valves.Test.{Test}
use Rattle.model.proofs.Firsts.{first_of_right, when_false, first_by_position}
use Rattle.valve.proofs.SetUpLaw.{set_up_fault_first}

inside_range : (low high n : ℕ) → low ≤ n → n ≤ high → outside low high n ≡ false
inside_range low high n l h = or_from (ltb n low) (ltb high n) (le-ltb n low l) (le-ltb high n h)

module _ (repairs : List ℕ) (tests : List Test) where
  -- What is promised of an answer follows from its value.
  pub fault_first : (r : Option ValveFault) → set_up_fault repairs tests ≡ r → IsFirst (SetUpHolds repairs tests) set_up_place r
  fault_first r e = subst (IsFirst (SetUpHolds repairs tests) set_up_place) e (set_up_fault_first repairs tests)

  module _ (low : 2 ≤ length repairs) (high : length repairs ≤ 12) (some : 1 ≤ length tests) (few : length tests ≤ 16) where
    -- With both numbers in their ranges, the tests decide, and then the repair costs.
    by_entries : set_up_fault repairs tests ≡ first_of (first_below (test_fault (length repairs) tests) (length tests)) (first_below (repair_fault repairs) (length repairs))
    by_entries =
        first_of_right (when (outside 2 12 (length repairs)) (fault.Candidates (length repairs))) _ (when_false (outside 2 12 (length repairs)) (fault.Candidates (length repairs)) (inside_range 2 12 (length repairs) low high))
        ∙ first_of_right (when (outside 1 16 (length tests)) (fault.Tests (length tests))) _ (when_false (outside 1 16 (length tests)) (fault.Tests (length tests)) (inside_range 1 16 (length tests) some few))

    test_first : first_below (test_fault (length repairs) tests) (length tests) ≡ option_map fault.Test (position (is_faulty (length repairs)) tests)
    test_first = first_by_position (is_faulty (length repairs)) fault.Test tests (record { task = 0; set = 0 })

    repair_first : first_below (repair_fault repairs) (length repairs) ≡ option_map fault.Repair (position (ltb 1000000) repairs)
    repair_first = first_by_position (ltb 1000000) fault.Repair repairs 0

    pub by_positions : set_up_fault repairs tests ≡ first_of (option_map fault.Test (position (is_faulty (length repairs)) tests)) (option_map fault.Repair (position (ltb 1000000) repairs))
    by_positions = by_entries ∙ ap₂ first_of test_first repair_first
