-- Which valve set-ups are taken, and what is wrong with the others.
use Rattle.std.specs.Prelude.{◌≡◌, ℕ, ◌^◌, ◌<◌, ◌≤◌, Bool, ◌||◌, ◌⊎◌, List, [], ◌∷◌, length, Option, nat_le, nat_lt, slice_index, slice_index_or}
use Rattle.model.specs.Firsts.{when, first_of, first_below, outside}
use Rattle.valve.specs.declared.faults.ValveFault.{ValveFault}
use Rattle.valve.specs.declared.faults.ValveFault.TheVariants as fault
use Rattle.valve.specs.declared.valves.Test.{Test}

-- The test of a number.
abbrev pub test_at : List Test → ℕ → Test
test_at tests j = slice_index_or tests j (record { task = 0; set = 0 })

-- A test of a set-up of n candidates is faulty: its task, or its set.
abbrev pub is_faulty : ℕ → Test → Bool
is_faulty n t = nat_lt 63 t.task || nat_le (2 ^ n) t.set

-- What is wrong with one test.
abbrev pub test_fault : ℕ → List Test → ℕ → Option ValveFault
test_fault n tests j = when (is_faulty n (test_at tests j)) (fault.Test j)

-- What is wrong with the repair cost of one candidate.
abbrev pub repair_fault : List ℕ → ℕ → Option ValveFault
repair_fault repairs c = when (nat_lt 1000000 (slice_index repairs c)) (fault.Repair c)

-- What is wrong with a set-up: the number of candidates, the number of tests, the first faulty
-- test, or the first faulty repair cost.
abbrev pub set_up_fault : List ℕ → List Test → Option ValveFault
set_up_fault repairs tests =
    first_of (when (outside 2 12 (length repairs)) (fault.Candidates (length repairs)))
    (first_of (when (outside 1 16 (length tests)) (fault.Tests (length tests)))
    (first_of (first_below (test_fault (length repairs) tests) (length tests)) (first_below (repair_fault repairs) (length repairs))))

-- What each fault says of a set-up.
abbrev pub SetUpHolds : List ℕ → List Test → ValveFault → Type 0
SetUpHolds repairs tests (fault.Candidates n) = (n ≡ length repairs) × ((n < 2) ⊎ (12 < n))
SetUpHolds repairs tests (fault.Tests n) = (n ≡ length tests) × ((n < 1) ⊎ (16 < n))
SetUpHolds repairs tests (fault.Test j) = (j < length tests) × ((63 < (test_at tests j).task) ⊎ (2 ^ length repairs ≤ (test_at tests j).set))
SetUpHolds repairs tests (fault.Repair c) = (c < length repairs) × (1000000 < slice_index repairs c)

-- Where a set-up is faulty, in the order in which it is looked at.
abbrev pub set_up_place : ValveFault → List ℕ
set_up_place (fault.Candidates n) = 0 ∷ []
set_up_place (fault.Tests n) = 1 ∷ []
set_up_place (fault.Test j) = 2 ∷ j ∷ []
set_up_place (fault.Repair c) = 3 ∷ c ∷ []
