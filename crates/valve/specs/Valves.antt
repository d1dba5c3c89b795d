-- What a valve model means. A state is a set of candidates, those that may still be at fault.
use Rattle.std.specs.Prelude.{ℕ, zero, suc, ◌-◌, ◌/◌, ◌%◌, ◌^◌, min, max, cond, ◌||◌, List, [], ◌∷◌, map, length, take, ◌==◌, bit_and, slice_index}
use Rattle.std.specs.List.{range_with_len}
use Rattle.model.specs.Meaning.{Action, Barred, Free, State, End, Open}
use Rattle.valve.specs.declared.valves.Split.{Split}
use Rattle.valve.specs.declared.valves.Test.{Test}
use Rattle.valve.specs.declared.valves.ValveModel.{ValveModel}

-- The candidates of a set: the places of the one bits among the lowest `bits` bits of its number.
-- The lowest place is called `first`.
abbrev pub candidates : ℕ → ℕ → ℕ → List ℕ
candidates zero first m = []
candidates (suc bits) first m = cond (m % 2 == 1) (first ∷ candidates bits (suc first) (m / 2)) (candidates bits (suc first) (m / 2))

-- The part of a set that lies inside another set, and the part outside it.
abbrev pub inside_part : ℕ → ℕ → ℕ
inside_part m set = bit_and m set

abbrev pub outside_part : ℕ → ℕ → ℕ
outside_part m set = m - bit_and m set

-- What a test does in a state: it leads to the two parts, and is barred where one is empty.
abbrev pub test_action : ℕ → Test → Action
test_action m t =
    cond (inside_part m t.set == 0 || outside_part m t.set == 0) Barred
    (Free t.task (min (inside_part m t.set) (outside_part m t.set) ∷ max (inside_part m t.set) (outside_part m t.set) ∷ []))

-- A state with its candidates: none is an end of cost 0, one is an end at its repair cost, and of
-- more the tests are the actions.
abbrev pub set_state : List ℕ → List Test → ℕ → List ℕ → State
set_state repairs tests m [] = End 0
set_state repairs tests m (c ∷ []) = End (slice_index repairs c)
set_state repairs tests m (c ∷ (d ∷ cs)) = Open (map (test_action m) tests)

-- The model of a set-up: one state for each set of candidates.
abbrev pub valve_meaning : List ℕ → List Test → List State
valve_meaning repairs tests = map (λ m. set_state repairs tests m (candidates (length repairs) 0 m)) (range_with_len 0 (2 ^ length repairs))

-- The repair costs and the tests that a valve model holds.
abbrev pub repairs_of : ValveModel → List ℕ
repairs_of v = take v.candidates v.repairs

abbrev pub tests_of : ValveModel → List Test
tests_of v = take v.count v.tests

-- What a valve model means.
abbrev pub meaning_of : ValveModel → List State
meaning_of v = valve_meaning (repairs_of v) (tests_of v)

-- A split as an action.
abbrev pub split_action : Split → Action
split_action s = Free s.task (s.smaller ∷ s.larger ∷ [])
