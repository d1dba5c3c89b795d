-- What the layer Trim does to a model.
use Rattle.std.specs.Prelude.{ℕ, Bool, cond, List, map, length, ◌==◌}
use Rattle.std.specs.List.{list_any, range_with_len}
use Rattle.model.specs.Meaning.{Action, Barred, Free, State, End, Open, state_at}

-- Whether a list of outcomes has a state.
abbrev pub lists : ℕ → List ℕ → Bool
lists s = list_any (λ o. o == s)

-- An action of a state, barred where it lists that state.
abbrev pub trim_action : ℕ → Action → Action
trim_action s Barred = Barred
trim_action s (Free t os) = cond (lists s os) Barred (Free t os)

-- A state of a number, with its actions trimmed.
abbrev pub trim_state : ℕ → State → State
trim_state s (End c) = End c
trim_state s (Open as') = Open (map (trim_action s) as')

-- A model, with its states trimmed.
abbrev pub trimmed : List State → List State
trimmed m = map (λ s. trim_state s (state_at m s)) (range_with_len 0 (length m))
