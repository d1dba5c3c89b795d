-- What a model means, as plain data. A model is the list of its states, which are numbered from 0.
use Rattle.std.specs.Prelude.{ℕ, Bool, true, false, List, [], slice_index, slice_index_or}

-- An action is barred, or free with a task and the list of the states it can lead to, its outcomes.
pub data Action : Type 0 where
  Barred : Action
  Free : ℕ → List ℕ → Action

-- A state is an end with a cost, or open with the list of its actions.
pub data State : Type 0 where
  End : ℕ → State
  Open : List Action → State

-- What is asked of a state. An open state has no end cost, and an end has no actions.
abbrev pub is_end : State → Bool
is_end (End c) = true
is_end (Open as') = false

abbrev pub end_cost : State → ℕ
end_cost (End c) = c
end_cost (Open as') = 0

abbrev pub actions : State → List Action
actions (End c) = []
actions (Open as') = as'

-- What is asked of an action. A barred action has no task and no outcomes.
abbrev pub is_free : Action → Bool
is_free Barred = false
is_free (Free t os) = true

abbrev pub task : Action → ℕ
task Barred = 0
task (Free t os) = t

abbrev pub outcomes : Action → List ℕ
outcomes Barred = []
outcomes (Free t os) = os

-- The state of a number; past the last there is nothing, like an open state without actions.
abbrev pub state_at : List State → ℕ → State
state_at m s = slice_index_or m s (Open [])

-- The action of a number at a state; past the last there is nothing, like a barred action.
abbrev pub action_at : List State → ℕ → ℕ → Action
action_at m s a = slice_index_or (actions (state_at m s)) a Barred

-- The outcome at a place of an action's list; past the last it is 0.
abbrev pub outcome_at : List State → ℕ → ℕ → ℕ → ℕ
outcome_at m s a k = slice_index (outcomes (action_at m s a)) k
