-- What is wrong with a model: the first fault in the order in which a model is read.
use Rattle.std.specs.Prelude.{◌≡◌, ℕ, ◌-◌, ◌<◌, ◌≤◌, true, ◌&&◌, ◌||◌, ◌⊎◌, List, [], ◌∷◌, length, None, Option, nat_le, nat_lt}
use Rattle.model.specs.Firsts.{when, first_of, first_below, outside, IsFirst}
use Rattle.model.specs.Meaning.{State, end_cost, actions, is_free, task, outcomes, state_at, action_at, outcome_at}
use Rattle.model.specs.declared.faults.ModelFault.{ModelFault}
use Rattle.model.specs.declared.faults.ModelFault.TheVariants.{States, Actions, EndCost, Task, Outcomes, Outcome}

-- What is wrong with the outcome at a place of an action's list.
abbrev pub outcome_fault : List State → ℕ → ℕ → ℕ → Option ModelFault
outcome_fault m s a k =
    when (nat_le (length m) (outcome_at m s a k) || (nat_lt 0 k && nat_le (outcome_at m s a k) (outcome_at m s a (k - 1)))) (Outcome s a k)

-- What is wrong with an action before its outcomes are read. A barred action is passed over.
abbrev pub action_head : List State → ℕ → ℕ → Option ModelFault
action_head m s a =
    first_of (when (nat_lt 63 (task (action_at m s a))) (Task s a))
    (when (is_free (action_at m s a) && outside 1 16 (length (outcomes (action_at m s a)))) (Outcomes s a))

-- What is wrong with an action.
abbrev pub action_fault : List State → ℕ → ℕ → Option ModelFault
action_fault m s a = first_of (action_head m s a) (first_below (outcome_fault m s a) (length (outcomes (action_at m s a))))

-- What is wrong with a state before its actions are read.
abbrev pub state_head : List State → ℕ → Option ModelFault
state_head m s =
    first_of (when (nat_lt 16 (length (actions (state_at m s)))) (Actions s)) (when (nat_lt 1000000 (end_cost (state_at m s))) (EndCost s))

-- What is wrong with a state.
abbrev pub state_fault : List State → ℕ → Option ModelFault
state_fault m s = first_of (state_head m s) (first_below (action_fault m s) (length (actions (state_at m s))))

-- What is wrong with a model.
abbrev pub first_fault : List State → Option ModelFault
first_fault m = first_of (when (outside 1 4096 (length m)) (States (length m))) (first_below (state_fault m) (length m))

-- Nothing is wrong with a model: it can be opened.
abbrev pub Opens : List State → Type 0
Opens m = first_fault m ≡ None

-- There is such a state, such an action, such an outcome.
abbrev pub HasState : List State → ℕ → Type 0
HasState m s = s < length m

abbrev pub HasAction : List State → ℕ → ℕ → Type 0
HasAction m s a = HasState m s × (a < length (actions (state_at m s)))

abbrev pub HasOutcome : List State → ℕ → ℕ → ℕ → Type 0
HasOutcome m s a k = HasAction m s a × (k < length (outcomes (action_at m s a)))

-- What each fault says of a model.
abbrev pub Holds : List State → ModelFault → Type 0
Holds m (States n) = (n ≡ length m) × ((n < 1) ⊎ (4096 < n))
Holds m (Actions s) = HasState m s × (16 < length (actions (state_at m s)))
Holds m (EndCost s) = HasState m s × (1000000 < end_cost (state_at m s))
Holds m (Task s a) = HasAction m s a × (63 < task (action_at m s a))
Holds m (Outcomes s a) =
    HasAction m s a × (is_free (action_at m s a) ≡ true) × ((length (outcomes (action_at m s a)) < 1) ⊎ (16 < length (outcomes (action_at m s a))))
Holds m (Outcome s a k) =
    HasOutcome m s a k × ((length m ≤ outcome_at m s a k) ⊎ ((0 < k) × (outcome_at m s a k ≤ outcome_at m s a (k - 1))))

-- Where a model is faulty: the state, the action, the number of the refusal, the place in the list.
abbrev pub place : ModelFault → List ℕ
place (States n) = []
place (Actions s) = s ∷ []
place (EndCost s) = s ∷ []
place (Task s a) = s ∷ a ∷ 7 ∷ []
place (Outcomes s a) = s ∷ a ∷ 8 ∷ []
place (Outcome s a k) = s ∷ a ∷ 9 ∷ k ∷ []

-- An answer is the first fault of a model in the order of reading, or none where there is none.
abbrev pub FirstFault : List State → Option ModelFault → Type 0
FirstFault m r = IsFirst (Holds m) place r
