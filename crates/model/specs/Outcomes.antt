-- The outcomes of an action, taken one after another.
use Rattle.std.specs.Prelude.{ℕ, List, drop}
use Rattle.model.specs.Meaning.{State, outcomes, action_at}

-- The outcomes of an action from a place of its list on.
abbrev pub outcomes_from : List State → ℕ → ℕ → ℕ → List ℕ
outcomes_from m s a k = drop k (outcomes (action_at m s a))
