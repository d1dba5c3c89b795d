-- Plans: which actions are taken, where they lead, and what they cost.
use Rattle.std.specs.Prelude.{◌≡◌, ℕ, ◌<◌, true, ◌⊎◌, List, length, Some, Option, slice_index}
use Rattle.std.specs.List.{ContainsAt as Has}
use Rattle.cost.specs.Costs.{capped}
use Rattle.model.specs.Meaning.{State, End, Free, is_end, state_at, action_at}

-- A plan gives some states the number of an action.
abbrev pub Plan : Type 0
Plan = ℕ → Option ℕ

-- The plan takes, at a state, a free action with this task and these outcomes.
abbrev pub Takes : List State → Plan → ℕ → ℕ → List ℕ → Type 0
Takes m p s t os = (a : ℕ) × (p s ≡ Some a) × (action_at m s a ≡ Free t os)

-- One step along the plan: to an outcome of the action that it takes.
abbrev pub Leads : List State → Plan → ℕ → ℕ → Type 0
Leads m p s u = (t : ℕ) × (os : List ℕ) × Takes m p s t os × Has os u

-- Any number of steps along the plan.
pub data Path (m : List State) (p : Plan) : ℕ → ℕ → Type 0 where
  here : {s : ℕ} → Path m p s s
  step : {s x u : ℕ} → Leads m p s x → Path m p x u → Path m p s u

-- Every state that is reached from s is an end, or the plan takes a free action there.
abbrev pub Closed : List State → Plan → ℕ → Type 0
Closed m p s = (u : ℕ) → Path m p s u → (is_end (state_at m u) ≡ true) ⊎ ((t : ℕ) × (os : List ℕ) × Takes m p u t os)

-- No path along the plan from a state that is reached from s comes back to that state.
abbrev pub Proper : List State → Plan → ℕ → Type 0
Proper m p s = (u x : ℕ) → Path m p s u → Leads m p u x → Path m p x u → ⊥

-- The price of a task; 0 where there is no such task.
abbrev pub price_of : List ℕ → ℕ → ℕ
price_of prices t = slice_index prices t

-- What a plan costs at a state: at an end the end cost; at an open state the price of the task plus
-- the rule's value at the costs of the outcomes, stopped at the roof.
pub data Costs (m : List State) (value : List ℕ → ℕ) (prices : List ℕ) (p : Plan) : ℕ → ℕ → Type 0 where
  at_end : {s c : ℕ} → state_at m s ≡ End c → Costs m value prices p s c
  at_open : {s c t : ℕ} {os : List ℕ} (cs : List ℕ) → Takes m p s t os → length cs ≡ length os
      → ((k : ℕ) → k < length os → Costs m value prices p (slice_index os k) (slice_index cs k))
      → c ≡ capped (price_of prices t) (value cs) → Costs m value prices p s c
