-- Lower bounds of the states' costs, and what actions cost by them.
use Rattle.std.specs.Prelude.{◌≡◌, ℕ, zero, suc, ◌<◌, ◌≤◌, min, Bool, true, false, cond, List, map, length, Some, None, Option, ◌==◌, slice_index}
use Rattle.std.specs.List.{AllByRecursion}
use Rattle.cost.specs.Costs.{roof, capped}
use Rattle.cost.specs.declared.amount.Cost.{Cost}
use Rattle.model.specs.Meaning.{Action, Barred, Free, State, End, Open, is_end, is_free, actions, state_at, action_at}
use Rattle.plan.specs.Plans.{Plan, Takes, price_of}

-- A number for each state.
abbrev pub Bounds : Type 0
Bounds = ℕ → ℕ

-- The bounds that a list of costs gives; past its end a bound is 0.
abbrev pub bounds_of : List Cost → Bounds
bounds_of costs = λ s. slice_index (map (λ (c : Cost). c.value) costs) s

-- What an action costs by given bounds: the price of its task plus the rule's value at the bounds
-- of its outcomes, stopped at the roof; the roof where it is barred.
abbrev pub cost_by : (List ℕ → ℕ) → List ℕ → Bounds → Action → ℕ
cost_by value prices v Barred = roof
cost_by value prices v (Free t os) = capped (price_of prices t) (value (map v os))

-- What the action of a number at a state costs by given bounds.
abbrev pub action_cost : List State → (List ℕ → ℕ) → List ℕ → Bounds → ℕ → ℕ → ℕ
action_cost m value prices v s a = cost_by value prices v (action_at m s a)

-- The least of the costs at the places 0 to n - 1, and the roof where there are none.
abbrev pub least_below : (ℕ → ℕ) → ℕ → ℕ
least_below cost zero = roof
least_below cost (suc n) = min (least_below cost n) (cost n)

-- The least action cost at a state; the roof where no action is free.
abbrev pub least_cost : List State → (List ℕ → ℕ) → List ℕ → Bounds → ℕ → ℕ
least_cost m value prices v s = least_below (action_cost m value prices v s) (length (actions (state_at m s)))

-- An answer is the first free action, among those of numbers below n, that has the least cost of
-- them, or there is no answer and none of them is free.
abbrev pub FirstLeast : List State → (List ℕ → ℕ) → List ℕ → Bounds → ℕ → ℕ → Option ℕ → Type 0
FirstLeast m value prices v s n None = (a : ℕ) → a < n → is_free (action_at m s a) ≡ false
FirstLeast m value prices v s n (Some a) =
    (a < n)
    × (is_free (action_at m s a) ≡ true)
    × (action_cost m value prices v s a ≡ least_below (action_cost m value prices v s) n)
    × ((b : ℕ) → b < a → is_free (action_at m s b) ≡ true → least_below (action_cost m value prices v s) n < action_cost m value prices v s b)

-- What bounds must be at a state: the end cost at an end, and at an open state no more than the
-- least action cost by themselves.
abbrev pub LawfulAt : List State → (List ℕ → ℕ) → List ℕ → Bounds → ℕ → State → Type 0
LawfulAt m value prices v s (End c) = v s ≡ c
LawfulAt m value prices v s (Open as') = v s ≤ least_cost m value prices v s

-- Lawful bounds.
abbrev pub LawfulBounds : List State → (List ℕ → ℕ) → List ℕ → Bounds → Type 0
LawfulBounds m value prices v = (s : ℕ) → s < length m → LawfulAt m value prices v s (state_at m s)

-- A bound is set at one state, and the others stay.
abbrev pub set_bound : Bounds → ℕ → ℕ → Bounds
set_bound v s b = λ u. cond (u == s) b (v u)

-- 0 for an open state and the end cost for an end.
abbrev pub zero_or_end : State → ℕ
zero_or_end (End c) = c
zero_or_end (Open as') = 0

-- The bounds with which nothing is known yet.
abbrev pub no_bounds : List State → Bounds
no_bounds m = λ s. zero_or_end (state_at m s)

-- What is promised of a planned state: at an open state the bound is below the roof and equals the
-- cost by the bounds of the kept action, which is free and whose outcomes are planned.
abbrev pub KeptAt : List State → (List ℕ → ℕ) → List ℕ → Bounds → (ℕ → Bool) → Plan → ℕ → State → Type 0
KeptAt m value prices v planned kept s (End c) = Unit {0}
KeptAt m value prices v planned kept s (Open as') =
    (v s < roof) × ((t : ℕ) × (os : List ℕ) × Takes m kept s t os × (v s ≡ capped (price_of prices t) (value (map v os))) × AllByRecursion (λ o. planned o ≡ true) os)

-- Marks: ends are planned, and every planned state keeps what is promised of it.
pub record Marks (m : List State) (value : List ℕ → ℕ) (prices : List ℕ) (v : Bounds) (planned : ℕ → Bool) (kept : Plan) : Type 0 where
  pub ends : (s : ℕ) → s < length m → is_end (state_at m s) ≡ true → planned s ≡ true
  pub keeps : (s : ℕ) → s < length m → planned s ≡ true → KeptAt m value prices v planned kept s (state_at m s)
