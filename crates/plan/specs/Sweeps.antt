-- What the rounds keep that lower bounds to the least action costs.
use Rattle.std.specs.Prelude.{◌≡◌, ℕ, zero, suc, ◌+◌, ◌<◌, ◌≤◌, List, length}
use Rattle.cost.specs.Costs.{roof}
use Rattle.model.specs.Meaning.{State, End, Open, state_at}
use Rattle.plan.specs.Bounds.{Bounds, least_cost}

-- The sum of the bounds of the first n states.
abbrev pub total : Bounds → ℕ → ℕ
total v zero = 0
total v (suc n) = total v n + v n

-- An end has its end cost, and an open state is not below its least action cost.
abbrev pub AboveAt : List State → (List ℕ → ℕ) → List ℕ → Bounds → ℕ → State → Type 0
AboveAt m value prices v s (End c) = v s ≡ c
AboveAt m value prices v s (Open as') = (least_cost m value prices v s ≤ v s) × (v s ≤ roof)

abbrev pub Above : List State → (List ℕ → ℕ) → List ℕ → Bounds → Type 0
Above m value prices v = (s : ℕ) → s < length m → AboveAt m value prices v s (state_at m s)

-- No state before n is above its least action cost.
abbrev pub Settled : List State → (List ℕ → ℕ) → List ℕ → Bounds → ℕ → Type 0
Settled m value prices v n = (s : ℕ) → s < n → v s ≤ least_cost m value prices v s

-- The end cost of an end, and the roof for an open state.
abbrev pub highest : State → ℕ
highest (End c) = c
highest (Open as') = roof
