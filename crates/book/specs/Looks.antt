-- What is to be done at a state.
use Rattle.std.specs.Prelude.{◌≡◌, ℕ, ◌<◌, ◌≤◌, true, false, ◌⊎◌, List, map, length, Some, None, Option}
use Rattle.std.specs.List.{ContainsAt as Has, AllByRecursion}
use Rattle.cost.specs.Costs.{roof, capped}
use Rattle.model.specs.Meaning.{State, Free, outcomes, action_at}
use Rattle.model.specs.Reading.{Opens}
use Rattle.plan.specs.Bounds.{least_cost}
use Rattle.plan.specs.Plans.{price_of}
use Rattle.book.specs.Pages.{Page, bound_at, planned_at}
use Rattle.book.specs.declared.pages.looks.Look.{Look}
use Rattle.book.specs.declared.pages.looks.Look.TheVariants.{Raise, Mark, Enter}

-- What is to be done at a state, as far as one of its actions tells: it is marked with the action if
-- all outcomes are planned, else the search goes on to an outcome that is not.
abbrev pub Followed : List State → Page → ℕ → ℕ → Option Look → Type 0
Followed m p s a (Some (Raise cost)) = ⊥
Followed m p s a (Some (Mark b)) = (b ≡ a) × AllByRecursion (λ o. planned_at p o ≡ true) (outcomes (action_at m s a))
Followed m p s a (Some (Enter o)) = Has (outcomes (action_at m s a)) o × (planned_at p o ≡ false)
Followed m p s a None = (256 ≤ a) ⊎ ((o : ℕ) × Has (outcomes (action_at m s a)) o × (4096 ≤ o))

-- An action is free, with these outcomes, and costs exactly the bound.
abbrev pub Exact : List State → (List ℕ → ℕ) → List ℕ → Page → ℕ → ℕ → ℕ → List ℕ → Type 0
Exact m value prices p s a t os =
    (action_at m s a ≡ Free t os) × (bound_at p s ≡ capped (price_of prices t) (value (map (bound_at p) os)))

-- What is to be done at a state is what the events at it ask for. There is always something if the
-- model opens, the state is not planned, and its bound is below the roof and lawful.
abbrev pub Seen : List State → (List ℕ → ℕ) → List ℕ → Page → ℕ → Option Look → Type 0
Seen m value prices p s (Some (Raise cost)) =
    (s < 4096) × (planned_at p s ≡ false) × (bound_at p s < least_cost m value prices (bound_at p) s) × (cost.value ≡ least_cost m value prices (bound_at p) s)
Seen m value prices p s (Some (Mark a)) =
    (s < 4096) × (planned_at p s ≡ false) × ((t : ℕ) × (os : List ℕ) × Exact m value prices p s a t os × AllByRecursion (λ o. planned_at p o ≡ true) os)
Seen m value prices p s (Some (Enter o)) =
    (a : ℕ) × (t : ℕ) × (os : List ℕ) × Exact m value prices p s a t os × Has os o × (planned_at p o ≡ false)
Seen m value prices p s None =
    Opens m → s < length m → planned_at p s ≡ false → bound_at p s < roof → bound_at p s ≤ least_cost m value prices (bound_at p) s → ⊥
