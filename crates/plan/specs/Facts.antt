-- What is true of plans, best costs and bounds, over every model that opens, every rule that keeps
-- its laws and all prices in range.
use Rattle.std.specs.Prelude.{◌≡◌, ℕ, ◌<◌, ◌≤◌, Bool, true, List, length}
use Rattle.cost.specs.Counting.{Lawful}
use Rattle.cost.specs.Prices.{InRange}
use Rattle.model.specs.Meaning.{Action, State, Open, state_at}
use Rattle.model.specs.Reading.{Opens}
use Rattle.plan.specs.Bests.{Best}
use Rattle.plan.specs.Bounds.{Bounds, least_cost, LawfulBounds, set_bound, no_bounds, Marks}
use Rattle.plan.specs.Plans.{Plan, Closed, Proper, price_of, Costs}

-- A closed and proper plan has exactly one cost, and a plan that has a cost is closed and proper.
pub record PlansCost (m : List State) (value : List ℕ → ℕ) (prices : List ℕ) (p : Plan) (s : ℕ) : Type 0 where
  pub has_one : Closed m p s → Proper m p s → (c : ℕ) × Costs m value prices p s c
  pub only_one : (c d : ℕ) → Costs m value prices p s c → Costs m value prices p s d → c ≡ d
  pub closed : (c : ℕ) → Costs m value prices p s c → Closed m p s
  pub proper : (c : ℕ) → Costs m value prices p s c → Proper m p s

abbrev pub EveryPlanCosts : Type 0
EveryPlanCosts =
    (m : List State) (value : List ℕ → ℕ) (prices : List ℕ) → Opens m → (p : Plan) (s : ℕ) → s < length m → PlansCost m value prices p s

-- Every state has exactly one best cost.
abbrev pub EveryStateHasOneBest : Type 0
EveryStateHasOneBest =
    (m : List State) (value : List ℕ → ℕ) (prices : List ℕ) → Opens m → Lawful value → InRange prices → (s : ℕ) → s < length m
    → (b : ℕ) × Best m value prices s b × ((c : ℕ) → Best m value prices s c → c ≡ b)

-- Lawful bounds are at most the best cost, at every state.
abbrev pub LawfulIsBelowBest : Type 0
LawfulIsBelowBest =
    (m : List State) (value : List ℕ → ℕ) (prices : List ℕ) → Opens m → Lawful value → (v : Bounds) → LawfulBounds m value prices v
    → (s b : ℕ) → s < length m → Best m value prices s b → v s ≤ b

-- Bounds stay lawful when an open state's bound is set to its least action cost, and when prices
-- rise; bounds with which nothing is known are lawful at any prices.
pub record LawfulIsKept (m : List State) (value : List ℕ → ℕ) : Type 0 where
  pub raise : (prices : List ℕ) (v : Bounds) → LawfulBounds m value prices v → (s : ℕ) (as' : List Action) → s < length m
      → state_at m s ≡ Open as' → LawfulBounds m value prices (set_bound v s (least_cost m value prices v s))
  pub rise : (old new : List ℕ) → ((t : ℕ) → price_of old t ≤ price_of new t) → (v : Bounds) → LawfulBounds m value old v → LawfulBounds m value new v
  pub none : (prices : List ℕ) → LawfulBounds m value prices (no_bounds m)

abbrev pub LawfulIsKeptAlways : Type 0
LawfulIsKeptAlways = (m : List State) (value : List ℕ → ℕ) → Opens m → Lawful value → LawfulIsKept m value

-- From a planned state the kept actions are a closed, proper plan that costs the bound, which is
-- then the best cost.
pub record PlannedIsBest (m : List State) (value : List ℕ → ℕ) (prices : List ℕ) (v : Bounds) (kept : Plan) (s : ℕ) : Type 0 where
  pub closed : Closed m kept s
  pub proper : Proper m kept s
  pub costs : Costs m value prices kept s (v s)
  pub best : Best m value prices s (v s)

abbrev pub MarksMakePlans : Type 0
MarksMakePlans =
    (m : List State) (value : List ℕ → ℕ) (prices : List ℕ) → Opens m → Lawful value → InRange prices → (v : Bounds) → LawfulBounds m value prices v
    → (planned : ℕ → Bool) (kept : Plan) → Marks m value prices v planned kept → (s : ℕ) → s < length m → planned s ≡ true → PlannedIsBest m value prices v kept s
