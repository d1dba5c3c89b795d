-- Best costs: what the cheapest plan costs.
use Rattle.std.specs.Prelude.{ℕ, ◌<◌, ◌≤◌, List}
use Rattle.cost.specs.Costs.{roof}
use Rattle.model.specs.Meaning.{State}
use Rattle.plan.specs.Plans.{Plan, Closed, Proper, Costs}

-- A cost is the best of a state: no closed, proper plan from there costs less, and one costs it; or
-- it is the roof, which no closed, proper plan from there, if there is any, costs less than.
pub record Best (m : List State) (value : List ℕ → ℕ) (prices : List ℕ) (s b : ℕ) : Type 0 where
  pub least : (p : Plan) (c : ℕ) → Closed m p s → Proper m p s → Costs m value prices p s c → b ≤ c
  pub reached : b < roof → (p : Plan) × Closed m p s × Proper m p s × Costs m value prices p s b
  pub most : b ≤ roof
