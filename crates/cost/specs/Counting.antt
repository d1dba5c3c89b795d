-- What a counting rule is: a function on lists of costs that keeps four laws.
use Rattle.std.specs.Prelude.{◌≡◌, ℕ, ◌≤◌, List, length}
use Rattle.std.specs.List.{AllZip, ContainsAt as Has, AllByRecursion}
use Rattle.std.specs.List.Sorted.{IsPermutation}
use Rattle.cost.specs.Costs.{roof}

-- A list of 1 to 16 costs, each at most the roof.
pub record CostList (costs : List ℕ) : Type 0 where
  pub some : 1 ≤ length costs
  pub few : length costs ≤ 16
  pub within : AllByRecursion (λ c. c ≤ roof) costs

-- What every counting rule keeps, over lists of costs.
pub record Lawful (value : List ℕ → ℕ) : Type 0 where
  -- the value is a cost
  pub cost : (l : List ℕ) → CostList l → value l ≤ roof
  -- two orders of one list have one value
  pub order : (l m : List ℕ) → CostList l → IsPermutation l m → value l ≡ value m
  -- larger costs never give a smaller value
  pub growth : (l m : List ℕ) → CostList l → CostList m → AllZip (λ a b. a ≤ b) l m → value l ≤ value m
  -- the value is at least each cost of the list
  pub cover : (l : List ℕ) (c : ℕ) → CostList l → Has l c → c ≤ value l
