-- What a price list holds.
use Rattle.std.specs.Prelude.{◌≡◌, ℕ, ◌≤◌, List, map, length}
use Rattle.std.specs.List.{AllByRecursion}
use Rattle.cost.specs.declared.prices.Price.{Price}
use Rattle.cost.specs.declared.prices.PriceList.{PriceList}
use Rattle.cost.specs.declared.prices.Task.{Task}

-- The number of a task.
abbrev pub task_number : Task → ℕ
task_number t = t.number

-- A price as a number.
abbrev pub price_number : Price → ℕ
price_number p = p.value

-- The 64 prices as numbers, by task.
abbrev pub figures : PriceList → List ℕ
figures l = map price_number l.prices

-- The prices of all tasks: 64 numbers, each from 1 to 10,000.
abbrev pub InRange : List ℕ → Type 0
InRange ps = (length ps ≡ 64) × AllByRecursion (λ p. (1 ≤ p) × (p ≤ 10000)) ps
