-- What a cost is, and how two costs add up.
use Rattle.std.specs.Prelude.{ℕ, ◌+◌, ◌==◌, min, cond, List, codes, decimal}

-- The largest cost. It stands for every cost above 1,000,000,000 and for "no plan".
abbrev pub roof : ℕ
roof = 1000000001

-- The sum of two costs, stopped at the roof.
abbrev pub capped : ℕ → ℕ → ℕ
capped a b = min roof (a + b)

-- A cost as it is printed.
abbrev pub cost_text : ℕ → List ℕ
cost_text c = cond (c == roof) (codes "roof") (decimal c)
