-- The two counting rules as functions on lists of costs.
use Rattle.std.specs.Prelude.{ℕ, min, max, List, [], ◌∷◌, sum}
use Rattle.cost.specs.Costs.{roof}

-- The largest cost of a list.
abbrev pub largest : List ℕ → ℕ
largest [] = 0
largest (c ∷ cs) = max c (largest cs)

-- The sum of a list's costs, stopped at the roof.
abbrev pub capped_sum : List ℕ → ℕ
capped_sum cs = min roof (sum cs)
