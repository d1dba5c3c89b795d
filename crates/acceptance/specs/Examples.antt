-- Worked examples: models, a rule, prices, and the best cost of every state.
use Rattle.std.specs.Prelude.{ℕ, ◌<◌, List, [], ◌∷◌, length, replicate, slice_index}
use Rattle.std.specs.List.{AllByRecursion}
use Rattle.cost.specs.Costs.{roof}
use Rattle.cost.specs.Rules.{largest, capped_sum}
use Rattle.model.specs.Meaning.{State, End, Open, Free}
use Rattle.plan.specs.Bests.{Best}
use Rattle.plan.specs.Bounds.{LawfulAt, LawfulBounds}
use Rattle.valve.specs.Valves.{valve_meaning}
use Rattle.valve.specs.declared.valves.Test.{Test}

-- The name of a rule, and its function.
pub data RuleName : Type 0 where
  Largest : RuleName
  Sum : RuleName

abbrev pub value_of : RuleName → List ℕ → ℕ
value_of Largest = largest
value_of Sum = capped_sum

-- The prices of tasks 0, 1 and 2; all others are 1.
abbrev pub priced : ℕ → ℕ → ℕ → List ℕ
priced a b c = a ∷ b ∷ c ∷ replicate 61 1

-- Four states: 0 and 1 are open, 2 is an end of cost 4, and 3 is open without actions. State 0 has
-- task 0 to 0 and 2, and task 1 to 1 and 2; state 1 has task 0 to 0 and 2, and task 2 to 2.
abbrev pub pipes : List State
pipes =
    Open (Free 0 (0 ∷ 2 ∷ []) ∷ Free 1 (1 ∷ 2 ∷ []) ∷ []) ∷ Open (Free 0 (0 ∷ 2 ∷ []) ∷ Free 2 (2 ∷ []) ∷ []) ∷ End 4 ∷ Open [] ∷ []

-- A test of the valve example.
abbrev pub test : ℕ → ℕ → Test
test t s = record { task = t; set = s }

-- Four candidates with repair costs 0, and the tests {0, 1}, {0, 2} and {0} with tasks 0, 1 and 2.
abbrev pub valves : List State
valves = valve_meaning (0 ∷ 0 ∷ 0 ∷ 0 ∷ []) (test 0 3 ∷ test 1 5 ∷ test 2 1 ∷ [])

-- A model, a rule, prices, and what the best cost of each state is.
pub record Example : Type 0 where
  pub model : List State
  pub rule : RuleName
  pub prices : List ℕ
  pub costs : List ℕ

abbrev pub example : List State → RuleName → List ℕ → List ℕ → Example
example m r ps cs = record { model = m; rule = r; prices = ps; costs = cs }

-- The table of examples.
abbrev pub examples : List Example
examples =
    example pipes Largest (priced 1 2 5) (11 ∷ 9 ∷ 4 ∷ roof ∷ [])
    ∷ example pipes Sum (priced 1 2 5) (15 ∷ 9 ∷ 4 ∷ roof ∷ [])
    ∷ example pipes Largest (priced 1 2 4) (10 ∷ 8 ∷ 4 ∷ roof ∷ [])
    ∷ example valves Largest (priced 3 2 1) (0 ∷ 0 ∷ 0 ∷ 1 ∷ 0 ∷ 1 ∷ 2 ∷ 3 ∷ 0 ∷ 1 ∷ 3 ∷ 4 ∷ 2 ∷ 3 ∷ 5 ∷ 5 ∷ [])
    ∷ example valves Sum (priced 3 2 1) (0 ∷ 0 ∷ 0 ∷ 1 ∷ 0 ∷ 1 ∷ 2 ∷ 3 ∷ 0 ∷ 1 ∷ 3 ∷ 4 ∷ 2 ∷ 3 ∷ 5 ∷ 6 ∷ [])
    ∷ []

-- The costs of an example are the best costs.
abbrev pub IsBest : Example → Type 0
IsBest e = (s : ℕ) → s < length e.model → Best e.model (value_of e.rule) e.prices s (slice_index e.costs s)

abbrev pub AllAreBest : Type 0
AllAreBest = AllByRecursion IsBest examples

-- Two lists of estimates: the best costs are lawful, and 12 at state 0 is not.
pub record Estimates : Type 0 where
  pub lawful : LawfulBounds pipes largest (priced 1 2 5) (λ s. slice_index (11 ∷ 9 ∷ 4 ∷ roof ∷ []) s)
  pub unlawful : LawfulAt pipes largest (priced 1 2 5) (λ s. slice_index (12 ∷ 9 ∷ 4 ∷ 0 ∷ []) s) 0 (Open (Free 0 (0 ∷ 2 ∷ []) ∷ Free 1 (1 ∷ 2 ∷ []) ∷ [])) → ⊥
