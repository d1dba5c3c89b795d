-- The text in which a model, its prices and its best costs are told.
use Rattle.std.specs.Prelude.{ℕ, suc, cond, List, [], ◌∷◌, ◌++◌, map, length, codes, decimal, ◌==◌}
use Rattle.cost.specs.Costs.{cost_text}
use Rattle.cost.specs.declared.amount.Cost.{Cost}
use Rattle.model.specs.Meaning.{Action, Barred, Free, State, End, Open}

-- The texts of elements one after another, where each has its number and the first has the number n.
abbrev pub numbered : {X : Type 0} → (ℕ → X → List ℕ) → ℕ → List X → List ℕ
numbered f n [] = []
numbered f n (x ∷ xs) = f n x ++ numbered f (suc n) xs

-- The line of a task's price; there is none where the price is 1.
abbrev pub price_text : ℕ → ℕ → List ℕ
price_text t p =
    cond (p == 1) [] (codes "task " ++ (decimal t ++ (codes " price " ++ (decimal p ++ codes "\n"))))

-- The outcomes of an action, up to the end of the line.
abbrev pub outcomes_text : List ℕ → List ℕ
outcomes_text [] = codes "\n"
outcomes_text (o ∷ os) = codes " " ++ (decimal o ++ outcomes_text os)

-- The line of the action a of the state s.
abbrev pub action_text : ℕ → ℕ → Action → List ℕ
action_text s a Barred = decimal s ++ (codes "." ++ (decimal a ++ codes " barred\n"))
action_text s a (Free t os) =
    decimal s ++ (codes "." ++ (decimal a ++ (codes " task " ++ (decimal t ++ (codes " ->" ++ outcomes_text os)))))

-- The lines of the state s.
abbrev pub state_text : ℕ → State → List ℕ
state_text s (End c) = decimal s ++ (codes " end " ++ (decimal c ++ codes "\n"))
state_text s (Open acts) = decimal s ++ (codes " open\n" ++ numbered (action_text s) 0 acts)

-- The lines of a model and of the prices of all tasks.
abbrev pub show_text : List State → List ℕ → List ℕ
show_text m ps =
    codes "states " ++ (decimal (length m) ++ (codes "\n" ++ (numbered price_text 0 ps ++ numbered state_text 0 m)))

-- Costs as plain numbers.
abbrev pub values_of : List Cost → List ℕ
values_of costs = map (λ (c : Cost). c.value) costs

-- The line of the cost of the state s.
abbrev pub state_cost_text : ℕ → ℕ → List ℕ
state_cost_text s c = decimal s ++ (codes " " ++ (cost_text c ++ codes "\n"))

-- The lines of the costs of states, the first of which is s.
abbrev pub best_text : ℕ → List ℕ → List ℕ
best_text s costs = numbered state_cost_text s costs
