-- What is asked after the states, and the text that answers it.
use Rattle.std.specs.Prelude.{◌≡◌, ℕ, ◌<◌, List, [], ◌∷◌, ◌++◌, length, replicate, codes, decimal, slice_set}
use Rattle.std.specs.List.{flat_map}
use Rattle.cost.specs.Costs.{cost_text}
use Rattle.cost.specs.Rules.{largest, capped_sum}
use Rattle.cost.specs.declared.prices.Price.{Price}
use Rattle.cost.specs.declared.prices.Task.{Task}
use Rattle.model.specs.Meaning.{State}
use Rattle.plan.specs.Bests.{Best}
use Rattle.paelwisk.specs.Lines.{lines_about}
use Rattle.paelwisk.specs.declared.valves.asks.Ask.{Ask}
use Rattle.paelwisk.specs.declared.valves.asks.Ask.TheVariants as ask
use Rattle.paelwisk.specs.Names.{rule_name}
use Rattle.paelwisk.specs.declared.names.RuleName.{RuleName}
use Rattle.paelwisk.specs.declared.names.RuleName.TheVariants as rule

-- The function that a rule means.
abbrev pub rule_value : RuleName → List ℕ → ℕ
rule_value rule.Largest = largest
rule_value rule.Sum = capped_sum

-- The prices after one is set.
abbrev pub priced : List ℕ → Task → Price → List ℕ
priced ps t p = slice_set ps t.number p.value

-- The line of a state's best cost.
abbrev pub best_text : RuleName → ℕ → ℕ → List ℕ
best_text r s c =
    codes "best " ++ (rule_name r ++ (codes " state " ++ (decimal s ++ (codes " " ++ (cost_text c ++ codes "\n")))))

-- The costs are the best costs of all states of a model.
abbrev pub AllBest : List State → RuleName → List ℕ → (ℕ → ℕ) → Type 0
AllBest m r ps costs = (s : ℕ) → s < length m → Best m (rule_value r) ps s (costs s)

-- A text answers what is asked of a model with some states, where the prices are at first ps.
abbrev pub Replies : List State → List ℕ → List ℕ → List Ask → List ℕ → Type 0
Replies m ss ps [] t = t ≡ []
Replies m ss ps (ask.Price task price ∷ asks) t = Replies m ss (priced ps task price) asks t
Replies m ss ps (ask.Best r ∷ asks) t =
    (costs : (ℕ → ℕ)) × (rest : List ℕ) × AllBest m r ps costs × Replies m ss ps asks rest × (t ≡ flat_map (λ s. best_text r s (costs s)) ss ++ rest)

-- A text answers what is asked by what it adds to another.
pub record Replied (m : List State) (ss : List ℕ) (asks : List Ask) (old new : List ℕ) : Type 0 where
  pub replies : List ℕ
  pub answers : Replies m ss (replicate 64 1) asks replies
  pub text : new ≡ old ++ replies

-- A text has the lines about the states, and then what answers what is asked after them.
abbrev pub AllLines : List State → List ℕ → List Ask → List ℕ → Type 0
AllLines m ss asks t = Replied m ss asks (lines_about m ss) t
