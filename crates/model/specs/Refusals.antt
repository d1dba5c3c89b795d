-- The number of the refusal of a model and the values that it returns.
use Rattle.std.specs.Prelude.{ℕ, List, ◌++◌, codes, decimal}
use Rattle.model.specs.declared.faults.ModelFault.{ModelFault}
use Rattle.model.specs.declared.faults.ModelFault.TheVariants.{States, Actions, EndCost, Task, Outcomes, Outcome}
use Rattle.model.specs.declared.refusals.Refusal.{Refusal}
use Rattle.model.specs.declared.refusals.Values.{Values}
use Rattle.model.specs.declared.refusals.Values.TheVariants.{Nothing, One, Two, Three}

-- A number and the values that are returned with it.
abbrev pub refused : ℕ → Values → Refusal
refused n vs = record { number = n; values = vs }

-- The refusal of a model that is read.
abbrev pub model_refusal : ModelFault → Refusal
model_refusal (States count) = refused 4 (One count)
model_refusal (Actions state) = refused 5 (One state)
model_refusal (EndCost state) = refused 6 (One state)
model_refusal (Task state action) = refused 7 (Two state action)
model_refusal (Outcomes state action) = refused 8 (Two state action)
model_refusal (Outcome state action place) = refused 9 (Three state action place)

-- The cause in words, which say what each value of the refusal is.
abbrev pub model_words : ModelFault → List ℕ
model_words (States count) = codes "number of states not from 1 to 4096"
model_words (Actions state) = codes "state with more than 16 actions"
model_words (EndCost state) = codes "state with an end cost over 1000000"
model_words (Task state action) = codes "state and action with a task over 63"
model_words (Outcomes state action) = codes "state and action with a number of outcomes not from 1 to 16"
model_words (Outcome state action place) = codes "state, action and place of an outcome that is no state, or not above the one before it"

-- The text of a refusal: its number, and each value after a space.
abbrev pub refusal_text : ℕ → Values → List ℕ
refusal_text n Nothing = codes "refused " ++ decimal n
refusal_text n (One a) = codes "refused " ++ (decimal n ++ (codes " " ++ decimal a))
refusal_text n (Two a b) = codes "refused " ++ (decimal n ++ (codes " " ++ (decimal a ++ (codes " " ++ decimal b))))
refusal_text n (Three a b c) = codes "refused " ++ (decimal n ++ (codes " " ++ (decimal a ++ (codes " " ++ (decimal b ++ (codes " " ++ decimal c))))))
