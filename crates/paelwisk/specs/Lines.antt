-- The text that is printed about a state.
use Rattle.std.specs.Prelude.{ℕ, suc, List, [], ◌∷◌, ◌++◌, map, codes, decimal, Option}
use Rattle.std.specs.List.{flat_map}
use Rattle.model.specs.Meaning.{Action, Barred, Free, State, End, Open, state_at}
use Rattle.valve.specs.declared.valves.Split.{Split}
use Rattle.paelwisk.specs.Answers.{action_of, state_of}
use Rattle.paelwisk.specs.declared.valves.answers.Answer.{Answer}

-- The outcomes of an action, up to the end of the line.
abbrev pub outcomes_text : List ℕ → List ℕ
outcomes_text [] = codes "\n"
outcomes_text (o ∷ os) = codes " " ++ (decimal o ++ outcomes_text os)

-- The line of an action with its number.
abbrev pub action_text : ℕ → Action → List ℕ
action_text j Barred = codes "test " ++ (decimal j ++ codes " barred\n")
action_text j (Free t os) = codes "test " ++ (decimal j ++ (codes " task " ++ (decimal t ++ (codes " ->" ++ outcomes_text os))))

-- The lines of actions, the first of which has the number j.
abbrev pub actions_text : ℕ → List Action → List ℕ
actions_text j [] = []
actions_text j (a ∷ rest) = action_text j a ++ actions_text (suc j) rest

-- The lines of a state with its number.
abbrev pub state_text : ℕ → State → List ℕ
state_text s (End c) = codes "state " ++ (decimal s ++ (codes " end " ++ (decimal c ++ codes "\n")))
state_text s (Open acts) = codes "state " ++ (decimal s ++ (codes " open\n" ++ actions_text 0 acts))

-- The lines about states of a model, in the order in which they are asked about.
abbrev pub lines_about : List State → List ℕ → List ℕ
lines_about m ss = flat_map (λ s. state_text s (state_at m s)) ss

-- The lines of what tests do, the first of which has the number j.
abbrev pub tests_text : ℕ → List (Option Split) → List ℕ
tests_text j splits = actions_text j (map action_of splits)

-- The lines of an answer.
abbrev pub answer_text : Answer → List ℕ
answer_text a = state_text a.state (state_of a.finding)
