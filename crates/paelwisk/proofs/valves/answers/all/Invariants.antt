use Rattle.std.proofs.Common.{◌≡◌, ℕ, ◌<◌, get_or, vec_items, vec_len}
use Rattle.valve.specs.Valves.{meaning_of}
use Rattle.paelwisk.specs.Answers.{Tells}
use Rattle.paelwisk.specs.declared.valves.answers.Answer.{Answer}
use Rattle.paelwisk.proofs.valves.answers.all.Given as goal

abbrev pub invariant-loop-state : goal.invariant-loop-state
invariant-loop-state l = (vec_len l.answers ≡ l.state-index) × ((k : ℕ) (d : Answer) → k < l.state-index → Tells (meaning_of l.model) (get_or l.states k 0) (get_or (vec_items l.answers) k d))
