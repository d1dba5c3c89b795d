-- What is told of several states.
use Rattle.std.proofs.Common.{◌≡◌, ℕ, ◌<◌, List, length, get_or}
use Rattle.std.specs.List.{flat_map}
use Rattle.model.specs.Meaning.{State, state_at}
use Rattle.paelwisk.specs.Answers.{Untold, NotTold, Told}
use Rattle.paelwisk.specs.Lines.{answer_text, state_text, lines_about}
use Rattle.paelwisk.specs.declared.valves.answers.Answer.{Answer}
use Rattle.paelwisk.proofs.LineLaws.{joined_same}
use Rattle.paelwisk.specs.declared.failures.Failure.{Failure}
use Rattle.paelwisk.specs.declared.failures.Failure.TheVariants as failure

-- The first state that has no answer, with the reason.
pub untold_first : (m : List State) (ss : List ℕ) (i : ℕ) (f : Failure) → i < length ss → ((k : ℕ) → k < i → get_or ss k 0 < length m) → Untold m (get_or ss i 0) f → NotTold m ss f
untold_first m ss i (failure.Word w) within before why = why
untold_first m ss i (failure.State n) within before why = record { place = i; within = within; before = before; missing = why.2; state = why.0; states = why.1 }
untold_first m ss i (failure.SetUp v) within before why = why
untold_first m ss i (failure.Sheet v) within before why = why
untold_first m ss i failure.Memory within before why = tt

-- The lines of answers are those of the states that they are about.
pub told_text : (m : List State) (ss : List ℕ) (answers : List Answer) → Told m ss answers → flat_map answer_text answers ≡ lines_about m ss
told_text m ss answers told =
    joined_same answer_text (λ s. state_text s (state_at m s)) answers ss told.each
    (λ k d h. let t = told.tells k d h in rw (t.same, t.found))
