-- Why a command gives no answers.
use Rattle.std.specs.Prelude.{Bool, true, false, is_some}
use Rattle.transfer.specs.Refusals.{transfer_refusal}
use Rattle.paelwisk.specs.declared.failures.Failure.{Failure}
use Rattle.paelwisk.specs.declared.failures.Failure.TheVariants.{Word, State, SetUp, Sheet, Memory}

-- A library refused what it was given.
abbrev pub is_refusal : Failure → Bool
is_refusal (Word w) = false
is_refusal (State n) = false
is_refusal (SetUp f) = true
is_refusal (Sheet f) = is_some (transfer_refusal f)
is_refusal Memory = false
