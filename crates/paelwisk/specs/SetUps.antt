-- What is answered about a set-up.
use Rattle.std.specs.Prelude.{◌≡◌, ℕ, List, Some, None, vec_items, Option}
use Rattle.model.specs.Meaning.{State}
use Rattle.valve.specs.SetUp.{set_up_fault}
use Rattle.valve.specs.Valves.{valve_meaning}
use Rattle.valve.specs.declared.faults.ValveFault.{ValveFault}
use Rattle.paelwisk.specs.Answers.{FirstMissing}
use Rattle.paelwisk.specs.Asks.{AllLines}
use Rattle.paelwisk.specs.declared.failures.Failure.{Failure}
use Rattle.paelwisk.specs.declared.failures.Failure.TheVariants as failure
use Rattle.paelwisk.specs.declared.valves.set_up.SetUp.{SetUp}

-- What is wrong with a set-up, if anything is.
abbrev pub fault_of : SetUp → Option ValveFault
fault_of u = set_up_fault (vec_items u.repairs) (vec_items u.tests)

-- What the model of a set-up means.
abbrev pub meaning_of : SetUp → List State
meaning_of u = valve_meaning (vec_items u.repairs) (vec_items u.tests)

-- A text answers about the states of a set-up that has no fault, and what is asked after them.
pub record Answered (u : SetUp) (t : List ℕ) : Type 0 where
  pub sound : fault_of u ≡ None
  pub text : AllLines (meaning_of u) (vec_items u.states) (vec_items u.asks) t

-- Why a set-up has no answers: it has a fault, or a state is not there, or there is no memory.
abbrev pub NotAnswered : SetUp → Failure → Type 0
NotAnswered u (failure.Word w) = ⊥
NotAnswered u (failure.State n) = (fault_of u ≡ None) × FirstMissing (meaning_of u) (vec_items u.states) n
NotAnswered u (failure.SetUp f) = fault_of u ≡ Some f
NotAnswered u (failure.Sheet f) = ⊥
NotAnswered u failure.Memory = Unit {0}
