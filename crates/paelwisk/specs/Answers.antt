-- What an answer about a state says of it.
use Rattle.std.specs.Prelude.{◌≡◌, ℕ, ◌<◌, ◌≤◌, List, map, length, vec_items, Option, slice_index, slice_index_or}
use Rattle.std.specs.Option.{option_map, unwrap_or}
use Rattle.model.specs.Meaning.{Action, Barred, State, state_at}
use Rattle.model.specs.Meaning as meaning
use Rattle.valve.specs.Valves.{split_action}
use Rattle.valve.specs.declared.valves.Split.{Split}
use Rattle.paelwisk.specs.declared.failures.Failure.{Failure}
use Rattle.paelwisk.specs.declared.failures.Failure.TheVariants as failure
use Rattle.paelwisk.specs.declared.failures.NoState.{NoState}
use Rattle.paelwisk.specs.declared.valves.answers.Answer.{Answer}
use Rattle.paelwisk.specs.declared.valves.answers.Finding.{Finding}
use Rattle.paelwisk.specs.declared.valves.answers.Finding.TheVariants as finding

-- The action of a split; where there is none, a barred one.
abbrev pub action_of : Option Split → Action
action_of o = unwrap_or (option_map split_action o) Barred

-- The state that a finding tells of.
abbrev pub state_of : Finding → State
state_of (finding.End cost) = meaning.End cost
state_of (finding.Open splits) = meaning.Open (map action_of (vec_items splits))

-- An answer is about a state that is there, and says what it is.
pub record Tells (m : List State) (s : ℕ) (a : Answer) : Type 0 where
  pub within : s < length m
  pub same : a.state ≡ s
  pub found : state_of a.finding ≡ state_at m s

-- Why there is no answer about a state: it is not there, or there is no memory.
abbrev pub Untold : List State → ℕ → Failure → Type 0
Untold m s (failure.Word w) = ⊥
Untold m s (failure.State n) = (n.state ≡ s) × (n.states ≡ length m) × (length m ≤ s)
Untold m s (failure.SetUp f) = ⊥
Untold m s (failure.Sheet f) = ⊥
Untold m s failure.Memory = Unit {0}

-- The answers about several states, in their order.
pub record Told (m : List State) (ss : List ℕ) (answers : List Answer) : Type 0 where
  pub each : length answers ≡ length ss
  pub tells : (k : ℕ) (d : Answer) → k < length ss → Tells m (slice_index ss k) (slice_index_or answers k d)

-- A state is the first of several that is not there.
pub record FirstMissing (m : List State) (ss : List ℕ) (n : NoState) : Type 0 where
  pub place : ℕ
  pub within : place < length ss
  pub before : (k : ℕ) → k < place → slice_index ss k < length m
  pub missing : length m ≤ slice_index ss place
  pub state : n.state ≡ slice_index ss place
  pub states : n.states ≡ length m

-- Why there are no answers about several states: one is not there, or there is no memory.
abbrev pub NotTold : List State → List ℕ → Failure → Type 0
NotTold m ss (failure.Word w) = ⊥
NotTold m ss (failure.State n) = FirstMissing m ss n
NotTold m ss (failure.SetUp f) = ⊥
NotTold m ss (failure.Sheet f) = ⊥
NotTold m ss failure.Memory = Unit {0}
