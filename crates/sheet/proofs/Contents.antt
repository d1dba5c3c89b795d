-- What the fields of a sheet say so far, and that a stage counts it.
use Rattle.std.proofs.Common.{◌≡◌, ℕ, ◌+◌, ◌-◌, ◌≤◌, true, cond, eqb, ◌⊎◌, List, [], ◌∷◌, ◌++◌, map, length, get_or, replicate}
use Rattle.std.specs.List.{flat_map, AllByRecursion}
use Rattle.model.specs.Meaning.{Action, Barred, Free, State, End, Open, actions, outcomes}
use Rattle.sheet.specs.Blocks.{Block, block}
use Rattle.sheet.specs.Stages.{Stage, pair_at, outcomes_in, end_cost_in, rising}

-- What some fields say.
pub record Content : Type 0 where
  -- the number of states
  pub count : ℕ
  -- the prices of the tasks below the next that may be named
  pub prices : List ℕ
  -- the states before the latest, and the latest if there is one
  pub done : List State
  pub latest : List State

abbrev pub nothing : Content
nothing = record { count = 0; prices = []; done = []; latest = [] }

-- An open state with one action more.
abbrev pub with_action : Action → State → State
with_action a (End c) = End c
with_action a (Open as') = Open (as' ++ a ∷ [])

-- What is said with one field more.
abbrev pub grow : Content → Block → Content
grow c (block t b) =
    record {
      count = cond (eqb t 1) (pair_at b 0) c.count;
      prices = cond (eqb t 2) (c.prices ++ (replicate (get_or b 0 0 - length c.prices) 1 ++ pair_at b 1 ∷ [])) c.prices;
      done = cond (eqb t 3) (c.done ++ c.latest) (cond (eqb t 4) (c.done ++ c.latest) c.done);
      latest = cond (eqb t 3) (End (end_cost_in b) ∷ []) (cond (eqb t 4) (Open [] ∷ []) (cond (eqb t 5) (map (with_action (Free (get_or b 0 0) (outcomes_in b))) c.latest) c.latest));
    }

abbrev pub grow_all : Content → List Block → Content
grow_all c [] = c
grow_all c (f ∷ fs) = grow_all (grow c f) fs

-- The states, and the prices of all 64 tasks.
abbrev pub states_of : Content → List State
states_of c = c.done ++ c.latest

abbrev pub prices_of : Content → List ℕ
prices_of c = c.prices ++ replicate (64 - length c.prices) 1

-- The model and the prices of fields.
abbrev pub model_in : List Block → List State
model_in fs = states_of (grow_all nothing fs)

abbrev pub prices_in : List Block → List ℕ
prices_in fs = prices_of (grow_all nothing fs)

-- An action, a state that keep the limits of a model with n states.
abbrev pub ActionRight : ℕ → Action → Type 0
ActionRight n Barred = ⊥
ActionRight n (Free t os) = (t ≤ 63) × (1 ≤ length os) × (length os ≤ 16) × (rising n 0 os ≡ true)

abbrev pub StateRight : ℕ → State → Type 0
StateRight n (End c) = c ≤ 1000000
StateRight n (Open as') = (length as' ≤ 16) × AllByRecursion (ActionRight n) as'

-- The latest state may have no more actions, or is open and has so many that `room` are left of 16.
abbrev pub RoomIs : ℕ → List State → Type 0
RoomIs room latest = (room ≡ 0) ⊎ ((as' : List Action) × ((latest ≡ Open as' ∷ []) × (room + length as' ≡ 16)))

-- A stage counts what was said, which keeps the limits.
pub record Follows (d : Stage) (c : Content) : Type 0 where
  pub count_is : d.count ≡ c.count
  pub task_is : d.task ≡ length c.prices
  pub states_is : d.states ≡ length (states_of c)
  pub room_is : RoomIs d.room c.latest
  pub actions_is : d.actions ≡ length (flat_map actions (states_of c))
  pub outcomes_is : d.outcomes ≡ length (flat_map outcomes (flat_map actions (states_of c)))
  pub count_few : c.count ≤ 4096
  pub states_few : length (states_of c) ≤ c.count
  pub tasks_few : length c.prices ≤ 64
  pub unread : c.count ≡ 0 → c.prices ≡ []
  pub prices_right : AllByRecursion (λ p. (1 ≤ p) × (p ≤ 10000)) c.prices
  pub states_right : AllByRecursion (StateRight c.count) (states_of c)
