-- What a search does to a book, event by event.
use Rattle.std.specs.Prelude.{◌≡◌, ℕ, suc, ◌<◌, ◌≤◌, true, false, List, [], ◌∷◌, map, length, slice_set}
use Rattle.std.specs.List.{AllByRecursion}
use Rattle.cost.specs.Costs.{capped}
use Rattle.model.specs.Meaning.{State, Free, is_end, state_at, action_at}
use Rattle.plan.specs.Bounds.{least_cost}
use Rattle.plan.specs.Plans.{price_of}
use Rattle.book.specs.Pages.{Page, bound_at, planned_at, kept_plan}

-- A state's bound is raised to its least action cost, or a state is marked as planned with an action
-- that is kept.
pub data Event : Type 0 where
  raised : ℕ → Event
  marked : ℕ → ℕ → Event

-- A state is there, is open and is not planned, and its bound is within the cap.
pub record Pending (m : List State) (cap : ℕ) (p : Page) (s : ℕ) : Type 0 where
  pub there : s < length m
  pub opened : is_end (state_at m s) ≡ false
  pub unplanned : planned_at p s ≡ false
  pub within : bound_at p s ≤ cap

-- An event may happen at a moment. A state is raised if its bound is below its least action cost by
-- the bounds of that moment; it is marked with a free action that costs exactly its bound and whose
-- outcomes are planned.
abbrev pub MayHappen : List State → (List ℕ → ℕ) → List ℕ → ℕ → Page → Event → Type 0
MayHappen m value prices cap p (raised s) = Pending m cap p s × (bound_at p s < least_cost m value prices (bound_at p) s)
MayHappen m value prices cap p (marked s a) =
    Pending m cap p s
    × ((t : ℕ) × (os : List ℕ) × (action_at m s a ≡ Free t os) × (bound_at p s ≡ capped (price_of prices t) (value (map (bound_at p) os))) × AllByRecursion (λ o. planned_at p o ≡ true) os)

-- What an event writes.
abbrev pub after_event : List State → (List ℕ → ℕ) → List ℕ → Page → Event → Page
after_event m value prices p (raised s) =
    record { bounds = slice_set p.bounds s (least_cost m value prices (bound_at p) s); planned = p.planned; kept = p.kept }
after_event m value prices p (marked s a) = record { bounds = p.bounds; planned = slice_set p.planned s true; kept = slice_set p.kept s a }

-- Events lead from one page to another, each allowed at its moment.
abbrev pub LeadsTo : List State → (List ℕ → ℕ) → List ℕ → ℕ → Page → List Event → Page → Type 0
LeadsTo m value prices cap p [] q = p ≡ q
LeadsTo m value prices cap p (e ∷ es) q = MayHappen m value prices cap p e × LeadsTo m value prices cap (after_event m value prices p e) es q

-- The number of raises among events.
abbrev pub raises : List Event → ℕ
raises [] = 0
raises (raised s ∷ es) = suc (raises es)
raises (marked s a ∷ es) = raises es

-- No mark is dropped, and planned states keep their bound and their action.
pub record Kept (m : List State) (p q : Page) : Type 0 where
  pub planned : (s : ℕ) → s < length m → planned_at p s ≡ true → planned_at q s ≡ true
  pub bounds : (s : ℕ) → s < length m → planned_at p s ≡ true → bound_at q s ≡ bound_at p s
  pub actions : (s : ℕ) → s < length m → planned_at p s ≡ true → kept_plan q s ≡ kept_plan p s
