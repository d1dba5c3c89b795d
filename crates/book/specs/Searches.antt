-- What a search answers, and what it does to a book.
use Rattle.std.specs.Prelude.{◌≡◌, ℕ, ◌<◌, ◌≤◌, true, false, List, Ok, Err, Result}
use Rattle.model.specs.Meaning.{State}
use Rattle.plan.specs.Facts.{PlannedIsBest}
use Rattle.plan.specs.Plans.{Plan, Closed, Proper, Costs}
use Rattle.book.specs.Events.{Event, raised, MayHappen, LeadsTo, raises, Kept}
use Rattle.book.specs.Pages.{Page, bound_at, planned_at, kept_plan, Sound}
use Rattle.book.specs.declared.answers.Found.{Found}
use Rattle.book.specs.declared.answers.SearchFault.{SearchFault}
use Rattle.book.specs.declared.answers.SearchFault.TheVariants.{Above, Stopped}

-- What a search answers.
abbrev pub Answer : Type 0
Answer = Result Found SearchFault

-- The number of raises that an answer tells.
abbrev pub raises_told : Answer → ℕ
raises_told (Ok found) = found.raises
raises_told (Err (Above count)) = count
raises_told (Err (Stopped count)) = count

-- How a search ends. It found a plan: the start is planned, within the cap, and its bound is the cost.
-- Or the start's bound is above the cap. Or all raises that are allowed were used, the start is not
-- planned and its bound is within the cap, and a further raise is called for.
abbrev pub EndsBy : List State → (List ℕ → ℕ) → List ℕ → ℕ → ℕ → ℕ → Page → Answer → Type 0
EndsBy m value prices start cap allowance p (Ok found) =
    (planned_at p start ≡ true) × (bound_at p start ≤ cap) × (found.cost.value ≡ bound_at p start)
EndsBy m value prices start cap allowance p (Err (Above count)) = cap < bound_at p start
EndsBy m value prices start cap allowance p (Err (Stopped count)) =
    (count ≡ allowance) × (planned_at p start ≡ false) × (bound_at p start ≤ cap) × ((s : ℕ) × MayHappen m value prices cap p (raised s))

-- An answer at a start that is planned or has a bound above the cap: which of the two, and the raises.
abbrev pub Told : Page → ℕ → ℕ → ℕ → Answer → Type 0
Told p start cap used (Ok found) = (found.raises ≡ used) × (bound_at p start ≤ cap) × (found.cost.value ≡ bound_at p start)
Told p start cap used (Err (Above count)) = (count ≡ used) × (cap < bound_at p start)
Told p start cap used (Err (Stopped count)) = ⊥

-- No closed, proper plan from a state costs at most the cap.
abbrev pub NoneWithin : List State → (List ℕ → ℕ) → List ℕ → ℕ → ℕ → Type 0
NoneWithin m value prices s cap = (pl : Plan) (c : ℕ) → Closed m pl s → Proper m pl s → Costs m value prices pl s c → c ≤ cap → ⊥

-- What is then known: the kept actions from the start are a closed, proper plan at the best cost; or no
-- plan is within the cap.
abbrev pub Means : List State → (List ℕ → ℕ) → List ℕ → ℕ → ℕ → Page → Answer → Type 0
Means m value prices start cap p (Ok found) = PlannedIsBest m value prices (bound_at p) (kept_plan p) start
Means m value prices start cap p (Err (Above count)) = NoneWithin m value prices start cap
Means m value prices start cap p (Err (Stopped count)) = Unit {0}

-- A search over a sound book: events lead from the old page to the new one, each allowed at its
-- moment; as many raises as are told are among them; the new page is sound and keeps all marks.
pub record Searched (m : List State) (value : List ℕ → ℕ) (prices : List ℕ) (start cap allowance : ℕ) (old new : Page) (answer : Answer) : Type 0 where
  pub events : List Event
  pub leads : LeadsTo m value prices cap old events new
  pub counted : raises_told answer ≡ raises events
  pub few : raises events ≤ allowance
  pub ends : EndsBy m value prices start cap allowance new answer
  pub means : Means m value prices start cap new answer
  pub sound : Sound m value prices new
  pub kept : Kept m old new
  pub at_once : cap < bound_at old start → (answer ≡ Err (Above 0)) × (new ≡ old)
