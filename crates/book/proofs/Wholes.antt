-- Pages with an entry for each of 4,096 states.
use Rattle.std.proofs.Common.{◌≡◌, ℕ, ◌<◌, ◌≤◌, true, List, [], ◌∷◌, length, refl, ◌∙◌, subst, inr, ⊎_elim, arith}
use Rattle.std.proofs.lemmas.List.{length-map, length-set}
use Rattle.std.proofs.lemmas.Bool.{cases_lt}
use Rattle.cost.specs.declared.amount.Cost.{Cost}
use Rattle.model.specs.Meaning.{State, actions, state_at}
use Rattle.model.specs.Reading.{Opens}
use Rattle.model.specs.declared.faults.ModelFault.TheVariants.{States, Actions}
use Rattle.plan.specs.Bounds.{least_cost}
use Rattle.plan.proofs.Opened.{no_fault}
use Rattle.book.specs.Events.{Event, raised, marked, after_event, LeadsTo}
use Rattle.book.specs.Pages.{Page, Whole, page, bound_at}
use Rattle.book.specs.declared.pages.Book.{Book}

-- What is written in a book is whole.
pub page_whole : (b : Book) → length b.bounds ≡ 4096 → length b.planned ≡ 4096 → length b.kept ≡ 4096 → Whole (page b)
page_whole b bounds planned kept = record {
  bounds = length-map b.bounds (λ (c : Cost). c.value) ∙ bounds;
  planned = planned;
  kept = kept;
}

-- A model that opens has no more states than a page has entries.
pub few_states : (m : List State) → Opens m → length m ≤ 4096
few_states m opens = ⊎_elim (λ many. absurd (no_fault m opens (States (length m)) (refl, inr many))) (λ few. few) (cases_lt 4096 (length m))

-- A state of a model that opens has at most 16 actions.
pub few_actions : (m : List State) → Opens m → (s : ℕ) → s < length m → length (actions (state_at m s)) ≤ 16
few_actions m opens s there =
    ⊎_elim (λ many. absurd (no_fault m opens (Actions s) (there, many))) (λ few. few) (cases_lt 16 (length (actions (state_at m s))))

module _ (m : List State) (opens : Opens m) (p : Page) (whole : Whole p) (s : ℕ) (there : s < length m) where
  -- A page that is whole has an entry for each state of a model that opens.
  pub bound_there : s < length p.bounds
  bound_there = omega (arith, few_states m opens, whole.bounds)

  pub planned_there : s < length p.planned
  planned_there = omega (arith, few_states m opens, whole.planned)

  pub kept_there : s < length p.kept
  kept_there = omega (arith, few_states m opens, whole.kept)

module _ (m : List State) (value : List ℕ → ℕ) (prices : List ℕ) where
  -- An event leaves a page whole.
  pub event_whole : (p : Page) (e : Event) → Whole p → Whole (after_event m value prices p e)
  event_whole p (raised s) whole = record {
    bounds = length-set p.bounds s (least_cost m value prices (bound_at p) s) ∙ whole.bounds;
    planned = whole.planned;
    kept = whole.kept;
  }
  event_whole p (marked s a) whole = record {
    bounds = whole.bounds;
    planned = length-set p.planned s true ∙ whole.planned;
    kept = length-set p.kept s a ∙ whole.kept;
  }

  pub leads_whole : (cap : ℕ) (p : Page) (es : List Event) (q : Page) → LeadsTo m value prices cap p es q → Whole p → Whole q
  leads_whole cap p [] q leads whole = subst Whole leads whole
  leads_whole cap p (e ∷ es) q leads whole = leads_whole cap (after_event m value prices p e) es q leads.1 (event_whole p e whole)
