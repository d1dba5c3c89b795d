-- What events leave as it was.
use Rattle.std.proofs.Common.{ℕ, List, [], ◌∷◌, refl, ◌∙◌, subst}
use Rattle.model.specs.Meaning.{State}
use Rattle.book.specs.Events.{Event, raised, marked, MayHappen, after_event, LeadsTo, Kept}
use Rattle.book.specs.Pages.{Page}
use Rattle.book.proofs.Changes.{planned_apart, raised_other, marked_other, action_other}

module _ (m : List State) where
  pub kept_same : (p : Page) → Kept m p p
  kept_same p = record {
    planned = λ s there mark. mark;
    bounds = λ s there mark. refl;
    actions = λ s there mark. refl;
  }

  -- What is kept from one page to a second and from there to a third is kept throughout.
  pub kept_through : (p q r : Page) → Kept m p q → Kept m q r → Kept m p r
  kept_through p q r first then' = record {
    planned = λ s there mark. then'.planned s there (first.planned s there mark);
    bounds = λ s there mark. then'.bounds s there (first.planned s there mark) ∙ first.bounds s there mark;
    actions = λ s there mark. then'.actions s there (first.planned s there mark) ∙ first.actions s there mark;
  }

  module _ (value : List ℕ → ℕ) (prices : List ℕ) (cap : ℕ) where
    -- An event at an unplanned state leaves the planned states as they were.
    pub event_keeps : (p : Page) (e : Event) → MayHappen m value prices cap p e → Kept m p (after_event m value prices p e)
    event_keeps p (raised s) may = record {
      planned = λ u there mark. mark;
      bounds = λ u there mark. raised_other m value prices p s u (planned_apart p s u may.0.unplanned mark);
      actions = λ u there mark. refl;
    }
    event_keeps p (marked s a) may = record {
      planned = λ u there mark. marked_other m value prices p s a u (planned_apart p s u may.0.unplanned mark) ∙ mark;
      bounds = λ u there mark. refl;
      actions = λ u there mark. action_other m value prices p s a u (planned_apart p s u may.0.unplanned mark);
    }

    pub leads_keeps : (p : Page) (es : List Event) (q : Page) → LeadsTo m value prices cap p es q → Kept m p q
    leads_keeps p [] q leads = subst (Kept m p) leads (kept_same p)
    leads_keeps p (e ∷ es) q leads =
        let next = after_event m value prices p e in
        kept_through p next q (event_keeps p e leads.0) (leads_keeps next es q leads.1)
