-- What is read from a page after an event.
use Rattle.std.proofs.Common.{◌≡◌, ℕ, ◌<◌, true, false, cond, List, length, get_or, set, Some, None, sym, ap, ◌∙◌, ⊎_elim}
use Rattle.std.proofs.lemmas.List.{get_or-set_same, get_or-set_other}
use Rattle.std.proofs.lemmas.Bool.{cases_eq, eq-eqb, ne_eqb, true≢false}
use Rattle.model.specs.Meaning.{State}
use Rattle.model.specs.Reading.{Opens}
use Rattle.plan.specs.Bounds.{least_cost, set_bound}
use Rattle.book.specs.Events.{raised, marked, after_event}
use Rattle.book.specs.Pages.{Page, Whole, bound_at, planned_at, kept_plan}
use Rattle.book.proofs.Wholes.{bound_there, planned_there, kept_there}

-- A planned state is another than one that is not planned.
pub planned_apart : (p : Page) (s u : ℕ) → planned_at p s ≡ false → planned_at p u ≡ true → u ≡ s → ⊥
planned_apart p s u unplanned mark same = true≢false (sym mark ∙ ap (planned_at p) same ∙ unplanned)

module _ (m : List State) (value : List ℕ → ℕ) (prices : List ℕ) (p : Page) (s : ℕ) where
  -- A raise changes no bound but that of its state.
  pub raised_other : (u : ℕ) → (u ≡ s → ⊥) → bound_at (after_event m value prices p (raised s)) u ≡ bound_at p u
  raised_other u other = get_or-set_other p.bounds s u (least_cost m value prices (bound_at p) s) 0 other

  module _ (a : ℕ) (u : ℕ) (other : u ≡ s → ⊥) where
    -- A mark changes no other state's mark and no other state's action.
    pub marked_other : planned_at (after_event m value prices p (marked s a)) u ≡ planned_at p u
    marked_other = get_or-set_other p.planned s u true false other

    pub action_other : kept_plan (after_event m value prices p (marked s a)) u ≡ kept_plan p u
    action_other =
        ap (λ b. cond b (Some (get_or (set p.kept s a) u 0)) None) marked_other
        ∙ ap (λ b. cond (planned_at p u) (Some b) None) (get_or-set_other p.kept s u a 0 other)

  module _ (opens : Opens m) (whole : Whole p) (there : s < length m) where
    -- A raise sets its state's bound to the least action cost.
    pub raised_here : bound_at (after_event m value prices p (raised s)) s ≡ least_cost m value prices (bound_at p) s
    raised_here = get_or-set_same p.bounds s (least_cost m value prices (bound_at p) s) 0 (bound_there m opens p whole s there)

    pub raised_bound : (u : ℕ) → bound_at (after_event m value prices p (raised s)) u ≡ set_bound (bound_at p) s (least_cost m value prices (bound_at p) s) u
    raised_bound u =
        let least = least_cost m value prices (bound_at p) s in
        ⊎_elim
        (λ same.
        ap (bound_at (after_event m value prices p (raised s))) same
        ∙ raised_here
        ∙ sym (ap (λ b. cond b least (bound_at p u)) (eq-eqb u s same)))
        (λ other. raised_other u other ∙ sym (ap (λ b. cond b least (bound_at p u)) (ne_eqb u s other)))
        (cases_eq u s)

    -- A mark makes its state planned, with its action.
    pub marked_here : (a : ℕ) → planned_at (after_event m value prices p (marked s a)) s ≡ true
    marked_here a = get_or-set_same p.planned s true false (planned_there m opens p whole s there)

    pub action_here : (a : ℕ) → kept_plan (after_event m value prices p (marked s a)) s ≡ Some a
    action_here a =
        ap (λ b. cond b (Some (get_or (set p.kept s a) s 0)) None) (marked_here a)
        ∙ ap Some (get_or-set_same p.kept s a 0 (kept_there m opens p whole s there))
