-- What the actions of a state tell of what is to be done.
use Rattle.std.proofs.Common.{◌≡◌, ℕ, ◌<◌, false, List, length, Some, None, Option, sym, refl, ap, ◌∙◌, subst, ⊎_elim, arith}
use Rattle.cost.specs.Costs.{roof}
use Rattle.model.specs.Meaning.{Action, Barred, Free, State, is_free, task, outcomes, actions, state_at, action_at}
use Rattle.plan.specs.Bounds.{Bounds, cost_by, action_cost, least_cost, FirstLeast}
use Rattle.plan.proofs.Leasts.{least_reached}
use Rattle.plan.proofs.Opened.{free_shape, has_there}
use Rattle.book.specs.Looks.{Followed, Exact, Seen}
use Rattle.book.specs.Pages.{Page, bound_at, planned_at}
use Rattle.book.specs.declared.pages.looks.Look.{Look}
use Rattle.book.specs.declared.pages.looks.Look.TheVariants.{Raise, Mark, Enter}
use Rattle.book.proofs.Wholes.{few_actions, few_states}

barred_roof : (value : List ℕ → ℕ) (prices : List ℕ) (v : Bounds) (x : Action) → is_free x ≡ false → cost_by value prices v x ≡ roof
barred_roof value prices v Barred e = refl
barred_roof value prices v (Free t os) e = let z : ◌≡◌ {A = ℕ} 0 1 = cc in absurd (omega arith)

module _ (m : List State) (value : List ℕ → ℕ) (prices : List ℕ) (p : Page) (s : ℕ) where
  -- Where no action is free, the least action cost is the roof.
  pub none_free : FirstLeast m value prices (bound_at p) s (length (actions (state_at m s))) None → least_cost m value prices (bound_at p) s ≡ roof
  none_free none =
      ⊎_elim (λ top. top) (λ one. one.2 ∙ barred_roof value prices (bound_at p) (action_at m s one.0) (none one.0 one.1))
      (least_reached (action_cost m value prices (bound_at p) s) (length (actions (state_at m s))))

  module _ (a : ℕ) (inside : s < 4096) (unplanned : planned_at p s ≡ false)
      (first : FirstLeast m value prices (bound_at p) s (length (actions (state_at m s))) (Some a))
      (level : bound_at p s ≡ least_cost m value prices (bound_at p) s) where
    -- The first free action with the least cost costs exactly the bound, if the bound is that cost.
    first_exact : Exact m value prices p s a (task (action_at m s a)) (outcomes (action_at m s a))
    first_exact =
        let free = free_shape (action_at m s a) first.1 in
        (free, level ∙ sym first.2 ∙ ap (cost_by value prices (bound_at p)) free)

    pub followed_seen : (l : Option Look) → Followed m p s a l → Seen m value prices p s l
    followed_seen (Some (Raise cost)) never = absurd never
    followed_seen (Some (Mark b)) (same, all) =
        subst (λ x. Seen m value prices p s (Some (Mark x))) (sym same) (inside, unplanned, (task (action_at m s a), outcomes (action_at m s a), first_exact, all))
    followed_seen (Some (Enter o)) (has, mark) = (a, task (action_at m s a), outcomes (action_at m s a), first_exact, has, mark)
    followed_seen None never = λ opens there un below low.
        ⊎_elim
        (λ many. omega (arith, many, first.0, few_actions m opens s there))
        (λ far. let o = has_there m opens s a (task (action_at m s a)) (outcomes (action_at m s a)) first_exact.0 far.0 far.1 in omega (arith, o, far.2, few_states m opens))
        never
