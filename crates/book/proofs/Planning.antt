-- What the marks and the bounds of a sound page say of plans.
use Rattle.std.proofs.Common.{◌≡◌, ℕ, ◌<◌, ◌≤◌, true, List, length, arith}
use Rattle.cost.specs.Counting.{Lawful}
use Rattle.cost.specs.Prices.{InRange}
use Rattle.model.specs.Meaning.{State}
use Rattle.model.specs.Reading.{Opens}
use Rattle.plan.specs.Facts.{PlannedIsBest}
use Rattle.plan.specs.Plans.{Plan, Closed, Proper, Costs}
use Rattle.plan.proofs.PlanFacts.{every_state_has_one_best_lem, lawful_is_below_best_lem, marks_make_plans_lem}
use Rattle.book.specs.Pages.{Page, bound_at, planned_at, kept_plan, Sound}

module _ (m : List State) (value : List ℕ → ℕ) (prices : List ℕ) (opens : Opens m) (rule : Lawful value) (range : InRange prices)
    (p : Page) (sound : Sound m value prices p) (s : ℕ) (there : s < length m) where
  -- From a planned state the kept actions are a closed, proper plan that costs the bound, which is the best cost.
  pub planned_best : planned_at p s ≡ true → PlannedIsBest m value prices (bound_at p) (kept_plan p) s
  planned_best mark = marks_make_plans_lem m value prices opens rule range (bound_at p) sound.lawful (planned_at p) (kept_plan p) sound.marks s there mark

  -- No closed, proper plan from a state whose bound is above the cap costs the cap or less.
  pub above_none : (cap : ℕ) → cap < bound_at p s → (pl : Plan) (c : ℕ) → Closed m pl s → Proper m pl s → Costs m value prices pl s c → c ≤ cap → ⊥
  above_none cap above pl c closed proper costs within =
      let b = every_state_has_one_best_lem m value prices opens rule range s there in
      omega (arith, lawful_is_below_best_lem m value prices opens rule (bound_at p) sound.lawful s b.0 there b.1, b.1.least pl c closed proper costs)
