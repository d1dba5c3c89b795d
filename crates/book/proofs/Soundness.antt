-- Events keep a page sound.
use Rattle.std.proofs.Common.{◌≡◌, ℕ, ◌<◌, ◌≤◌, Bool, true, false, List, [], ◌∷◌, map, sym, refl, ap, ◌∙◌, subst, ⊎_elim, arith}
use mathlib.Core.Path.{fun_ext}
use Rattle.std.specs.List.{AllByRecursion}
use Rattle.std.proofs.ByRecursion.{All-weaker}
use Rattle.std.proofs.lemmas.Bool.{cases_eq}
use Rattle.cost.specs.Costs.{roof, capped}
use Rattle.cost.specs.Counting.{Lawful}
use Rattle.model.specs.Meaning.{Action, State, End, Open, is_end, state_at}
use Rattle.model.specs.Reading.{Opens}
use Rattle.plan.specs.Bounds.{Bounds, LawfulBounds, KeptAt, set_bound, least_cost}
use Rattle.plan.specs.Plans.{Plan, price_of}
use Rattle.plan.proofs.PlanFacts.{lawful_is_kept_always}
use Rattle.book.specs.Events.{Event, raised, marked, MayHappen, after_event, LeadsTo}
use Rattle.book.specs.Pages.{Page, Whole, bound_at, planned_at, kept_plan, Sound}
use Rattle.book.proofs.Changes.{planned_apart, raised_other, raised_bound, marked_other, action_here, action_other}
use Rattle.book.proofs.Wholes.{event_whole}

-- A state that is no end is open.
open_shape : (x : State) → is_end x ≡ false → (as' : List Action) × (x ≡ Open as')
open_shape (End c) e = let z : ◌≡◌ {A = ℕ} 0 1 = cc in absurd (omega arith)
open_shape (Open as') e = (as', refl)

-- Bounds that are equal at each of some states give those states one list of bounds.
pub map_alike : (v w : Bounds) (P : ℕ → Type 0) → ((o : ℕ) → P o → v o ≡ w o) → (os : List ℕ) → AllByRecursion P os → map v os ≡ map w os
map_alike v w P alike [] all = refl
map_alike v w P alike (o ∷ os) all =
    ap (λ x. x ∷ map v os) (alike o all.0) ∙ ap (λ l. w o ∷ l) (map_alike v w P alike os all.1)

module _ (m : List State) (value : List ℕ → ℕ) (prices : List ℕ) where
  -- A planned state still keeps what is promised where the bounds of planned states are the same,
  -- planned states are still planned, and the state's action is the same.
  kept_alike : (v w : Bounds) (old new : ℕ → Bool) (before after : Plan) (s : ℕ) → ((o : ℕ) → old o ≡ true → v o ≡ w o) → ((o : ℕ) → old o ≡ true → new o ≡ true)
      → old s ≡ true → after s ≡ before s → (x : State) → KeptAt m value prices v old before s x → KeptAt m value prices w new after s x
  kept_alike v w old new before after s alike still mark action (End c) kept = tt
  kept_alike v w old new before after s alike still mark action (Open as') (low, (t, os, (a, is, free), costs, all)) =
      let here = alike s mark in
      let outs : capped (price_of prices t) (value (map v os)) ≡ capped (price_of prices t) (value (map w os)) = ap (λ l. capped (price_of prices t) (value l)) (map_alike v w (λ o. old o ≡ true) alike os all) in (
        subst (λ x. x < roof) here low,
        (t, os, (a, action ∙ is, free), sym here ∙ costs ∙ outs, All-weaker (λ o. old o ≡ true) (λ o. new o ≡ true) still os all),
      )

  module _ (opens : Opens m) (rule : Lawful value) (cap : ℕ) (most : cap ≤ 1000000000) where
    -- An event that may happen keeps a page sound.
    pub event_sound : (p : Page) (e : Event) → Whole p → Sound m value prices p → MayHappen m value prices cap p e → Sound m value prices (after_event m value prices p e)
    event_sound p (raised s) whole sound may =
        let next = after_event m value prices p (raised s) in
        let shape = open_shape (state_at m s) may.0.opened in
        let same : bound_at next ≡ set_bound (bound_at p) s (least_cost m value prices (bound_at p) s) = fun_ext (raised_bound m value prices p s opens whole may.0.there) in
        record {
          lawful = subst (LawfulBounds m value prices) (sym same) ((lawful_is_kept_always m value opens rule).raise prices (bound_at p) sound.lawful s shape.0 may.0.there shape.1);
          marks = record {
            ends = sound.marks.ends;
            keeps = λ u inside mark.
                kept_alike (bound_at p) (bound_at next) (planned_at p) (planned_at p) (kept_plan p) (kept_plan p) u
                (λ o planned. sym (raised_other m value prices p s o (planned_apart p s o may.0.unplanned planned)))
                (λ o planned. planned) mark refl (state_at m u) (sound.marks.keeps u inside mark);
          };
        }
    event_sound p (marked s a) whole sound (pending, (t, os, free, costs, all)) =
        let next = after_event m value prices p (marked s a) in
        let shape = open_shape (state_at m s) pending.opened in
        let still : (o : ℕ) → planned_at p o ≡ true → planned_at next o ≡ true = λ o planned. marked_other m value prices p s a o (planned_apart p s o pending.unplanned planned) ∙ planned in
        let here : KeptAt m value prices (bound_at p) (planned_at next) (kept_plan next) s (state_at m s) = subst (KeptAt m value prices (bound_at p) (planned_at next) (kept_plan next) s) (sym shape.1)
        (omega (arith, pending.within, most), (t, os, (a, action_here m value prices p s opens whole pending.there a, free), costs, All-weaker (λ o. planned_at p o ≡ true) (λ o. planned_at next o ≡ true) still os all)) in
        record {
          lawful = sound.lawful;
          marks = record {
            ends = λ u inside end. still u (sound.marks.ends u inside end);
            keeps = λ u inside mark.
                ⊎_elim
                (λ same. subst (λ x. KeptAt m value prices (bound_at p) (planned_at next) (kept_plan next) x (state_at m x)) (sym same) here)
                (λ other.
                let old : planned_at p u ≡ true = sym (marked_other m value prices p s a u other) ∙ mark in
                kept_alike (bound_at p) (bound_at p) (planned_at p) (planned_at next) (kept_plan p) (kept_plan next) u (λ o planned. refl) still old
                (action_other m value prices p s a u other) (state_at m u) (sound.marks.keeps u inside old))
                (cases_eq u s);
          };
        }

    pub leads_sound : (p : Page) (es : List Event) (q : Page) → Whole p → Sound m value prices p → LeadsTo m value prices cap p es q → Sound m value prices q
    leads_sound p [] q whole sound leads = subst (Sound m value prices) leads sound
    leads_sound p (e ∷ es) q whole sound leads =
        leads_sound (after_event m value prices p e) es q (event_whole m value prices p e whole) (event_sound p e whole sound leads.0) leads.1
