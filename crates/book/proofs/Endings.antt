-- How a search ends.
use Rattle.std.proofs.Common.{◌≡◌, ℕ, ◌<◌, ◌≤◌, true, false, Ok, Err, ◌⊎◌, List, refl, ap, ◌∙◌, ⊎_elim, arith}
use Rattle.model.specs.Meaning.{State}
use Rattle.book.specs.Events.{raised, MayHappen}
use Rattle.book.specs.Pages.{Page, bound_at, planned_at, Sound}
use Rattle.book.specs.Searches.{Answer, EndsBy, Means, Searched, Told, raises_told}
use Rattle.book.specs.Trails.{way_of}
use Rattle.book.specs.declared.answers.SearchFault.TheVariants.{Above, Stopped}
use Rattle.book.specs.declared.trails.Trail.{Trail}
use Rattle.book.proofs.Keeping.{leads_keeps}
use Rattle.book.proofs.Leading.{raises_grow}
use Rattle.book.proofs.Planning.{planned_best, above_none}
use Rattle.book.proofs.Turns.{sound_now}
use Rattle.book.proofs.Underway.{Ready, Underway}

module _ (m : List State) (value : List ℕ → ℕ) (prices : List ℕ) (start cap : ℕ) (old : Page) (known : Ready m value prices start cap old)
    (p : Page) (used : ℕ) (trail : Trail) (under : Underway m value prices start cap old p used (way_of trail)) (allowance : ℕ) (few : used ≤ allowance) where
  sound' : Sound m value prices p
  sound' = sound_now m value prices start cap old known p used trail under

  -- A search that ends with an answer that holds.
  ended : (answer : Answer) → raises_told answer ≡ used → EndsBy m value prices start cap allowance p answer → Means m value prices start cap p answer
      → (cap < bound_at old start → (answer ≡ Err (Above 0)) × (p ≡ old)) → Searched m value prices start cap allowance old p answer
  ended answer told ends means once = record {
    events = under.events;
    leads = under.leads;
    counted = told ∙ under.counted;
    few = omega (arith, few, under.counted);
    ends = ends;
    means = means;
    sound = sound';
    kept = leads_keeps m value prices cap old under.events p under.leads;
    at_once = once;
  }

  planned_within : (planned_at p start ≡ true) ⊎ (cap < bound_at p start) → bound_at p start ≤ cap → planned_at p start ≡ true
  planned_within settled within = ⊎_elim (λ mark. mark) (λ above. absurd (omega arith)) settled

  -- The search ends where the start is planned or its bound is above the cap.
  pub settles : (planned_at p start ≡ true) ⊎ (cap < bound_at p start) → (answer : Answer) → Told p start cap used answer → Searched m value prices start cap allowance old p answer
  settles settled (Ok found) (told, within, same) =
      let mark = planned_within settled within in
      ended (Ok found) told (mark, within, same) (planned_best m value prices known.opens known.rule known.range p sound' start known.there mark)
      (λ above. absurd (omega (arith, above, within, ap (λ q. bound_at q start) (under.at_once above).1)))
  settles settled (Err (Above count)) (told, above) =
      ended (Err (Above count)) told above (above_none m value prices known.opens known.rule known.range p sound' start known.there cap above)
      (λ before. (ap (λ n. Err (Above n)) (told ∙ (under.at_once before).0), (under.at_once before).1))
  settles settled (Err (Stopped count)) never = absurd never

  -- The search ends where a raise is called for and all that are allowed were used.
  pub stops : (unsettled : (planned_at p start ≡ false) × (bound_at p start ≤ cap)) (s : ℕ) → MayHappen m value prices cap p (raised s) → used ≡ allowance
      → Searched m value prices start cap allowance old p (Err (Stopped used))
  stops unsettled s may all =
      ended (Err (Stopped used)) refl (all, unsettled.0, unsettled.1, (s, may)) tt
      (λ above. absurd (omega (arith, unsettled.1, above, raises_grow m value prices cap old under.events p under.leads start)))
