-- What each turn of a search keeps.
use Rattle.std.proofs.Common.{◌≡◌, ℕ, ◌+◌, ◌<◌, ◌≤◌, true, false, ◌⊎◌, [], List, Some, None, Err, length, ap, ◌∙◌, arith}
use Rattle.std.proofs.lemmas.List.{length-set}
use Rattle.cost.specs.declared.amount.Cost.{Cost}
use Rattle.model.specs.Meaning.{State}
use Rattle.book.specs.Looks.{Seen}
use Rattle.book.specs.Pages.{Page, bound_at, planned_at, raised_page, marked_page}
use Rattle.book.specs.Searches.{Answer, Searched, Told}
use Rattle.book.specs.Trails.{Entered, Left, way_of, last_of}
use Rattle.book.specs.declared.answers.SearchFault.TheVariants.{Stopped}
use Rattle.book.specs.declared.pages.looks.Look.TheVariants.{Raise, Mark, Enter}
use Rattle.book.specs.declared.trails.Trail.{Trail}
use Rattle.book.proofs.Endings.{settles, stops}
use Rattle.book.proofs.Turns.{enters, marks_back, may_raise, never_full, never_idle, raises_back}
use Rattle.book.proofs.Underway.{Ready, Underway, begins}

-- The raises used are among those allowed, the marks are as many as the entries, and a search that may
-- take for granted what it is promised for is under way.
pub record Going (m : List State) (value : List ℕ → ℕ) (prices : List ℕ) (start cap allowance : ℕ) (old p : Page) (used : ℕ) (trail : Trail) : Type 0 where
  pub few : used ≤ allowance
  pub marks : length p.planned ≡ 4096
  pub under : Ready m value prices start cap old → Underway m value prices start cap old p used (way_of trail)

module _ (m : List State) (value : List ℕ → ℕ) (prices : List ℕ) (start cap allowance : ℕ) (old : Page) where
  pub going_begins : length old.planned ≡ 4096 → (trail : Trail) → trail.start ≡ start → trail.states.items ≡ [] → Going m value prices start cap allowance old old 0 trail
  going_begins marks trail first none = record { few = omega arith; marks = marks; under = λ known. begins m value prices cap start old trail first none }

  module _ (p : Page) (used : ℕ) (trail : Trail) (going : Going m value prices start cap allowance old p used trail) where
    pub going_settles : Ready m value prices start cap old → (planned_at p start ≡ true) ⊎ (cap < bound_at p start) → (answer : Answer) → Told p start cap used answer
        → Searched m value prices start cap allowance old p answer
    going_settles known settled answer told = settles m value prices start cap old known p used trail (going.under known) allowance going.few settled answer told

    module _ (unsettled : (planned_at p start ≡ false) × (bound_at p start ≤ cap)) (s : ℕ) (last : s ≡ last_of trail) where
      pub going_idle : Ready m value prices start cap old → Seen m value prices p s None → ⊥
      going_idle known seen = never_idle m value prices start cap old known p used trail (going.under known) unsettled s last seen

      module _ (cost : Cost) (seen : Seen m value prices p s (Some (Raise cost))) where
        pub going_stops : Ready m value prices start cap old → used ≡ allowance → Searched m value prices start cap allowance old p (Err (Stopped used))
        going_stops known all =
            let under = going.under known in
            stops m value prices start cap old known p used trail under allowance going.few unsettled s (may_raise m value prices start cap old known p used trail under unsettled s last cost seen) all

        pub going_raises : (used ≡ allowance → ⊥) → (q : Page) (next : Trail) → q ≡ raised_page p s cost.value → Left trail next → Going m value prices start cap allowance old q (used + 1) next
        going_raises more q next written left = record {
          few = omega (arith, going.few, more);
          marks = ap (λ r. length r.planned) written ∙ going.marks;
          under = λ known. raises_back m value prices start cap old known p used trail (going.under known) unsettled s last cost seen q next written left;
        }

      module _ (a : ℕ) (seen : Seen m value prices p s (Some (Mark a))) where
        pub going_marks : (q : Page) (next : Trail) → q ≡ marked_page p s a → Left trail next → Going m value prices start cap allowance old q used next
        going_marks q next written left = record {
          few = going.few;
          marks = ap (λ r. length r.planned) written ∙ length-set p.planned s true ∙ going.marks;
          under = λ known. marks_back m value prices start cap old known p used trail (going.under known) unsettled s last a seen q next written left;
        }

      module _ (o : ℕ) (seen : Seen m value prices p s (Some (Enter o))) where
        pub going_full : Ready m value prices start cap old → length trail.states.items ≡ 4095 → ⊥
        going_full known full = never_full m value prices start cap old known p used trail (going.under known) unsettled s last o seen full

        pub going_enters : (next : Trail) → Entered trail o next → Going m value prices start cap allowance old p used next
        going_enters next entered = record {
          few = going.few;
          marks = going.marks;
          under = λ known. enters m value prices start cap old known p used trail (going.under known) unsettled s last o seen next entered;
        }
