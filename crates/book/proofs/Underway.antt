-- A search that is under way.
use Rattle.std.proofs.Common.{◌≡◌, ℕ, ◌+◌, ◌-◌, ◌<◌, ◌≤◌, max, List, [], ◌∷◌, ◌++◌, length, get_or, take, sym, refl, ap, ◌∙◌, subst, arith}
use Rattle.std.proofs.lemmas.List.{get_or-take, length-take-le}
use Rattle.cost.specs.Counting.{Lawful}
use Rattle.cost.specs.Prices.{InRange, figures}
use Rattle.cost.specs.declared.prices.PriceList.{PriceList}
use Rattle.cost.proofs.Figures.{figures_in_range}
use Rattle.model.specs.Meaning.{State}
use Rattle.model.specs.Reading.{Opens}
use Rattle.book.specs.Events.{Event, raised, marked, Pending, MayHappen, after_event, LeadsTo, raises}
use Rattle.book.specs.Pages.{Page, Whole, page, bound_at, planned_at, Sound}
use Rattle.book.specs.Trails.{way_of}
use Rattle.book.specs.declared.limits.Within.{Within}
use Rattle.book.specs.declared.pages.Book.{Book}
use Rattle.book.specs.declared.trails.Trail.{Trail}
use Rattle.book.proofs.Changes.{raised_other, marked_other}
use Rattle.book.proofs.Leading.{leads_append, raises_append, raises_grow}

-- What a search may take for granted: the model opens and has the start, the rule, the prices and the
-- cap are lawful, and the book is whole and sound.
pub record Ready (m : List State) (value : List ℕ → ℕ) (prices : List ℕ) (start cap : ℕ) (old : Page) : Type 0 where
  pub opens : Opens m
  pub rule : Lawful value
  pub range : InRange prices
  pub most : cap ≤ 1000000000
  pub there : start < length m
  pub whole : Whole old
  pub sound : Sound m value prices old

pub ready : (m : List State) (value : List ℕ → ℕ) (prices : PriceList) (start : ℕ) (cap : Within 0 1000000000) (old : Book) → Lawful value → Whole (page old) → Opens m → start < length m → Sound m value (figures prices) (page old)
    → Ready m value (figures prices) start cap.value (page old)
ready m value prices start cap old rule whole opens there sound = record {
  opens = opens;
  rule = rule;
  range = figures_in_range prices;
  most = cap.most;
  there = there;
  whole = whole;
  sound = sound;
}

-- A search is under way: events led to the page as it is, the way begins at the start, its other
-- states are pending, and the bounds fall along it. Nothing happened if the cap was passed already.
pub record Underway (m : List State) (value : List ℕ → ℕ) (prices : List ℕ) (start cap : ℕ) (old p : Page) (used : ℕ) (way : List ℕ) : Type 0 where
  pub events : List Event
  pub leads : LeadsTo m value prices cap old events p
  pub counted : used ≡ raises events
  pub first : get_or way 0 0 ≡ start
  pub later : (k : ℕ) → 1 ≤ k → k < length way → Pending m cap p (get_or way k 0)
  pub fall : (i j : ℕ) → i < j → j < length way → bound_at p (get_or way j 0) < bound_at p (get_or way i 0)
  pub at_once : cap < bound_at old start → (used ≡ 0) × (p ≡ old)

-- The state of an event.
abbrev pub place_of : Event → ℕ
place_of (raised s) = s
place_of (marked s a) = s

module _ (m : List State) (value : List ℕ → ℕ) (prices : List ℕ) (cap : ℕ) where
  module _ (p : Page) (e : Event) (u : ℕ) (other : u ≡ place_of e → ⊥) where
    -- An event changes no other state's bound and no other state's mark.
    bound_other : bound_at (after_event m value prices p e) u ≡ bound_at p u
    bound_other = elim e as (λ x. (u ≡ place_of x → ⊥) → bound_at (after_event m value prices p x) u ≡ bound_at p u) [
      | raised s ↦ raised_other m value prices p s u
      | marked s a ↦ λ ne. refl
    ] other

    mark_other : planned_at (after_event m value prices p e) u ≡ planned_at p u
    mark_other = elim e as (λ x. (u ≡ place_of x → ⊥) → planned_at (after_event m value prices p x) u ≡ planned_at p u) [
      | raised s ↦ λ ne. refl
      | marked s a ↦ marked_other m value prices p s a u
    ] other

    pending_other : Pending m cap p u → Pending m cap (after_event m value prices p e) u
    pending_other pending = record {
      there = pending.there;
      opened = pending.opened;
      unplanned = mark_other ∙ pending.unplanned;
      within = omega (arith, bound_other, pending.within);
    }

  module _ (start : ℕ) (old : Page) where
    -- A search begins at its start.
    pub begins : (trail : Trail) → trail.start ≡ start → trail.states.items ≡ [] → Underway m value prices start cap old old 0 (way_of trail)
    begins trail first none =
        let alone : length (way_of trail) ≡ 1 = ap (λ l. length (trail.start ∷ l)) none in
        record {
          events = [];
          leads = refl;
          counted = refl;
          first = first;
          later = λ k low high. absurd (omega (arith, alone));
          fall = λ i j less high. absurd (omega (arith, alone));
          at_once = λ above. (refl, refl);
        }

    -- After an event at the last state the search goes on from the state before.
    pub goes_back : (p : Page) (used : ℕ) (way back : List ℕ) (e : Event) (more : ℕ) → Underway m value prices start cap old p used way
        → bound_at p start ≤ cap → place_of e ≡ get_or way (length way - 1) 0 → MayHappen m value prices cap p e → more ≡ used + raises (e ∷ [])
        → 1 ≤ length way → back ≡ take (max 1 (length way - 1)) way
        → Underway m value prices start cap old (after_event m value prices p e) more back
    goes_back p used way back e more under within here may count some cut =
        let n = max 1 (length way - 1) in
        let long : length back ≡ n = ap length cut ∙ length-take-le n way (omega (arith, some)) in
        let same : (k : ℕ) → k < n → get_or back k 0 ≡ get_or way k 0 = λ k high. ap (λ l. get_or l k 0) cut ∙ get_or-take n way k 0 high in
        let apart : (k : ℕ) → k < n → 1 < length way → get_or way k 0 ≡ place_of e → ⊥ =
        λ k high deep at.
        let level : bound_at p (get_or way k 0) ≡ bound_at p (get_or way (length way - 1) 0) = ap (bound_at p) (at ∙ here) in
        omega (arith, level, under.fall k (length way - 1) (omega arith) (omega arith)) in
        record {
          events = under.events ++ e ∷ [];
          leads = leads_append m value prices cap old under.events p e under.leads may;
          counted = count ∙ ap (λ n. n + raises (e ∷ [])) under.counted ∙ sym (raises_append under.events (e ∷ []));
          first = same 0 (omega arith) ∙ under.first;
          later = λ k low high.
              let inside : k < n = omega (arith, long) in
              subst (Pending m cap (after_event m value prices p e)) (sym (same k inside)) (pending_other p e (get_or way k 0) (apart k inside (omega arith)) (under.later k low (omega arith)));
          fall = λ i j less' high.
              let inside : j < n = omega (arith, long) in
              let lower = bound_other p e (get_or way j 0) (apart j inside (omega arith)) in
              let upper = bound_other p e (get_or way i 0) (apart i (omega arith) (omega arith)) in
              let low = ap (bound_at (after_event m value prices p e)) (same j inside) in
              let high' = ap (bound_at (after_event m value prices p e)) (same i (omega arith)) in
              omega (arith, lower, upper, low, high', under.fall i j less' (omega arith));
          at_once = λ above. absurd (omega (arith, within, above, raises_grow m value prices cap old under.events p under.leads start));
        }
