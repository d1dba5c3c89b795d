-- What a turn of a search does at the last state of its trail.
use Rattle.std.proofs.Common.{◌≡◌, ℕ, zero, suc, ◌+◌, ◌-◌, ◌<◌, ◌≤◌, max, false, List, [], ◌∷◌, ◌++◌, Some, None, length, get_or, take, sym, refl, ap, ap₂, ◌∙◌, subst, ⊎_elim, arith, length-append}
use Rattle.std.specs.List.{AllByRecursion}
use Rattle.std.proofs.ByRecursion.{All-from_get_or}
use Rattle.std.proofs.Math.Seq.{get_or-append_seam}
use Rattle.std.proofs.lemmas.List.{get_or_append_left}
use Rattle.std.proofs.lemmas.Bool.{cases_Bool, cases_lt, true≢false}
use Rattle.cost.specs.declared.amount.Cost.{Cost}
use Rattle.model.specs.Meaning.{State, End, Open, is_end, state_at}
use Rattle.plan.specs.Bounds.{LawfulAt, least_cost}
use Rattle.plan.proofs.Distinct.{Distinct, distinct_few}
use Rattle.plan.proofs.Marked.{falls}
use Rattle.plan.proofs.Opened.{has_there}
use Rattle.book.specs.Events.{Event, raised, marked, Pending, MayHappen, after_event, raises}
use Rattle.book.specs.Looks.{Seen}
use Rattle.book.specs.Pages.{Page, bound_at, planned_at, raised_page, marked_page, Sound}
use Rattle.book.specs.Trails.{Entered, Left, way_of, last_of}
use Rattle.book.specs.declared.pages.looks.Look.TheVariants.{Raise, Mark, Enter}
use Rattle.book.specs.declared.trails.Trail.{Trail}
use Rattle.book.proofs.Soundness.{leads_sound}
use Rattle.book.proofs.Underway.{Ready, Underway, place_of, goes_back}
use Rattle.book.proofs.Wholes.{few_states}

-- A trail that went back is its way without the last state, but with its start.
left_way : (trail next : Trail) → Left trail next → way_of next ≡ take (max 1 (length (way_of trail) - 1)) (way_of trail)
left_way trail next left =
    let count : suc (length trail.states.items - 1) ≡ max 1 (length (way_of trail) - 1) = omega arith in
    ap₂ (λ x xs. x ∷ xs) left.start left.states ∙ ap (λ n. take n (way_of trail)) count

-- Numbers whose bounds fall along a list are distinct.
falling_distinct : (v : ℕ → ℕ) (xs : List ℕ) → ((i j : ℕ) → i < j → j < length xs → v (get_or xs j 0) < v (get_or xs i 0)) → Distinct xs
falling_distinct v [] fall = tt
falling_distinct v (x ∷ xs) fall = (
  All-from_get_or (λ y. x ≡ y → ⊥) xs 0 (λ i h same. let e : v x ≡ v (get_or xs i 0) = ap v same in omega (arith, e, fall zero (suc i) (omega arith) (omega arith))),
  falling_distinct v xs (λ i j l h. fall (suc i) (suc j) (omega arith) (omega arith)),
)

lawful_open : (m : List State) (value : List ℕ → ℕ) (prices : List ℕ) (p : Page) (s : ℕ) (x : State) → is_end x ≡ false → LawfulAt m value prices (bound_at p) s x → bound_at p s ≤ least_cost m value prices (bound_at p) s
lawful_open m value prices p s (End c) e h = let z : ◌≡◌ {A = ℕ} 0 1 = cc in absurd (omega arith)
lawful_open m value prices p s (Open as') e h = h

module _ (m : List State) (value : List ℕ → ℕ) (prices : List ℕ) (start cap : ℕ) (old : Page) (known : Ready m value prices start cap old)
    (p : Page) (used : ℕ) (trail : Trail) (under : Underway m value prices start cap old p used (way_of trail)) where
  -- The page of a search that is under way is sound.
  pub sound_now : Sound m value prices p
  sound_now = leads_sound m value prices known.opens known.rule cap known.most old under.events p known.whole known.sound under.leads

  -- A state that is not planned is open.
  unplanned_open : (s : ℕ) → s < length m → planned_at p s ≡ false → is_end (state_at m s) ≡ false
  unplanned_open s there unplanned =
      ⊎_elim (λ end. absurd (true≢false (sym (sound_now.marks.ends s there end) ∙ unplanned))) (λ open'. open') (cases_Bool (is_end (state_at m s)))

  pending : (s : ℕ) → s < length m → planned_at p s ≡ false → bound_at p s ≤ cap → Pending m cap p s
  pending s there unplanned within = record { there = there; opened = unplanned_open s there unplanned; unplanned = unplanned; within = within }

  module _ (unsettled : (planned_at p start ≡ false) × (bound_at p start ≤ cap)) where
    -- All states of the trail are pending.
    pending_at : (k : ℕ) → k < length (way_of trail) → Pending m cap p (get_or (way_of trail) k 0)
    pending_at zero h = subst (Pending m cap p) (sym under.first) (pending start known.there unsettled.0 unsettled.1)
    pending_at (suc k) h = under.later (suc k) (omega arith) h

    module _ (s : ℕ) (last : s ≡ last_of trail) where
      here : Pending m cap p s
      here = subst (Pending m cap p) (sym last) (pending_at (length trail.states.items) (omega arith))

      -- There is something to be done.
      pub never_idle : Seen m value prices p s None → ⊥
      never_idle nothing =
          nothing known.opens here.there here.unplanned (omega (arith, here.within, known.most))
          (lawful_open m value prices p s (state_at m s) here.opened (sound_now.lawful s here.there))

      -- After an event the search goes back.
      event_back : (e : Event) (more : ℕ) → place_of e ≡ s → MayHappen m value prices cap p e → more ≡ used + raises (e ∷ []) → (q : Page) (next : Trail) → q ≡ after_event m value prices p e
          → Left trail next → Underway m value prices start cap old q more (way_of next)
      event_back e more place may count q next written left =
          let trail_way = way_of trail in
          let at_end : get_or trail_way (length trail.states.items) 0 ≡ get_or trail_way (length trail_way - 1) 0 = ap (λ i. get_or trail_way i 0) (omega arith) in
          subst (λ r. Underway m value prices start cap old r more (way_of next)) (sym written)
          (goes_back m value prices cap start old p used trail_way (way_of next) e more under unsettled.1 (place ∙ last ∙ at_end) may count (omega arith) (left_way trail next left))

      pub may_raise : (cost : Cost) → Seen m value prices p s (Some (Raise cost)) → MayHappen m value prices cap p (raised s)
      may_raise cost seen = (here, seen.2)

      pub raises_back : (cost : Cost) → Seen m value prices p s (Some (Raise cost)) → (q : Page) (next : Trail) → q ≡ raised_page p s cost.value
          → Left trail next → Underway m value prices start cap old q (used + 1) (way_of next)
      raises_back cost seen q next written = event_back (raised s) (used + 1) refl (may_raise cost seen) refl q next (written ∙ ap (raised_page p s) seen.3)

      pub marks_back : (a : ℕ) → Seen m value prices p s (Some (Mark a)) → (q : Page) (next : Trail) → q ≡ marked_page p s a
          → Left trail next → Underway m value prices start cap old q used (way_of next)
      marks_back a (inside, unplanned, (t, os, (free, costs), all)) = event_back (marked s a) used refl (here, (t, os, free, costs, all)) (omega arith)

      module _ (o : ℕ) (seen : Seen m value prices p s (Some (Enter o))) where
        -- The next state has a smaller bound, and is pending.
        lower : bound_at p o < bound_at p s
        lower =
            let exact = seen.3 in
            let has = seen.4 in
            subst (λ x. bound_at p x < bound_at p s) (has.2 0)
            (falls m value prices known.opens known.rule known.range (bound_at p) sound_now.lawful s seen.0 seen.1 seen.2 exact.0 (omega (arith, here.within, known.most)) exact.1 has.0 has.1)

        next_pending : Pending m cap p o
        next_pending = pending o (has_there m known.opens s seen.0 seen.1 seen.2 seen.3.0 o seen.4) seen.5 (omega (arith, lower, here.within))

        -- Its bound is smaller than that of each state of the trail.
        below : (k : ℕ) → k < length (way_of trail) → bound_at p o < bound_at p (get_or (way_of trail) k 0)
        below k h =
            let end = length trail.states.items in
            let level : bound_at p s ≡ bound_at p (last_of trail) = ap (bound_at p) last in
            ⊎_elim
            (λ less. omega (arith, lower, level, under.fall k end less (omega arith)))
            (λ more. let same : bound_at p (get_or (way_of trail) k 0) ≡ bound_at p (last_of trail) = ap (λ i. bound_at p (get_or (way_of trail) i 0)) (omega arith) in omega (arith, lower, level, same))
            (cases_lt k end)

        -- There is room for it, since it and the states of the trail are distinct.
        pub never_full : length trail.states.items ≡ 4095 → ⊥
        never_full full =
            let way = way_of trail in
            let all : AllByRecursion (λ x. x < length m) (o ∷ way) = (next_pending.there, All-from_get_or (λ x. x < length m) way 0 (λ k h. (pending_at k h).there)) in
            let fresh : Distinct (o ∷ way) = (
              All-from_get_or (λ y. o ≡ y → ⊥) way 0 (λ k h same. let e : bound_at p o ≡ bound_at p (get_or way k 0) = ap (bound_at p) same in omega (arith, e, below k h)),
              falling_distinct (bound_at p) way (λ i j less h. under.fall i j less h),
            ) in
            omega (arith, distinct_few (length m) (o ∷ way) all fresh, few_states m known.opens)

        -- The search goes on to it.
        goes_on : (way : List ℕ) → way ≡ way_of trail ++ o ∷ [] → Underway m value prices start cap old p used way
        goes_on way more =
            let before = way_of trail in
            let long : length way ≡ length before + 1 = ap length more ∙ length-append before (o ∷ []) in
            let same : (k : ℕ) → k < length before → get_or way k 0 ≡ get_or before k 0 = λ k h. ap (λ l. get_or l k 0) more ∙ get_or_append_left before (o ∷ []) 0 k h in
            let end : (k : ℕ) → k ≡ length before → get_or way k 0 ≡ o = λ k e. ap₂ (λ l i. get_or l i 0) more e ∙ get_or-append_seam before o [] 0 in
            record {
              events = under.events;
              leads = under.leads;
              counted = under.counted;
              first = same 0 (omega arith) ∙ under.first;
              later = λ k low h.
                  ⊎_elim
                  (λ less. subst (Pending m cap p) (sym (same k less)) (under.later k low less))
                  (λ high. subst (Pending m cap p) (sym (end k (omega (arith, long)))) next_pending)
                  (cases_lt k (length before));
              fall = λ i j less h.
                  let upper : bound_at p (get_or way i 0) ≡ bound_at p (get_or before i 0) = ap (bound_at p) (same i (omega (arith, long))) in
                  ⊎_elim
                  (λ inside. let low : bound_at p (get_or way j 0) ≡ bound_at p (get_or before j 0) = ap (bound_at p) (same j inside) in omega (arith, upper, low, under.fall i j less inside))
                  (λ high. let low : bound_at p (get_or way j 0) ≡ bound_at p o = ap (bound_at p) (end j (omega (arith, long))) in omega (arith, upper, low, below i (omega (arith, long))))
                  (cases_lt j (length before));
              at_once = under.at_once;
            }

        pub enters : (next : Trail) → Entered trail o next → Underway m value prices start cap old p used (way_of next)
        enters next entered = goes_on (way_of next) (ap₂ (λ x xs. x ∷ xs) entered.start entered.states)
