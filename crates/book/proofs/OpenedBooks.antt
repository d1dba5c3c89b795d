-- A book that was opened, and one whose marks were dropped, is sound.
use Rattle.std.proofs.Common.{◌≡◌, ℕ, zero, suc, ◌<◌, min, Bool, true, false, cond, not, eqb, ltb, List, [], ◌∷◌, map, length, get_or, drop, Some, None, Option, sym, refl, ap, ◌∙◌, subst, ⊎_elim, arith}
use mathlib.Core.Path.{fun_ext}
use Rattle.std.specs.List.{range_with_len, ContainsAt as Has}
use Rattle.std.proofs.lemmas.List.FromFn.{length-map-range_with_len, get_or-map-range_with_len}
use Rattle.std.proofs.ByRecursion.{All-weaker, all_has_itself}
use Rattle.std.proofs.lemmas.List.{get_or_append_left}
use Rattle.std.proofs.lemmas.Bool.{eqb-true, ne_eqb, leb-true, cases_lt, cond-true, lt-ltb}
use Rattle.cost.specs.Costs.{roof, capped}
use Rattle.model.specs.Firsts.{when, first_of, first_below}
use Rattle.model.specs.Meaning.{Action, Barred, Free, State, End, Open, is_end, end_cost, actions, state_at, action_at}
use Rattle.model.specs.Reading.{Opens}
use Rattle.plan.specs.Bounds.{Bounds, cost_by, least_below, least_cost, LawfulAt, LawfulBounds, KeptAt, Marks}
use Rattle.plan.specs.Plans.{Plan, price_of}
use Rattle.plan.proofs.Opened.{end_small, has_there}
use Rattle.book.specs.Estimates.{estimate_bounds, estimate_right, estimate_fault}
use Rattle.book.specs.Openings.{first_by, entries_of, ends_planned, opening_bound, opened_page, unmarked_page, emptied_page}
use Rattle.book.specs.Pages.{Page, bound_at, Sound}
use Rattle.book.specs.declared.faults.EstimateFault.TheVariants.{Length, Estimate}
use Rattle.book.proofs.EstimateSteps.{each_fault}
use Rattle.book.proofs.Soundness.{map_alike}
use Rattle.book.proofs.Wholes.{few_states}

-- An entry that is of the function.
pub first_by_at : {X : Type 0} (f : ℕ → X) (n : ℕ) (xs : List X) (s : ℕ) (d : X) → s < n → get_or (first_by f n xs) s d ≡ f s
first_by_at f n xs s d h =
    get_or_append_left (map f (range_with_len 0 n)) (drop n xs) d s (omega (arith, length-map-range_with_len f 0 n))
    ∙ get_or-map-range_with_len f 0 n s s d h (omega arith)

never : {A : Type 0} → ◌≡◌ {A = ℕ} 0 1 → A
never e = absurd (omega arith)

-- Neither of two faults is there where the first is not.
neither : {F : Type 0} (o p : Option F) → first_of o p ≡ None → (o ≡ None) × (p ≡ None)
neither None p e = (refl, e)
neither (Some f) p e = never (cc)

none_below : {F : Type 0} (at : ℕ → Option F) (n i : ℕ) → first_below at n ≡ None → i < n → at i ≡ None
none_below at zero i none there = absurd (omega arith)
none_below at (suc n) i none there =
    let both = neither (first_below at n) (at n) none in
    ⊎_elim
    (λ less. none_below at n i both.0 less)
    (λ more. let same : n ≡ i = omega arith in subst (λ k. at k ≡ None) same both.1)
    (cases_lt i n)

-- An estimate of which nothing is wrong keeps its rule.
unless_true : {F : Type 0} (b : Bool) (f : F) → when (not b) f ≡ None → b ≡ true
unless_true true f e = refl
unless_true false f e = never (cc)

none_right : (m : List State) (value : List ℕ → ℕ) (prices es : List ℕ) (s : ℕ) → each_fault m value prices es s ≡ None → estimate_right m value prices es s (state_at m s) ≡ true
none_right m value prices es s none = unless_true (estimate_right m value prices es s (state_at m s)) (Estimate s) none

-- Where there are estimates, they are the bounds at opening.
from_some : (m : List State) (es : List ℕ) (s : ℕ) → eqb (length es) 0 ≡ false → opening_bound m es s ≡ min roof (get_or es s 0)
from_some m [] s some = let z : ◌≡◌ {A = ℕ} 0 1 = ap (λ b. cond b 0 1) some in absurd (omega arith)
from_some m (e ∷ es) s some = refl

module _ (m : List State) (opens : Opens m) where
  -- A book has an entry for each state of a model that opens.
  all_entries : entries_of m ≡ length m
  all_entries = omega (arith, few_states m opens)

  planned_is : (marks : List Bool) (s : ℕ) → s < length m → get_or (ends_planned m marks) s false ≡ is_end (state_at m s)
  planned_is marks s there = first_by_at (λ u. is_end (state_at m u)) (entries_of m) marks s false (omega (arith, all_entries))

  -- Marks of ends alone hold.
  kept_at_end : (value : List ℕ → ℕ) (prices : List ℕ) (v : Bounds) (planned : ℕ → Bool) (kept : Plan) (s : ℕ) (x : State) → is_end x ≡ true → KeptAt m value prices v planned kept s x
  kept_at_end value prices v planned kept s (End c) e = tt
  kept_at_end value prices v planned kept s (Open as') e = let z : ◌≡◌ {A = ℕ} 0 1 = ap (λ b. cond b 1 0) e in absurd (omega arith)

  ends_marked : (value : List ℕ → ℕ) (prices : List ℕ) (v : Bounds) (planned : ℕ → Bool) (kept : Plan) → ((s : ℕ) → s < length m → planned s ≡ is_end (state_at m s)) → Marks m value prices v planned kept
  ends_marked value prices v planned kept is =
      record {
        ends = λ s there e. is s there ∙ e;
        keeps = λ s there e. kept_at_end value prices v planned kept s (state_at m s) (sym (is s there) ∙ e);
      }

  module _ (value : List ℕ → ℕ) (prices : List ℕ) (v w : Bounds) (alike : (s : ℕ) → s < length m → v s ≡ w s) where
    -- Bounds that are equal at all states give an action one cost, and a state one least action cost.
    cost_same : (s a : ℕ) (x : Action) → action_at m s a ≡ x → cost_by value prices v x ≡ cost_by value prices w x
    cost_same s a Barred e = refl
    cost_same s a (Free t os) e =
        ap (λ l. capped (price_of prices t) (value l))
        (map_alike v w (λ o. o < length m) alike os (All-weaker (Has os) (λ o. o < length m) (has_there m opens s a t os e) os (all_has_itself os)))

    least_same : (s : ℕ) → least_cost m value prices v s ≡ least_cost m value prices w s
    least_same s = ap (λ f. least_below f (length (actions (state_at m s)))) (fun_ext (λ a. cost_same s a (action_at m s a) refl))

  -- The bounds at opening are lawful, by what each state is.
  module _ (value : List ℕ → ℕ) (prices es : List ℕ) (p : Page) where
    abbrev v : Bounds
    v = bound_at (opened_page m es p)

    bound_is : (s : ℕ) → s < length m → v s ≡ opening_bound m es s
    bound_is s there = first_by_at (opening_bound m es) (entries_of m) p.bounds s 0 (omega (arith, all_entries))

    unknown_lawful : es ≡ [] → (s : ℕ) (x : State) → s < length m → state_at m s ≡ x → LawfulAt m value prices v s x
    unknown_lawful none s (End c) there e =
        let small = end_small m opens s c there e in
        let is : opening_bound m es s ≡ min roof c = ap (λ l. opening_bound m l s) none ∙ ap (λ y. min roof (end_cost y)) e in
        omega (arith, bound_is s there)
    unknown_lawful none s (Open as') there e =
        let is : opening_bound m es s ≡ min roof 0 = ap (λ l. opening_bound m l s) none ∙ ap (λ y. min roof (end_cost y)) e in
        omega (arith, bound_is s there)

    module _ (some : eqb (length es) 0 ≡ false) (many : length es ≡ length m) (none : first_below (each_fault m value prices es) (length m) ≡ None) where
      estimated : (s : ℕ) → opening_bound m es s ≡ min roof (get_or es s 0)
      estimated s = from_some m es s some

      right : (s : ℕ) → s < length m → estimate_right m value prices es s (state_at m s) ≡ true
      right s there = none_right m value prices es s (none_below (each_fault m value prices es) (length m) s none there)

      alike : (s : ℕ) → s < length m → estimate_bounds es s ≡ v s
      alike s there =
          cond-true (ltb s 4096) (min roof (get_or es s 0)) 0 (lt-ltb s 4096 (omega (arith, few_states m opens)))
          ∙ sym (bound_is s there ∙ estimated s)

      estimated_lawful : (s : ℕ) (x : State) → s < length m → state_at m s ≡ x → LawfulAt m value prices v s x
      estimated_lawful s (End c) there e =
          let small = end_small m opens s c there e in
          let same = eqb-true (get_or es s 0) c (sym (ap (estimate_right m value prices es s) e) ∙ right s there) in
          omega (arith, bound_is s there, estimated s)
      estimated_lawful s (Open as') there e =
          let below = leb-true (get_or es s 0) (least_cost m value prices (estimate_bounds es) s) (sym (ap (estimate_right m value prices es s) e) ∙ right s there) in
          omega (arith, bound_is s there, estimated s, least_same value prices (estimate_bounds es) v alike s)

    -- Estimates of which nothing is wrong, or none at all, give lawful bounds.
    opening_lawful : (es' : List ℕ) → es ≡ es' → estimate_fault m value prices es' ≡ None → LawfulBounds m value prices v
    opening_lawful [] same none s there = unknown_lawful same s (state_at m s) there refl
    opening_lawful (x ∷ xs) same none s there =
        let some : eqb (length es) 0 ≡ false = ap (λ l. eqb (length l) 0) same ∙ ne_eqb (length (x ∷ xs)) 0 (λ e. omega arith) in
        let parts = neither (when (not (eqb (length (x ∷ xs)) (length m))) (Length (length (x ∷ xs)))) _ none in
        let many : length es ≡ length m = ap length same ∙ eqb-true (length (x ∷ xs)) (length m) (unless_true (eqb (length (x ∷ xs)) (length m)) (Length (length (x ∷ xs))) parts.0) in
        estimated_lawful some many (subst (λ l. first_below (each_fault m value prices l) (length m) ≡ None) (sym same) parts.1) s (state_at m s) there refl

  -- A book that was opened with estimates of which nothing is wrong is sound.
  pub opened_sound : (value : List ℕ → ℕ) (prices es : List ℕ) (p : Page) → estimate_fault m value prices es ≡ None → Sound m value prices (opened_page m es p)
  opened_sound value prices es p none =
      record {
        lawful = opening_lawful value prices es p es refl none;
        marks = ends_marked value prices _ _ _ (planned_is p.planned);
      }

  -- A book with lawful bounds is sound once the marks of open states were dropped.
  pub unmarked_sound : (value : List ℕ → ℕ) (prices : List ℕ) (p : Page) → LawfulBounds m value prices (bound_at p) → Sound m value prices (unmarked_page m p)
  unmarked_sound value prices p lawful = record { lawful = lawful; marks = ends_marked value prices _ _ _ (planned_is p.planned) }

  -- It is so at any prices once the bounds of open states are 0 too.
  emptied_at : (value : List ℕ → ℕ) (old new : List ℕ) (p : Page) (s : ℕ) (x : State) → s < length m → state_at m s ≡ x → LawfulAt m value old (bound_at p) s x → LawfulAt m value new (bound_at (emptied_page m p)) s x
  emptied_at value old new p s (End c) there e lawful =
      first_by_at (λ u. cond (is_end (state_at m u)) (bound_at p u) 0) (entries_of m) p.bounds s 0 (omega (arith, all_entries))
      ∙ ap (λ y. cond (is_end y) (bound_at p s) 0) e
      ∙ lawful
  emptied_at value old new p s (Open as') there e lawful =
      let is : bound_at (emptied_page m p) s ≡ 0 =
      first_by_at (λ u. cond (is_end (state_at m u)) (bound_at p u) 0) (entries_of m) p.bounds s 0 (omega (arith, all_entries)) ∙ ap (λ y. cond (is_end y) (bound_at p s) 0) e in
      omega arith

  pub emptied_sound : (value : List ℕ → ℕ) (old new : List ℕ) (p : Page) → LawfulBounds m value old (bound_at p) → Sound m value new (emptied_page m p)
  emptied_sound value old new p lawful =
      record {
        lawful = λ s there. emptied_at value old new p s (state_at m s) there refl (lawful s there);
        marks = ends_marked value new _ _ _ (planned_is p.planned);
      }
