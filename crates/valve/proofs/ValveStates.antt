-- The states of a valve model and the actions in them.
use Rattle.std.proofs.Common.{◌≡◌, ℕ, ◌+◌, ◌^◌, ◌<◌, ◌≤◌, min, max, true, ◌||◌, eqb, ltb, ◌⊎◌, List, [], ◌∷◌, map, length, get_or, sym, refl, ap, ◌∙◌, subst, ⊎_elim, arith}
use lib.Count.{ones, count_trailing_zeros}
use Rattle.std.proofs.lemmas.List.FromFn.{length-map-range_with_len, get_or-map-range_with_len}
use Rattle.std.proofs.lemmas.List.{get_or-map, get_or_past, get_or-take, length-map, nil_from_length}
use Rattle.std.proofs.lemmas.Bool.{lt-ltb, le-ltb, cases_lt, cases_eq, cond-true, cond-false, eq-eqb, ne_eqb, or_left, or_right, or_from}
use Rattle.model.specs.Meaning.{Barred, Free, End, Open, is_end, end_cost, actions, state_at, action_at}
use Rattle.valve.specs.SetUp.{test_at}
use Rattle.valve.specs.Valves.{candidates, inside_part, outside_part, test_action, set_state, repairs_of, tests_of, meaning_of}
use Rattle.valve.specs.declared.valves.Test.{Test}
use Rattle.valve.specs.declared.valves.ValveModel.{ValveModel}
use Rattle.valve.proofs.OneBits.{length_candidates, single_candidate}
use Rattle.valve.proofs.SetUpLaw.{Limits, limits}

-- A state by the number of its candidates.
set_state_end : (rs : List ℕ) (ts : List Test) (m : ℕ) (cs : List ℕ) → length cs < 2 → is_end (set_state rs ts m cs) ≡ true
set_state_end rs ts m [] h = refl
set_state_end rs ts m (c ∷ []) h = refl
set_state_end rs ts m (c ∷ (d ∷ cs)) h = absurd (omega arith)

set_state_open : (rs : List ℕ) (ts : List Test) (m : ℕ) (cs : List ℕ) → 2 ≤ length cs → set_state rs ts m cs ≡ Open (map (test_action m) ts)
set_state_open rs ts m [] h = absurd (omega arith)
set_state_open rs ts m (c ∷ []) h = absurd (omega arith)
set_state_open rs ts m (c ∷ (d ∷ cs)) h = refl

module _ (v : ValveModel) where
  pub within : Limits (repairs_of v) (tests_of v)
  within = limits (repairs_of v) (tests_of v) v.sound

  pub candidates_few : v.candidates ≤ 12
  candidates_few = omega (arith, v.costed, within.high)

  pub count_few : v.count ≤ 16
  count_few = omega (arith, v.tested, within.many)

  pub length_meaning : length (meaning_of v) ≡ 2 ^ v.candidates
  length_meaning = length-map-range_with_len _ 0 (2 ^ length (repairs_of v)) ∙ ap (λ n. 2 ^ n) v.costed

  pub state_past : (m : ℕ) → 2 ^ v.candidates ≤ m → state_at (meaning_of v) m ≡ Open []
  state_past m h = get_or_past (meaning_of v) m (Open []) (omega (arith, length_meaning))

  module _ (m : ℕ) (h : m < 2 ^ v.candidates) where
    state_is : state_at (meaning_of v) m ≡ set_state (repairs_of v) (tests_of v) m (candidates v.candidates 0 m)
    state_is =
        let there : m < 2 ^ length (repairs_of v) = subst (λ n. m < 2 ^ n) (sym v.costed) h in
        get_or-map-range_with_len (λ s. set_state (repairs_of v) (tests_of v) s (candidates (length (repairs_of v)) 0 s)) 0 (2 ^ length (repairs_of v)) m m (Open []) there (omega arith)
        ∙ ap (λ n. set_state (repairs_of v) (tests_of v) m (candidates n 0 m)) v.costed

    counted : length (candidates v.candidates 0 m) ≡ ones m
    counted = length_candidates v.candidates 0 m h

    pub open_state : 2 ≤ ones m → state_at (meaning_of v) m ≡ Open (map (test_action m) (tests_of v))
    open_state many = state_is ∙ set_state_open (repairs_of v) (tests_of v) m (candidates v.candidates 0 m) (omega (arith, counted))

    pub end_state : ones m < 2 → is_end (state_at (meaning_of v) m) ≡ true
    end_state few = ap is_end state_is ∙ set_state_end (repairs_of v) (tests_of v) m (candidates v.candidates 0 m) (omega (arith, counted))

    pub empty_state : ones m ≡ 0 → state_at (meaning_of v) m ≡ End 0
    empty_state none = state_is ∙ ap (set_state (repairs_of v) (tests_of v) m) (nil_from_length (candidates v.candidates 0 m) (counted ∙ none))

    pub single_place : ones m ≡ 1 → count_trailing_zeros 64 m < v.candidates
    single_place one = (single_candidate v.candidates 0 64 m h (omega (arith, candidates_few)) one).1

    pub single_state : ones m ≡ 1 → state_at (meaning_of v) m ≡ End (get_or (repairs_of v) (count_trailing_zeros 64 m) 0)
    single_state one =
        let zero_first : 0 + count_trailing_zeros 64 m ≡ count_trailing_zeros 64 m = omega arith in
        state_is
        ∙ ap (set_state (repairs_of v) (tests_of v) m) (single_candidate v.candidates 0 64 m h (omega (arith, candidates_few)) one).0
        ∙ ap (λ c. End (get_or (repairs_of v) c 0)) zero_first

    -- Whether it is an end, by the number of one bits.
    pub is_end_by_ones : ltb (ones m) 2 ≡ is_end (state_at (meaning_of v) m)
    is_end_by_ones =
        ⊎_elim
        (λ few. lt-ltb (ones m) 2 few ∙ sym (end_state few))
        (λ many. le-ltb (ones m) 2 many ∙ sym (ap is_end (open_state many)))
        (cases_lt (ones m) 2)

    -- Only a single candidate has a cost that is not 0.
    pub no_end_cost : (ones m ≡ 1 → ⊥) → 0 ≡ end_cost (state_at (meaning_of v) m)
    no_end_cost other =
        ⊎_elim
        (λ many. sym (ap end_cost (open_state many)))
        (λ few. sym (ap end_cost (empty_state (omega arith))))
        (cases_lt 1 (ones m))

    pub end_actions : ones m < 2 → 0 ≡ length (actions (state_at (meaning_of v) m))
    end_actions few =
        ⊎_elim
        (λ none. sym (ap (λ s. length (actions s)) (empty_state none)))
        (λ some. sym (ap (λ s. length (actions s)) (single_state (omega arith))))
        (cases_eq (ones m) 0)

    pub open_actions : 2 ≤ ones m → v.count ≡ length (actions (state_at (meaning_of v) m))
    open_actions many = sym (ap (λ s. length (actions s)) (open_state many) ∙ length-map (tests_of v) (test_action m) ∙ v.tested)

    -- A test of the set-up in an open state.
    pub open_action : 2 ≤ ones m → (j : ℕ) → j < v.count → action_at (meaning_of v) m j ≡ test_action m (test_at v.tests j)
    open_action many j less =
        let there : j < length (tests_of v) = omega (arith, v.tested) in
        ap (λ s. get_or (actions s) j Barred) (open_state many)
        ∙ get_or-map (test_action m) (tests_of v) j (record { task = 0; set = 0 }) Barred there
        ∙ ap (test_action m) (get_or-take v.count v.tests j (record { task = 0; set = 0 }) less)

  -- What has no actions has no action at any place.
  pub past_actions : (m j : ℕ) → length (actions (state_at (meaning_of v) m)) ≤ j → Barred ≡ action_at (meaning_of v) m j
  past_actions m j h = sym (get_or_past (actions (state_at (meaning_of v) m)) j Barred h)

  -- A state with a test is an open state, and the test is one of the set-up.
  pub has_test : (m j : ℕ) → j < length (actions (state_at (meaning_of v) m)) → (m < 2 ^ v.candidates) × (2 ≤ ones m) × (j < v.count)
  has_test m j h =
      ⊎_elim
      (λ there.
      ⊎_elim
      (λ few. absurd (omega (arith, end_actions m there few)))
      (λ many. (there, many, omega (arith, open_actions m there many)))
      (cases_lt (ones m) 2))
      (λ past. let none : length (actions (state_at (meaning_of v) m)) ≡ 0 = ap (λ s. length (actions s)) (state_past m past) in absurd (omega arith))
      (cases_lt m (2 ^ v.candidates))

  pub action_is : (m j : ℕ) → j < length (actions (state_at (meaning_of v) m)) → action_at (meaning_of v) m j ≡ test_action m (test_at v.tests j)
  action_is m j h = let t = has_test m j h in open_action m t.0 t.1 j t.2

-- What a test does where a part is empty, and where none is.
module _ (m : ℕ) (t : Test) where
  pub test_barred : (inside_part m t.set ≡ 0) ⊎ (outside_part m t.set ≡ 0) → test_action m t ≡ Barred
  test_barred e =
      cond-true (eqb (inside_part m t.set) 0 || eqb (outside_part m t.set) 0) Barred _
      (⊎_elim
      (λ i. or_left (eqb (inside_part m t.set) 0) (eqb (outside_part m t.set) 0) (eq-eqb (inside_part m t.set) 0 i))
      (λ o. or_right (eqb (inside_part m t.set) 0) (eqb (outside_part m t.set) 0) (eq-eqb (outside_part m t.set) 0 o))
      e)

  pub test_free : (inside_part m t.set ≡ 0 → ⊥) → (outside_part m t.set ≡ 0 → ⊥) → test_action m t ≡ Free t.task (min (inside_part m t.set) (outside_part m t.set) ∷ max (inside_part m t.set) (outside_part m t.set) ∷ [])
  test_free i o =
      cond-false (eqb (inside_part m t.set) 0 || eqb (outside_part m t.set) 0) Barred _
      (or_from (eqb (inside_part m t.set) 0) (eqb (outside_part m t.set) 0) (ne_eqb (inside_part m t.set) 0 i) (ne_eqb (outside_part m t.set) 0 o))
