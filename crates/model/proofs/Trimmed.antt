-- What a trimmed model answers, by what the model under it answers.
use Rattle.std.proofs.Common.{◌≡◌, ℕ, zero, suc, ◌<◌, Bool, true, false, cond, not, ◌||◌, eqb, List, [], ◌∷◌, map, length, get_or, Some, None, Option, unwrap_or, sym, refl, ap, ◌∙◌, ⊎_elim, arith}
use Rattle.std.specs.List.{slice_get}
use Rattle.std.specs.Option.{option_map}
use Rattle.std.proofs.lemmas.List.FromFn.{length-map-range_with_len, get_or-map-range_with_len}
use Rattle.std.proofs.lemmas.List.{get_or_past, length-map}
use Rattle.std.proofs.lemmas.Bool.{cases_lt, eq-eqb, or_right, true≢false, false≢true}
use Rattle.model.specs.Meaning.{Action, Barred, Free, State, End, Open, is_end, end_cost, actions, is_free, outcomes, state_at, action_at}
use Rattle.std.proofs.lemmas.Option.{unwrap_or-slice_get}
use Rattle.model.proofs.Lookups.{get_or_map_nth}
use Rattle.model.specs.Trims.{lists, trim_action, trim_state, trimmed}

pub length_trimmed : (m : List State) → length (trimmed m) ≡ length m
length_trimmed m = length-map-range_with_len (λ s. trim_state s (state_at m s)) 0 (length m)

pub state_trimmed : (m : List State) (s : ℕ) → state_at (trimmed m) s ≡ trim_state s (state_at m s)
state_trimmed m s =
    ⊎_elim
    (λ there. get_or-map-range_with_len (λ i. trim_state i (state_at m i)) 0 (length m) s s (Open []) there (omega arith))
    (λ past. get_or_past (trimmed m) s (Open []) (omega (arith, length_trimmed m)) ∙ sym (ap (trim_state s) (get_or_past m s (Open []) past)))
    (cases_lt s (length m))

-- A state keeps whether it is an end, its end cost and the number of its actions.
pub trim_is_end : (s : ℕ) (x : State) → is_end (trim_state s x) ≡ is_end x
trim_is_end s (End c) = refl
trim_is_end s (Open as') = refl

pub trim_end_cost : (s : ℕ) (x : State) → end_cost (trim_state s x) ≡ end_cost x
trim_end_cost s (End c) = refl
trim_end_cost s (Open as') = refl

trim_actions : (s : ℕ) (x : State) → actions (trim_state s x) ≡ map (trim_action s) (actions x)
trim_actions s (End c) = refl
trim_actions s (Open as') = refl

pub action_count_trimmed : (m : List State) (s : ℕ) → length (actions (state_at (trimmed m) s)) ≡ length (actions (state_at m s))
action_count_trimmed m s = ap (λ x. length (actions x)) (state_trimmed m s) ∙ ap length (trim_actions s (state_at m s)) ∙ length-map (actions (state_at m s)) (trim_action s)

get_or_trim : (s : ℕ) (as' : List Action) (a : ℕ) → get_or (map (trim_action s) as') a Barred ≡ trim_action s (get_or as' a Barred)
get_or_trim s as' a = get_or_map_nth (trim_action s) as' a Barred ∙ under_default s (slice_get as' a) ∙ ap (trim_action s) (unwrap_or-slice_get as' a Barred)
  where
    under_default : (s : ℕ) (o : Option Action) → unwrap_or (option_map (trim_action s) o) Barred ≡ trim_action s (unwrap_or o Barred)
    under_default s None = refl
    under_default s (Some x) = refl

pub action_trimmed : (m : List State) (s a : ℕ) → action_at (trimmed m) s a ≡ trim_action s (action_at m s a)
action_trimmed m s a =
    ap (λ x. get_or (actions x) a Barred) (state_trimmed m s) ∙ ap (λ l. get_or l a Barred) (trim_actions s (state_at m s)) ∙ get_or_trim s (actions (state_at m s)) a

-- An action that lists its own state is barred, and any other stays.
pub trim_listed : (s : ℕ) (x : Action) → lists s (outcomes x) ≡ true → trim_action s x ≡ Barred
trim_listed s Barred e = refl
trim_listed s (Free t os) e = ap (λ b. cond b Barred (Free t os)) e

pub trim_unlisted : (s : ℕ) (x : Action) → lists s (outcomes x) ≡ false → trim_action s x ≡ x
trim_unlisted s Barred e = refl
trim_unlisted s (Free t os) e = ap (λ b. cond b Barred (Free t os)) e

pub action_listed : (m : List State) (s a : ℕ) → lists s (outcomes (action_at m s a)) ≡ true → action_at (trimmed m) s a ≡ Barred
action_listed m s a e = action_trimmed m s a ∙ trim_listed s (action_at m s a) e

pub action_unlisted : (m : List State) (s a : ℕ) → lists s (outcomes (action_at m s a)) ≡ false → action_at (trimmed m) s a ≡ action_at m s a
action_unlisted m s a e = action_trimmed m s a ∙ trim_unlisted s (action_at m s a) e

-- Whether a trimmed action is free.
free_cond : (b : Bool) (t : ℕ) (os : List ℕ) → not b ≡ is_free (cond b Barred (Free t os))
free_cond true t os = refl
free_cond false t os = refl

trim_is_free : (s : ℕ) (x : Action) → is_free x ≡ true → not (lists s (outcomes x)) ≡ is_free (trim_action s x)
trim_is_free s Barred e = absurd (false≢true e)
trim_is_free s (Free t os) e = free_cond (lists s os) t os

trim_is_barred : (s : ℕ) (x : Action) → is_free x ≡ false → is_free x ≡ is_free (trim_action s x)
trim_is_barred s Barred e = refl
trim_is_barred s (Free t os) e = absurd (true≢false e)

pub free_trimmed : (m : List State) (s a : ℕ) → is_free (action_at m s a) ≡ true → not (lists s (outcomes (action_at m s a))) ≡ is_free (action_at (trimmed m) s a)
free_trimmed m s a e = trim_is_free s (action_at m s a) e ∙ sym (ap is_free (action_trimmed m s a))

pub barred_trimmed : (m : List State) (s a : ℕ) → is_free (action_at m s a) ≡ false → is_free (action_at m s a) ≡ is_free (action_at (trimmed m) s a)
barred_trimmed m s a e = trim_is_barred s (action_at m s a) e ∙ sym (ap is_free (action_trimmed m s a))

pub lists_found : (s : ℕ) (os : List ℕ) (k : ℕ) → k < length os → get_or os k 0 ≡ s → lists s os ≡ true
lists_found s [] k h e = absurd (omega arith)
lists_found s (o ∷ os) zero h e = ap (λ b. b || lists s os) (eq-eqb o s e)
lists_found s (o ∷ os) (suc k) h e = or_right (eqb o s) (lists s os) (lists_found s os k (omega arith) e)
