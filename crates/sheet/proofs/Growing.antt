-- Fields of which nothing is wrong keep the limits, and a stage counts what they say.
use Rattle.std.proofs.Common.{◌≡◌, ℕ, ◌+◌, ◌-◌, ◌/◌, ◌%◌, ◌<◌, ◌≤◌, true, List, [], ◌∷◌, ◌++◌, map, length, get_or, drop, replicate, None, sym, refl, ap, ◌∙◌, subst, inl, inr, ⊎_elim, arith}
use Rattle.std.specs.List.{flat_map, AllByRecursion}
use Rattle.std.proofs.lemmas.List.{length-append, length-replicate, length_push, length-drop, nil_from_length}
use Rattle.std.proofs.ByRecursion.{All-append, All-push}
use Rattle.model.specs.Meaning.{Action, Free, State, End, Open, actions, outcomes}
use Rattle.sheet.specs.Blocks.{Block, block}
use Rattle.sheet.specs.Stages.{Stage, beginning, pair_at, outcomes_in, places_in, end_cost_in, rising, cause_of, after, after_all, Right}
use Rattle.sheet.proofs.Contents.{Content, nothing, with_action, grow, grow_all, states_of, ActionRight, StateRight, RoomIs, Follows}
use Rattle.std.proofs.lemmas.Grind.{flat_map-append}
use Rattle.sheet.proofs.Runs.{joined_push, all_parts, all_replicate}
use Rattle.sheet.proofs.ByteNumbers.{length_pairs}
use Rattle.sheet.proofs.FieldKinds.{Kind, states_kind, price_kind, end_kind, open_kind, action_kind, kind_of}

-- The actions and the outcomes of states, with one state more.
actions_more : (xs : List State) (x : State) → length (flat_map actions (xs ++ x ∷ [])) ≡ length (flat_map actions xs) + length (actions x)
actions_more xs x = ap length (joined_push actions xs x) ∙ length-append (flat_map actions xs) (actions x)

outcomes_more : (xs : List State) (x : State) → length (flat_map outcomes (flat_map actions (xs ++ x ∷ []))) ≡ length (flat_map outcomes (flat_map actions xs)) + length (flat_map outcomes (actions x))
outcomes_more xs x =
    ap (λ l. length (flat_map outcomes l)) (joined_push actions xs x)
    ∙ ap length (flat_map-append outcomes (flat_map actions xs) (actions x))
    ∙ length-append (flat_map outcomes (flat_map actions xs)) (flat_map outcomes (actions x))

module _ (d : Stage) (c : Content) (b : List ℕ) (f : Follows d c) where
  grow_states : d.count ≡ 0 → 1 ≤ pair_at b 0 → pair_at b 0 ≤ 4096 → Follows (after d (block 1 b)) (grow c (block 1 b))
  grow_states h1 h3 h4 =
      let none : length (states_of c) ≡ 0 = omega (arith, f.states_few, f.count_is) in
      let empty : states_of c ≡ [] = nil_from_length (states_of c) none in
      record {
        count_is = refl;
        task_is = f.task_is;
        states_is = f.states_is;
        room_is = f.room_is;
        actions_is = f.actions_is;
        outcomes_is = f.outcomes_is;
        count_few = h4;
        states_few = omega arith;
        tasks_few = f.tasks_few;
        unread = λ e. absurd (omega arith);
        prices_right = f.prices_right;
        states_right = subst (AllByRecursion (StateRight (pair_at b 0))) (sym empty) tt;
      }

  grow_price : 0 < d.count → d.task ≤ get_or b 0 0 → get_or b 0 0 ≤ 63 → 2 ≤ pair_at b 1 → pair_at b 1 ≤ 10000 → Follows (after d (block 2 b)) (grow c (block 2 b))
  grow_price h1 h4 h5 h6 h7 =
      let k = get_or b 0 0 in
      let ps = c.prices in
      let fill : List ℕ = replicate (k - length ps) 1 in
      let tasks : length (ps ++ (fill ++ pair_at b 1 ∷ [])) ≡ k + 1 =
      length-append ps (fill ++ pair_at b 1 ∷ []) ∙ omega (arith, length_push fill (pair_at b 1), length-replicate {A = ℕ} (k - length ps) 1, f.task_is) in
      record {
        count_is = f.count_is;
        task_is = sym tasks;
        states_is = f.states_is;
        room_is = f.room_is;
        actions_is = f.actions_is;
        outcomes_is = f.outcomes_is;
        count_few = f.count_few;
        states_few = f.states_few;
        tasks_few = omega arith;
        unread = λ e. absurd (omega (arith, f.count_is));
        prices_right = All-append (λ p. (1 ≤ p) × (p ≤ 10000)) ps (fill ++ pair_at b 1 ∷ []) f.prices_right (All-push (λ p. (1 ≤ p) × (p ≤ 10000)) fill (pair_at b 1) (all_replicate (λ p. (1 ≤ p) × (p ≤ 10000)) (k - length ps) 1 (omega arith, omega arith)) (omega arith, h7));
        states_right = f.states_right;
      }

  -- A state without actions comes.
  grow_state : (x : State) (room : ℕ) → d.states < d.count → actions x ≡ [] → StateRight c.count x → RoomIs room (x ∷ []) →
      Follows (record { count = d.count; task = d.task; states = d.states + 1; room = room; actions = d.actions; outcomes = d.outcomes }) (record { count = c.count; prices = c.prices; done = c.done ++ c.latest; latest = x ∷ [] })
  grow_state x room h1 bare right has =
      let s = states_of c in
      let none : length (actions x) ≡ 0 = ap length bare in
      let none' : length (flat_map outcomes (actions x)) ≡ 0 = ap (λ l. length (flat_map outcomes l)) bare in
      record {
        count_is = f.count_is;
        task_is = f.task_is;
        states_is = omega (arith, f.states_is, length_push s x);
        room_is = has;
        actions_is = omega (arith, f.actions_is, actions_more s x);
        outcomes_is = omega (arith, f.outcomes_is, outcomes_more s x);
        count_few = f.count_few;
        states_few = omega (arith, f.states_is, f.count_is, length_push s x);
        tasks_few = f.tasks_few;
        unread = f.unread;
        prices_right = f.prices_right;
        states_right = All-push (StateRight c.count) s x f.states_right right;
      }

  grow_action :
      (as' : List Action) → c.latest ≡ Open as' ∷ [] → d.room + length as' ≡ 16 → 0 < d.room → length b % 2 ≡ 1 → 3 ≤ length b → length b ≤ 33 → get_or b 0 0 ≤ 63 → rising d.count 0 (outcomes_in b) ≡ true →
      Follows (after d (block 5 b)) (grow c (block 5 b))
  grow_action as' last fits h1 h2 h3 h4 h5 h6 =
      let n = c.count in
      let a = Free (get_or b 0 0) (outcomes_in b) in
      let done = c.done in
      let places : length (outcomes_in b) ≡ places_in b = length_pairs (drop 1 b) ∙ ap (λ k. k / 2) (length-drop 1 b) in
      let old : states_of c ≡ done ++ Open as' ∷ [] = ap (λ l. done ++ l) last in
      let new : done ++ map (with_action a) c.latest ≡ done ++ Open (as' ++ a ∷ []) ∷ [] = ap (λ l. done ++ map (with_action a) l) last in
      let count_old : length (states_of c) ≡ length done + 1 = ap length old ∙ length_push done (Open as') in
      let count_new : length (done ++ map (with_action a) c.latest) ≡ length done + 1 = ap length new ∙ length_push done (Open (as' ++ a ∷ [])) in
      let actions_old = ap (λ l. length (flat_map actions l)) old ∙ actions_more done (Open as') in
      let actions_new = ap (λ l. length (flat_map actions l)) new ∙ actions_more done (Open (as' ++ a ∷ [])) in
      let outcomes_old = ap (λ l. length (flat_map outcomes (flat_map actions l))) old ∙ outcomes_more done (Open as') in
      let outcomes_new = ap (λ l. length (flat_map outcomes (flat_map actions l))) new ∙ outcomes_more done (Open (as' ++ a ∷ [])) in
      let one_more = length_push as' a in
      let places_more : length (flat_map outcomes (as' ++ a ∷ [])) ≡ length (flat_map outcomes as') + length (outcomes_in b) = ap length (joined_push outcomes as' a) ∙ length-append (flat_map outcomes as') (outcomes_in b) in
      let parts = all_parts (StateRight n) done (Open as' ∷ []) (subst (AllByRecursion (StateRight n)) old f.states_right) in
      let action : ActionRight n a = (h5, omega arith, omega arith, subst (λ k. rising k 0 (outcomes_in b) ≡ true) f.count_is h6) in
      let state : StateRight n (Open (as' ++ a ∷ [])) = (omega arith, All-push (ActionRight n) as' a parts.1.0.1 action) in
      record {
        count_is = f.count_is;
        task_is = f.task_is;
        states_is = f.states_is ∙ count_old ∙ sym count_new;
        room_is = inr (as' ++ a ∷ [], (ap (map (with_action a)) last, omega arith));
        actions_is = omega (arith, f.actions_is, actions_old, actions_new, one_more);
        outcomes_is = omega (arith, f.outcomes_is, outcomes_old, outcomes_new, places_more, places);
        count_few = f.count_few;
        states_few = omega (arith, count_old, count_new, f.states_few);
        tasks_few = f.tasks_few;
        unread = f.unread;
        prices_right = f.prices_right;
        states_right = subst (AllByRecursion (StateRight n)) (sym new) (All-push (StateRight n) done (Open (as' ++ a ∷ [])) parts.0 state);
      }

  grow_kind : {t : ℕ} → Kind d b t → Follows (after d (block t b)) (grow c (block t b))
  grow_kind (states_kind h1 h2 h3 h4) = grow_states h1 h3 h4
  grow_kind (price_kind h1 h2 h3 h4 h5 h6 h7) = grow_price h1 h4 h5 h6 h7
  grow_kind (end_kind h1 h2 h3) = grow_state (End (end_cost_in b)) 0 h1 refl h3 (inl refl)
  grow_kind (open_kind h1 h2) = grow_state (Open []) 16 h1 refl (omega arith, tt) (inr ([], (refl, refl)))
  grow_kind (action_kind h1 h2 h3 h4 h5 h6) =
      ⊎_elim (λ none. absurd (omega arith)) (λ r. grow_action r.0 r.1.0 r.1.1 h1 h2 h3 h4 h5 h6) f.room_is

-- One field more of which nothing is wrong.
pub grow_follows : (d : Stage) (c : Content) (f : Block) → Follows d c → cause_of d f ≡ None → Follows (after d f) (grow c f)
grow_follows d c (block t b) f e = grow_kind d c b f (kind_of d b t e)

-- Any number of fields more.
pub follows_all : (d : Stage) (c : Content) (fs : List Block) → Follows d c → Right d fs → Follows (after_all d fs) (grow_all c fs)
follows_all d c [] f r = f
follows_all d c (g ∷ fs) f r = follows_all (after d g) (grow c g) fs (grow_follows d c g f r.0) r.1

-- Nothing was read, and nothing is said.
pub nothing_follows : Follows beginning nothing
nothing_follows =
    record {
      count_is = refl;
      task_is = refl;
      states_is = refl;
      room_is = inl refl;
      actions_is = refl;
      outcomes_is = refl;
      count_few = omega arith;
      states_few = omega arith;
      tasks_few = omega arith;
      unread = λ e. refl;
      prices_right = tt;
      states_right = tt;
    }

pub right_follows : (fs : List Block) → Right beginning fs → Follows (after_all beginning fs) (grow_all nothing fs)
right_follows fs r = follows_all beginning nothing fs nothing_follows r
