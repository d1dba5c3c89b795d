-- Where the states, actions and outcomes of a model go in tables, and that the tables then mean it.
use Rattle.std.proofs.Common.{◌≡◌, ℕ, ◌+◌, true, cond, List, [], ◌∷◌, ◌++◌, map, length, take, sym, refl, ap, ◌∙◌, append_assoc, add-zero, arith, length-append}
use Rattle.std.specs.List.{flat_map, AllByRecursion}
use Rattle.std.proofs.lemmas.List.{take_at, drop_at}
use Rattle.model.specs.Meaning.{Action, Barred, Free, State, End, Open, is_free, task, actions, outcomes}
use Rattle.std.proofs.lemmas.Grind.{flat_map-append}
use Rattle.table.specs.Tables.{part, table_action, table_meaning}
use Rattle.table.specs.declared.tables.ActionRow.{ActionRow}
use Rattle.table.specs.declared.tables.StateRow.{StateRow}
use Rattle.table.specs.declared.tables.StateRow.TheVariants as row
use Rattle.table.proofs.Parts.{part_within}
use Rattle.reader.specs.Puts.{span}

-- The row of an action whose outcomes begin at a place.
abbrev pub action_row : ℕ → Action → ActionRow
action_row o x = record { task = task x; outcomes = span o (length (outcomes x)) }

-- The rows of actions, whose outcomes follow one another from a place on.
abbrev pub action_rows : ℕ → List Action → List ActionRow
action_rows o [] = []
action_rows o (x ∷ xs) = action_row o x ∷ action_rows (o + length (outcomes x)) xs

-- The row of a state whose actions begin at a place.
abbrev pub state_row : ℕ → State → StateRow
state_row a (End c) = row.End c
state_row a (Open as') = row.Open (span a (length as'))

-- The rows of states, whose actions follow one another from a place on.
abbrev pub state_rows : ℕ → List State → List StateRow
state_rows a [] = []
state_rows a (s ∷ ss) = state_row a s ∷ state_rows (a + length (actions s)) ss

-- No action of a state is barred.
abbrev pub Unbarred : State → Type 0
Unbarred s = AllByRecursion (λ x. is_free x ≡ true) (actions s)

pub length_state_rows : (a : ℕ) (ss : List State) → length (state_rows a ss) ≡ length ss
length_state_rows a [] = refl
length_state_rows a (s ∷ ss) = omega (arith, length_state_rows (a + length (actions s)) ss)

pub length_action_rows : (o : ℕ) (xs : List Action) → length (action_rows o xs) ≡ length xs
length_action_rows o [] = refl
length_action_rows o (x ∷ xs) = omega (arith, length_action_rows (o + length (outcomes x)) xs)

pub action_rows_append : (o : ℕ) (xs ys : List Action) → action_rows o (xs ++ ys) ≡ action_rows o xs ++ action_rows (o + length (flat_map outcomes xs)) ys
action_rows_append o [] ys = ap (λ i. action_rows i ys) (sym (add-zero o))
action_rows_append o (x ∷ xs) ys =
    let next = o + length (outcomes x) in
    ap (λ l. action_row o x ∷ l)
    (action_rows_append next xs ys
    ∙ ap (λ i. action_rows next xs ++ action_rows i ys) (omega (arith, length-append (outcomes x) (flat_map outcomes xs))))

pub state_rows_append : (a : ℕ) (xs ys : List State) → state_rows a (xs ++ ys) ≡ state_rows a xs ++ state_rows (a + length (flat_map actions xs)) ys
state_rows_append a [] ys = ap (λ i. state_rows i ys) (sym (add-zero a))
state_rows_append a (x ∷ xs) ys =
    let next = a + length (actions x) in
    ap (λ l. state_row a x ∷ l)
    (state_rows_append next xs ys
    ∙ ap (λ i. state_rows next xs ++ state_rows i ys) (omega (arith, length-append (actions x) (flat_map actions xs))))

-- A span that names the middle of a table.
pub part_middle : {X : Type 0} (front middle back : List X) (first count : ℕ) → length front ≡ first → length middle ≡ count → part (front ++ (middle ++ back)) (span first count) ≡ middle
part_middle front middle back first count f m =
    part_within (front ++ (middle ++ back)) (span first count) (omega (arith, length-append front (middle ++ back), length-append middle back))
    ∙ ap (take count) (drop_at front (middle ++ back) first f)
    ∙ take_at middle back count m

-- The rows of actions mean the actions, in a table of outcomes that holds theirs.
pub actions_mean : (front back : List ℕ) (xs : List Action) → AllByRecursion (λ x. is_free x ≡ true) xs → map (table_action (front ++ (flat_map outcomes xs ++ back))) (action_rows (length front) xs) ≡ xs
actions_mean front back [] free = refl
actions_mean front back (Barred ∷ xs) free = let z : ◌≡◌ {A = ℕ} 0 1 = ap (λ b. cond b 1 0) free.0 in absurd (omega arith)
actions_mean front back (Free t os ∷ xs) free =
    let outs = front ++ ((os ++ flat_map outcomes xs) ++ back) in
    let later : outs ≡ (front ++ os) ++ (flat_map outcomes xs ++ back) =
    ap (λ l. front ++ l) (append_assoc os (flat_map outcomes xs) back) ∙ sym (append_assoc front os (flat_map outcomes xs ++ back)) in
    let first : part outs (span (length front) (length os)) ≡ os =
    ap (λ l. part (front ++ l) (span (length front) (length os))) (append_assoc os (flat_map outcomes xs) back)
    ∙ part_middle front os (flat_map outcomes xs ++ back) (length front) (length os) refl refl in
    let rest : map (table_action outs) (action_rows (length front + length os) xs) ≡ xs =
    ap (λ l. map (table_action l) (action_rows (length front + length os) xs)) later
    ∙ ap (λ i. map (table_action ((front ++ os) ++ (flat_map outcomes xs ++ back))) (action_rows i xs)) (sym (length-append front os))
    ∙ actions_mean (front ++ os) back xs free.1 in
    ap (λ l. Free t l ∷ map (table_action outs) (action_rows (length front + length os) xs)) first ∙ ap (λ l. Free t os ∷ l) rest

-- The tables of a state and others: those of the state come first.
module _ (before acts : List ActionRow) (front back : List ℕ) (xs ys : List Action) where
  abbrev own : List ActionRow
  own = action_rows (length front) xs

  abbrev later : List ActionRow
  later = action_rows (length (front ++ flat_map outcomes xs)) ys

  pub outcomes_split : front ++ (flat_map outcomes (xs ++ ys) ++ back) ≡ front ++ (flat_map outcomes xs ++ (flat_map outcomes ys ++ back))
  outcomes_split = ap (λ l. front ++ l) (ap (λ l. l ++ back) (flat_map-append outcomes xs ys) ∙ append_assoc (flat_map outcomes xs) (flat_map outcomes ys) back)

  pub outcomes_later : front ++ (flat_map outcomes (xs ++ ys) ++ back) ≡ (front ++ flat_map outcomes xs) ++ (flat_map outcomes ys ++ back)
  outcomes_later = outcomes_split ∙ sym (append_assoc front (flat_map outcomes xs) (flat_map outcomes ys ++ back))

  pub actions_split : before ++ (action_rows (length front) (xs ++ ys) ++ acts) ≡ before ++ (action_rows (length front) xs ++ (action_rows (length (front ++ flat_map outcomes xs)) ys ++ acts))
  actions_split =
      let rows : action_rows (length front) (xs ++ ys) ≡ own ++ later =
      action_rows_append (length front) xs ys ∙ ap (λ i. own ++ action_rows i ys) (sym (length-append front (flat_map outcomes xs))) in
      ap (λ l. before ++ l) (ap (λ l. l ++ acts) rows ∙ append_assoc own later acts)

  pub actions_later : before ++ (action_rows (length front) (xs ++ ys) ++ acts) ≡ (before ++ action_rows (length front) xs) ++ (action_rows (length (front ++ flat_map outcomes xs)) ys ++ acts)
  actions_later = actions_split ∙ sym (append_assoc before own (later ++ acts))

  -- The actions of the state, as its row names them.
  pub state_means : AllByRecursion (λ x. is_free x ≡ true) xs → map (table_action (front ++ (flat_map outcomes (xs ++ ys) ++ back))) (part (before ++ (action_rows (length front) (xs ++ ys) ++ acts)) (span (length before) (length xs))) ≡ xs
  state_means free =
      let outs = front ++ (flat_map outcomes (xs ++ ys) ++ back) in
      let named : part (before ++ (action_rows (length front) (xs ++ ys) ++ acts)) (span (length before) (length xs)) ≡ own =
      ap (λ l. part l (span (length before) (length xs))) actions_split
      ∙ part_middle before own (later ++ acts) (length before) (length xs) refl (length_action_rows (length front) xs) in
      ap (map (table_action outs)) named
      ∙ ap (λ l. map (table_action l) own) outcomes_split
      ∙ actions_mean front (flat_map outcomes ys ++ back) xs free

-- Rows mean the states, in tables that hold their actions and outcomes from two places on.
abbrev Mean : List State → List ActionRow → List ActionRow → List ℕ → List ℕ → Type 0
Mean ss before acts front back =
    table_meaning (state_rows (length before) ss) (before ++ (action_rows (length front) (flat_map actions ss) ++ acts)) (front ++ (flat_map outcomes (flat_map actions ss) ++ back)) ≡ ss

-- The states after the first mean the same in the tables of all.
others_mean : (before acts : List ActionRow) (front back : List ℕ) (xs : List Action) (ss : List State) → Mean ss (before ++ action_rows (length front) xs) acts (front ++ flat_map outcomes xs) back → table_meaning (state_rows (length before + length xs) ss) (before ++ (action_rows (length front) (xs ++ flat_map actions ss) ++ acts)) (front ++ (flat_map outcomes (xs ++ flat_map actions ss) ++ back)) ≡ ss
others_mean before acts front back xs ss mean =
    let J = flat_map actions ss in
    let own = action_rows (length front) xs in
    let place : length before + length xs ≡ length (before ++ own) = omega (arith, length-append before own, length_action_rows (length front) xs) in
    ap (λ l. table_meaning (state_rows (length before + length xs) ss) l (front ++ (flat_map outcomes (xs ++ J) ++ back))) (actions_later before acts front back xs J)
    ∙ ap (λ l. table_meaning (state_rows (length before + length xs) ss) ((before ++ own) ++ (action_rows (length (front ++ flat_map outcomes xs)) J ++ acts)) l) (outcomes_later before acts front back xs J)
    ∙ ap (λ i. table_meaning (state_rows i ss) ((before ++ own) ++ (action_rows (length (front ++ flat_map outcomes xs)) J ++ acts)) ((front ++ flat_map outcomes xs) ++ (flat_map outcomes J ++ back))) place
    ∙ mean

pub states_mean : (ss : List State) (before acts : List ActionRow) (front back : List ℕ) → AllByRecursion Unbarred ss → Mean ss before acts front back
states_mean [] before acts front back free = refl
states_mean (End c ∷ ss) before acts front back free =
    ap (λ l. End c ∷ l) (others_mean before acts front back [] ss (states_mean ss (before ++ []) acts (front ++ []) back free.1))
states_mean (Open as' ∷ ss) before acts front back free =
    let own = action_rows (length front) as' in
    ap (λ l. Open l ∷ table_meaning (state_rows (length before + length as') ss) (before ++ (action_rows (length front) (as' ++ flat_map actions ss) ++ acts)) (front ++ (flat_map outcomes (as' ++ flat_map actions ss) ++ back)))
    (state_means before acts front back as' (flat_map actions ss) free.0)
    ∙ ap (λ l. Open as' ∷ l) (others_mean before acts front back as' ss (states_mean ss (before ++ own) acts (front ++ flat_map outcomes as') back free.1))
