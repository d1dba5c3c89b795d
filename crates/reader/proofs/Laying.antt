-- Tables hold what was said so far, after each field.
use Rattle.std.proofs.Common.{◌≡◌, ℕ, ◌+◌, ◌-◌, ◌<◌, ◌≤◌, eqb, ltb, leb, List, [], ◌∷◌, ◌++◌, map, length, get_or, drop, set, replicate, sym, refl, ap, ◌∙◌, ⊎_elim, append_assoc, zero-add, arith, length-append}
use Rattle.std.specs.List.{flat_map}
use Rattle.std.proofs.lemmas.List.{append-nil, set_at}
use Rattle.std.proofs.lemmas.Bool.{cond-true, cond_both, and_from, le-leb, lt-ltb}
use Rattle.model.specs.Meaning.{Action, Free, State, End, Open, actions, outcomes}
use Rattle.sheet.specs.Blocks.{Block, block}
use Rattle.sheet.specs.Stages.{Stage, beginning, pair_at, end_cost_in, outcomes_in, places_in, after, after_all, Right}
use Rattle.sheet.proofs.Contents.{Content, nothing, with_action, grow, grow_all, states_of, prices_of, Follows}
use Rattle.sheet.proofs.FieldKinds.{Kind, states_kind, price_kind, end_kind, open_kind, action_kind, kind_of}
use Rattle.sheet.proofs.Growing.{grow_follows, nothing_follows}
use Rattle.sheet.proofs.PairReads.{length_outcomes}
use Rattle.sheet.proofs.Runs.{joined_push}
use Rattle.table.specs.declared.tables.ActionRow.{ActionRow}
use Rattle.table.specs.declared.tables.StateRow.{StateRow}
use Rattle.table.specs.declared.tables.StateRow.TheVariants as row
use Rattle.reader.specs.Puts.{span, put_all, put_state, put_action, put_outcomes, put_price, sets}
use Rattle.reader.proofs.Layouts.{action_row, action_rows, state_row, state_rows, length_state_rows, length_action_rows, action_rows_append, state_rows_append}
use Rattle.reader.proofs.Places.{set_next, sets_next, price_next}

-- The tables hold the states so far, then what they held before; the prices are those so far.
abbrev Rows : List State → List StateRow → List StateRow
Rows ss old = state_rows 0 ss ++ drop (length ss) old

abbrev Acts : List Action → List ActionRow → List ActionRow
Acts xs old = action_rows 0 xs ++ drop (length xs) old

abbrev Outs : List ℕ → List ℕ → List ℕ
Outs os old = os ++ drop (length os) old

pub record Laid (c : Content) (rows₀ : List StateRow) (acts₀ : List ActionRow) (outs₀ : List ℕ) (rows : List StateRow) (acts : List ActionRow) (outs ps : List ℕ) : Type 0 where
  pub states_laid : rows ≡ state_rows 0 (states_of c) ++ drop (length (states_of c)) rows₀
  pub actions_laid : acts ≡ action_rows 0 (flat_map actions (states_of c)) ++ drop (length (flat_map actions (states_of c))) acts₀
  pub outcomes_laid : outs ≡ flat_map outcomes (flat_map actions (states_of c)) ++ drop (length (flat_map outcomes (flat_map actions (states_of c)))) outs₀
  pub prices_laid : ps ≡ prices_of c

-- The tables are long enough for what a stage counts.
pub record Fits (d : Stage) (rows₀ : List StateRow) (acts₀ : List ActionRow) (outs₀ : List ℕ) : Type 0 where
  pub states_fit : d.states ≤ length rows₀
  pub actions_fit : d.actions ≤ length acts₀
  pub outcomes_fit : d.outcomes ≤ length outs₀

-- A state that has no actions yet goes to the next row.
new_state : (ss : List State) (s : State) (old : List StateRow) → length ss < length old → set (Rows ss old) (length ss) (state_row (length (flat_map actions ss)) s) ≡ Rows (ss ++ s ∷ []) old
new_state ss s old h =
    let n = length ss in
    let r = state_row (length (flat_map actions ss)) s in
    set_next (state_rows 0 ss) old r n (length_state_rows 0 ss) h
    ∙ ap (λ l. l ++ drop (n + 1) old) (sym (state_rows_append 0 ss (s ∷ []) ∙ ap (λ i. state_rows 0 ss ++ state_rows i (s ∷ [])) (zero-add (length (flat_map actions ss)))))
    ∙ ap (λ i. state_rows 0 (ss ++ s ∷ []) ++ drop i old) (sym (length-append ss (s ∷ [])))

-- One action more is counted in the row of the latest state.
more_action : (ss : List State) (xs : List Action) (x : Action) (old : List StateRow) → set (Rows (ss ++ Open xs ∷ []) old) (length ss) (row.Open (span (length (flat_map actions ss)) (length xs + 1))) ≡ Rows (ss ++ Open (xs ++ x ∷ []) ∷ []) old
more_action ss xs x old =
    let a = length (flat_map actions ss) in
    let front = state_rows 0 ss in
    let rows : (ys : List Action) → state_rows 0 (ss ++ Open ys ∷ []) ≡ front ++ row.Open (span a (length ys)) ∷ [] = λ ys.
    state_rows_append 0 ss (Open ys ∷ []) ∙ ap (λ i. front ++ state_rows i (Open ys ∷ [])) (zero-add a) in
    let same : (ys : List Action) → length (ss ++ Open ys ∷ []) ≡ length ss + 1 = λ ys. length-append ss (Open ys ∷ []) in
    let whole : (ys : List Action) → Rows (ss ++ Open ys ∷ []) old ≡ front ++ row.Open (span a (length ys)) ∷ drop (length ss + 1) old = λ ys.
    ap (λ l. l ++ drop (length (ss ++ Open ys ∷ [])) old) (rows ys)
    ∙ ap (λ i. (front ++ row.Open (span a (length ys)) ∷ []) ++ drop i old) (same ys)
    ∙ append_assoc front (row.Open (span a (length ys)) ∷ []) (drop (length ss + 1) old) in
    ap (λ l. set l (length ss) (row.Open (span a (length xs + 1)))) (whole xs)
    ∙ set_at front (row.Open (span a (length xs))) (drop (length ss + 1) old) (row.Open (span a (length xs + 1))) (length ss) (length_state_rows 0 ss)
    ∙ ap (λ k. front ++ row.Open (span a k) ∷ drop (length ss + 1) old) (sym (length-append xs (x ∷ [])))
    ∙ sym (whole (xs ++ x ∷ []))

-- An action goes to the next row.
new_action : (xs : List Action) (x : Action) (old : List ActionRow) → length xs < length old → set (Acts xs old) (length xs) (action_row (length (flat_map outcomes xs)) x) ≡ Acts (xs ++ x ∷ []) old
new_action xs x old h =
    let n = length xs in
    set_next (action_rows 0 xs) old (action_row (length (flat_map outcomes xs)) x) n (length_action_rows 0 xs) h
    ∙ ap (λ l. l ++ drop (n + 1) old) (sym (action_rows_append 0 xs (x ∷ []) ∙ ap (λ i. action_rows 0 xs ++ action_rows i (x ∷ [])) (zero-add (length (flat_map outcomes xs)))))
    ∙ ap (λ i. action_rows 0 (xs ++ x ∷ []) ++ drop i old) (sym (length-append xs (x ∷ [])))

-- The outcomes of an action go to the next places.
new_outcomes : (xs : List Action) (x : Action) (old : List ℕ) → length (flat_map outcomes xs) + length (outcomes x) ≤ length old → sets (Outs (flat_map outcomes xs) old) (length (flat_map outcomes xs)) (outcomes x) ≡ Outs (flat_map outcomes (xs ++ x ∷ [])) old
new_outcomes xs x old h =
    let os = flat_map outcomes xs in
    sets_next (outcomes x) os old (length os) refl h
    ∙ ap (λ i. (os ++ outcomes x) ++ drop i old) (sym (length-append os (outcomes x)))
    ∙ ap (λ l. l ++ drop (length l) old) (sym (joined_push outcomes xs x))

-- A state without actions adds none.
none_added : (ss : List State) (s : State) → actions s ≡ [] → flat_map actions (ss ++ s ∷ []) ≡ flat_map actions ss
none_added ss s none = joined_push actions ss s ∙ ap (λ l. flat_map actions ss ++ l) none ∙ append-nil (flat_map actions ss)

-- One action more of the latest state is one more of all.
one_added : (ss : List State) (xs : List Action) (x : Action) → flat_map actions (ss ++ Open (xs ++ x ∷ []) ∷ []) ≡ flat_map actions (ss ++ Open xs ∷ []) ++ x ∷ []
one_added ss xs x =
    joined_push actions ss (Open (xs ++ x ∷ []))
    ∙ sym (append_assoc (flat_map actions ss) xs (x ∷ []))
    ∙ ap (λ l. l ++ x ∷ []) (sym (joined_push actions ss (Open xs)))

module _ (d : Stage) (c : Content) (follows : Follows d c) (b : List ℕ) (rows₀ : List StateRow) (acts₀ : List ActionRow) (outs₀ : List ℕ) {rows : List StateRow} {acts : List ActionRow} {outs ps : List ℕ} (laid : Laid c rows₀ acts₀ outs₀ rows acts outs ps) where
  -- A state that has no actions yet is laid in the table of states.
  state_laid : (s : State) → d.states + 1 ≤ length rows₀ → set rows d.states (state_row d.actions s) ≡ Rows (states_of c ++ s ∷ []) rows₀
  state_laid s h =
      let ss = states_of c in
      ap (λ l. set l d.states (state_row d.actions s)) laid.states_laid
      ∙ ap (λ i. set (Rows ss rows₀) i (state_row d.actions s)) follows.states_is
      ∙ ap (λ i. set (Rows ss rows₀) (length ss) (state_row i s)) follows.actions_is
      ∙ new_state ss s rows₀ (omega (arith, follows.states_is))

  -- It changes no other table.
  actions_kept : (s : State) → actions s ≡ [] → acts ≡ Acts (flat_map actions (states_of c ++ s ∷ [])) acts₀
  actions_kept s none = laid.actions_laid ∙ ap (λ l. Acts l acts₀) (sym (none_added (states_of c) s none))

  outcomes_kept : (s : State) → actions s ≡ [] → outs ≡ Outs (flat_map outcomes (flat_map actions (states_of c ++ s ∷ []))) outs₀
  outcomes_kept s none = laid.outcomes_laid ∙ ap (λ l. Outs (flat_map outcomes l) outs₀) (sym (none_added (states_of c) s none))

  -- A price is laid in the list of prices.
  price_laid : d.task ≤ get_or b 0 0 → get_or b 0 0 ≤ 63 → 2 ≤ pair_at b 1 → pair_at b 1 ≤ 10000 → put_price d (block 2 b) ps ≡ prices_of (grow c (block 2 b))
  price_laid low high least most =
      let t = get_or b 0 0 in
      let p = pair_at b 1 in
      let within = and_from (ltb t 64) _ (lt-ltb t 64 (omega arith)) (and_from (leb 1 p) (leb p 10000) (le-leb 1 p (omega arith)) (le-leb p 10000 most)) in
      cond-true _ (set ps t p) ps within
      ∙ ap (λ l. set l t p) laid.prices_laid
      ∙ price_next c.prices t p (omega (arith, follows.task_is)) (omega arith)

  -- An action is laid in all three tables.
  module _ (xs : List Action) (latest : c.latest ≡ Open xs ∷ []) (room : d.room + length xs ≡ 16) where
    abbrev x : Action
    x = Free (get_or b 0 0) (outcomes_in b)

    abbrev acted : List Action
    acted = flat_map actions (states_of c)

    before : states_of c ≡ c.done ++ Open xs ∷ []
    before = ap (λ l. c.done ++ l) latest

    after_it : c.done ++ map (with_action x) c.latest ≡ c.done ++ Open (xs ++ x ∷ []) ∷ []
    after_it = ap (λ l. c.done ++ map (with_action x) l) latest

    added : acted ++ x ∷ [] ≡ flat_map actions (c.done ++ map (with_action x) c.latest)
    added = ap (λ l. flat_map actions l ++ x ∷ []) before ∙ sym (one_added c.done xs x) ∙ ap (flat_map actions) (sym after_it)

    row_laid : put_state d (block 5 b) rows ≡ Rows (c.done ++ map (with_action x) c.latest) rows₀
    row_laid =
        let place : d.states - 1 ≡ length c.done = omega (arith, follows.states_is, ap length before, length-append c.done (Open xs ∷ [])) in
        let earlier : 16 - d.room ≡ length xs = omega arith in
        let counted : d.actions ≡ length (flat_map actions c.done) + length xs =
        follows.actions_is ∙ ap (λ l. length (flat_map actions l)) before ∙ ap length (joined_push actions c.done (Open xs)) ∙ length-append (flat_map actions c.done) xs in
        let first : d.actions - (16 - d.room) ≡ length (flat_map actions c.done) = omega arith in
        let more : 16 - d.room + 1 ≡ length xs + 1 = omega arith in
        let new = row.Open (span (length (flat_map actions c.done)) (length xs + 1)) in
        ap (λ k. set rows (d.states - 1) (row.Open (span (d.actions - (16 - d.room)) k))) more
        ∙ ap (λ i. set rows (d.states - 1) (row.Open (span i (length xs + 1)))) first
        ∙ ap (λ i. set rows i new) place
        ∙ ap (λ l. set l (length c.done) new) (laid.states_laid ∙ ap (λ l. Rows l rows₀) before)
        ∙ more_action c.done xs x rows₀
        ∙ ap (λ l. Rows l rows₀) (sym after_it)

    action_laid : d.actions + 1 ≤ length acts₀ → put_action d (block 5 b) acts ≡ Acts (flat_map actions (c.done ++ map (with_action x) c.latest)) acts₀
    action_laid h =
        ap (λ k. set acts d.actions (record { task = get_or b 0 0; outcomes = span d.outcomes k })) (sym (length_outcomes b))
        ∙ ap (λ o. set acts d.actions (action_row o x)) follows.outcomes_is
        ∙ ap (λ i. set acts i (action_row (length (flat_map outcomes acted)) x)) follows.actions_is
        ∙ ap (λ l. set l (length acted) (action_row (length (flat_map outcomes acted)) x)) laid.actions_laid
        ∙ new_action acted x acts₀ (omega (arith, follows.actions_is))
        ∙ ap (λ l. Acts l acts₀) added

    outcomes_put : d.outcomes + places_in b ≤ length outs₀ → put_outcomes d (block 5 b) outs ≡ Outs (flat_map outcomes (flat_map actions (c.done ++ map (with_action x) c.latest))) outs₀
    outcomes_put h =
        ap (λ i. sets outs i (outcomes_in b)) follows.outcomes_is
        ∙ ap (λ l. sets l (length (flat_map outcomes acted)) (outcomes_in b)) laid.outcomes_laid
        ∙ new_outcomes acted x outs₀ (omega (arith, follows.outcomes_is, length_outcomes b))
        ∙ ap (λ l. Outs (flat_map outcomes l) outs₀) added

  -- The tables hold what was said with one field more.
  lay : {t : ℕ} → Kind d b t → Fits (after d (block t b)) rows₀ acts₀ outs₀ → Laid (grow c (block t b)) rows₀ acts₀ outs₀ (put_state d (block t b) rows) (put_action d (block t b) acts) (put_outcomes d (block t b) outs) (put_price d (block t b) ps)
  lay (states_kind unread two least most) fits =
      record { states_laid = laid.states_laid; actions_laid = laid.actions_laid; outcomes_laid = laid.outcomes_laid; prices_laid = laid.prices_laid }
  lay (price_kind counted none three low high least most) fits =
      record { states_laid = laid.states_laid; actions_laid = laid.actions_laid; outcomes_laid = laid.outcomes_laid; prices_laid = price_laid low high least most }
  lay (end_kind due four most) fits =
      let s = End (end_cost_in b) in
      record { states_laid = state_laid s fits.states_fit; actions_laid = actions_kept s refl; outcomes_laid = outcomes_kept s refl; prices_laid = laid.prices_laid }
  lay (open_kind due none) fits =
      record { states_laid = state_laid (Open []) fits.states_fit; actions_laid = actions_kept (Open []) refl; outcomes_laid = outcomes_kept (Open []) refl; prices_laid = laid.prices_laid }
  lay (action_kind some odd least most task rise) fits =
      ⊎_elim
      (λ none. absurd (omega arith))
      (λ open_state.
      let xs = open_state.0 in
      let latest = open_state.1.0 in
      let room = open_state.1.1 in
      record {
        states_laid = row_laid xs latest room;
        actions_laid = action_laid xs latest room fits.actions_fit;
        outcomes_laid = outcomes_put xs latest room fits.outcomes_fit;
        prices_laid = laid.prices_laid;
      })
      follows.room_is

-- What is counted never gets less.
states_later : (d : Stage) (f : Block) → d.states ≤ (after d f).states
states_later d (block t b) =
    let n = d.states in
    cond_both (eqb t 3) (n + 1) _ (λ k. n ≤ k) (λ e. omega arith) (λ e. cond_both (eqb t 4) (n + 1) n (λ k. n ≤ k) (λ e'. omega arith) (λ e'. omega arith))

actions_later : (d : Stage) (f : Block) → d.actions ≤ (after d f).actions
actions_later d (block t b) = let n = d.actions in cond_both (eqb t 5) (n + 1) n (λ k. n ≤ k) (λ e. omega arith) (λ e. omega arith)

outcomes_later : (d : Stage) (f : Block) → d.outcomes ≤ (after d f).outcomes
outcomes_later d (block t b) = let n = d.outcomes in cond_both (eqb t 5) (n + places_in b) n (λ k. n ≤ k) (λ e. omega arith) (λ e. omega arith)

-- Tables that are long enough in the end are so before.
fits_before : (fs : List Block) (d : Stage) (rows₀ : List StateRow) (acts₀ : List ActionRow) (outs₀ : List ℕ) → Fits (after_all d fs) rows₀ acts₀ outs₀ → Fits d rows₀ acts₀ outs₀
fits_before [] d rows₀ acts₀ outs₀ fits = fits
fits_before (f ∷ fs) d rows₀ acts₀ outs₀ fits =
    let next = fits_before fs (after d f) rows₀ acts₀ outs₀ fits in
    record {
      states_fit = omega (arith, states_later d f, next.states_fit);
      actions_fit = omega (arith, actions_later d f, next.actions_fit);
      outcomes_fit = omega (arith, outcomes_later d f, next.outcomes_fit);
    }

-- The tables hold what was said after all fields.
lay_all : (fs : List Block) (d : Stage) (c : Content) (rows₀ : List StateRow) (acts₀ : List ActionRow) (outs₀ : List ℕ) {rows : List StateRow} {acts : List ActionRow} {outs ps : List ℕ} → Follows d c → Right d fs → Fits (after_all d fs) rows₀ acts₀ outs₀ → Laid c rows₀ acts₀ outs₀ rows acts outs ps → Laid (grow_all c fs) rows₀ acts₀ outs₀ (put_all put_state d fs rows) (put_all put_action d fs acts) (put_all put_outcomes d fs outs) (put_all put_price d fs ps)
lay_all [] d c rows₀ acts₀ outs₀ follows right fits laid = laid
lay_all (block t b ∷ fs) d c rows₀ acts₀ outs₀ follows right fits laid =
    let f = block t b in
    lay_all fs (after d f) (grow c f) rows₀ acts₀ outs₀ (grow_follows d c f follows right.0) right.1 fits
    (lay d c follows b rows₀ acts₀ outs₀ laid (kind_of d b t right.0) (fits_before fs (after d f) rows₀ acts₀ outs₀ fits))

pub all_laid : (fs : List Block) (rows₀ : List StateRow) (acts₀ : List ActionRow) (outs₀ : List ℕ) → Right beginning fs → Fits (after_all beginning fs) rows₀ acts₀ outs₀ → Laid (grow_all nothing fs) rows₀ acts₀ outs₀ (put_all put_state beginning fs rows₀) (put_all put_action beginning fs acts₀) (put_all put_outcomes beginning fs outs₀) (put_all put_price beginning fs (replicate 64 1))
all_laid fs rows₀ acts₀ outs₀ right fits =
    lay_all fs beginning nothing rows₀ acts₀ outs₀ nothing_follows right fits
    (record { states_laid = refl; actions_laid = refl; outcomes_laid = refl; prices_laid = refl })
