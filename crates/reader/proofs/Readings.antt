-- What was read from right fields up to the last state.
use Rattle.std.proofs.Common.{◌≡◌, ℕ, ◌<◌, ◌≤◌, true, ltb, List, [], ◌++◌, length, take, drop, replicate, Some, Option, sym, refl, ap, ◌∙◌, subst}
use Rattle.std.specs.List.{flat_map, AllByRecursion}
use Rattle.std.proofs.ByRecursion.{All-weaker}
use Rattle.std.proofs.lemmas.List.{take_at, drop_at}
use Rattle.std.proofs.lemmas.Bool.{lt-ltb, le-ltb}
use Rattle.model.specs.Firsts.{when, first_of}
use Rattle.model.specs.Meaning.{Action, Barred, Free, State, End, Open, is_free, actions, outcomes}
use Rattle.sheet.specs.Blocks.{Block, blocks_bytes}
use Rattle.sheet.specs.Sheets.{Stands}
use Rattle.sheet.specs.Stages.{Stage, beginning, all_read}
use Rattle.sheet.specs.declared.faults.SheetFault.TheVariants.{Short}
use Rattle.sheet.proofs.Completing.{whole_writable}
use Rattle.sheet.proofs.Contents.{nothing, grow_all, model_in, prices_in, ActionRight, StateRight}
use Rattle.sheet.proofs.Growing.{right_follows}
use Rattle.table.specs.Tables.{table_meaning}
use Rattle.reader.specs.Puts.{Filled, put_all, put_state, put_action, put_outcomes, put_price}
use Rattle.reader.specs.Reads.{Whole, size_of, stage_size, first_short, Refuses, Tables, tables_model, ReadInto}
use Rattle.reader.specs.declared.sizes.Size.{Size}
use Rattle.reader.proofs.Laying.{Laid, Fits, all_laid}
use Rattle.reader.proofs.Layouts.{Unbarred, state_rows, action_rows, length_state_rows, length_action_rows, states_mean}

-- The first table that is too short, by what is known of each.
module _ (needed room : Size) where
  abbrev later_short : Option ℕ
  later_short = first_of (when (ltb room.actions needed.actions) 1) (when (ltb room.outcomes needed.outcomes) 2)

  states_enough : needed.states ≤ room.states → first_short needed room ≡ later_short
  states_enough s = ap (λ x. first_of (when x 0) later_short) (le-ltb room.states needed.states s)

  pub short_states : room.states < needed.states → first_short needed room ≡ Some 0
  short_states h = ap (λ x. first_of (when x 0) later_short) (lt-ltb room.states needed.states h)

  pub short_actions : needed.states ≤ room.states → room.actions < needed.actions → first_short needed room ≡ Some 1
  short_actions s h =
      states_enough s ∙ ap (λ x. first_of (when x 1) (when (ltb room.outcomes needed.outcomes) 2)) (lt-ltb room.actions needed.actions h)

  pub short_outcomes : needed.states ≤ room.states → needed.actions ≤ room.actions → room.outcomes < needed.outcomes → first_short needed room ≡ Some 2
  short_outcomes s a h =
      states_enough s
      ∙ ap (λ x. first_of (when x 1) (when (ltb room.outcomes needed.outcomes) 2)) (le-ltb room.actions needed.actions a)
      ∙ ap (λ x. when x 2) (lt-ltb room.outcomes needed.outcomes h)

free_action : (n : ℕ) (x : Action) → ActionRight n x → is_free x ≡ true
free_action n Barred right = absurd right
free_action n (Free t os) right = refl

free_state : (n : ℕ) (s : State) → StateRight n s → Unbarred s
free_state n (End c) right = tt
free_state n (Open as') right = All-weaker (ActionRight n) (λ x. is_free x ≡ true) (free_action n) as' right.1

module _ (bytes : List ℕ) (small : AllByRecursion (λ x. x < 256) bytes) (d : Stage) (whole : Whole bytes d) where
  abbrev fs : List Block
  fs = whole.blocks

  -- The bytes are the sheet of the model and the prices that the fields say.
  pub stood : Stands bytes (model_in whole.blocks) (prices_in whole.blocks)
  stood =
      let made = whole_writable fs (subst (AllByRecursion (λ x. x < 256)) whole.same small) whole.right (subst (λ e. all_read e ≡ true) whole.known whole.read) in
      record { writable = made.0; same = whole.same ∙ ap blocks_bytes (sym made.1); few = whole.few }

  -- The stage counts that model.
  pub size_counted : stage_size d ≡ size_of (model_in whole.blocks)
  size_counted =
      let follows = right_follows fs whole.right in
      let states : d.states ≡ length (model_in fs) = ap (λ e. e.states) whole.known ∙ follows.states_is in
      let acts : d.actions ≡ length (flat_map actions (model_in fs)) = ap (λ e. e.actions) whole.known ∙ follows.actions_is in
      let outs : d.outcomes ≡ length (flat_map outcomes (flat_map actions (model_in fs))) = ap (λ e. e.outcomes) whole.known ∙ follows.outcomes_is in
      cc

  -- A table that is too short for the stage is so for the model.
  pub short_refused : (room : Size) (list : ℕ) → first_short (stage_size d) room ≡ Some list → Refuses bytes room (Short list)
  short_refused room list e =
      (model_in fs, (prices_in fs, (stood, ap (λ s. first_short s room) (sym size_counted) ∙ e)))

  module _ (old new : Tables) (fits : Fits d old.rows old.acts old.outs) (filled : Filled whole.blocks old.rows old.acts old.outs new.rows new.acts new.outs new.prices) where
    abbrev m : List State
    m = model_in fs

    laid : Laid (grow_all nothing fs) old.rows old.acts old.outs (put_all put_state beginning fs old.rows) (put_all put_action beginning fs old.acts) (put_all put_outcomes beginning fs old.outs) (put_all put_price beginning fs (replicate 64 1))
    laid = all_laid fs old.rows old.acts old.outs whole.right (subst (λ e. Fits e old.rows old.acts old.outs) whole.known fits)

    rows_are : new.rows ≡ state_rows 0 m ++ drop (length m) old.rows
    rows_are = filled.states ∙ laid.states_laid

    acts_are : new.acts ≡ action_rows 0 (flat_map actions m) ++ drop (length (flat_map actions m)) old.acts
    acts_are = filled.actions ∙ laid.actions_laid

    outs_are : new.outs ≡ flat_map outcomes (flat_map actions m) ++ drop (length (flat_map outcomes (flat_map actions m))) old.outs
    outs_are = filled.outcomes ∙ laid.outcomes_laid

    prices_are : new.prices ≡ prices_in fs
    prices_are = filled.prices ∙ laid.prices_laid

    -- The tables mean that model.
    means : tables_model d.states new ≡ m
    means =
        let n : d.states ≡ length m = ap (λ s. s.states) size_counted in
        let first : take d.states new.rows ≡ state_rows 0 m =
        ap (take d.states) rows_are ∙ take_at (state_rows 0 m) (drop (length m) old.rows) d.states (length_state_rows 0 m ∙ sym n) in
        let free = All-weaker (StateRight _) Unbarred (free_state _) m (right_follows fs whole.right).states_right in
        ap (λ l. table_meaning l new.acts new.outs) first
        ∙ ap (λ l. table_meaning (state_rows 0 m) l new.outs) acts_are
        ∙ ap (table_meaning (state_rows 0 m) (action_rows 0 (flat_map actions m) ++ drop (length (flat_map actions m)) old.acts)) outs_are
        ∙ states_mean m [] (drop (length (flat_map actions m)) old.acts) [] (drop (length (flat_map outcomes (flat_map actions m))) old.outs) free

    -- What lies past the front that was written.
    past : {X : Type 0} (front old' new' : List X) (n k : ℕ) → new' ≡ front ++ drop k old' → length front ≡ k → n ≡ k → drop n new' ≡ drop n old'
    past front old' new' n k is len same =
        ap (λ i. drop i new') same ∙ ap (drop k) is ∙ drop_at front (drop k old') k len ∙ ap (λ i. drop i old') (sym same)

    pub read_into : ReadInto bytes (stage_size d) old new
    read_into =
        record {
          stands = subst (λ l. Stands bytes l new.prices) (sym means) (subst (Stands bytes m) (sym prices_are) stood);
          size_is = size_counted ∙ ap size_of (sym means);
          states_rest = past (state_rows 0 m) old.rows new.rows d.states (length m) rows_are (length_state_rows 0 m) (ap (λ s. s.states) size_counted);
          actions_rest = past (action_rows 0 (flat_map actions m)) old.acts new.acts d.actions (length (flat_map actions m)) acts_are (length_action_rows 0 (flat_map actions m)) (ap (λ s. s.actions) size_counted);
          outcomes_rest = past (flat_map outcomes (flat_map actions m)) old.outs new.outs d.outcomes (length (flat_map outcomes (flat_map actions m))) outs_are refl (ap (λ s. s.outcomes) size_counted);
        }
