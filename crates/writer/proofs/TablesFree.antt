-- A table model bars nothing.
use Rattle.std.proofs.Common.{◌≡◌, ℕ, true, List, [], ◌∷◌, map, refl}
use Rattle.std.specs.List.{AllByRecursion}
use Rattle.std.proofs.ByRecursion.{All-get_or}
use Rattle.model.specs.Meaning.{Action, Barred, State, Open, is_free, actions, state_at, action_at}
use Rattle.model.specs.Reading.{HasAction}
use Rattle.table.specs.Tables.{part, table_action, table_state, meaning_of}
use Rattle.table.specs.declared.tables.ActionRow.{ActionRow}
use Rattle.table.specs.declared.tables.StateRow.{StateRow}
use Rattle.table.specs.declared.tables.StateRow.TheVariants as row
use Rattle.table.specs.declared.tables.TableModel.{TableModel}

IsFree : Action → Type 0
IsFree x = is_free x ≡ true

AllFree : State → Type 0
AllFree x = AllByRecursion IsFree (actions x)

actions_free : (outs : List ℕ) (rows : List ActionRow) → AllByRecursion IsFree (map (table_action outs) rows)
unfolding IsFree
actions_free outs [] = tt
actions_free outs (r ∷ rows) = (refl, actions_free outs rows)

state_free : (acts : List ActionRow) (outs : List ℕ) (r : StateRow) → AllFree (table_state acts outs r)
unfolding AllFree
state_free acts outs (row.End cost) = tt
state_free acts outs (row.Open span) = actions_free outs (part acts span)

states_free : (acts : List ActionRow) (outs : List ℕ) (rows : List StateRow) → AllByRecursion AllFree (map (table_state acts outs) rows)
states_free acts outs [] = tt
states_free acts outs (r ∷ rows) = (state_free acts outs r, states_free acts outs rows)

-- Each action of a table model is free.
pub table_free : (t : TableModel) (s a : ℕ) → HasAction (meaning_of t) s a → is_free (action_at (meaning_of t) s a) ≡ true
unfolding IsFree AllFree
table_free t s a has =
    let m = meaning_of t in
    let here = All-get_or AllFree m s (Open []) has.0 (states_free t.actions.now t.outcomes.now t.states.now) in
    All-get_or IsFree (actions (state_at m s)) a Barred has.1 here
