-- What a table model means.
use Rattle.std.specs.Prelude.{ℕ, ◌+◌, cond, List, [], map, length, take, drop, nat_le}
use Rattle.model.specs.Meaning.{Action, Free, State, End, Open}
use Rattle.table.specs.declared.tables.ActionRow.{ActionRow}
use Rattle.table.specs.declared.tables.Span.{Span}
use Rattle.table.specs.declared.tables.StateRow.{StateRow}
use Rattle.table.specs.declared.tables.StateRow.TheVariants as row
use Rattle.table.specs.declared.tables.TableModel.{TableModel}

-- The entries of a table that a span names; a span that leaves the table has no entries.
abbrev pub part : {X : Type 0} → List X → Span → List X
part xs s = cond (nat_le (s.first + s.count) (length xs)) (take s.count (drop s.first xs)) []

-- A row of the table of actions, with the table of outcomes. No action is barred.
abbrev pub table_action : List ℕ → ActionRow → Action
table_action outs r = Free r.task (part outs r.outcomes)

-- A row of the table of states, with the tables of actions and outcomes.
abbrev pub table_state : List ActionRow → List ℕ → StateRow → State
table_state acts outs (row.End cost) = End cost
table_state acts outs (row.Open span) = Open (map (table_action outs) (part acts span))

-- The model of three tables.
abbrev pub table_meaning : List StateRow → List ActionRow → List ℕ → List State
table_meaning rows acts outs = map (table_state acts outs) rows

-- What a table model means: the model of the tables that are lent to it.
abbrev pub meaning_of : TableModel → List State
meaning_of t = table_meaning t.states.now t.actions.now t.outcomes.now
