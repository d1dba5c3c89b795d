-- What reading a sheet answers and writes.
use Rattle.std.specs.Prelude.{◌≡◌, ℕ, ◌≤◌, true, List, length, take, drop, Some, Option, nat_lt}
use Rattle.std.specs.List.{flat_map}
use Rattle.model.specs.Firsts.{when, first_of}
use Rattle.model.specs.Meaning.{State, actions, outcomes}
use Rattle.sheet.specs.Blocks.{Block, blocks_bytes}
use Rattle.sheet.specs.Sheets.{Stands}
use Rattle.sheet.specs.Stages.{Stage, beginning, after_all, all_read, Right}
use Rattle.sheet.specs.Wrongs.{Wrong}
use Rattle.sheet.specs.declared.faults.SheetFault.{SheetFault}
use Rattle.sheet.specs.declared.faults.SheetFault.TheVariants.{Short, Ends, Tag, Length, Value}
use Rattle.table.specs.Tables.{table_meaning}
use Rattle.table.specs.declared.tables.ActionRow.{ActionRow}
use Rattle.table.specs.declared.tables.StateRow.{StateRow}
use Rattle.reader.specs.declared.sizes.Size.{Size}

-- Bytes are right fields up to the last state, and a stage is what is known after them.
pub record Whole (bytes : List ℕ) (d : Stage) : Type 0 where
  pub blocks : List Block
  pub same : bytes ≡ blocks_bytes blocks
  pub right : Right beginning blocks
  pub known : d ≡ after_all beginning blocks
  pub read : all_read d ≡ true
  pub few : length bytes ≤ 65536

-- How many states, actions and outcomes a model has.
abbrev pub size_of : List State → Size
size_of m =
    record {
      states = length m;
      actions = length (flat_map actions m);
      outcomes = length (flat_map outcomes (flat_map actions m));
    }

-- What a stage counts, as a size.
abbrev pub stage_size : Stage → Size
stage_size d = record { states = d.states; actions = d.actions; outcomes = d.outcomes }

-- Bytes are the sheet of a model of some size.
abbrev pub Measures : List ℕ → Size → Type 0
Measures bytes size = (m : List State) × ((ps : List ℕ) × (Stands bytes m ps × (size ≡ size_of m)))

-- The first table that is too short for a model, if one is: that of states, of actions, of outcomes.
abbrev pub first_short : Size → Size → Option ℕ
first_short needed room =
    first_of (when (nat_lt room.states needed.states) 0)
    (first_of (when (nat_lt room.actions needed.actions) 1) (when (nat_lt room.outcomes needed.outcomes) 2))

-- Why bytes are not read into tables: they are no sheet, or else a table is too short.
abbrev pub Refuses : List ℕ → Size → SheetFault → Type 0
Refuses bytes room (Short list) =
    (m : List State) × ((ps : List ℕ) × (Stands bytes m ps × (first_short (size_of m) room ≡ Some list)))
Refuses bytes room (Ends place) = Wrong bytes (Ends place)
Refuses bytes room (Tag place) = Wrong bytes (Tag place)
Refuses bytes room (Length place) = Wrong bytes (Length place)
Refuses bytes room (Value place) = Wrong bytes (Value place)

-- The tables and the prices that reading is handed.
pub record Tables : Type 0 where
  pub rows : List StateRow
  pub acts : List ActionRow
  pub outs : List ℕ
  pub prices : List ℕ

abbrev pub tables : List StateRow → List ActionRow → List ℕ → List ℕ → Tables
tables rs as' os ps = record { rows = rs; acts = as'; outs = os; prices = ps }

-- How many entries the tables have.
abbrev pub room_of : Tables → Size
room_of t = record { states = length t.rows; actions = length t.acts; outcomes = length t.outs }

-- The model in the tables, whose states are the first rows.
abbrev pub tables_model : ℕ → Tables → List State
tables_model n t = table_meaning (take n t.rows) t.acts t.outs

-- Bytes were read into tables: they are the sheet of what the tables mean and of the prices, and the
-- entries past what the model has are as they were.
pub record ReadInto (bytes : List ℕ) (size : Size) (old new : Tables) : Type 0 where
  pub stands : Stands bytes (tables_model size.states new) new.prices
  pub size_is : size ≡ size_of (tables_model size.states new)
  pub states_rest : drop size.states new.rows ≡ drop size.states old.rows
  pub actions_rest : drop size.actions new.acts ≡ drop size.actions old.acts
  pub outcomes_rest : drop size.outcomes new.outs ≡ drop size.outcomes old.outs
