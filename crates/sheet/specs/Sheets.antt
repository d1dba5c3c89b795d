-- What a sheet is: the bytes of a model and its prices.
use Rattle.std.specs.Prelude.{◌≡◌, ℕ, suc, ◌≤◌, true, cond, List, [], ◌∷◌, ◌++◌, length, ◌==◌}
use Rattle.std.specs.List.{flat_map}
use Rattle.cost.specs.Prices.{InRange}
use Rattle.model.specs.Meaning.{Action, Barred, Free, State, End, Open, is_free, action_at}
use Rattle.model.specs.Reading.{Opens, HasAction}
use Rattle.sheet.specs.Blocks.{Block, block, two, four, blocks_bytes}

-- The field of an action: its task and its outcomes. A barred action has none.
abbrev pub action_fields : Action → List Block
action_fields Barred = []
action_fields (Free t os) = block 5 (t ∷ flat_map two os) ∷ []

-- The fields of a state: its own, then those of its actions.
abbrev pub state_fields : State → List Block
state_fields (End c) = block 3 (four c) ∷ []
state_fields (Open as') = block 4 [] ∷ flat_map action_fields as'

-- The field of a task and its price. A task of price 1 has none.
abbrev pub price_field : ℕ → ℕ → List Block
price_field t p = cond (p == 1) [] (block 2 (t ∷ two p) ∷ [])

-- The fields of the prices of the tasks from a number on.
abbrev pub price_fields : ℕ → List ℕ → List Block
price_fields t [] = []
price_fields t (p ∷ ps) = price_field t p ++ price_fields (suc t) ps

-- All fields of a model and its prices: the number of states, the prices, then each state in turn.
abbrev pub fields : List State → List ℕ → List Block
fields m ps = block 1 (two (length m)) ∷ (price_fields 0 ps ++ flat_map state_fields m)

-- The bytes of a model and its prices.
abbrev pub sheet_of : List State → List ℕ → List ℕ
sheet_of m ps = blocks_bytes (fields m ps)

-- What has such bytes: a model that opens and bars nothing, and prices that are in range.
pub record Writable (m : List State) (ps : List ℕ) : Type 0 where
  pub opens : Opens m
  pub free : (s a : ℕ) → HasAction m s a → is_free (action_at m s a) ≡ true
  pub prices : InRange ps

-- Bytes are the sheet of a model and its prices. A sheet has at most 65,536 bytes.
pub record Stands (bytes : List ℕ) (m : List State) (ps : List ℕ) : Type 0 where
  pub writable : Writable m ps
  pub same : bytes ≡ sheet_of m ps
  pub few : length bytes ≤ 65536
