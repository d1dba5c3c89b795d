-- What is told of a sheet.
use Rattle.std.specs.Prelude.{◌≡◌, ℕ, ◌<◌, List, length, slice_index}
use Rattle.model.specs.Meaning.{State}
use Rattle.plan.specs.Bests.{Best}
use Rattle.sheet.specs.Sheets.{Stands}
use Rattle.texts.specs.Texts.{show_text, best_text}

-- A text shows the model and the prices that a sheet stands for.
pub record Shows (bytes text : List ℕ) : Type 0 where
  pub model : List State
  pub prices : List ℕ
  pub stands : Stands bytes model prices
  pub shown : text ≡ show_text model prices

-- A text tells the best cost of every state of the model that a sheet stands for, at its prices.
pub record TellsBest (bytes : List ℕ) (value : List ℕ → ℕ) (text : List ℕ) : Type 0 where
  pub model : List State
  pub prices : List ℕ
  pub costs : List ℕ
  pub stands : Stands bytes model prices
  pub all : length costs ≡ length model
  pub best : (s : ℕ) → s < length model → Best model value prices s (slice_index costs s)
  pub told : text ≡ best_text 0 costs
