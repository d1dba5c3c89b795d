-- The names of the commands.
use Rattle.std.specs.Prelude.{◌≡◌, ◌≢◌, ℕ, List, Result, MatchResult, codes}
use Rattle.paelwisk.specs.declared.commands.Command.{Command}
use Rattle.paelwisk.specs.declared.commands.Command.TheVariants.{Valves}
use Rattle.paelwisk.specs.declared.commands.SheetCommand.{SheetCommand}
use Rattle.paelwisk.specs.declared.commands.SheetCommand.TheVariants.{Show, Copy, Best}
use Rattle.paelwisk.specs.declared.names.UnknownName.{UnknownName}

-- What a word is read as: the command `valves` where it is that word, and none where it is not.
abbrev pub ReadsCommand : List ℕ → Result Command UnknownName → Type 0
ReadsCommand name r = MatchResult r (λ c. (c ≡ Valves) × (name ≡ codes "valves")) (λ _. name ≢ codes "valves")

-- The word by which a command about a sheet is asked for.
abbrev pub sheet_command_name : SheetCommand → List ℕ
sheet_command_name Show = codes "show"
sheet_command_name Copy = codes "copy"
sheet_command_name Best = codes "best"

-- What a word is read as: the command about a sheet that it stands for, or none where it stands for
-- none.
abbrev pub ReadsSheetCommand : List ℕ → Result SheetCommand UnknownName → Type 0
ReadsSheetCommand name r = MatchResult r (λ c. name ≡ sheet_command_name c) (λ _. (c : SheetCommand) → name ≢ sheet_command_name c)
