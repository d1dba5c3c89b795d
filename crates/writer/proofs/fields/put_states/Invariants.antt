use Rattle.std.proofs.Common.{take}
use Rattle.std.specs.List.{flat_map}
use Rattle.sheet.specs.Blocks.{blocks_bytes}
use Rattle.sheet.specs.Sheets.{state_fields}
use Rattle.writer.specs.Puts.{Puts}
use Rattle.writer.proofs.fields.put_states.Given as goal

abbrev pub invariant-loop-state : goal.invariant-loop-state
invariant-loop-state g l = Puts l.initial.page l.page (blocks_bytes (flat_map state_fields (take l.state (g.M.Model.meaning l.model))))
