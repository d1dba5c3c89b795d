use Rattle.std.proofs.Common.{take}
use Rattle.std.specs.List.{flat_map}
use Rattle.model.specs.Meaning.{actions, state_at}
use Rattle.sheet.specs.Blocks.{blocks_bytes}
use Rattle.sheet.specs.Sheets.{action_fields}
use Rattle.writer.specs.Puts.{Puts}
use Rattle.writer.proofs.fields.put_actions.Given as goal

abbrev pub invariant-loop-action : goal.invariant-loop-action
invariant-loop-action g l = Puts l.initial.page l.page (blocks_bytes (flat_map action_fields (take l.action (actions (state_at (g.M.Model.meaning l.model) l.state)))))
