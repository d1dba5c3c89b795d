use Rattle.std.proofs.Common.{◌<◌, ◌≤◌, length, arith}
use Rattle.model.specs.Meaning.{Barred, actions, state_at}
use Rattle.sheet.specs.Sheets.{action_fields}
use Rattle.writer.specs.Puts.{most}
use Rattle.writer.proofs.FieldBytes.{fields_turn}
use Rattle.writer.proofs.fields.put_actions.Goals as goal

pub loop-action-preserved : goal.loop-action-preserved
loop-action-preserved g c =
    let xs = actions (state_at (g.M.Model.meaning c.args.model.now) c.args.state) in
    let there : c.loop-action.action < length xs = omega arith in
    let small : length c.args.page.now.bytes.now ≤ most = omega arith in
    fields_turn small action_fields xs c.loop-action.action Barred there c.loop-action.invariant c.put_action.ensures
