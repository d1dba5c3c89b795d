use Rattle.std.proofs.Common.{◌<◌, ◌≤◌, [], length, arith}
use Rattle.model.specs.Meaning.{Open}
use Rattle.sheet.specs.Sheets.{state_fields}
use Rattle.writer.specs.Puts.{most}
use Rattle.writer.proofs.FieldBytes.{fields_turn}
use Rattle.writer.proofs.fields.put_states.Goals as goal

pub loop-state-preserved : goal.loop-state-preserved
loop-state-preserved g c =
    let xs = (g.M.Model.meaning c.args.model.now) in
    let there : c.loop-state.state < length xs = omega arith in
    let small : length c.args.page.now.bytes.now ≤ most = omega arith in
    fields_turn small state_fields xs c.loop-state.state (Open []) there c.loop-state.invariant c.put_state.ensures
