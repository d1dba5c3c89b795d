use Rattle.std.proofs.Common.{◌≤◌, length, sym, arith}
use Rattle.model.specs.Meaning.{state_at}
use Rattle.writer.specs.Puts.{most}
use Rattle.writer.proofs.FieldBytes.{open_bytes}
use Rattle.writer.proofs.Placing.{puts_more, puts_as}
use Rattle.writer.proofs.fields.put_state.Goals as goal

pub returns-else-is_end : goal.returns-else-is_end
returns-else-is_end g c =
    let x = state_at (g.M.Model.meaning c.args.model.now) c.args.state in
    let small : length c.args.page.now.bytes.now ≤ most = omega arith in
    puts_as (open_bytes x (sym c.if-is_end.ensures)) (puts_more small c.put_head.ensures c.put_actions.ensures)
