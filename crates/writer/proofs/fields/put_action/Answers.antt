use Rattle.std.proofs.Common.{◌≤◌, length, sym, arith}
use Rattle.model.specs.Meaning.{action_at}
use Rattle.writer.specs.Puts.{most}
use Rattle.writer.proofs.FieldBytes.{free_puts}
use Rattle.writer.proofs.fields.put_action.Goals as goal

pub returns-then-is_free : goal.returns-then-is_free
returns-then-is_free g c =
    let x = action_at (g.M.Model.meaning c.args.model.now) c.args.state c.args.action in
    let small : length c.args.page.now.bytes.now ≤ most = omega arith in
    free_puts small x c.outcomes.result c.task.result (sym c.if-is_free.ensures) c.outcomes.ensures c.task.ensures c.put_head.ensures c.put.ensures c.put_outcomes.ensures
