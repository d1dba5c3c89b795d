use Rattle.std.proofs.Common.{◌≤◌, length, arith}
use Rattle.std.proofs.lemmas.Grind.{common_steps}
use Rattle.cost.specs.Prices.{figures}
use Rattle.writer.specs.Puts.{most}
use Rattle.writer.proofs.FieldBytes.{sheet_bytes}
use Rattle.writer.proofs.Placing.{puts_more, puts_as}
use Rattle.writer.proofs.writing.put_sheet.Goals as goal

pub returns-clause-written : goal.returns-clause-written
returns-clause-written g c =
    let m = g.M.Model.meaning c.args.model.now in
    let small : length c.new-page.result.bytes.now ≤ most = omega arith in
    let puts = puts_as (sheet_bytes m (figures c.args.prices.now) c.states.result c.states.ensures) (puts_more small (puts_more small (puts_more small c.put_head.ensures c.put_two.ensures) c.put_prices.ensures) c.put_states.ensures) in
    let kept = puts.same_bytes in
    let written = puts.written in
    let start = c.new-page.ensures in
    grind (arith, common_steps)
