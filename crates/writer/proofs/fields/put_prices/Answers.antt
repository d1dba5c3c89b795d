use Rattle.std.proofs.Common.{◌≡◌, ◌<◌, ◌≤◌, length, get_or, sym, ap, ◌∙◌, arith}
use Rattle.std.proofs.lemmas.List.{length-map, get_or-map}
use Rattle.cost.specs.Prices.{figures, price_number}
use Rattle.writer.specs.Puts.{most}
use Rattle.writer.proofs.FieldBytes.{prices_turn}
use Rattle.writer.proofs.fields.put_prices.Goals as goal

pub loop-task-preserved : goal.loop-task-preserved
loop-task-preserved c =
    let ps = figures c.args.prices.now in
    let items = c.as_slice-prices.result.now in
    let many : length items ≡ length ps = sym (length-map items price_number) ∙ ap length c.as_slice-prices.ensures in
    let k = c.loop-task.task in
    let there : k < length items = omega arith in
    let small : length c.args.page.now.bytes.now ≤ most = omega arith in
    let here : c.get.result ≡ get_or ps k 0 =
    c.get.ensures
    ∙ ap price_number c.index-prices-task.is
    ∙ sym (get_or-map price_number items k c.index-prices-task.result 0 there)
    ∙ ap (λ l. get_or l k 0) c.as_slice-prices.ensures in
    prices_turn small ps k c.get.result (omega arith) here c.loop-task.invariant c.put_price.ensures
