use Rattle.std.proofs.Common.{◌≡◌, ◌<◌, length, get_or, sym, ap, ◌∙◌, arith}
use Rattle.std.proofs.lemmas.List.{length-map, get_or-map}
use Rattle.cost.specs.Prices.{figures, price_number}
use Rattle.texts.specs.Texts.{price_text}
use Rattle.texts.proofs.Numbering.{numbered_more}
use Rattle.texts.proofs.showing.write_prices.Goals as goal

pub loop-task-preserved : goal.loop-task-preserved
loop-task-preserved c =
    let ps = figures c.args.prices.now in
    let items = c.as_slice-price-items.result.now in
    let many : length items ≡ length ps = sym (length-map items price_number) ∙ ap length c.as_slice-price-items.ensures in
    let k = c.loop-task.task in
    let there : k < length items = omega arith in
    let here : c.get.result ≡ get_or ps k 0 =
    c.get.ensures
    ∙ ap price_number c.price-item.is
    ∙ sym (get_or-map price_number items k c.price-item.result 0 there)
    ∙ ap (λ l. get_or l k 0) c.as_slice-price-items.ensures in
    numbered_more price_text _ _ _ ps k _ 0 (omega arith) here c.loop-task.invariant c.in_ok-write_price.ensures
