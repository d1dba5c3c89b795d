use Rattle.std.proofs.Common.{◌≡◌, ◌<◌, length, get_or, sym, ap, ◌∙◌, arith}
use Rattle.std.proofs.lemmas.List.{get_or-map, length-map}
use Rattle.cost.specs.declared.amount.Cost.{Cost}
use Rattle.texts.specs.Texts.{values_of, state_cost_text}
use Rattle.texts.proofs.Numbering.{numbered_more}
use Rattle.texts.proofs.costs.best.Goals as goal

pub loop-state-preserved : goal.loop-state-preserved
loop-state-preserved c =
    let cs = c.args.costs.now in
    let s = c.loop-state.state in
    let within : s < length (values_of cs) = omega (arith, length-map cs (λ (x : Cost). x.value), c.loop-state-test.true) in
    let read : (c.index-costs-state.result).value ≡ get_or (values_of cs) s 0 =
    ap (λ (x : Cost). x.value) c.index-costs-state.is
    ∙ sym (get_or-map (λ (x : Cost). x.value) cs s c.index-costs-state.result 0 c.loop-state-test.true) in
    numbered_more state_cost_text _ _ _ (values_of cs) s _ 0 within read c.loop-state.invariant c.in_ok-write_cost.ensures
