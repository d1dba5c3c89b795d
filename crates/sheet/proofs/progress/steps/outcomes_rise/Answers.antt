use Rattle.std.proofs.Common.{◌≡◌, ◌<◌, ◌≤◌, ◌⊎◌, ◌∙◌, length, get_or, sym, arith}
use Rattle.std.proofs.lemmas.List.{at_drop_all}
use Rattle.std.proofs.lemmas.Bool.Decides.{nat_tests}
use Rattle.sheet.specs.Stages.{outcomes_in, rising}
use Rattle.sheet.proofs.PairReads.{outcomes_many, outcome_read}
use Rattle.sheet.proofs.Risings.{rise_fails, rise_more}
use Rattle.sheet.proofs.progress.steps.outcomes_rise.Goals as goal

pub returns-then-not-contains : goal.returns-then-not-contains
returns-then-not-contains c =
    let b = c.args.body.now in
    let are = c.outcomes_in-outcome-items.ensures.value in
    let k = c.loop-outcome.outcome-index in
    let many = outcomes_many b _ are in
    let o = c.from-outcome.result in
    let same : get_or (outcomes_in b) k 0 ≡ o = outcome_read b _ are k (omega arith) ∙ sym (c.from-outcome.ensures ∙ c.from_be_bytes.ensures) in
    let wrong : (o < c.loop-outcome.lowest) ⊎ (c.args.count ≤ o) = grind (arith, nat_tests) in
    sym (rise_fails c.args.count c.loop-outcome.lowest (outcomes_in b) k (omega arith) o same wrong) ∙ c.loop-outcome.invariant

pub loop-outcome-preserved : goal.loop-outcome-preserved
loop-outcome-preserved c =
    let b = c.args.body.now in
    let are = c.outcomes_in-outcome-items.ensures.value in
    let k = c.loop-outcome.outcome-index in
    let many = outcomes_many b _ are in
    let o = c.from-outcome.result in
    let same : get_or (outcomes_in b) k 0 ≡ o = outcome_read b _ are k (omega arith) ∙ sym (c.from-outcome.ensures ∙ c.from_be_bytes.ensures) in
    let low : c.loop-outcome.lowest ≤ o = grind (arith, nat_tests) in
    let high : o < c.args.count = grind (arith, nat_tests) in
    sym (rise_more c.args.count c.loop-outcome.lowest (outcomes_in b) k (omega arith) o same low high) ∙ c.loop-outcome.invariant
