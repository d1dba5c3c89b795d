use Rattle.std.proofs.Common.{◌≤◌, [], ◌∷◌, ◌++◌, length, sym, ap, ◌∙◌, arith, rules}
use Rattle.std.proofs.lemmas.List.{append_assoc, flat_map_more}
use Rattle.sheet.specs.Blocks.{two}
use Rattle.writer.specs.Puts.{most}
use Rattle.writer.proofs.Limits.{outcome_within}
use Rattle.writer.proofs.Placing.{puts_more, puts_as}
use Rattle.writer.proofs.fields.put_outcomes.Goals as goal

pub overflow_cast-outcome : goal.overflow_cast-outcome
overflow_cast-outcome g c =
    let split = ap (λ l. c.loop-outcome.yielded ++ l) (sym c.in-Some.ensures.steps) ∙ c.loop-outcome.invariant.1 in
    let small = outcome_within (g.M.Model.meaning c.args.model.now) c.requires c.args.state c.args.action c.loop-outcome.yielded c.in-Some.outcome _ (sym split) in
    search rules

pub loop-outcome-preserved : goal.loop-outcome-preserved
loop-outcome-preserved g c =
    let done = c.loop-outcome.yielded in
    let o = c.in-Some.outcome in
    let small : length c.args.page.now.bytes.now ≤ most = omega arith in (
      puts_as (flat_map_more two [] done o) (puts_more small c.loop-outcome.invariant.0 c.put_two.ensures),
      append_assoc done (o ∷ []) _ ∙ ap (λ l. done ++ l) (sym c.in-Some.ensures.steps) ∙ c.loop-outcome.invariant.1,
    )
