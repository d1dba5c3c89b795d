use Rattle.std.proofs.Common.{get_or, rules}
use Rattle.std.proofs.lemmas.Result.{err_from_is_err_and}
use Rattle.valve.specs.Valves.{meaning_of}
use Rattle.paelwisk.specs.Answers.{Tells}
use Rattle.paelwisk.specs.declared.valves.answers.Finding.TheVariants.{End}
use Rattle.paelwisk.proofs.OneMore.{places_more}
use Rattle.paelwisk.proofs.Telling.{untold_first}
use Rattle.paelwisk.proofs.valves.answers.all.Goals as goal

pub returns-in_err-about : goal.returns-in_err-about
returns-in_err-about c =
    let p = err_from_is_err_and c.from_residual.result c.from_residual.ensures.1 in
    rw (p.1, p.2)
    (untold_first _ _ _ _ c.loop-state-test.true (λ k h. (c.loop-state.invariant.1 k (record { state = 0; finding = End 0 }) h).within) c.in_err-about.ensures)

pub loop-state-preserved : goal.loop-state-preserved
loop-state-preserved c = (
  search rules,
  places_more (λ k a. Tells (meaning_of c.args.model.now) (get_or c.args.states.now k 0) a) _ _ _ _ c.in_ok-push.ensures.items (search rules) c.loop-state.invariant.1 c.in_ok-about.ensures,
)
