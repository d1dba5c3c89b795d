use Rattle.std.proofs.Common.{ℕ, map, ap, ◌∙◌, arith, rules}
use borrow.Author.Tests.{tests}
use Rattle.std.proofs.lemmas.Iterator.{YieldsList-from_range, YieldsList-from_map_by, items_from_drains}
use Rattle.std.proofs.lemmas.Result.{MatchResult-weaker}
use Rattle.model.specs.Meaning.{Barred, actions, action_at, state_at}
use Rattle.valve.specs.Valves.{meaning_of}
use Rattle.paelwisk.specs.Answers.{action_of}
use Rattle.paelwisk.proofs.OneMore.{each_by_place}
use Rattle.paelwisk.proofs.valves.answers.splits.Goals as goal

pub returns : goal.returns
returns c =
    let m = meaning_of c.args.model.now in
    let s = c.args.state in
    let n = c.actions.result in
    MatchResult-weaker c.collect.result c.collect.ensures.ran
    (λ v e.
    ap (λ l. map action_of l) e.2.0
    ∙ items_from_drains e.0 e.1
    (YieldsList-from_map_by _ action_of (λ (j : ℕ). action_at m s j) (YieldsList-from_range 0 n n c.map.ensures.source (omega arith)) c.map.ensures.closure (λ x r q k. search (rules, tests)))
    ∙ each_by_place (actions (state_at m s)) n Barred c.actions.ensures)
    (λ f e. tt)
