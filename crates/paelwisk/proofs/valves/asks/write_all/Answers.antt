use Rattle.std.proofs.Common.{string_bytes, sym, ap, ◌∙◌}
use Rattle.cost.specs.Prices.{figures}
use Rattle.valve.specs.Valves.{meaning_of}
use Rattle.paelwisk.proofs.Replying.{price_told, best_told, all_asked}
use Rattle.paelwisk.proofs.valves.asks.write_all.Goals as goal
use Rattle.paelwisk.proofs.valves.asks.write_all.Goals.{in-Price, in-Best+in_ok-write_bests-in-Best}

pub loop-ask-preserved : goal.loop-ask-preserved
loop-ask-preserved c =
    let m = meaning_of c.args.model.now in
    let ss = c.args.states.now in
    let asks = c.args.asks.now in
    let i = c.loop-ask.ask-index in
    let ps = figures c.loop-ask.prices in
    let start = string_bytes c.args.lines.now in
    let old = string_bytes c.loop-ask.lines in
    elim c.match-ask.branch [
      | in-Price w ↦ price_told m ss asks i ps (figures c.match-ask.prices) start old (string_bytes c.match-ask.lines) _ _ _ c.loop-ask-test.true (sym c.ask-item.is ∙ w.in-Price.is) (ap figures w.prices-is ∙ w.set.ensures.after) (ap string_bytes w.lines-is) c.loop-ask.invariant
      | in-Best+in_ok-write_bests-in-Best w ↦ best_told m ss asks i ps (figures c.match-ask.prices) start old (string_bytes c.match-ask.lines) _ _ _ c.loop-ask-test.true (sym c.ask-item.is ∙ w.in-Best.is) (ap figures w.prices-is) (ap string_bytes w.lines-is ∙ w.in_ok-write_bests-in-Best.ensures) w.set_bests.ensures c.loop-ask.invariant
    ]

pub returns : goal.returns
returns c = all_asked _ _ _ _ _ _ _ c.loop-ask-test.false c.loop-ask.invariant
