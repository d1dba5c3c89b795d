use Rattle.std.proofs.Common.{◌≡◌, ◌++◌, drop, string_bytes}
use Rattle.cost.specs.Prices.{figures}
use Rattle.texts.specs.Texts.{numbered, price_text}
use Rattle.texts.proofs.showing.write_prices.Given as goal

abbrev pub invariant-loop-task : goal.invariant-loop-task
invariant-loop-task l =
    string_bytes l.lines ++ numbered price_text l.task (drop l.task (figures l.prices))
    ≡ string_bytes l.initial.lines ++ numbered price_text 0 (figures l.prices)
