use Rattle.std.proofs.Common.{take}
use Rattle.cost.specs.Prices.{figures}
use Rattle.sheet.specs.Blocks.{blocks_bytes}
use Rattle.sheet.specs.Sheets.{price_fields}
use Rattle.writer.specs.Puts.{Puts}
use Rattle.writer.proofs.fields.put_prices.Given as goal

abbrev pub invariant-loop-task : goal.invariant-loop-task
invariant-loop-task l = Puts l.initial.page l.page (blocks_bytes (price_fields 0 (take l.task (figures l.fn.prices))))
