use Rattle.std.proofs.Common.{◌≡◌, length, sym, arith}
use Rattle.cost.specs.Prices.{figures}
use Rattle.cost.proofs.Figures.{figures_in_range}
use Rattle.table.specs.Tables.{meaning_of}
use Rattle.sheet.specs.Sheets.{sheet_of, Writable}
use Rattle.writer.proofs.TablesFree.{table_free}
use Rattle.writer.proofs.Placing.{counts_below}
use Rattle.writer.proofs.WrittenSheets.{put_written}
use Rattle.writer.proofs.writing.write.Goals as goal

pub returns-clause-written : goal.returns-clause-written
returns-clause-written c =
    let m = meaning_of c.args.model.now in
    let ps = figures c.args.prices.now in
    let size : c.put_sheet-size.result ≡ length (sheet_of m ps) = counts_below _ _ c.put_sheet-size.ensures.counted (omega arith) in
    let again : c.put_sheet.result ≡ length (sheet_of m ps) = counts_below _ _ c.put_sheet.ensures.counted (omega arith) in
    let writable : Writable m ps = record { opens = sym c.in_ok-check.ensures.value; free = table_free c.args.model.now; prices = figures_in_range c.args.prices.now } in
    put_written m ps c.put_sheet.result c.args.bytes.now c.put_sheet.new.bytes writable again c.put_sheet.ensures.written (omega arith) (omega arith)
