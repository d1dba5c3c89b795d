use Rattle.std.proofs.Common.{length, take, sym, subst}
use native.Mathlib.Nat.{sub-zero}
use Rattle.std.proofs.lemmas.Result.{MatchResult-weaker}
use Rattle.cost.specs.Prices.{figures}
use Rattle.sheet.specs.Sheets.{Stands}
use Rattle.table.specs.Tables.{meaning_of}
use Rattle.transfer.proofs.Loadings.{read_same, not_refused, carried, bytes_left}
use Rattle.transfer.proofs.copying.copy_model.Goals as goal

pub returns : goal.returns
returns c =
    let m = meaning_of c.args.model.now in
    let ps = figures c.args.prices.now in
    let n = c.in_ok-size.size in
    let stands = subst (λ k. Stands (take k c.write.new.bytes) m ps) (sym (sub-zero n)) c.in_ok-size.ensures.written.stands in
    let carries = carried m ps n c.args.bytes.now c.write.new.bytes c.in_ok-size.ensures.written in
    record {
      same = MatchResult-weaker c.load.result c.load.ensures (λ l loads. read_same _ m ps l stands loads) (λ f wrong. not_refused _ m ps (length c.args.bytes.now) f stands wrong);
      bytes = MatchResult-weaker c.load.result c.load.ensures (λ l loads. carries) (λ f wrong. bytes_left _ m ps c.args.bytes.now c.write.new.bytes f stands carries wrong);
    }
