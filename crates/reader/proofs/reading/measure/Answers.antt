use Rattle.std.proofs.Common.{◌∙◌}
use Rattle.sheet.specs.Stages.{stage}
use Rattle.sheet.proofs.Contents.{model_in, prices_in}
use Rattle.reader.proofs.Fronts.{bytes_small}
use Rattle.reader.proofs.Readings.{stood, size_counted}
use Rattle.reader.proofs.reading.measure.Goals as goal

pub returns : goal.returns
returns c =
    let d = stage c.in_ok-due.due in
    let b = c.args.sheet.now in
    let whole = c.in_ok-due.ensures in
    let small = bytes_small b c.type_inv.sheet in
    (model_in whole.blocks, (prices_in whole.blocks, (stood b small d whole, c.from.ensures ∙ size_counted b small d whole)))
