use Rattle.std.proofs.Common.{get_or, unwrap_or, ap, ◌∙◌}
use Rattle.std.proofs.lemmas.Option.{unwrap_or-slice_get}
use Rattle.model.specs.Meaning.{outcomes}
use Rattle.table.specs.Tables.{part}
use Rattle.table.proofs.tables.rows.TableModelWorkModel.outcome.Goals as goal

pub returns : goal.returns
returns c =
    let t = c.args.self.now in
    let k = c.args.place in
    let read =
    ap (λ r. unwrap_or r 0) c.entry.ensures
    ∙ unwrap_or-slice_get (part t.outcomes.now c.in-Some.row.outcomes) k 0
    ∙ ap (λ x. get_or (outcomes x) k 0) c.in-Some.ensures
    in
    cc read
