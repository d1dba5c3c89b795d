use Rattle.std.proofs.Common.{map, ap, refl, ◌∙◌}
use Rattle.std.specs.Int.{w16, from_be_bytes}
use Rattle.std.proofs.lemmas.List.{take_rest}
use Rattle.sheet.specs.Stages.{pairs}
use Rattle.sheet.proofs.PairReads.{pairs_chunks}
use Rattle.sheet.proofs.bodies.outcomes_in.Goals as goal

pub returns-clause-value : goal.returns-clause-value
returns-clause-value c =
    ap (map (from_be_bytes w16)) c.as_chunks.ensures.front ∙ pairs_chunks _ _ refl ∙ ap pairs (take_rest c.args.body.now 1)
