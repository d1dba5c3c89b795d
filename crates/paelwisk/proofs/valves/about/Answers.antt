use Rattle.std.proofs.Common.{ap, ◌∙◌}
use Rattle.std.specs.List.{flat_map}
use Rattle.paelwisk.specs.Lines.{answer_text}
use Rattle.paelwisk.proofs.Replying.{all_lines}
use Rattle.paelwisk.proofs.Telling.{told_text}
use Rattle.paelwisk.proofs.valves.about.Goals as goal

pub returns : goal.returns
returns c =
    all_lines _ _ _ _ _
    (c.in_ok-lines.ensures ∙ (ap (λ xs. flat_map answer_text xs) c.deref.ensures.value ∙ told_text _ _ _ c.in_ok-answers.ensures))
    c.in_ok-write_all.ensures
