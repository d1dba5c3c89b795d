use Rattle.model.proofs.TrimLaws.{trim_bars_returns_lem}
use Rattle.model.proofs.facts.trim_bars_returns.Goals as goal

pub returns : goal.returns
returns c = trim_bars_returns_lem
