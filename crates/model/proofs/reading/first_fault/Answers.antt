use Rattle.model.proofs.ReadingLaw.{first_fault_first}
use Rattle.model.proofs.reading.first_fault.Goals as goal

pub returns-clause-first : goal.returns-clause-first
returns-clause-first g c = let m = g.M.Model.meaning c.args.model.now in rw (c.err.ensures.value, c.check.ensures.value) (first_fault_first m)
