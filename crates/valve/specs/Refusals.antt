-- The number of the refusal of a valve set-up and the value that it returns.
use Rattle.std.specs.Prelude.{ℕ, List, codes}
use Rattle.model.specs.Refusals.{refused}
use Rattle.model.specs.declared.refusals.Refusal.{Refusal}
use Rattle.model.specs.declared.refusals.Values.TheVariants.{One}
use Rattle.valve.specs.declared.faults.ValveFault.{ValveFault}
use Rattle.valve.specs.declared.faults.ValveFault.TheVariants.{Candidates, Tests, Test, Repair}

-- The refusal of a valve set-up.
abbrev pub valve_refusal : ValveFault → Refusal
valve_refusal (Candidates count) = refused 27 (One count)
valve_refusal (Tests count) = refused 27 (One count)
valve_refusal (Test test) = refused 27 (One test)
valve_refusal (Repair candidate) = refused 27 (One candidate)

-- The cause in words, which say what the value of the refusal is.
abbrev pub valve_words : ValveFault → List ℕ
valve_words (Candidates count) = codes "number of candidates not from 2 to 12"
valve_words (Tests count) = codes "number of tests not from 1 to 16"
valve_words (Test test) = codes "test with a task over 63, or with a candidate in its set that is not there"
valve_words (Repair candidate) = codes "candidate with a repair cost over 1000000"
