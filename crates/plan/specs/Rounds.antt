-- What the call for best costs answers.
use Rattle.std.specs.Prelude.{ℕ, List, length, Option, nat_lt}
use Rattle.std.specs.Option.{option_map}
use Rattle.model.specs.Firsts.{when, first_of}
use Rattle.model.specs.Meaning.{State}
use Rattle.model.specs.Reading.{first_fault}
use Rattle.model.specs.Refusals.{refused, model_refusal}
use Rattle.model.specs.declared.refusals.Refusal.{Refusal}
use Rattle.model.specs.declared.refusals.Values.TheVariants.{One}
use Rattle.plan.specs.declared.faults.BestFault.{BestFault}
use Rattle.plan.specs.declared.faults.BestFault.TheVariants.{Model, Short}

-- Why there are no answers: the first fault of the model, or else a list shorter than the states.
abbrev pub best_fault : List State → ℕ → Option BestFault
best_fault m room = first_of (option_map Model (first_fault m)) (when (nat_lt room (length m)) Short)

-- The refusal of a call for best costs; the list is the first that is handed in.
abbrev pub best_refusal : BestFault → Refusal
best_refusal (Model fault) = model_refusal fault
best_refusal Short = refused 18 (One 0)
