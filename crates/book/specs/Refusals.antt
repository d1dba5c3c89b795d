-- The refusals of estimates and of a search.
use Rattle.std.specs.Prelude.{ℕ, List, codes}
use Rattle.model.specs.Refusals.{refused}
use Rattle.model.specs.declared.refusals.Refusal.{Refusal}
use Rattle.model.specs.declared.refusals.Values.TheVariants.{One}
use Rattle.book.specs.declared.answers.SearchFault.{SearchFault}
use Rattle.book.specs.declared.answers.SearchFault.TheVariants.{Above, Stopped}
use Rattle.book.specs.declared.faults.EstimateFault.{EstimateFault}
use Rattle.book.specs.declared.faults.EstimateFault.TheVariants.{Length, Estimate}

-- The number of the refusal and the value that it returns.
abbrev pub estimate_refusal : EstimateFault → Refusal
estimate_refusal (Length count) = refused 10 (One count)
estimate_refusal (Estimate state) = refused 11 (One state)

-- The cause in words, which say what the value of the refusal is.
abbrev pub estimate_words : EstimateFault → List ℕ
estimate_words (Length count) = codes "number of estimates, which is not that of the states"
estimate_words (Estimate state) = codes "state with an estimate that breaks its rule"

-- The number of the refusal of a search and the value that it returns, which is the number of raises.
abbrev pub search_refusal : SearchFault → Refusal
search_refusal (Above raises) = refused 15 (One raises)
search_refusal (Stopped raises) = refused 16 (One raises)

-- The cause in words, which say what the value of the refusal is.
abbrev pub search_words : SearchFault → List ℕ
search_words (Above raises) = codes "number of raises after which the bound of the start is above the cap"
search_words (Stopped raises) = codes "number of raises, which are all that are allowed"
