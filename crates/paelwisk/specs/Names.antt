-- The names of rules.
use Rattle.std.specs.Prelude.{◌≡◌, ◌≢◌, ℕ, List, Result, MatchResult, codes}
use Rattle.paelwisk.specs.declared.names.RuleName.{RuleName}
use Rattle.paelwisk.specs.declared.names.RuleName.TheVariants.{Largest, Sum}
use Rattle.paelwisk.specs.declared.names.UnknownName.{UnknownName}

-- The word that stands for a rule.
abbrev pub rule_name : RuleName → List ℕ
rule_name Largest = codes "largest"
rule_name Sum = codes "sum"

-- What a word is read as: the rule that it stands for, or none where it stands for none.
abbrev pub ReadsRule : List ℕ → Result RuleName UnknownName → Type 0
ReadsRule name r = MatchResult r (λ rule. name ≡ rule_name rule) (λ _. (rule : RuleName) → name ≢ rule_name rule)
