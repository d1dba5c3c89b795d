-- Taking the next field of a sheet.
use Rattle.std.proofs.Common.{◌≡◌, ℕ, ◌-◌, ◌<◌, ◌≤◌, ◌++◌, ◌⊎◌, List, [], length, sym, refl, ap, ◌∙◌, subst, inr, ⊎_elim}
use Rattle.std.specs.List.{AllByRecursion}
use Rattle.sheet.specs.Blocks.{Block, block, block_bytes, blocks_bytes}
use Rattle.sheet.specs.Refusals.{fault_at}
use Rattle.sheet.specs.Stages.{Stage, beginning, after_all, Right}
use Rattle.sheet.specs.Wrongs.{Wrong}
use Rattle.sheet.specs.declared.faults.Cause.TheVariants as cause
use Rattle.sheet.specs.declared.faults.SheetFault.{SheetFault}
use Rattle.sheet.specs.declared.faults.SheetFault.TheVariants.{Ends, Tag}
use Rattle.reader.specs.Steps.{Faults, Refused}
use Rattle.reader.proofs.Verdicts.{refused_field, ended, place_left, unknown_tag}

-- A field whose tag no field has is refused for its tag.
pub tag_refused : (d : Stage) (bytes : List ℕ) (place t : ℕ) (b rest : List ℕ) → bytes ≡ block_bytes (block t b) ++ rest → (t < 1) ⊎ (5 < t) → Refused d bytes place (Tag place)
tag_refused d bytes place t b rest first out =
    inr (record { field = block t b; rest = rest; cause = cause.Tag; first = first; wrong = unknown_tag d t b out; fault_is = refl })

-- What is refused after right fields is what is wrong with the bytes.
pub refused_wrong : (bytes : List ℕ) → AllByRecursion (λ x. x < 256) bytes → length bytes ≤ 65536 → (fs : List Block) → Right beginning fs → (rest : List ℕ) → bytes ≡ blocks_bytes fs ++ rest → (rest ≡ [] → ⊥) → (e : SheetFault) → Refused (after_all beginning fs) rest (length bytes - length rest) e → Wrong bytes e
refused_wrong bytes small few fs right rest split some e r =
    let place = place_left bytes (blocks_bytes fs) rest split in
    ⊎_elim
    (λ none.
    subst (Wrong bytes) (ap Ends (sym place) ∙ sym none.1) (ended bytes small few fs right rest split none.0 (λ empty. absurd (some empty))))
    (λ (f : Faults (after_all beginning fs) rest (length bytes - length rest) e).
    subst (Wrong bytes) (ap (λ p. fault_at p f.cause) (sym place) ∙ sym f.fault_is)
    (refused_field bytes small few fs right f.field f.rest f.cause (split ∙ ap (λ l. blocks_bytes fs ++ l) f.first) f.wrong))
    r
