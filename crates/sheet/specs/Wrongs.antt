-- What is wrong with bytes that are no sheet.
use Rattle.std.specs.Prelude.{◌≡◌, ℕ, ◌<◌, ◌≤◌, true, false, ◌⊎◌, List, [], ◌∷◌, ◌++◌, length, ◌≢◌}
use Rattle.model.specs.Meaning.{State}
use Rattle.sheet.specs.Blocks.{Block, tag_of, body_of, block_bytes, blocks_bytes}
use Rattle.sheet.specs.Sheets.{fields, Writable, Stands}
use Rattle.sheet.specs.Stages.{beginning, after_all, tag_due, length_right}
use Rattle.sheet.specs.declared.faults.SheetFault.{SheetFault}
use Rattle.sheet.specs.declared.faults.SheetFault.TheVariants.{Short, Ends, Tag, Length, Value}

-- Fields are right so far: some model and prices have them first.
pub record Begins (fs : List Block) : Type 0 where
  pub model : List State
  pub prices : List ℕ
  pub more : List Block
  pub writable : Writable model prices
  pub first : fields model prices ≡ fs ++ more

-- Reading comes to a place: before it stand fields that are right so far, after it the rest.
pub record Reached (bytes : List ℕ) (place : ℕ) (fs : List Block) (rest : List ℕ) : Type 0 where
  pub begins : Begins fs
  pub bytes_split : bytes ≡ blocks_bytes fs ++ rest
  pub place_is : place ≡ length (blocks_bytes fs)

-- No whole field stands first.
abbrev pub NoField : List ℕ → Type 0
NoField rest = (f : Block) (more : List ℕ) → rest ≢ block_bytes f ++ more

-- The bytes end too soon at a place: no whole field is there, and they are no sheet.
abbrev pub EndsSoon : List ℕ → ℕ → Type 0
EndsSoon bytes place =
    (fs : List Block) × ((rest : List ℕ) × (Reached bytes place fs rest × NoField rest × ((m : List State) (ps : List ℕ) → Stands bytes m ps → ⊥)))

-- A field stands at a place of which something is wrong, given the fields before it.
abbrev pub Faulty : List ℕ → ℕ → (List Block → Block → Type 0) → Type 0
Faulty bytes place What =
    (fs : List Block) × ((f : Block) × ((rest : List ℕ) × (Reached bytes place fs (block_bytes f ++ rest) × What fs f)))

-- The tag of a field is not due after others.
abbrev pub TagNotDue : List Block → Block → Type 0
TagNotDue fs f = tag_due (after_all beginning fs) (tag_of f) ≡ false

-- The tag is due, and the length is not one that the tag has.
abbrev pub LengthWrong : List Block → Block → Type 0
LengthWrong fs f =
    (tag_due (after_all beginning fs) (tag_of f) ≡ true) × (length_right (tag_of f) (length (body_of f)) ≡ false)

-- Tag and length are right, and no model and prices have this field here.
abbrev pub ValueWrong : List Block → Block → Type 0
ValueWrong fs f =
    (tag_due (after_all beginning fs) (tag_of f) ≡ true)
    × (length_right (tag_of f) (length (body_of f)) ≡ true)
    × (Begins (fs ++ f ∷ []) → ⊥)

-- What each fault says of the bytes. Bytes over 65,536 are not read.
abbrev pub Wrong : List ℕ → SheetFault → Type 0
Wrong bytes (Ends place) = ((65536 < length bytes) × (place ≡ 65536)) ⊎ ((length bytes ≤ 65536) × EndsSoon bytes place)
Wrong bytes (Tag place) = (length bytes ≤ 65536) × Faulty bytes place TagNotDue
Wrong bytes (Length place) = (length bytes ≤ 65536) × Faulty bytes place LengthWrong
Wrong bytes (Value place) = (length bytes ≤ 65536) × Faulty bytes place ValueWrong
Wrong bytes (Short list) = ⊥
