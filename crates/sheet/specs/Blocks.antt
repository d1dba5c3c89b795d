-- The fields of a sheet as plain data, and the bytes that they are written as.
use Rattle.std.specs.Prelude.{ℕ, ◌/◌, ◌%◌, List, [], ◌∷◌, ◌++◌, length}
use Rattle.std.specs.List.{flat_map}
use Rattle.sheet.specs.declared.fields.Field.{Field}
use Rattle.sheet.specs.declared.fields.Field.TheVariants.{States, Price, End, Open, Action}

-- A field has a tag and a body.
pub data Block : Type 0 where
  block : ℕ → List ℕ → Block

abbrev pub tag_of : Block → ℕ
tag_of (block t b) = t

abbrev pub body_of : Block → List ℕ
body_of (block t b) = b

-- A number as two bytes, and as four; the highest byte comes first.
abbrev pub two : ℕ → List ℕ
two n = n / 256 ∷ n % 256 ∷ []

abbrev pub four : ℕ → List ℕ
four n = two (n / 65536) ++ two (n % 65536)

-- A field is written as its tag, the length of its body in two bytes, and its body.
abbrev pub block_bytes : Block → List ℕ
block_bytes (block t b) = t ∷ (two (length b) ++ b)

-- Fields are written one after the other.
abbrev pub blocks_bytes : List Block → List ℕ
blocks_bytes fs = flat_map block_bytes fs

-- The field that a caller is shown, as plain data: each kind has its tag.
abbrev pub shown : Field → Block
shown (States body) = block 1 body.now
shown (Price body) = block 2 body.now
shown (End body) = block 3 body.now
shown (Open body) = block 4 body.now
shown (Action body) = block 5 body.now
