-- The bytes of fields say where each field ends, so that no two lists of fields have the same bytes.
use Rattle.std.proofs.Common.{◌≡◌, ℕ, ◌/◌, ◌%◌, ◌<◌, List, [], ◌∷◌, ◌++◌, length, take, drop, sym, refl, ap, ◌∙◌, append_assoc, arith, length-append}
use Rattle.std.proofs.lemmas.List.{take_at, drop_at, append-nil}
use Rattle.sheet.specs.Blocks.{Block, block, block_bytes, blocks_bytes}

-- Lists that are equal with parts of the same length in front have equal parts.
pub append_same : {A : Type 0} (a b x y : List A) → length a ≡ length b → a ++ x ≡ b ++ y → (a ≡ b) × (x ≡ y)
append_same a b x y l e = (
  sym (take_at a x (length a) refl) ∙ ap (take (length a)) e ∙ take_at b y (length a) (sym l),
  sym (drop_at a x (length a) refl) ∙ ap (drop (length a)) e ∙ drop_at b y (length a) (sym l),
)

pub block_same : (f g : Block) (x y : List ℕ) → block_bytes f ++ x ≡ block_bytes g ++ y → (f ≡ g) × (x ≡ y)
block_same (block t b) (block u c) x y e =
    let tags : t ≡ u = cc in
    let high : length b / 256 ≡ length c / 256 = cc in
    let low : length b % 256 ≡ length c % 256 = cc in
    let bodies : b ++ x ≡ c ++ y = cc in
    let both = append_same b c x y (omega arith) bodies in
    let body : b ≡ c = both.0 in
    (cc, both.1)

-- A field is not empty.
pub field_long : (f : Block) (rest : List ℕ) → length rest < length (block_bytes f ++ rest)
field_long (block t b) rest = omega (arith, length-append b rest)

-- The field that stands first is the first of the fields that are there.
pub next_field : (hs : List Block) (f : Block) (more : List ℕ) → blocks_bytes hs ≡ block_bytes f ++ more → (is : List Block) × ((hs ≡ f ∷ is) × (more ≡ blocks_bytes is))
next_field [] f more e = absurd (omega (arith, ap length e, field_long f more))
next_field (h ∷ hs) f more e =
    let same = block_same h f (blocks_bytes hs) more e in
    (hs, (ap (λ x. x ∷ hs) same.0, sym same.1))

-- Fields whose bytes begin with those of others begin with these.
pub blocks_front : (fs gs : List Block) (rest : List ℕ) → blocks_bytes gs ≡ blocks_bytes fs ++ rest → (hs : List Block) × ((gs ≡ fs ++ hs) × (rest ≡ blocks_bytes hs))
blocks_front [] gs rest e = (gs, (refl, sym e))
blocks_front (block t b ∷ fs) [] rest e = let z : ◌≡◌ {A = ℕ} 0 1 = cc in absurd (omega arith)
blocks_front (f ∷ fs) (g ∷ gs) rest e =
    let both = block_same g f (blocks_bytes gs) (blocks_bytes fs ++ rest) (e ∙ append_assoc (block_bytes f) (blocks_bytes fs) rest) in
    let more = blocks_front fs gs rest both.1 in
    let head : g ≡ f = both.0 in
    let tail : gs ≡ fs ++ more.0 = more.1.0 in
    (more.0, (cc, more.1.1))

-- No field is without bytes.
no_bytes : (fs : List Block) → blocks_bytes fs ≡ [] → fs ≡ []
no_bytes [] e = refl
no_bytes (block t b ∷ fs) e = let z : ◌≡◌ {A = ℕ} 0 1 = cc in absurd (omega arith)

pub blocks_same : (fs gs : List Block) → blocks_bytes fs ≡ blocks_bytes gs → fs ≡ gs
blocks_same fs gs e =
    let more = blocks_front fs gs [] (sym e ∙ sym (append-nil (blocks_bytes fs))) in
    sym (more.1.0 ∙ ap (λ h. fs ++ h) (no_bytes more.0 (sym more.1.1)) ∙ append-nil fs)
