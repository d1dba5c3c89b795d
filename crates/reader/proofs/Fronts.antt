-- Fields that were read, with one field more.
use Rattle.std.proofs.Common.{◌≡◌, ℕ, ◌<◌, List, [], ◌∷◌, ◌++◌, get_or, None, sym, ap, ◌∙◌, append_assoc, arith, w8, Fits}
use Rattle.std.specs.List.{AllByRecursion}
use Rattle.std.proofs.ByRecursion.{All-from_get_or}
use Rattle.sheet.specs.Blocks.{Block, block_bytes, blocks_bytes}
use Rattle.sheet.specs.Stages.{beginning, cause_of, after, after_all, Right}
use Rattle.sheet.proofs.Runs.{right_append, after_all_append, joined_push}

-- The bytes of fields with one field more.
pub one_more : (fs : List Block) (f : Block) (bytes rest : List ℕ) → bytes ≡ blocks_bytes fs ++ (block_bytes f ++ rest) → bytes ≡ blocks_bytes (fs ++ f ∷ []) ++ rest
one_more fs f bytes rest e =
    e ∙ sym (append_assoc (blocks_bytes fs) (block_bytes f) rest) ∙ ap (λ l. l ++ rest) (sym (joined_push block_bytes fs f))

pub right_more : (fs : List Block) (f : Block) → Right beginning fs → cause_of (after_all beginning fs) f ≡ None → Right beginning (fs ++ f ∷ [])
right_more fs f right e = right_append beginning fs (f ∷ []) right (e, tt)

pub known_more : (fs : List Block) (f : Block) → after_all beginning (fs ++ f ∷ []) ≡ after (after_all beginning fs) f
known_more fs f = after_all_append beginning fs (f ∷ [])

-- What a slice of bytes holds is below 256.
pub bytes_small : (b : List ℕ) → ((i : ℕ) → Fits w8 (get_or b i 0)) → AllByRecursion (λ x. x < 256) b
bytes_small b typed = All-from_get_or (λ x. x < 256) b 0 (λ i h. omega (arith, (typed i).fits))
