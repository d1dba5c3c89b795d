-- Taking the first field off some bytes.
use Rattle.std.proofs.Common.{◌≡◌, ℕ, ◌+◌, ◌*◌, ◌/◌, ◌%◌, ◌<◌, ◌≤◌, List, [], ◌∷◌, ◌++◌, length, get_or, drop, ap, ◌∙◌, arith, length-append}
use native.Mathlib.Nat.{div-add-mod}
use Rattle.sheet.specs.Blocks.{block, block_bytes}
use Rattle.sheet.specs.Wrongs.{NoField}

-- Bytes too few for a tag and a length begin with no field.
pub none_short : (bytes : List ℕ) → length bytes < 3 → NoField bytes
none_short bytes few (block u b) more e = absurd (omega (arith, ap length e))

-- Bytes that are fewer than their length bytes say begin with no field.
pub none_cut : (bytes : List ℕ) → length bytes < 3 + (get_or bytes 1 0 * 256 + get_or bytes 2 0) → NoField bytes
none_cut bytes few (block u b) more e =
    let high : get_or bytes 1 0 ≡ length b / 256 = ap (λ l. get_or l 1 0) e in
    let low : get_or bytes 2 0 ≡ length b % 256 = ap (λ l. get_or l 2 0) e in
    let all : length bytes ≡ 3 + (length b + length more) = ap length e ∙ omega (arith, length-append b more) in
    absurd (omega (arith, div-add-mod (length b) 256))

-- What two length bytes say, written again.
pub high_byte : (h l : ℕ) → l < 256 → (h * 256 + l) / 256 ≡ h
high_byte h l small = omega arith

pub low_byte : (h l : ℕ) → l < 256 → (h * 256 + l) % 256 ≡ l
low_byte h l small = omega arith

-- Bytes that begin with a tag, a length and a body of that length begin with that field.
pub field_first : (bytes body rest : List ℕ) → 3 ≤ length bytes → get_or bytes 2 0 < 256 → length body ≡ get_or bytes 1 0 * 256 + get_or bytes 2 0 → drop 3 bytes ≡ body ++ rest → bytes ≡ block_bytes (block (get_or bytes 0 0) body) ++ rest
field_first [] body rest many small len e = absurd (omega arith)
field_first (t ∷ []) body rest many small len e = absurd (omega arith)
field_first (t ∷ (h ∷ [])) body rest many small len e = absurd (omega arith)
field_first (t ∷ (h ∷ (l ∷ r))) body rest many small len e =
    let high : length body / 256 ≡ h = ap (λ n. n / 256) len ∙ high_byte h l small in
    let low : length body % 256 ≡ l = ap (λ n. n % 256) len ∙ low_byte h l small in
    cc
