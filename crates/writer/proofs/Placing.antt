-- Writing bytes one after the other.
use Rattle.std.proofs.Common.{◌≡◌, ℕ, ◌+◌, ◌<◌, ◌≤◌, ◌⊎◌, List, [], ◌∷◌, ◌++◌, length, take, drop, set, sym, refl, ap, ◌∙◌, subst, ⊎_elim, arith, length-append, length-set}
use Rattle.std.proofs.lemmas.List.{append-nil, append_assoc, set_past, take_more_set, drop-set-lt}
use Rattle.std.proofs.lemmas.Bool.Decides.{nat_tests}
use Rattle.writer.specs.Puts.{over, most, Counts, Puts}
use Rattle.writer.specs.declared.places.Page.{Page}

length_over : (old : List ℕ) (at : ℕ) (xs : List ℕ) → length (over old at xs) ≡ length old
length_over old at [] = refl
length_over old at (x ∷ xs) = length_over (set old at x) (at + 1) xs ∙ length-set old at x

over_append : (old : List ℕ) (at : ℕ) (xs ys : List ℕ) → over old at (xs ++ ys) ≡ over (over old at xs) (at + length xs) ys
over_append old at [] ys = ap (λ k. over old k ys) (omega arith)
over_append old at (x ∷ xs) ys = over_append (set old at x) (at + 1) xs ys ∙ ap (λ k. over (over (set old at x) (at + 1) xs) k ys) (omega arith)

over_past : (old : List ℕ) (at : ℕ) (xs : List ℕ) → length old ≤ at → over old at xs ≡ old
over_past old at [] h = refl
over_past old at (x ∷ xs) h =
    ap (λ l. over l (at + 1) xs) (set_past old at x h) ∙ over_past old (at + 1) xs (omega arith)

-- Below the largest count a count is the number of bytes.
counts_same : (a b : ℕ) → Counts a b → (a ≡ b) ⊎ ((most ≤ a) × (most ≤ b))
counts_same a b e = grind (arith, nat_tests)

-- A number of bytes below the largest count is counted.
pub counts_below : (a b : ℕ) → Counts a b → a < most → a ≡ b
counts_below a b e h = grind (arith, nat_tests)

counts_more : (a b c d n : ℕ) → Counts a b → Counts c (a + n) → d ≡ b + n → Counts c d
counts_more a b c d n e f g = grind (arith, nat_tests)

over_counted : (old : List ℕ) (a b : ℕ) (xs : List ℕ) → length old ≤ most → Counts a b → over old a xs ≡ over old b xs
over_counted old a b xs small e =
    ⊎_elim
    (λ same. ap (λ k. over old k xs) same)
    (λ past. over_past old a xs (omega arith) ∙ sym (over_past old b xs (omega arith)))
    (counts_same a b e)

-- Some bytes are written, and then others after them.
pub puts_more : {old mid new : Page} {xs ys : List ℕ} → length old.bytes.now ≤ most → Puts old mid xs → Puts mid new ys → Puts old new (xs ++ ys)
puts_more {old} {mid} {new} {xs} {ys} small p q =
    let kept : length mid.bytes.now ≡ length old.bytes.now = ap length p.written ∙ length_over old.bytes.now old.count xs in
    let all : old.count + length (xs ++ ys) ≡ old.count + length xs + length ys = omega (arith, length-append xs ys) in
    record {
      same_bytes = q.same_bytes ∙ p.same_bytes;
      written =
          q.written
          ∙ over_counted mid.bytes.now mid.count (old.count + length xs) ys (omega arith) p.counted
          ∙ ap (λ l. over l (old.count + length xs) ys) p.written
          ∙ sym (over_append old.bytes.now old.count xs ys);
      counted = counts_more mid.count (old.count + length xs) new.count (old.count + length (xs ++ ys)) (length ys) p.counted q.counted all;
    }

-- The same bytes in another form.
pub puts_as : {old new : Page} {xs ys : List ℕ} → xs ≡ ys → Puts old new xs → Puts old new ys
puts_as {old} {new} e p = subst (Puts old new) e p

-- Bytes for which there is room stand where they were written.
take_over : (old : List ℕ) (at : ℕ) (xs : List ℕ) → at + length xs ≤ length old → take (at + length xs) (over old at xs) ≡ take at old ++ xs
take_over old at [] room = ap (λ k. take k old) (omega arith) ∙ sym (append-nil (take at old))
take_over old at (x ∷ xs) room =
    ap (λ k. take k (over (set old at x) (at + 1) xs)) (omega arith)
    ∙ take_over (set old at x) (at + 1) xs (simp length-set (omega arith))
    ∙ ap (λ l. l ++ xs) (take_more_set old at x (omega arith))
    ∙ append_assoc (take at old) (x ∷ []) xs

-- Bytes after the last that is written are as they were.
drop_over : (old : List ℕ) (at : ℕ) (xs : List ℕ) (n : ℕ) → at + length xs ≤ n → drop n (over old at xs) ≡ drop n old
drop_over old at [] n h = refl
drop_over old at (x ∷ xs) n h = drop_over (set old at x) (at + 1) xs n (omega arith) ∙ drop-set-lt n old at x (omega arith)

module _ (old xs : List ℕ) where
  -- What was written from the start on stands first.
  pub over_first : length xs ≤ length old → take (length xs) (over old 0 xs) ≡ xs
  over_first room = let e = take_over old 0 xs (omega arith) in ap (λ k. take k (over old 0 xs)) (omega arith) ∙ e

  -- The rest is as it was.
  pub over_rest : drop (length xs) (over old 0 xs) ≡ drop (length xs) old
  over_rest = drop_over old 0 xs (length xs) (omega arith)
