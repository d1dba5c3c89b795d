-- Lists whose first entries are those of a function.
use Rattle.std.proofs.Common.{◌≡◌, ℕ, ◌+◌, ◌-◌, ◌<◌, ◌≤◌, min, ltb, List, [], ◌∷◌, ◌++◌, map, length, get_or, take, drop, set, sym, ap, ap₂, ◌∙◌, ⊎_elim, append_assoc, arith}
use mathlib.Core.Path.{fun_ext}
use Rattle.std.specs.List.{range_with_len, take-map, drop-map}
use Rattle.std.proofs.lemmas.List.FromFn.{length-map-range_with_len, map-range_with_len_more}
use Rattle.std.proofs.lemmas.List.{drop_more, set_at, map-append, length-map, length-take-le, get_or-append_right, get_or-drop, get_or_past, get_or-map, map-set, drop_all, append-nil}
use Rattle.std.proofs.lemmas.Bool.{cases_lt, cond-true, cond-false, lt-ltb, le-ltb}
use Rattle.cost.specs.Costs.{roof}
use Rattle.cost.specs.declared.amount.Cost.{Cost}
use Rattle.plan.specs.Bounds.{bounds_of}
use Rattle.book.specs.Estimates.{estimate_bounds}
use Rattle.book.specs.Openings.{first_by}

-- One entry more.
pub first_by_more : {X : Type 0} (f : ℕ → X) (n : ℕ) (xs : List X) → n < length xs → set (first_by f n xs) n (f n) ≡ first_by f (n + 1) xs
first_by_more f n xs h =
    ap (λ l. set (map f (range_with_len 0 n) ++ l) n (f n)) (drop_more xs n (f n) h)
    ∙ set_at (map f (range_with_len 0 n)) (get_or xs n (f n)) (drop (n + 1) xs) (f n) n (length-map-range_with_len f 0 n)
    ∙ sym (append_assoc (map f (range_with_len 0 n)) (f n ∷ []) (drop (n + 1) xs))
    ∙ ap (λ l. l ++ drop (n + 1) xs) (sym (map-range_with_len_more f 0 n n (omega arith)))

-- The first entry that is not of the function is as it was.
pub first_by_rest : {X : Type 0} (f : ℕ → X) (n : ℕ) (xs : List X) (d : X) → get_or (first_by f n xs) n d ≡ get_or xs n d
first_by_rest f n xs d =
    get_or-append_right (map f (range_with_len 0 n)) (drop n xs) n n d (length-map-range_with_len f 0 n) (omega arith)
    ∙ get_or-drop n xs (n - n) d
    ∙ ap (λ i. get_or xs i d) (omega arith)

-- A list whose first entries were all written in a part of their own.
pub first_by_part : {X : Type 0} (f : ℕ → X) (n : ℕ) (xs : List X) → n ≤ length xs → first_by f n (take n xs) ++ drop n xs ≡ first_by f n xs
first_by_part f n xs h =
    ap (λ l. (map f (range_with_len 0 n) ++ l) ++ drop n xs) (drop_all n (take n xs) (omega (arith, length-take-le n xs h)))
    ∙ ap (λ l. l ++ drop n xs) (append-nil (map f (range_with_len 0 n)))

-- Costs as numbers.
abbrev pub numbers : List Cost → List ℕ
numbers bs = map (λ (c : Cost). c.value) bs

-- Costs that are the same numbers are as many.
pub as_long : (bs cs : List Cost) → numbers bs ≡ numbers cs → length bs ≡ length cs
as_long bs cs same = sym (length-map bs (λ (c : Cost). c.value)) ∙ ap length same ∙ length-map cs (λ (c : Cost). c.value)

-- One cost more is written.
pub cost_written : (f : ℕ → ℕ) (k : ℕ) (old : List ℕ) (bs : List Cost) (x : Cost) → numbers bs ≡ first_by f k old → k < length old → x.value ≡ f k → numbers (set bs k x) ≡ first_by f (k + 1) old
cost_written f k old bs x e h v =
    map-set (λ (c : Cost). c.value) bs k x
    ∙ ap (λ l. set l k x.value) e
    ∙ ap (set (first_by f k old) k) v
    ∙ first_by_more f k old h

-- The next cost is still the old one.
pub cost_unwritten : (f : ℕ → ℕ) (k : ℕ) (old : List ℕ) (bs : List Cost) (d : Cost) → numbers bs ≡ first_by f k old → k < length bs → (get_or bs k d).value ≡ get_or old k 0
cost_unwritten f k old bs d e h =
    sym (get_or-map (λ (c : Cost). c.value) bs k d 0 h) ∙ ap (λ l. get_or l k 0) e ∙ first_by_rest f k old 0

-- Costs that were all written in a part of their own.
pub costs_part : (f : ℕ → ℕ) (n k : ℕ) (bs part : List Cost) → n ≤ length bs → k ≡ n → numbers part ≡ first_by f k (numbers (take n bs)) → numbers (part ++ drop n bs) ≡ first_by f n (numbers bs)
costs_part f n k bs part h all e =
    map-append (λ (c : Cost). c.value) part (drop n bs)
    ∙ ap (λ l. l ++ numbers (drop n bs)) (e ∙ ap (λ i. first_by f i (numbers (take n bs))) all)
    ∙ ap₂ (λ l r. first_by f n l ++ r) (sym (take-map (λ (c : Cost). c.value) n bs)) (sym (drop-map (λ (c : Cost). c.value) n bs))
    ∙ first_by_part f n (numbers bs) (omega (arith, length-map bs (λ (c : Cost). c.value)))

-- The bounds that estimates give, as a list of 4,096 costs holds them.
pub estimates_held : (es : List ℕ) (bs : List Cost) → length bs ≡ 4096 → ((k : ℕ) → k < 4096 → get_or (numbers bs) k 0 ≡ min roof (get_or es k 0)) → bounds_of bs ≡ estimate_bounds es
estimates_held es bs long each =
    let f : ℕ → ℕ = λ s. min roof (get_or es s 0) in
    fun_ext (λ s. ⊎_elim
    (λ below. each s below ∙ sym (cond-true (ltb s 4096) (f s) 0 (lt-ltb s 4096 below)))
    (λ past. get_or_past (numbers bs) s 0 (omega (arith, long, length-map bs (λ (c : Cost). c.value))) ∙ sym (cond-false (ltb s 4096) (f s) 0 (le-ltb s 4096 past)))
    (cases_lt s 4096))
