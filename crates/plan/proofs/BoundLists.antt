-- Bounds that a list of costs gives, after a write to the list.
use Rattle.std.proofs.Common.{◌≡◌, ℕ, ◌<◌, List, ◌++◌, map, length, get_or, set, sym, ap, ◌∙◌, arith}
use Rattle.std.proofs.lemmas.List.{map-append, map-set, get_or_append_left, get_or-set_same, get_or-set_other, get_or-map, length-map}
use Rattle.cost.specs.declared.amount.Cost.{Cost}
use Rattle.plan.specs.Bounds.{bounds_of}

pub bounds_set_here : (cs : List Cost) (s : ℕ) (c : Cost) → s < length cs → bounds_of (set cs s c) s ≡ c.value
bounds_set_here cs s c h =
    ap (λ l. get_or l s 0) (map-set (λ (x : Cost). x.value) cs s c)
    ∙ get_or-set_same (map (λ (x : Cost). x.value) cs) s c.value 0 (omega (arith, length-map cs (λ (x : Cost). x.value)))

pub bounds_set_other : (cs : List Cost) (s : ℕ) (c : Cost) (u : ℕ) → (u ≡ s → ⊥) → bounds_of (set cs s c) u ≡ bounds_of cs u
bounds_set_other cs s c u ne =
    ap (λ l. get_or l u 0) (map-set (λ (x : Cost). x.value) cs s c)
    ∙ get_or-set_other (map (λ (x : Cost). x.value) cs) s u c.value 0 ne

-- An entry that was read is the bound there.
pub bounds_read : (cs : List Cost) (s : ℕ) (d : Cost) → s < length cs → (get_or cs s d).value ≡ bounds_of cs s
bounds_read cs s d h = sym (get_or-map (λ (x : Cost). x.value) cs s d 0 h)

-- The bounds of a list stay where others follow it.
pub bounds_append : (cs ds : List Cost) (s : ℕ) → s < length cs → bounds_of (cs ++ ds) s ≡ bounds_of cs s
bounds_append cs ds s h =
    ap (λ l. get_or l s 0) (map-append (λ (x : Cost). x.value) cs ds)
    ∙ get_or_append_left (map (λ (x : Cost). x.value) cs) (map (λ (x : Cost). x.value) ds) 0 s (omega (arith, length-map cs (λ (x : Cost). x.value)))
