-- Fields that come after other fields.
use Rattle.std.proofs.Common.{◌≡◌, ℕ, zero, suc, List, [], ◌∷◌, ◌++◌, replicate, refl, ap, ◌∙◌}
use Rattle.std.specs.List.{flat_map, AllByRecursion}
use Rattle.std.proofs.lemmas.List.{append-nil}
use Rattle.std.proofs.lemmas.Grind.{flat_map-append}
use Rattle.sheet.specs.Blocks.{Block}
use Rattle.sheet.specs.Stages.{Stage, after, after_all, Right}
use Rattle.sheet.proofs.Contents.{Content, grow, grow_all}

pub after_all_append : (d : Stage) (fs gs : List Block) → after_all d (fs ++ gs) ≡ after_all (after_all d fs) gs
after_all_append d [] gs = refl
after_all_append d (f ∷ fs) gs = after_all_append (after d f) fs gs

pub grow_all_append : (c : Content) (fs gs : List Block) → grow_all c (fs ++ gs) ≡ grow_all (grow_all c fs) gs
grow_all_append c [] gs = refl
grow_all_append c (f ∷ fs) gs = grow_all_append (grow c f) fs gs

pub right_append : (d : Stage) (fs gs : List Block) → Right d fs → Right (after_all d fs) gs → Right d (fs ++ gs)
right_append d [] gs r s = s
right_append d (f ∷ fs) gs r s = (r.0, right_append (after d f) fs gs r.1 s)

pub right_front : (d : Stage) (fs gs : List Block) → Right d (fs ++ gs) → Right d fs
right_front d [] gs r = tt
right_front d (f ∷ fs) gs r = (r.0, right_front (after d f) fs gs r.1)

pub right_back : (d : Stage) (fs gs : List Block) → Right d (fs ++ gs) → Right (after_all d fs) gs
right_back d [] gs r = r
right_back d (f ∷ fs) gs r = right_back (after d f) fs gs r.1

-- One element more adds what it stands for.
pub joined_push : {X A : Type 0} (f : X → List A) (xs : List X) (x : X) → flat_map f (xs ++ x ∷ []) ≡ flat_map f xs ++ f x
joined_push f xs x = flat_map-append f xs (x ∷ []) ∙ ap (λ r. flat_map f xs ++ r) (append-nil (f x))

pub all_parts : {X : Type 0} (P : X → Type 0) (xs ys : List X) → AllByRecursion P (xs ++ ys) → AllByRecursion P xs × AllByRecursion P ys
all_parts P [] ys h = (tt, h)
all_parts P (x ∷ xs) ys h = let more = all_parts P xs ys h.1 in ((h.0, more.0), more.1)

pub all_replicate : {X : Type 0} (P : X → Type 0) (n : ℕ) (x : X) → P x → AllByRecursion P (replicate n x)
all_replicate P zero x h = tt
all_replicate P (suc n) x h = (h, all_replicate P n x h)
