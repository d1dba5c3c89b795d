-- Reading a mapped list at a place, with a default.
use Rattle.std.proofs.Common.{◌≡◌, ℕ, List, map, get_or, unwrap_or, sym, ap, ◌∙◌}
use Rattle.std.proofs.lemmas.Option.{unwrap_or-slice_get, slice_get-map}
use Rattle.std.specs.List.{slice_get}
use Rattle.std.specs.Option.{option_map}

pub get_or_map_nth : {X Y : Type 0} (f : X → Y) (xs : List X) (i : ℕ) (e : Y) → get_or (map f xs) i e ≡ unwrap_or (option_map f (slice_get xs i)) e
get_or_map_nth f xs i e = sym (unwrap_or-slice_get (map f xs) i e) ∙ ap (λ o. unwrap_or o e) (slice_get-map f xs i)
