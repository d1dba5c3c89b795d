-- Facts about the prices of a list as numbers.
use Rattle.std.proofs.Common.{◌≡◌, ℕ, ◌<◌, ◌≤◌, List, [], ◌∷◌, map, length, get_or, sym, ◌∙◌}
use Rattle.std.specs.List.{AllByRecursion}
use Rattle.std.proofs.lemmas.List.{get_or-map, length-map}
use Rattle.cost.specs.declared.prices.Price.{Price}
use Rattle.cost.specs.declared.prices.PriceList.{PriceList}
use Rattle.cost.specs.Prices.{figures, price_number, InRange}

all_in_range : (ps : List Price) → AllByRecursion (λ p. (1 ≤ p) × (p ≤ 10000)) (map price_number ps)
all_in_range [] = tt
all_in_range (p ∷ ps) = ((p.low, p.high), all_in_range ps)

pub length_figures : (l : PriceList) → length (figures l) ≡ 64
length_figures l = length-map l.prices price_number ∙ l.whole

pub figures_in_range : (l : PriceList) → InRange (figures l)
figures_in_range l = (length_figures l, all_in_range l.prices)

-- The figure of a price that was read.
pub figure_read : (l : PriceList) (t : ℕ) (d : Price) → t < length l.prices → (get_or l.prices t d).value ≡ get_or (figures l) t 0
figure_read l t d within = sym (get_or-map price_number l.prices t d 0 within)
