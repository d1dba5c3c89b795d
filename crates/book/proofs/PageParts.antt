-- A page, by its three lists.
use Rattle.std.proofs.Common.{◌≡◌, ℕ, Bool, List, ap, ◌∙◌}
use Rattle.book.specs.Pages.{Page}

abbrev made : List ℕ → List Bool → List ℕ → Page
made bs ps ks = record { bounds = bs; planned = ps; kept = ks }

pub pages_same : (p : Page) (bs : List ℕ) (ps : List Bool) (ks : List ℕ) → p.bounds ≡ bs → p.planned ≡ ps → p.kept ≡ ks → p ≡ record { bounds = bs; planned = ps; kept = ks }
pages_same p bs ps ks b q k =
    ap (λ l. made l p.planned p.kept) b ∙ ap (λ l. made bs l p.kept) q ∙ ap (made bs ps) k

-- Pages that differ only in how their bounds are written.
pub bounds_same : (xs ys : List ℕ) (ps : List Bool) (ks : List ℕ) → xs ≡ ys → made xs ps ks ≡ made ys ps ks
bounds_same xs ys ps ks e = ap (λ l. made l ps ks) e
