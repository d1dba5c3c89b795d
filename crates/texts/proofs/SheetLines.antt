-- The best costs of a sheet's model, as they are told.
use Rattle.std.proofs.Common.{◌≡◌, ℕ, ◌<◌, List, map, length, get_or, vec_items, vec_len, sym, ap, ◌∙◌, subst}
use Rattle.std.proofs.lemmas.List.{length-map}
use Rattle.cost.specs.declared.amount.Cost.{Cost}
use Rattle.model.specs.Meaning.{State}
use Rattle.plan.specs.Bests.{Best}
use Rattle.sheet.specs.Sheets.{Stands}
use Rattle.table.specs.Tables.{table_state}
use Rattle.transfer.specs.Loads.{loaded_model}
use Rattle.transfer.specs.declared.loading.Loaded.{Loaded}
use Rattle.texts.specs.Tellings.{TellsBest}
use Rattle.texts.specs.Texts.{values_of, best_text}

-- A model that was loaded has as many states as its table has rows.
pub length_loaded : (l : Loaded) → vec_len l.states ≡ length (loaded_model l)
length_loaded l = l.states.ok.0 ∙ sym (length-map (vec_items l.states) (table_state (vec_items l.actions) (vec_items l.outcomes)))

-- What is told are the best costs.
pub tells_best : (bytes text : List ℕ) (value : List ℕ → ℕ) (m m' : List State) (ps : List ℕ) (costs told : List Cost) → Stands bytes m ps → m' ≡ m → length costs ≡ length m → ((s : ℕ) → s < length m' → Best m' value ps s (get_or (map (λ (c : Cost). c.value) costs) s 0)) → told ≡ costs → text ≡ best_text 0 (values_of told) → TellsBest bytes value text
tells_best bytes text value m m' ps costs told stands same long best which is =
    record {
      model = m;
      prices = ps;
      costs = values_of costs;
      stands = stands;
      all = length-map costs (λ (c : Cost). c.value) ∙ long;
      best = subst (λ l. (s : ℕ) → s < length l → Best l value ps s (get_or (values_of costs) s 0)) same best;
      told = is ∙ ap (λ l. best_text 0 (values_of l)) which;
    }
