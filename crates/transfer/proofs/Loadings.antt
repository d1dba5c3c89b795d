-- Tables of the size that a sheet needs hold it.
use Rattle.std.proofs.Common.{◌≡◌, ℕ, List, ◌++◌, length, take, drop, None, sym, ap, ◌∙◌, subst, arith}
use Rattle.std.proofs.lemmas.List.{take_all, take-append-drop}
use Rattle.std.proofs.lemmas.Bool.Decides.{nat_tests}
use Rattle.model.specs.Meaning.{State}
use Rattle.sheet.specs.Sheets.{sheet_of, Stands}
use Rattle.sheet.specs.Wrongs.{Wrong}
use Rattle.sheet.specs.declared.faults.SheetFault.{SheetFault}
use Rattle.sheet.specs.declared.faults.SheetFault.TheVariants.{Short, Ends, Tag, Length, Value}
use Rattle.sheet.proofs.Exactly.{stands_for_one, sheet_has_no_fault_lem}
use Rattle.table.specs.Tables.{table_meaning}
use Rattle.table.specs.declared.tables.ActionRow.{ActionRow}
use Rattle.table.specs.declared.tables.StateRow.{StateRow}
use Rattle.reader.specs.Reads.{Measures, size_of, first_short, Refuses, Tables, tables_model, ReadInto}
use Rattle.reader.specs.declared.sizes.Size.{Size}
use Rattle.writer.specs.Writing.{Written}
use Rattle.cost.specs.Prices.{figures}
use Rattle.transfer.specs.Loads.{loaded_model, Loads, NotLoaded, Same, NotCarried, Carries, BytesLeft}
use Rattle.transfer.specs.declared.faults.TransferFault.{TransferFault}
use Rattle.transfer.specs.declared.faults.TransferFault.TheVariants as transfer
use Rattle.transfer.specs.declared.loading.Loaded.{Loaded}

-- No table is too short for its own size.
none_short : (size : Size) → first_short size size ≡ None
none_short size = grind (arith, nat_tests)

-- A size, by its three numbers.
pub sizes_same : (size : Size) (s a o : ℕ) → s ≡ size.states → a ≡ size.actions → o ≡ size.outcomes → record { states = s; actions = a; outcomes = o } ≡ size
sizes_same size s a o e f g =
    let made : ℕ → ℕ → ℕ → Size = λ x y z. record { states = x; actions = y; outcomes = z } in
    ap (λ x. made x a o) e ∙ ap (λ y. made size.states y o) f ∙ ap (λ z. made size.states size.actions z) g

-- Where the tables have the size that was measured, what is refused is no sheet.
pub refused_wrong : (bytes : List ℕ) (size room : Size) (f : SheetFault) → Measures bytes size → room ≡ size → Refuses bytes room f → Wrong bytes f
refused_wrong bytes size room (Short list) (m, (ps, (stands, is))) same (m', (ps', (stands', short))) =
    let one = (stands_for_one bytes m' m ps' ps stands' stands).0 in
    let needed : size_of m' ≡ room = ap size_of one ∙ sym is ∙ sym same in
    let none : first_short (size_of m') room ≡ None = ap (λ s. first_short s room) needed ∙ none_short room in
    let z : ◌≡◌ {A = ℕ} 0 1 = cc in
    absurd (omega arith)
refused_wrong bytes size room (Ends p) measured same wrong = wrong
refused_wrong bytes size room (Tag p) measured same wrong = wrong
refused_wrong bytes size room (Length p) measured same wrong = wrong
refused_wrong bytes size room (Value p) measured same wrong = wrong

-- Tables that have just the rows of the states hold the sheet as a whole.
pub read_all : (bytes : List ℕ) (measured size : Size) (old new : Tables) → Measures bytes measured → ReadInto bytes size old new → length new.rows ≡ measured.states → Stands bytes (table_meaning new.rows new.acts new.outs) new.prices
read_all bytes measured size old new (m, (ps, (stands, is))) into rows =
    let one = (stands_for_one bytes (tables_model size.states new) m new.prices ps into.stands stands).0 in
    let n : size.states ≡ length m = ap (λ s. s.states) into.size_is ∙ ap length one in
    let all : take size.states new.rows ≡ new.rows = take_all size.states new.rows (omega (arith, ap (λ s. s.states) is)) in
    subst (λ l. Stands bytes (table_meaning l new.acts new.outs) new.prices) all into.stands

-- Tables that were filled, by what they hold.
pub held : (bytes ps : List ℕ) (rows rows' : List StateRow) (acts acts' : List ActionRow) (outs outs' : List ℕ) → rows' ≡ rows → acts' ≡ acts → outs' ≡ outs → Stands bytes (table_meaning rows acts outs) ps → Stands bytes (table_meaning rows' acts' outs') ps
held bytes ps rows rows' acts acts' outs outs' r a o stands =
    let same : table_meaning rows acts outs ≡ table_meaning rows' acts' outs' = cc in
    subst (λ m. Stands bytes m ps) same stands

-- What is read from the sheet of a model is that model, at its prices.
pub read_same : (bytes : List ℕ) (m : List State) (ps : List ℕ) (l : Loaded) → Stands bytes m ps → Loads bytes l → Same m ps l
read_same bytes m ps l stands loads = stands_for_one bytes (loaded_model l) m (figures l.prices) ps loads stands

-- A sheet is not refused.
pub not_refused : (bytes : List ℕ) (m : List State) (ps : List ℕ) (room : ℕ) (f : TransferFault) → Stands bytes m ps → NotLoaded bytes f → NotCarried m ps room f
not_refused bytes m ps room (transfer.Sheet f) stands wrong = sheet_has_no_fault_lem bytes f m ps wrong stands
not_refused bytes m ps room (transfer.Write f) stands none = absurd none
not_refused bytes m ps room transfer.Memory stands h = tt

-- Bytes to which a model was written begin with its sheet.
pub carried : (m : List State) (ps : List ℕ) (n : ℕ) (old new : List ℕ) → Written m ps n old new → Carries m ps old new
carried m ps n old new written =
    sym (take-append-drop n new)
    ∙ ap (λ l. l ++ drop n new) written.stands.same
    ∙ ap (λ l. sheet_of m ps ++ l) (written.rest ∙ ap (λ i. drop i old) written.count)

-- A sheet that was written is not refused when it is read.
pub bytes_left : (bytes : List ℕ) (m : List State) (ps old new : List ℕ) (f : TransferFault) → Stands bytes m ps → Carries m ps old new → NotLoaded bytes f → BytesLeft m ps old new f
bytes_left bytes m ps old new (transfer.Sheet f) stands carries wrong = sheet_has_no_fault_lem bytes f m ps wrong stands
bytes_left bytes m ps old new (transfer.Write f) stands carries none = absurd none
bytes_left bytes m ps old new transfer.Memory stands carries h = carries
