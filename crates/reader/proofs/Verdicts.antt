-- What is wrong with bytes, by the fields that were read and the one that was refused.
use Rattle.std.proofs.Common.{◌≡◌, ℕ, ◌-◌, ◌<◌, ◌≤◌, Bool, true, false, cond, not, ◌⊎◌, List, [], ◌∷◌, ◌++◌, length, Some, None, sym, refl, ap, ◌∙◌, subst, inl, inr, ⊎_elim, arith, length-append}
use Rattle.std.specs.List.{AllByRecursion}
use Rattle.std.proofs.lemmas.List.{append-nil}
use Rattle.model.specs.Firsts.{when, first_of}
use Rattle.model.specs.Meaning.{State}
use Rattle.sheet.specs.Blocks.{Block, block, block_bytes, blocks_bytes}
use Rattle.sheet.specs.Refusals.{fault_at}
use Rattle.sheet.specs.Sheets.{fields, Stands}
use Rattle.sheet.specs.Stages.{Stage, beginning, after_all, all_read, tag_due, length_right, value_right, cause_of, Right}
use Rattle.sheet.specs.Wrongs.{Begins, Reached, NoField, Wrong}
use Rattle.sheet.specs.declared.faults.Cause.{Cause}
use Rattle.sheet.specs.declared.faults.Cause.TheVariants.{Tag, Length, Value}
use Rattle.sheet.specs.declared.faults.SheetFault.TheVariants as fault
use Rattle.sheet.proofs.Accepting.{writable_right, begins_right}
use Rattle.sheet.proofs.Completing.{right_begins}
use Rattle.sheet.proofs.FieldKinds.{other_tag}
use Rattle.sheet.proofs.Framing.{blocks_front}
use Rattle.sheet.proofs.Runs.{right_back, all_parts}

-- The three parts of a cause.
by_tests : (a b c : Bool) (e : Cause) → first_of (when (not a) Tag) (first_of (when (not b) Length) (when (not c) Value)) ≡ Some e → ((e ≡ Tag) × (a ≡ false)) ⊎ (((e ≡ Length) × (a ≡ true) × (b ≡ false)) ⊎ ((e ≡ Value) × (a ≡ true) × (b ≡ true)))
by_tests false b c e h = inl (cc, refl)
by_tests true false c e h = inr (inl (cc, refl, refl))
by_tests true true false e h = inr (inr (cc, refl, refl))
by_tests true true true e h = let z : ◌≡◌ {A = ℕ} 0 1 = cc in absurd (omega arith)

module _ (bytes : List ℕ) (small : AllByRecursion (λ x. x < 256) bytes) (few : length bytes ≤ 65536) (fs : List Block) (right : Right beginning fs) where
  reached : (rest : List ℕ) → bytes ≡ blocks_bytes fs ++ rest → Reached bytes (length (blocks_bytes fs)) fs rest
  reached rest split =
      record {
        begins = right_begins fs (all_parts (λ x. x < 256) (blocks_bytes fs) rest (subst (AllByRecursion (λ x. x < 256)) split small)).0 right;
        bytes_split = split;
        place_is = refl;
      }

  -- A field that some sheet has here is not refused.
  not_begun : (f : Block) (c : Cause) → cause_of (after_all beginning fs) f ≡ Some c → Begins (fs ++ f ∷ []) → ⊥
  not_begun f c e begins =
      let none : cause_of (after_all beginning fs) f ≡ None = (right_back beginning fs (f ∷ []) (begins_right (fs ++ f ∷ []) begins)).0 in
      let z : ◌≡◌ {A = ℕ} 0 1 = cc in
      absurd (omega arith)

  -- A field that is refused is what is wrong.
  pub refused_field : (f : Block) (rest : List ℕ) (c : Cause) → bytes ≡ blocks_bytes fs ++ (block_bytes f ++ rest) → cause_of (after_all beginning fs) f ≡ Some c → Wrong bytes (fault_at (length (blocks_bytes fs)) c)
  refused_field (block t b) rest c split e =
      let d = after_all beginning fs in
      let f = block t b in
      let at = length (blocks_bytes fs) in
      let there = reached (block_bytes f ++ rest) split in
      let by_tag : (c ≡ Tag) × (tag_due d t ≡ false) → Wrong bytes (fault_at at c) = λ h.
      subst (λ x. Wrong bytes (fault_at at x)) (sym h.0) (few, (fs, (f, (rest, (there, h.1))))) in
      let by_length : (c ≡ Length) × (tag_due d t ≡ true) × (length_right t (length b) ≡ false) → Wrong bytes (fault_at at c) = λ h.
      subst (λ x. Wrong bytes (fault_at at x)) (sym h.0) (few, (fs, (f, (rest, (there, (h.1, h.2)))))) in
      let by_value : (c ≡ Value) × (tag_due d t ≡ true) × (length_right t (length b) ≡ true) → Wrong bytes (fault_at at c) = λ h.
      subst (λ x. Wrong bytes (fault_at at x)) (sym h.0) (few, (fs, (f, (rest, (there, (h.1, h.2, not_begun f c e)))))) in
      ⊎_elim by_tag (⊎_elim by_length by_value) (by_tests (tag_due d t) (length_right t (length b)) (value_right d t b) c e)

  -- Where no whole field is there and more is due, the bytes end too soon.
  pub ended : (rest : List ℕ) → bytes ≡ blocks_bytes fs ++ rest → NoField rest → (rest ≡ [] → all_read (after_all beginning fs) ≡ false) → Wrong bytes (fault.Ends (length (blocks_bytes fs)))
  ended rest split none due =
      let no_sheet : (m : List State) (ps : List ℕ) → Stands bytes m ps → ⊥ = λ m ps s.
      (let front = blocks_front fs (fields m ps) rest (sym s.same ∙ split) in
      let whole = writable_right m ps s.writable in
      let case : (hs : List Block) → fields m ps ≡ fs ++ hs → rest ≡ blocks_bytes hs → ⊥ = λ hs. elim hs as (λ gs. fields m ps ≡ fs ++ gs → rest ≡ blocks_bytes gs → ⊥) [
        | [] ↦ λ same empty.
            (let again : fields m ps ≡ fs = same ∙ append-nil fs in
            let f : all_read (after_all beginning (fields m ps)) ≡ false = ap (λ l. all_read (after_all beginning l)) again ∙ due empty in
            let z : true ≡ false = sym whole.1 ∙ f in
            let y : ◌≡◌ {A = ℕ} 0 1 = ap (λ b. cond b 0 1) z in
            absurd (omega arith))
        | h ∷ gs ↦ λ same more. none h (blocks_bytes gs) more
      ] in
      case front.0 front.1.0 front.1.1) in
      inr (few, (fs, (rest, (reached rest split, none, no_sheet))))

-- The place of what is left of some bytes.
pub place_left : (bytes front rest : List ℕ) → bytes ≡ front ++ rest → length bytes - length rest ≡ length front
place_left bytes front rest e = omega (arith, ap length e ∙ length-append front rest)

-- No field has a tag outside 1 to 5.
pub unknown_tag : (d : Stage) (t : ℕ) (b : List ℕ) → (t < 1) ⊎ (5 < t) → cause_of d (block t b) ≡ Some Tag
unknown_tag d t b h =
    let apart : (n : ℕ) → 1 ≤ n → n ≤ 5 → t ≡ n → ⊥ = λ n low high e. ⊎_elim (λ l. omega arith) (λ l. omega arith) h in
    let none = other_tag d t (apart 1 (omega arith) (omega arith)) (apart 2 (omega arith) (omega arith)) (apart 3 (omega arith) (omega arith)) (apart 4 (omega arith) (omega arith)) (apart 5 (omega arith) (omega arith)) in
    ap (λ x. first_of (when (not x) Tag) (first_of (when (not (length_right t (length b))) Length) (when (not (value_right d t b)) Value))) none
