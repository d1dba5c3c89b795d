-- What a sheet that was written comes to.
use Rattle.std.proofs.Common.{◌≡◌, ℕ, ◌≤◌, List, length, take, ap, arith}
use Rattle.model.specs.Meaning.{State}
use Rattle.sheet.specs.Sheets.{sheet_of, Writable}
use Rattle.writer.specs.Puts.{over}
use Rattle.writer.specs.Writing.{Written}
use Rattle.writer.proofs.Placing.{over_first, over_rest}

module _ (m : List State) (ps : List ℕ) where
  -- A sheet that was written over the first bytes is written.
  pub put_written : (n : ℕ) (old new : List ℕ) → Writable m ps → n ≡ length (sheet_of m ps) → new ≡ over old 0 (sheet_of m ps) → n ≤ length old → n ≤ 65536 → Written m ps n old new
  put_written n old new writable count put enough few =
      let first = over_first old (sheet_of m ps) (omega arith) in
      let same : take n new ≡ sheet_of m ps = cc in
      let rest = over_rest old (sheet_of m ps) in
      record { count = count; stands = record { writable = writable; same = same; few = omega (arith, ap length same) }; rest = cc }
