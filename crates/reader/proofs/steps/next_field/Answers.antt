use Rattle.std.proofs.Common.{◌≡◌, ◌<◌, ◌⊎◌, ◌++◌, rules}
use Rattle.sheet.specs.Stages.{stage}
use Rattle.sheet.specs.Blocks.{block, block_bytes}
use Rattle.reader.proofs.Stepping.{tag_refused}
use Rattle.reader.proofs.steps.next_field.Goals as goal

pub returns-in_err-field : goal.returns-in_err-field
returns-in_err-field c =
    let s = c.in_ok-split.split in
    let first : c.args.bytes.now ≡ block_bytes (block s.tag s.body.now) ++ s.rest.now = search rules in
    let out : (s.tag < 1) ⊎ (5 < s.tag) = search rules in
    let bad = tag_refused (stage c.args.due.now) c.args.bytes.now c.args.place s.tag s.body.now s.rest.now first out in
    search rules
