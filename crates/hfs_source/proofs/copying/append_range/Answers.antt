-- What was read stands behind the old bytes.
use Rattle.std.proofs.Common.{◌≡◌, Some, ◌+◌, ◌-◌, ◌*◌, length, rules, ◌∙◌}
use Rattle.std.proofs.lemmas.List.{with_items_is}
use borrow.Rule.Slice.PartMut.{put_mid}
use Rattle.hfs_source.proofs.Copied.{range-read}
use Rattle.hfs_source.proofs.copying.append_range.Goals as goal

pub returns-in-Ok-read_blocks-clause-gains : goal.returns-in-Ok-read_blocks-clause-gains
returns-in-Ok-read_blocks-clause-gains g c =
    let from = c.len-from.result in
    let laid = put_mid from (from + c.args.count * 512 - from) c.deref_mut.result.now c.read_blocks.new.into in
    let long : length laid ≡ c.resize.new.self.len = search rules in
    let at : from ≡ length c.args.bytes.now.items = search rules in
    let whole : length c.deref_mut.result.now ≡ from + c.args.count * 512 = search rules in
    let fits : length c.read_blocks.new.into ≡ c.args.count * 512 = search rules in
    range-read (g.S.BlockSource.image c.args.source.now) c.args.first c.args.count from c.args.bytes.now.items c.deref_mut.result.now _ _
    c.read_blocks.new.into at (c.deref_mut.ensures.value ∙ c.in-Ok.ensures.items) whole (with_items_is c.resize.new.self laid long) fits
    c.in-Ok-read_blocks.ensures.read

pub returns-in-Ok-read_blocks-clause-each : goal.returns-in-Ok-read_blocks-clause-each
returns-in-Ok-read_blocks-clause-each g c = λ image h.
    let from = c.len-from.result in
    let laid = put_mid from (from + c.args.count * 512 - from) c.deref_mut.result.now c.read_blocks.new.into in
    let long : length laid ≡ c.resize.new.self.len = search rules in
    let at : from ≡ length c.args.bytes.now.items = search rules in
    let whole : length c.deref_mut.result.now ≡ from + c.args.count * 512 = search rules in
    let fits : length c.read_blocks.new.into ≡ c.args.count * 512 = search rules in
    range-read (Some image) c.args.first c.args.count from c.args.bytes.now.items c.deref_mut.result.now _ _
    c.read_blocks.new.into at (c.deref_mut.ensures.value ∙ c.in-Ok.ensures.items) whole (with_items_is c.resize.new.self laid long) fits
    (c.in-Ok-read_blocks.ensures.seen image h)
