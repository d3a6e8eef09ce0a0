-- What was read stands behind the blocks that are held.
use Rattle.std.proofs.Common.{◌≡◌, ◌+◌, ◌-◌, ◌*◌, length, Some, rules, ◌∙◌}
use Rattle.std.proofs.lemmas.List.{with_items_is}
use borrow.Rule.Slice.PartMut.{put_mid}
use Rattle.hfs_source.proofs.ReadingIn.{same-by, filled-kept, filled-holds}
use Rattle.hfs_source.proofs.held.Held.read_behind.Goals as goal

pub returns-in-Ok-read_blocks-clause-same : goal.returns-in-Ok-read_blocks-clause-same
returns-in-Ok-read_blocks-clause-same g c =
    let now = c.args.self.now in
    let laid = put_mid (now.count * 512) (now.count * 512 + c.args.count * 512 - now.count * 512) c.deref_mut.result.now c.read_blocks.new.into in
    let long : length laid ≡ c.resize.new.self.len = search rules in
    same-by now.bytes.items _ now.places.entries now.count c.requires.held.placed
    (filled-kept now.bytes.items c.deref_mut.result.now _ _ c.read_blocks.new.into now.count c.args.count c.requires.held.there
    (c.deref_mut.ensures.value ∙ c.in-Ok.ensures.items) (with_items_is c.resize.new.self laid long))

pub returns-in-Ok-read_blocks-clause-read : goal.returns-in-Ok-read_blocks-clause-read
returns-in-Ok-read_blocks-clause-read g c =
    let now = c.args.self.now in
    let laid = put_mid (now.count * 512) (now.count * 512 + c.args.count * 512 - now.count * 512) c.deref_mut.result.now c.read_blocks.new.into in
    let long : length laid ≡ c.resize.new.self.len = search rules in
    let filled : length c.read_blocks.new.into ≡ c.args.count * 512 = search rules in
    filled-holds now.bytes.items c.deref_mut.result.now _ _ c.read_blocks.new.into now.count c.args.count c.requires.held.there
    (c.deref_mut.ensures.value ∙ c.in-Ok.ensures.items) (with_items_is c.resize.new.self laid long)
    (g.S.BlockSource.image c.args.source.now) c.args.first filled c.in-Ok-read_blocks.ensures.read

pub returns-in-Err-clause-same : goal.returns-in-Err-clause-same
returns-in-Err-clause-same g c =
    let now = c.args.self.now in
    let laid = put_mid (now.count * 512) (now.count * 512 + c.args.count * 512 - now.count * 512) c.deref_mut.result.now c.read_blocks.new.into in
    let long : length laid ≡ c.resize.new.self.len = search rules in
    same-by now.bytes.items _ now.places.entries now.count c.requires.held.placed
    (filled-kept now.bytes.items c.deref_mut.result.now _ _ c.read_blocks.new.into now.count c.args.count c.requires.held.there
    (c.deref_mut.ensures.value ∙ c.in-Ok.ensures.items) (with_items_is c.resize.new.self laid long))

pub returns-in-Ok-read_blocks-clause-seen : goal.returns-in-Ok-read_blocks-clause-seen
returns-in-Ok-read_blocks-clause-seen g c = λ image h.
    let now = c.args.self.now in
    let laid = put_mid (now.count * 512) (now.count * 512 + c.args.count * 512 - now.count * 512) c.deref_mut.result.now c.read_blocks.new.into in
    let long : length laid ≡ c.resize.new.self.len = search rules in
    let filled : length c.read_blocks.new.into ≡ c.args.count * 512 = search rules in
    filled-holds now.bytes.items c.deref_mut.result.now _ _ c.read_blocks.new.into now.count c.args.count c.requires.held.there
    (c.deref_mut.ensures.value ∙ c.in-Ok.ensures.items) (with_items_is c.resize.new.self laid long)
    (Some image) c.args.first filled (c.in-Ok-read_blocks.ensures.seen image h)
