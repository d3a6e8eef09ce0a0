use Rattle.std.proofs.Common.{◌∙◌, [], ◌∷◌, append-nil, rules}
use Rattle.hfs_blocks.specs.Blocks.{block_at}
use Rattle.hfs_check.specs.Parts.{catalog_in}
use Rattle.hfs_check.specs.VolumeOf.{volume_of}
use Rattle.hfs_viewers.specs.Opened.{AreRowsOf, IsRight}
use Rattle.hfs_viewers.proofs.Opened.{split, last_right}
use Rattle.hfs_viewers.proofs.opening.Maps.gathered.Goals as goal

pub loop-record-init : goal.loop-record-init
loop-record-init c =
    let v = c.args.volume.now in
    let none : AreRowsOf v.base v.current [] (record { by_id = c.new.result; by_name = c.new-2.result }) = search rules in
    ([], append-nil c.args.records.items ∙ c.requires.records, none)

pub take-requires-clause-right : goal.take-requires-clause-right
take-requires-clause-right c =
    let v = c.args.volume.now in
    last_right c.pop.new.self.items c.loop-record.records.items c.loop-record.invariant.0 (catalog_in (block_at v.current)) c.in-Some.record c.in-Some.ensures.items c.loop-record.invariant.1
    (IsRight v.current (volume_of v.current).items) c.requires.right

pub loop-record-preserved : goal.loop-record-preserved
loop-record-preserved c =
    let v = c.args.volume.now in (
      c.in-Some.record ∷ c.loop-record.invariant.0,
      split c.pop.new.self.items c.loop-record.records.items c.loop-record.invariant.0 (catalog_in (block_at v.current)) c.in-Some.record c.in-Some.ensures.items c.loop-record.invariant.1,
      c.in_ok-take.ensures c.loop-record.invariant.0 c.loop-record.invariant.2,
    )
