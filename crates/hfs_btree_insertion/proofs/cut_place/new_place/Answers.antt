use Rattle.hfs_btree_insertion.proofs.PlaceBehind.{leaf-read, index-read, place-leaf, place-read, place-none}
use Rattle.hfs_btree_insertion.proofs.cut_place.new_place.Goals as goal

pub place_in-requires : goal.place_in-requires
place_in-requires g c = leaf-read g.K.Key c.args.key.now c.args.above c.args.bytes.now c.requires c.if-above-eq0.true

pub returns-then-above-eq0 : goal.returns-then-above-eq0
returns-then-above-eq0 g c = place-leaf g.K.Key c.args.key.now g.met.K.Key.total c.args.above _ c.place_in.result c.if-above-eq0.true c.place_in.ensures.within c.place_in.ensures.from

pub place_above-requires : goal.place_above-requires
place_above-requires g c = index-read g.K.Key c.args.key.now c.args.above c.args.bytes.now c.requires c.in-Ok.node c.in-Ok.ensures.node c.if-above-eq0.false

pub returns-in-Ok : goal.returns-in-Ok
returns-in-Ok g c = place-read g.K.Key c.args.key.now c.args.above c.args.bytes.now c.requires c.in-Ok.node c.in-Ok.ensures.node c.place_above.result c.if-above-eq0.false c.place_above.ensures

pub returns-in-Err : goal.returns-in-Err
returns-in-Err g c = place-none g.K.Key c.args.key.now c.args.above _
