-- What each edit asks of those before it, and what they make together.
use Rattle.std.proofs.Common.{ℕ, refl, subst, arith}
use Rattle.hfs_blocks.specs.Layers.{changes, AreWithin}
use Rattle.hfs_record_edits.specs.Growing.{HasRoomFor}
use Rattle.hfs_call_patches.proofs.Edits as edits
use Rattle.hfs_call_patches.proofs.Pieces.{within_more}
use Rattle.hfs_call_patches.proofs.Told.{at_ok, at_err, if_ok}
use Rattle.hfs_call_patches.proofs.gaining.gain.Goals as goal

pub claim_over-requires-clause-bitmap : goal.claim_over-requires-clause-bitmap
claim_over-requires-clause-bitmap g c = edits.bitmap_there _ _ _ _ _ c.requires.volume _ c.requires.same

pub claim_over-requires-clause-extents : goal.claim_over-requires-clause-extents
claim_over-requires-clause-extents g c = c.requires.free.within

pub invariant_of-lengthen_over : goal.invariant_of-lengthen_over
invariant_of-lengthen_over g c = record {
  within = edits.extents_in _ _ _ _ _ c.requires.volume _ c.requires.same;
  different = edits.extents_once _ _ _ _ _ c.requires.volume;
  inside = c.in_ok-bits.ensures.inside;
}

pub lengthen_over-requires-clause-tree : goal.lengthen_over-requires-clause-tree
lengthen_over-requires-clause-tree g c = edits.tree_of _ _ _ _ _ c.requires.volume _ (edits.first_nodes _ _ _ _ _ c.requires.volume _ c.args.resizing.now.fork _ c.requires.found.is _ _ c.requires.free _ (edits.has_grown (g.B.Blocks.blocks c.args.volume.now.blocks.now) c.args.resizing.now.fork c.args.resizing.now.found.now.file c.args.pieces.now c.requires.made) _ c.requires.beside _ c.in_ok-bits.ensures.claimed.beside)

pub lengthen_over-requires-clause-whole : goal.lengthen_over-requires-clause-whole
lengthen_over-requires-clause-whole g c =
    let first = edits.first_nodes _ _ _ _ _ c.requires.volume _ c.args.resizing.now.fork _ c.requires.found.is _ _ c.requires.free _ (edits.has_grown (g.B.Blocks.blocks c.args.volume.now.blocks.now) c.args.resizing.now.fork c.args.resizing.now.found.now.file c.args.pieces.now c.requires.made) _ c.requires.beside _ c.in_ok-bits.ensures.claimed.beside in
    edits.whole_by c.args.resizing.now.fork c.args.resizing.now.found.now.file _ _ c.kind_of.ensures c.fork_of.ensures _
    (edits.whole_of _ _ _ _ _ c.requires.volume _ c.args.resizing.now.fork _ c.requires.found.is _ first)

pub lengthen_over-requires-clause-some : goal.lengthen_over-requires-clause-some
lengthen_over-requires-clause-some g c = c.requires.free.some

pub lengthen_over-requires-clause-inside_volume : goal.lengthen_over-requires-clause-inside_volume
lengthen_over-requires-clause-inside_volume g c = within_more _ _ _ c.requires.few c.requires.free.within

pub lengthen_over-requires-clause-few : goal.lengthen_over-requires-clause-few
lengthen_over-requires-clause-few g c =
    let first = edits.first_nodes _ _ _ _ _ c.requires.volume _ c.args.resizing.now.fork _ c.requires.found.is _ _ c.requires.free _ (edits.has_grown (g.B.Blocks.blocks c.args.volume.now.blocks.now) c.args.resizing.now.fork c.args.resizing.now.found.now.file c.args.pieces.now c.requires.made) _ c.requires.beside _ c.in_ok-bits.ensures.claimed.beside in
    edits.found_of _ _ _ _ _ c.requires.volume _ c.args.resizing.now.fork _ c.requires.found.is _ first _ _ c.kind_of.ensures c.fork_of.ensures (λ es. HasRoomFor es c.args.pieces.now)
    (edits.room_has _ _ _ _ _ c.requires.volume _ c.args.resizing.now.fork _ c.requires.found.is c.requires.few c.args.wanted c.args.pieces.now c.requires.free.enough c.requires.enough)

pub lengthen_over-requires-clause-small : goal.lengthen_over-requires-clause-small
lengthen_over-requires-clause-small g c = edits.small_of _ _ _ _ _ c.requires.volume _ (edits.first_nodes _ _ _ _ _ c.requires.volume _ c.args.resizing.now.fork _ c.requires.found.is _ _ c.requires.free _ (edits.has_grown (g.B.Blocks.blocks c.args.volume.now.blocks.now) c.args.resizing.now.fork c.args.resizing.now.found.now.file c.args.pieces.now c.requires.made) _ c.requires.beside _ c.in_ok-bits.ensures.claimed.beside)

pub lengthen_over-requires-clause-in_file : goal.lengthen_over-requires-clause-in_file
lengthen_over-requires-clause-in_file g c = edits.in_file_of _ _ _ _ _ c.requires.volume _ (edits.first_nodes _ _ _ _ _ c.requires.volume _ c.args.resizing.now.fork _ c.requires.found.is _ _ c.requires.free _ (edits.has_grown (g.B.Blocks.blocks c.args.volume.now.blocks.now) c.args.resizing.now.fork c.args.resizing.now.found.now.file c.args.pieces.now c.requires.made) _ c.requires.beside _ c.in_ok-bits.ensures.claimed.beside)

pub settle_fork-requires-clause-two : goal.settle_fork-requires-clause-two
settle_fork-requires-clause-two g c = edits.three_blocks _ _ _ _ _ c.requires.volume

pub settle_fork-requires-clause-small : goal.settle_fork-requires-clause-small
settle_fork-requires-clause-small g c =
    let few = edits.few_of _ _ _ _ _ c.requires.volume _ c.args.resizing.now.fork _ c.requires.found.is in
    let enough = c.requires.enough in
    let count = c.requires.count in
    edits.physical_of _ _ _ _ _ c.requires.volume _ c.args.resizing.now.fork _ c.requires.found.is c.args.block_size c.args.resizing.now.length c.requires.size (omega (arith, few, enough, count))

pub settle_fork-requires-clause-within : goal.settle_fork-requires-clause-within
settle_fork-requires-clause-within g c = edits.catalog_runs _ _ _ _ _ c.requires.volume _ c.requires.same

pub settle_fork-requires-clause-different : goal.settle_fork-requires-clause-different
settle_fork-requires-clause-different g c = edits.catalog_once _ _ _ _ _ c.requires.volume

pub settle_fork-requires-clause-tree : goal.settle_fork-requires-clause-tree
settle_fork-requires-clause-tree g c =
    let f = c.args.resizing.now.found.now.file in
    let grows = at_ok _ _ _ _ c.in-Ok.is c.in_ok-longer.ensures.grown in
    let edited = edits.edited_by c.args.resizing.now.fork f _ _ c.kind_of.ensures c.fork_of.ensures _ _ grows.edits in
    let second = edits.second_nodes _ _ _ _ _ c.requires.volume _ c.args.resizing.now.fork _ c.requires.found.is _ _ c.requires.free _ (edits.has_grown (g.B.Blocks.blocks c.args.volume.now.blocks.now) c.args.resizing.now.fork c.args.resizing.now.found.now.file c.args.pieces.now c.requires.made) _ c.requires.beside _ c.in_ok-bits.ensures.claimed.beside _ edited (if_ok _ _ _ c.in-Ok.is c.in_ok-longer.ensures.beside) in
    edits.catalog_tree_of _ _ _ _ _ c.requires.volume _ second

pub settle_fork-requires-clause-there : goal.settle_fork-requires-clause-there
settle_fork-requires-clause-there g c =
    let f = c.args.resizing.now.found.now.file in
    let grows = at_ok _ _ _ _ c.in-Ok.is c.in_ok-longer.ensures.grown in
    let edited = edits.edited_by c.args.resizing.now.fork f _ _ c.kind_of.ensures c.fork_of.ensures _ _ grows.edits in
    let second = edits.second_nodes _ _ _ _ _ c.requires.volume _ c.args.resizing.now.fork _ c.requires.found.is _ _ c.requires.free _ (edits.has_grown (g.B.Blocks.blocks c.args.volume.now.blocks.now) c.args.resizing.now.fork c.args.resizing.now.found.now.file c.args.pieces.now c.requires.made) _ c.requires.beside _ c.in_ok-bits.ensures.claimed.beside _ edited (if_ok _ _ _ c.in-Ok.is c.in_ok-longer.ensures.beside) in
    edits.there_of _ _ _ _ _ c.requires.volume _ second _ c.requires.found f

pub settle_fork-requires-clause-place : goal.settle_fork-requires-clause-place
settle_fork-requires-clause-place g c =
    let f = c.args.resizing.now.found.now.file in
    let grows = at_ok _ _ _ _ c.in-Ok.is c.in_ok-longer.ensures.grown in
    let edited = edits.edited_by c.args.resizing.now.fork f _ _ c.kind_of.ensures c.fork_of.ensures _ _ grows.edits in
    let second = edits.second_nodes _ _ _ _ _ c.requires.volume _ c.args.resizing.now.fork _ c.requires.found.is _ _ c.requires.free _ (edits.has_grown (g.B.Blocks.blocks c.args.volume.now.blocks.now) c.args.resizing.now.fork c.args.resizing.now.found.now.file c.args.pieces.now c.requires.made) _ c.requires.beside _ c.in_ok-bits.ensures.claimed.beside _ edited (if_ok _ _ _ c.in-Ok.is c.in_ok-longer.ensures.beside) in
    edits.place_of _ _ _ _ _ c.requires.volume _ second _ c.requires.found

pub returns-in-Err : goal.returns-in-Err
returns-in-Err g c =
    let first = edits.first_nodes _ _ _ _ _ c.requires.volume _ c.args.resizing.now.fork _ c.requires.found.is _ _ c.requires.free _ (edits.has_grown (g.B.Blocks.blocks c.args.volume.now.blocks.now) c.args.resizing.now.fork c.args.resizing.now.found.now.file c.args.pieces.now c.requires.made) _ c.requires.beside _ c.in_ok-bits.ensures.claimed.beside in
    record {
      nodes = c.in-Err.nodes;
      is = edits.want_of _ _ _ _ _ c.requires.volume _ c.args.resizing.now.fork _ c.requires.found.is c.args.pieces.now c.in-Err.nodes _ first _ _ c.kind_of.ensures c.fork_of.ensures (at_err _ _ _ _ c.in-Err.is c.in_ok-longer.ensures.grown);
      same = c.nodes_wanted.ensures;
    }

pub returns : goal.returns
returns g c =
    let fork = c.args.resizing.now.fork in
    let f = c.args.resizing.now.found.now.file in
    let first = edits.first_nodes _ _ _ _ _ c.requires.volume _ c.args.resizing.now.fork _ c.requires.found.is _ _ c.requires.free _ (edits.has_grown (g.B.Blocks.blocks c.args.volume.now.blocks.now) c.args.resizing.now.fork c.args.resizing.now.found.now.file c.args.pieces.now c.requires.made) _ c.requires.beside _ c.in_ok-bits.ensures.claimed.beside in
    let over = at_ok _ _ _ _ c.in-Ok.is c.in_ok-longer.ensures.grown in
    let grows = edits.grown_by fork f _ _ c.kind_of.ensures c.fork_of.ensures _ _ _ _ over in
    record {
      settled = record {
        within = subst (λ (n : ℕ). AreWithin (changes c.in_ok-settled.settled.patch) n) c.requires.same c.in_ok-settled.ensures.inside;
        directory = edits.directory_is _ _ _ _ _ c.requires.volume _ c.args.resizing.now.fork _ c.requires.found.is _ _ c.requires.free _ (edits.has_grown (g.B.Blocks.blocks c.args.volume.now.blocks.now) c.args.resizing.now.fork c.args.resizing.now.found.now.file c.args.pieces.now c.requires.made) _ c.requires.beside _ c.in_ok-bits.ensures.claimed.beside _ grows.edits (if_ok _ _ _ c.in-Ok.is c.in_ok-longer.ensures.beside)
            c.args.block_size c.args.resizing.now.length c.args.resizing.now.moment _ c.requires.size c.in-Ok.longer.first _ c.in-Ok.longer.patch c.in_ok-settled.settled.patch refl _ c.in_ok-settled.ensures.counts c.in_ok-settled.ensures.settles;
        sets = λ from count offset part written laid chosen is.
            edits.gained _ _ _ _ _ c.requires.volume _ fork chosen is _ _ c.requires.free _ (edits.has_grown (g.B.Blocks.blocks c.args.volume.now.blocks.now) c.args.resizing.now.fork c.args.resizing.now.found.now.file c.args.pieces.now c.requires.made) _ c.requires.beside _ c.in_ok-bits.ensures.claimed.beside _ grows.edits (if_ok _ _ _ c.in-Ok.is c.in_ok-longer.ensures.beside)
            c.args.block_size c.args.resizing.now.length c.args.resizing.now.moment _ c.requires.size c.in-Ok.longer.first _ c.in-Ok.longer.patch c.in_ok-settled.settled.patch refl _ c.in_ok-settled.ensures.counts c.in_ok-settled.ensures.settles
            refl c.in_ok-bits.ensures.claimed grows c.requires.count (let enough = c.requires.enough in omega (arith, enough)) from count offset part written laid;
      };
      enough = edits.enough_of _ _ _ _ _ c.requires.volume _ c.args.resizing.now.fork _ c.requires.found.is c.args.pieces.now _ first grows.enough;
    }
