-- What each edit asks of those before it, and what they make together.
use Rattle.std.proofs.Common.{ℕ, ◌≤◌, [], refl, sym, ◌∙◌, ap, subst, arith}
use Rattle.hfs_blocks.specs.Layers.{changes, AreWithin}
use Rattle.hfs_space.specs.Extents.{AreExtentsWithin, block_total}
use Rattle.hfs_record_edits.proofs.CutLemmas.{within-surplus}
use Rattle.hfs_call_patches.specs.Edits.{extents_of}
use Rattle.hfs_call_patches.proofs.Edits as edits
use Rattle.hfs_call_patches.proofs.Pieces.{within_more}
use Rattle.hfs_call_patches.proofs.ShrunkFork.{free_none, cut_has, lost_count, released_by}
use Rattle.hfs_call_patches.proofs.losing.lose.Goals as goal

pub release_over-requires-clause-bitmap : goal.release_over-requires-clause-bitmap
release_over-requires-clause-bitmap g c = edits.bitmap_there _ _ _ _ _ c.requires.volume _ c.requires.same

pub release_over-requires-clause-extents : goal.release_over-requires-clause-extents
release_over-requires-clause-extents g c =
    let mdb = c.args.volume.now.mdb.now in
    subst (AreExtentsWithin mdb.allocation_blocks) (sym c.requires.lost)
    (within-surplus mdb.allocation_blocks c.args.count _ (edits.within_of _ _ _ _ _ c.requires.volume _ c.args.resizing.now.fork _ c.requires.found.is))

pub invariant_of-shorten_over : goal.invariant_of-shorten_over
invariant_of-shorten_over g c = record {
  within = edits.extents_in _ _ _ _ _ c.requires.volume _ c.requires.same;
  different = edits.extents_once _ _ _ _ _ c.requires.volume;
  inside = c.in_ok-bits.ensures.inside;
}

pub shorten_over-requires-clause-tree : goal.shorten_over-requires-clause-tree
shorten_over-requires-clause-tree g c =
    edits.tree_of _ _ _ _ _ c.requires.volume _ (edits.first_nodes _ _ _ _ _ c.requires.volume _ c.args.resizing.now.fork _ c.requires.found.is 0 [] (free_none _ _) _ (cut_has c.args.count _) _ c.requires.beside _ c.in_ok-bits.ensures.released.beside)

pub shorten_over-requires-clause-whole : goal.shorten_over-requires-clause-whole
shorten_over-requires-clause-whole g c =
    let f = c.args.resizing.now.found.now.file in
    let first = edits.first_nodes _ _ _ _ _ c.requires.volume _ c.args.resizing.now.fork _ c.requires.found.is 0 [] (free_none _ _) _ (cut_has c.args.count _) _ c.requires.beside _ c.in_ok-bits.ensures.released.beside in
    edits.whole_by c.args.resizing.now.fork f _ _ c.kind_of.ensures c.fork_of.ensures _
    (edits.whole_of _ _ _ _ _ c.requires.volume _ c.args.resizing.now.fork _ c.requires.found.is _ first)

pub shorten_over-requires-clause-in_volume : goal.shorten_over-requires-clause-in_volume
shorten_over-requires-clause-in_volume g c =
    let first = edits.first_nodes _ _ _ _ _ c.requires.volume _ c.args.resizing.now.fork _ c.requires.found.is 0 [] (free_none _ _) _ (cut_has c.args.count _) _ c.requires.beside _ c.in_ok-bits.ensures.released.beside in
    edits.found_of _ _ _ _ _ c.requires.volume _ c.args.resizing.now.fork _ c.requires.found.is _ first _ _ c.kind_of.ensures c.fork_of.ensures (AreExtentsWithin 65535)
    (within_more _ _ _ c.requires.few (edits.within_of _ _ _ _ _ c.requires.volume _ c.args.resizing.now.fork _ c.requires.found.is))

pub shorten_over-requires-clause-few : goal.shorten_over-requires-clause-few
shorten_over-requires-clause-few g c =
    let first = edits.first_nodes _ _ _ _ _ c.requires.volume _ c.args.resizing.now.fork _ c.requires.found.is 0 [] (free_none _ _) _ (cut_has c.args.count _) _ c.requires.beside _ c.in_ok-bits.ensures.released.beside in
    edits.found_of _ _ _ _ _ c.requires.volume _ c.args.resizing.now.fork _ c.requires.found.is _ first _ _ c.kind_of.ensures c.fork_of.ensures (λ es. block_total es ≤ 65535)
    (edits.total_few _ _ _ _ _ c.requires.volume _ c.args.resizing.now.fork _ c.requires.found.is c.requires.few)

pub free_with-free-requires : goal.free_with-free-requires
free_with-free-requires g c =
    let few = edits.few_of _ _ _ _ _ c.requires.volume _ c.args.resizing.now.fork _ c.requires.found.is in
    let all = lost_count c.args.count (extents_of (g.B.Blocks.blocks c.args.volume.now.blocks.now) c.args.resizing.now.fork c.args.resizing.now.found.now.file) c.requires.fewer in
    let same = ap block_total c.requires.lost in
    omega (arith, few, all, same)

pub settle_fork-requires-clause-two : goal.settle_fork-requires-clause-two
settle_fork-requires-clause-two g c = edits.three_blocks _ _ _ _ _ c.requires.volume

pub settle_fork-requires-clause-small : goal.settle_fork-requires-clause-small
settle_fork-requires-clause-small g c =
    let few = edits.few_of _ _ _ _ _ c.requires.volume _ c.args.resizing.now.fork _ c.requires.found.is in
    let fewer = c.requires.fewer in
    let count = c.requires.count in
    edits.physical_of _ _ _ _ _ c.requires.volume _ c.args.resizing.now.fork _ c.requires.found.is c.args.block_size c.args.resizing.now.length c.requires.size (omega (arith, few, fewer, count))

pub settle_fork-requires-clause-within : goal.settle_fork-requires-clause-within
settle_fork-requires-clause-within g c = edits.catalog_runs _ _ _ _ _ c.requires.volume _ c.requires.same

pub settle_fork-requires-clause-different : goal.settle_fork-requires-clause-different
settle_fork-requires-clause-different g c = edits.catalog_once _ _ _ _ _ c.requires.volume

pub settle_fork-requires-clause-tree : goal.settle_fork-requires-clause-tree
settle_fork-requires-clause-tree g c =
    let f = c.args.resizing.now.found.now.file in
    let edited = edits.edited_by c.args.resizing.now.fork f _ _ c.kind_of.ensures c.fork_of.ensures _ _ c.in_ok-shorter.ensures.short.edits in
    edits.catalog_tree_of _ _ _ _ _ c.requires.volume _ (edits.second_nodes _ _ _ _ _ c.requires.volume _ c.args.resizing.now.fork _ c.requires.found.is 0 [] (free_none _ _) _ (cut_has c.args.count _) _ c.requires.beside _ c.in_ok-bits.ensures.released.beside _ edited c.in_ok-shorter.ensures.beside)

pub settle_fork-requires-clause-there : goal.settle_fork-requires-clause-there
settle_fork-requires-clause-there g c =
    let f = c.args.resizing.now.found.now.file in
    let edited = edits.edited_by c.args.resizing.now.fork f _ _ c.kind_of.ensures c.fork_of.ensures _ _ c.in_ok-shorter.ensures.short.edits in
    edits.there_of _ _ _ _ _ c.requires.volume _ (edits.second_nodes _ _ _ _ _ c.requires.volume _ c.args.resizing.now.fork _ c.requires.found.is 0 [] (free_none _ _) _ (cut_has c.args.count _) _ c.requires.beside _ c.in_ok-bits.ensures.released.beside _ edited c.in_ok-shorter.ensures.beside) _ c.requires.found f

pub settle_fork-requires-clause-place : goal.settle_fork-requires-clause-place
settle_fork-requires-clause-place g c =
    let f = c.args.resizing.now.found.now.file in
    let edited = edits.edited_by c.args.resizing.now.fork f _ _ c.kind_of.ensures c.fork_of.ensures _ _ c.in_ok-shorter.ensures.short.edits in
    edits.place_of _ _ _ _ _ c.requires.volume _ (edits.second_nodes _ _ _ _ _ c.requires.volume _ c.args.resizing.now.fork _ c.requires.found.is 0 [] (free_none _ _) _ (cut_has c.args.count _) _ c.requires.beside _ c.in_ok-bits.ensures.released.beside _ edited c.in_ok-shorter.ensures.beside) _ c.requires.found

pub returns : goal.returns
returns g c =
    let fork = c.args.resizing.now.fork in
    let f = c.args.resizing.now.found.now.file in
    let mdb = c.args.volume.now.mdb.now in
    let first = edits.first_nodes _ _ _ _ _ c.requires.volume _ c.args.resizing.now.fork _ c.requires.found.is 0 [] (free_none _ _) _ (cut_has c.args.count _) _ c.requires.beside _ c.in_ok-bits.ensures.released.beside in
    let shortens = edits.shortened_by fork f _ _ c.kind_of.ensures c.fork_of.ensures _ _ _ _ c.in_ok-shorter.ensures.short in
    let surplus_is = edits.surplus_of _ _ _ _ _ c.requires.volume _ c.args.resizing.now.fork _ c.requires.found.is c.args.count _ first c.in_ok-shorter.shorter.fork.surplus.items shortens.rest ∙ sym c.requires.lost in
    let lost = released_by _ _ _ _ _ _ surplus_is c.in_ok-bits.ensures.released in
    let freed = lost_count c.args.count (extents_of (g.B.Blocks.blocks c.args.volume.now.blocks.now) c.args.resizing.now.fork c.args.resizing.now.found.now.file) c.requires.fewer in
    let same = ap block_total c.requires.lost in
    let left = c.free_with-free.ensures in
    record {
      within = subst (λ (n : ℕ). AreWithin (changes c.in_ok-settled.settled.patch) n) c.requires.same c.in_ok-settled.ensures.inside;
      directory = edits.directory_is _ _ _ _ _ c.requires.volume _ c.args.resizing.now.fork _ c.requires.found.is 0 [] (free_none _ _) _ (cut_has c.args.count _) _ c.requires.beside _ c.in_ok-bits.ensures.released.beside _ shortens.edits c.in_ok-shorter.ensures.beside
          c.args.block_size c.args.resizing.now.length c.args.resizing.now.moment _ c.requires.size c.in_ok-shorter.shorter.fork.first _ c.in_ok-shorter.shorter.patch c.in_ok-settled.settled.patch refl _ c.in_ok-settled.ensures.counts c.in_ok-settled.ensures.settles;
      sets = λ from count offset part written laid chosen is.
          edits.lessened _ _ _ _ _ c.requires.volume _ fork chosen is 0 [] (free_none _ _) _ (cut_has c.args.count _) _ c.requires.beside _ c.in_ok-bits.ensures.released.beside _ shortens.edits c.in_ok-shorter.ensures.beside
          c.args.block_size c.args.resizing.now.length c.args.resizing.now.moment _ c.requires.size c.in_ok-shorter.shorter.fork.first _ c.in_ok-shorter.shorter.patch c.in_ok-settled.settled.patch refl _ c.in_ok-settled.ensures.counts c.in_ok-settled.ensures.settles
          c.args.count c.requires.count refl c.in_ok-shorter.shorter.fork refl lost shortens c.requires.fewer (omega (arith, freed, same, left)) from count offset part written laid;
    }
