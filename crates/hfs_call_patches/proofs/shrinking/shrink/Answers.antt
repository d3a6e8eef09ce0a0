-- The extents were cut, zeros and bytes laid over them, and the other edits made over these.
use Rattle.std.proofs.Common.{ℕ, ◌≤◌, List, length, sym, ◌∙◌, ap, subst, arith}
use Rattle.hfs_fields.specs.declared.extent.Extent.{Extent}
use Rattle.hfs_blocks.specs.Layers.{changes, AreWithin}
use Rattle.hfs_space.specs.Extents.{AreExtentsWithin, extent_blocks}
use Rattle.hfs_space.specs.ForkLaws.{block_numbers}
use Rattle.hfs_space.specs.Owners.{owners}
use Rattle.hfs_record_edits.specs.Cuts.{cut, surplus}
use Rattle.hfs_call_patches.proofs.GrownFork as grown
use Rattle.hfs_call_patches.proofs.ShrunkFork as shrunk
use Rattle.hfs_call_patches.proofs.LaidOver.{laid_apart}
use Rattle.hfs_call_patches.proofs.Pieces.{within_more}
use Rattle.hfs_call_patches.proofs.ResizedFork.{below_is, laid_for, resized}
use Rattle.hfs_call_patches.proofs.shrinking.shrink.Goals as goal

pub surplus-requires : goal.surplus-requires
surplus-requires g c = subst (AreExtentsWithin 65535) (sym c.deref.ensures.value) (within_more _ _ _ c.requires.few (shrunk.was_within _ _ _ _ _ c.requires.volume _ c.args.resizing.now.fork _ c.requires.found.is c.args.block_size c.args.resizing.now.length c.args.resizing.now.from c.args.resizing.now.offset _ c.requires.size c.requires.places c.args.count c.requires.count _ c.requires.was c.requires.fewer))

pub lay_fork-requires-clause-area : goal.lay_fork-requires-clause-area
lay_fork-requires-clause-area g c = grown.area_there _ _ _ _ _ c.requires.volume _ c.args.resizing.now.fork _ c.requires.found.is c.args.block_size c.args.resizing.now.length c.args.resizing.now.from c.args.resizing.now.offset _ c.requires.size c.requires.places

pub lay_fork-requires-clause-extents : goal.lay_fork-requires-clause-extents
lay_fork-requires-clause-extents g c = subst (AreExtentsWithin c.args.volume.now.mdb.now.allocation_blocks) (sym (c.deref-2.ensures.value ∙ c.cut_all.ensures ∙ ap (λ (n : ℕ). cut n c.args.was.items) c.from-2.ensures)) (shrunk.cut_within _ _ _ _ _ c.requires.volume _ c.args.resizing.now.fork _ c.requires.found.is c.args.block_size c.args.resizing.now.length c.args.resizing.now.from c.args.resizing.now.offset _ c.requires.size c.requires.places c.args.count c.requires.count _ c.requires.was c.requires.fewer)

pub lay_fork-requires-clause-once : goal.lay_fork-requires-clause-once
lay_fork-requires-clause-once g c = subst (λ (es : List Extent). (b : ℕ) → owners (extent_blocks es) b ≤ 1) (sym (c.deref-2.ensures.value ∙ c.cut_all.ensures ∙ ap (λ (n : ℕ). cut n c.args.was.items) c.from-2.ensures)) (shrunk.cut_once _ _ _ _ _ c.requires.volume _ c.args.resizing.now.fork _ c.requires.found.is c.args.block_size c.args.resizing.now.length c.args.resizing.now.from c.args.resizing.now.offset _ c.requires.size c.requires.places c.args.count c.requires.count _ c.requires.was c.requires.fewer)

pub lay_fork-requires-clause-fits : goal.lay_fork-requires-clause-fits
lay_fork-requires-clause-fits g c =
    let numbers = ap (λ (es : List Extent). length (block_numbers c.args.volume.now.mdb.now es)) (c.deref-2.ensures.value ∙ c.cut_all.ensures ∙ ap (λ (n : ℕ). cut n c.args.was.items) c.from-2.ensures) in
    let fits = shrunk.fits _ _ _ _ _ c.requires.volume _ c.args.resizing.now.fork _ c.requires.found.is c.args.block_size c.args.resizing.now.length c.args.resizing.now.from c.args.resizing.now.offset _ c.requires.size c.requires.places c.args.count c.requires.count _ c.requires.was c.requires.fewer in
    omega (arith, numbers, fits)

pub lay_fork-requires-clause-room : goal.lay_fork-requires-clause-room
lay_fork-requires-clause-room g c =
    let numbers = ap (λ (es : List Extent). length (block_numbers c.args.volume.now.mdb.now es)) (c.deref-2.ensures.value ∙ c.cut_all.ensures ∙ ap (λ (n : ℕ). cut n c.args.was.items) c.from-2.ensures) in
    let fits = shrunk.bytes_fit _ _ _ _ _ c.requires.volume _ c.args.resizing.now.fork _ c.requires.found.is c.args.block_size c.args.resizing.now.length c.args.resizing.now.from c.args.resizing.now.offset _ c.requires.size c.requires.places c.args.count c.requires.count _ c.requires.was c.requires.fewer in
    omega (arith, numbers, fits)

pub lay_fork-requires-clause-small : goal.lay_fork-requires-clause-small
lay_fork-requires-clause-small g c = shrunk.bytes_end _ _ _ _ _ c.requires.volume _ c.args.resizing.now.fork _ c.requires.found.is c.args.block_size c.args.resizing.now.length c.args.resizing.now.from c.args.resizing.now.offset _ c.requires.size c.requires.places c.args.count c.requires.count _ c.requires.was c.requires.fewer

pub lose-requires-clause-same : goal.lose-requires-clause-same
lose-requires-clause-same g c = ap g.B.Blocks.total c.over.ensures.below

pub lose-requires-clause-inside : goal.lose-requires-clause-inside
lose-requires-clause-inside g c = subst (λ (n : ℕ). AreWithin (changes c.in_ok-zeros.field-0.patch) n) (sym (ap g.B.Blocks.total c.over.ensures.below)) c.in_ok-zeros.ensures.within

pub lose-requires-clause-lost : goal.lose-requires-clause-lost
lose-requires-clause-lost g c = c.deref-3.ensures.value ∙ c.in_ok-lost.ensures.extents ∙ ap (λ (n : ℕ). surplus n c.deref.result.now) c.from.ensures ∙ ap (surplus c.args.count) (c.deref.ensures.value ∙ c.requires.was)

pub lose-requires-clause-fewer : goal.lose-requires-clause-fewer
lose-requires-clause-fewer g c = let less = shrunk.less _ _ _ _ _ c.requires.volume _ c.args.resizing.now.fork _ c.requires.found.is c.args.block_size c.args.resizing.now.length c.args.resizing.now.from c.args.resizing.now.offset _ c.requires.size c.requires.places c.args.count c.requires.count _ c.requires.was c.requires.fewer in omega (arith, less)

pub lose-requires-clause-beside : goal.lose-requires-clause-beside
lose-requires-clause-beside g c =
    let old = g.B.Blocks.blocks c.args.volume.now.blocks.now in
    let z = c.in_ok-zeros.field-0 in
    let below = below_is z.zeros _ old _ c.over.ensures.zeros (ap g.B.Blocks.blocks c.over.ensures.below) in
    laid_apart c.args.volume.now.mdb.now _ _ (c.deref-2.ensures.value ∙ c.cut_all.ensures ∙ ap (λ (n : ℕ). cut n c.args.was.items) c.from-2.ensures ∙ ap (cut c.args.count) c.requires.was) _ _ _ _ old _ z.zeros z.patch below c.in_ok-zeros.ensures.lays

pub returns : goal.returns
returns g c =
    let fork = c.args.resizing.now.fork in
    let f = c.args.resizing.now.found.now in
    let len = c.args.resizing.now.length in
    let from = c.args.resizing.now.from in
    let offset = c.args.resizing.now.offset in
    let part = c.args.resizing.now.bytes.now in
    let mdb = c.args.volume.now.mdb.now in
    let old = g.B.Blocks.blocks c.args.volume.now.blocks.now in
    let z = c.in_ok-zeros.field-0 in
    let below = below_is z.zeros _ old _ c.over.ensures.zeros (ap g.B.Blocks.blocks c.over.ensures.below) in
    let es = c.deref-2.result.now in
    let all = c.deref-2.ensures.value ∙ c.cut_all.ensures ∙ ap (λ (n : ℕ). cut n c.args.was.items) c.from-2.ensures ∙ ap (cut c.args.count) c.requires.was in
    let laid = laid_for fork f.file len mdb old c.requires.volume.directory es _ all from _ offset part _ _ z.zeros z.patch below
    (shrunk.laid_by mdb es from len offset part old _ c.min.result c.min.ensures c.in_ok-zeros.ensures.lays) (shrunk.written_by (block_numbers mdb es) from len offset (length part) _ c.min.result c.min.ensures c.in_ok-zeros.ensures.written) (shrunk.zeros_are _ _ _ _ _ c.requires.volume _ c.args.resizing.now.fork _ c.requires.found.is c.args.block_size c.args.resizing.now.length c.args.resizing.now.from c.args.resizing.now.offset _ c.requires.size c.requires.places c.args.count c.requires.count _ c.requires.was c.requires.fewer) in
    resized f fork len offset part c.args.resizing.now.moment _ _ old _ z.patch c.in_ok-settled.settled c.in_ok-settled.ensures z.zeros below from _ z.written laid
    c.fork_change.result c.fork_change.ensures.patch c.fork_change.ensures.counts c.fork_change.ensures.written c.in_ok-zeros.ensures.among c.fork_change.ensures.value
    (shrunk.meets_less _ _ _ _ _ c.requires.volume _ c.args.resizing.now.fork _ c.requires.found.is c.args.block_size c.args.resizing.now.length c.args.resizing.now.from c.args.resizing.now.offset _ c.requires.size c.requires.places c.args.count c.requires.count _ c.requires.was c.requires.fewer)
