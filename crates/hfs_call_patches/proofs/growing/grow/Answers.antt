-- The pieces were found, zeros and bytes laid, and the other edits made over them.
use Rattle.std.proofs.Common.{◌≡◌, ℕ, ◌-◌, ◌≤◌, List, ◌++◌, length, refl, sym, ◌∙◌, ap, subst, arith}
use Rattle.hfs_fields.specs.declared.extent.Extent.{Extent}
use Rattle.hfs_blocks.specs.Layers.{changes, AreWithin}
use Rattle.hfs_space.specs.Extents.{AreExtentsWithin, extent_blocks}
use Rattle.hfs_space.specs.ForkLaws.{block_numbers}
use Rattle.hfs_space.specs.Owners.{owners}
use Rattle.hfs_space.specs.Bitmap.{is_used}
use Rattle.hfs_space.specs.Choice.{AreFreeOnce}
use Rattle.hfs_record_edits.specs.Need.{HasNodesFor}
use Rattle.hfs_check.specs.Parts.{mdb_in, extents_nodes}
use Rattle.hfs_model.specs.Forks.{blocks}
use Rattle.hfs_record_edits.specs.Growing.{grown as pieced, records_coming}
use Rattle.hfs_call_patches.specs.Files.{fork_of}
use Rattle.hfs_call_patches.specs.Edits.{extents_of, blocks_of}
use Rattle.hfs_call_patches.specs.Laid.{AreZeros}
use Rattle.hfs_call_patches.specs.Gaining.{IsNodesWanted}
use Rattle.hfs_call_patches.proofs.Edits as edits
use Rattle.hfs_call_patches.proofs.GrownFork as grown
use Rattle.hfs_call_patches.proofs.LaidOver.{laid_apart}
use Rattle.hfs_call_patches.proofs.Pieces.{within_more}
use Rattle.hfs_call_patches.proofs.ResizedFork.{below_is, laid_for, resized}
use Rattle.hfs_call_patches.proofs.Told.{at_ok, at_err}
use Rattle.hfs_call_patches.proofs.growing.grow.Goals as goal

pub find_growing-requires-clause-bitmap : goal.find_growing-requires-clause-bitmap
find_growing-requires-clause-bitmap g c = edits.bitmap_there _ _ _ _ _ c.requires.volume _ refl

pub find_growing-requires-clause-within : goal.find_growing-requires-clause-within
find_growing-requires-clause-within g c = subst (AreExtentsWithin 65535) (sym c.requires.was) (within_more _ _ _ c.requires.few (edits.within_of _ _ _ _ _ c.requires.volume _ c.args.resizing.now.fork _ c.requires.found.is))

pub zeros_end-requires : goal.zeros_end-requires
zeros_end-requires g c = grown.physical_small _ _ _ _ _ c.requires.volume _ c.args.resizing.now.fork _ c.requires.found.is c.args.block_size c.args.resizing.now.length c.args.resizing.now.from c.args.resizing.now.offset _ c.requires.size c.requires.places (grown.few _ _ _ _ _ c.requires.volume _ c.args.resizing.now.fork _ c.requires.found.is c.args.block_size c.args.resizing.now.length c.args.resizing.now.from c.args.resizing.now.offset _ c.requires.size c.requires.places _ c.requires.was c.args.wanted c.requires.wants c.in-Ok.grown (at_ok _ _ _ _ c.in-Ok.is c.in_ok-grown.ensures))

pub lay_fork-requires-clause-area : goal.lay_fork-requires-clause-area
lay_fork-requires-clause-area g c = grown.area_there _ _ _ _ _ c.requires.volume _ c.args.resizing.now.fork _ c.requires.found.is c.args.block_size c.args.resizing.now.length c.args.resizing.now.from c.args.resizing.now.offset _ c.requires.size c.requires.places

pub lay_fork-requires-clause-extents : goal.lay_fork-requires-clause-extents
lay_fork-requires-clause-extents g c = subst (AreExtentsWithin c.args.volume.now.mdb.now.allocation_blocks) (sym c.deref.ensures.value) (grown.all_within _ _ _ _ _ c.requires.volume _ c.args.resizing.now.fork _ c.requires.found.is c.args.block_size c.args.resizing.now.length c.args.resizing.now.from c.args.resizing.now.offset _ c.requires.size c.requires.places _ c.requires.was c.args.wanted c.requires.wants c.in-Ok.grown (at_ok _ _ _ _ c.in-Ok.is c.in_ok-grown.ensures))

pub lay_fork-requires-clause-once : goal.lay_fork-requires-clause-once
lay_fork-requires-clause-once g c = subst (λ (es : List Extent). (b : ℕ) → owners (extent_blocks es) b ≤ 1) (sym c.deref.ensures.value) (grown.all_once _ _ _ _ _ c.requires.volume _ c.args.resizing.now.fork _ c.requires.found.is c.args.block_size c.args.resizing.now.length c.args.resizing.now.from c.args.resizing.now.offset _ c.requires.size c.requires.places _ c.requires.was c.args.wanted c.requires.wants c.in-Ok.grown (at_ok _ _ _ _ c.in-Ok.is c.in_ok-grown.ensures))

pub lay_fork-requires-clause-order : goal.lay_fork-requires-clause-order
lay_fork-requires-clause-order g c = subst (λ (e : ℕ). c.args.resizing.now.from ≤ e) (sym c.zeros_end.ensures) (grown.order _ _ _ _ _ c.requires.volume _ c.args.resizing.now.fork _ c.requires.found.is c.args.block_size c.args.resizing.now.length c.args.resizing.now.from c.args.resizing.now.offset _ c.requires.size c.requires.places _ c.requires.was c.args.wanted c.requires.wants c.in-Ok.grown (at_ok _ _ _ _ c.in-Ok.is c.in_ok-grown.ensures))

pub lay_fork-requires-clause-fits : goal.lay_fork-requires-clause-fits
lay_fork-requires-clause-fits g c =
    let numbers = ap (λ (es : List Extent). length (block_numbers c.args.volume.now.mdb.now es)) c.deref.ensures.value in
    let end = c.zeros_end.ensures in
    let fits = grown.fits _ _ _ _ _ c.requires.volume _ c.args.resizing.now.fork _ c.requires.found.is c.args.block_size c.args.resizing.now.length c.args.resizing.now.from c.args.resizing.now.offset _ c.requires.size c.requires.places _ c.requires.was c.args.wanted c.requires.wants c.in-Ok.grown (at_ok _ _ _ _ c.in-Ok.is c.in_ok-grown.ensures) in
    omega (arith, numbers, end, fits)

pub lay_fork-requires-clause-room : goal.lay_fork-requires-clause-room
lay_fork-requires-clause-room g c =
    let numbers = ap (λ (es : List Extent). length (block_numbers c.args.volume.now.mdb.now es)) c.deref.ensures.value in
    let fits = grown.bytes_fit _ _ _ _ _ c.requires.volume _ c.args.resizing.now.fork _ c.requires.found.is c.args.block_size c.args.resizing.now.length c.args.resizing.now.from c.args.resizing.now.offset _ c.requires.size c.requires.places _ c.requires.was c.args.wanted c.requires.wants c.in-Ok.grown (at_ok _ _ _ _ c.in-Ok.is c.in_ok-grown.ensures) in
    omega (arith, numbers, fits)

pub lay_fork-requires-clause-small : goal.lay_fork-requires-clause-small
lay_fork-requires-clause-small g c = grown.bytes_end _ _ _ _ _ c.requires.volume _ c.args.resizing.now.fork _ c.requires.found.is c.args.block_size c.args.resizing.now.length c.args.resizing.now.from c.args.resizing.now.offset _ c.requires.size c.requires.places _ c.requires.was c.args.wanted c.requires.wants c.in-Ok.grown (at_ok _ _ _ _ c.in-Ok.is c.in_ok-grown.ensures)

pub gain-requires-clause-same : goal.gain-requires-clause-same
gain-requires-clause-same g c = ap g.B.Blocks.total c.over.ensures.below

pub gain-requires-clause-inside : goal.gain-requires-clause-inside
gain-requires-clause-inside g c = subst (λ (n : ℕ). AreWithin (changes c.in_ok-zeros.field-0.patch) n) (sym (ap g.B.Blocks.total c.over.ensures.below)) c.in_ok-zeros.ensures.within

pub gain-requires-clause-count : goal.gain-requires-clause-count
gain-requires-clause-count g c = grown.count_is _ _ _ _ _ c.requires.volume _ c.args.resizing.now.fork _ c.requires.found.is c.args.block_size c.args.resizing.now.length c.args.resizing.now.from c.args.resizing.now.offset _ c.requires.size c.requires.places _ c.requires.was c.args.wanted c.requires.wants

pub gain-requires-clause-free : goal.gain-requires-clause-free
gain-requires-clause-free g c =
    let mdb = c.args.volume.now.mdb.now in
    subst (λ (es : List Extent). AreFreeOnce (is_used (g.B.Blocks.blocks c.args.volume.now.blocks.now) mdb.bitmap_start) mdb.allocation_blocks c.args.wanted es) (sym c.deref-2.ensures.value) (at_ok _ _ _ _ c.in-Ok.is c.in_ok-grown.ensures).free

pub gain-requires-clause-enough : goal.gain-requires-clause-enough
gain-requires-clause-enough g c = grown.enough_free _ _ _ _ _ c.requires.volume _ c.args.resizing.now.fork _ c.requires.found.is c.args.block_size c.args.resizing.now.length c.args.resizing.now.from c.args.resizing.now.offset _ c.requires.size c.requires.places _ c.requires.was c.args.wanted c.requires.wants c.in-Ok.grown (at_ok _ _ _ _ c.in-Ok.is c.in_ok-grown.ensures)

pub gain-requires-clause-made : goal.gain-requires-clause-made
gain-requires-clause-made g c =
    let old = g.B.Blocks.blocks c.args.volume.now.blocks.now in
    let es = extents_of old c.args.resizing.now.fork c.args.resizing.now.found.now.file in
    subst (λ (ps : List Extent). extent_blocks (pieced es ps) ≡ extent_blocks es ++ extent_blocks ps) (sym c.deref-2.ensures.value) (grown.made_grown _ _ _ _ _ c.requires.volume _ c.args.resizing.now.fork _ c.requires.found.is c.args.block_size c.args.resizing.now.length c.args.resizing.now.from c.args.resizing.now.offset _ c.requires.size c.requires.places _ c.requires.was c.args.wanted c.requires.wants c.in-Ok.grown (at_ok _ _ _ _ c.in-Ok.is c.in_ok-grown.ensures))

pub gain-requires-clause-beside : goal.gain-requires-clause-beside
gain-requires-clause-beside g c =
    let old = g.B.Blocks.blocks c.args.volume.now.blocks.now in
    let z = c.in_ok-zeros.field-0 in
    let es = extents_of old c.args.resizing.now.fork c.args.resizing.now.found.now.file in
    let below = below_is z.zeros _ old _ c.over.ensures.zeros (ap g.B.Blocks.blocks c.over.ensures.below) in
    let all = c.deref.ensures.value ∙ grown.all_is _ _ _ _ _ c.requires.volume _ c.args.resizing.now.fork _ c.requires.found.is c.args.block_size c.args.resizing.now.length c.args.resizing.now.from c.args.resizing.now.offset _ c.requires.size c.requires.places _ c.requires.was c.args.wanted c.requires.wants c.in-Ok.grown (at_ok _ _ _ _ c.in-Ok.is c.in_ok-grown.ensures) ∙ ap (pieced es) (sym c.deref-2.ensures.value) in
    laid_apart c.args.volume.now.mdb.now _ _ all _ _ _ _ old _ z.zeros z.patch below c.in_ok-zeros.ensures.lays

pub returns-in-Err : goal.returns-in-Err
returns-in-Err g c = grown.meets_room _ _ _ _ _ c.requires.volume _ c.args.resizing.now.fork _ c.requires.found.is c.args.block_size c.args.resizing.now.length c.args.resizing.now.from c.args.resizing.now.offset _ c.requires.size c.requires.places _ c.requires.was c.args.wanted c.requires.wants _ (at_err _ _ _ _ c.in-Err.is c.in_ok-grown.ensures)

pub overflow_cast-wanted : goal.overflow_cast-wanted
overflow_cast-wanted g c = let few = grown.wanted_few _ _ _ _ _ c.requires.volume _ c.args.resizing.now.fork _ c.requires.found.is c.args.block_size c.args.resizing.now.length c.args.resizing.now.from c.args.resizing.now.offset _ c.requires.size c.requires.places _ c.requires.was c.args.wanted c.requires.wants c.in-Ok.grown (at_ok _ _ _ _ c.in-Ok.is c.in_ok-grown.ensures) c.requires.few in omega (arith, few)

pub returns-in-Ok-made : goal.returns-in-Ok-made
returns-in-Ok-made g c =
    let fork = c.args.resizing.now.fork in
    let f = c.args.resizing.now.found.now in
    let len = c.args.resizing.now.length in
    let from = c.args.resizing.now.from in
    let offset = c.args.resizing.now.offset in
    let part = c.args.resizing.now.bytes.now in
    let mdb = c.args.volume.now.mdb.now in
    let old = g.B.Blocks.blocks c.args.volume.now.blocks.now in
    let z = c.in_ok-zeros.field-0 in
    let was = extents_of old fork f.file in
    let below = below_is z.zeros _ old _ c.over.ensures.zeros (ap g.B.Blocks.blocks c.over.ensures.below) in
    let all = c.deref.ensures.value ∙ grown.all_is _ _ _ _ _ c.requires.volume _ c.args.resizing.now.fork _ c.requires.found.is c.args.block_size c.args.resizing.now.length c.args.resizing.now.from c.args.resizing.now.offset _ c.requires.size c.requires.places _ c.requires.was c.args.wanted c.requires.wants c.in-Ok.grown (at_ok _ _ _ _ c.in-Ok.is c.in_ok-grown.ensures) ∙ ap (pieced was) (sym c.deref-2.ensures.value) in
    let gained = at_ok _ _ _ _ c.in-Ok-made.is c.in_ok-made.ensures in
    let zeros = subst (λ (end : ℕ). AreZeros (mdb_in old).allocation_block_size (fork_of fork f.file).length (length (blocks_of old fork f.file)) len (blocks (mdb_in old).allocation_block_size len) offset (length part) from (end - from)) (sym c.zeros_end.ensures)
    (grown.zeros_are _ _ _ _ _ c.requires.volume _ c.args.resizing.now.fork _ c.requires.found.is c.args.block_size c.args.resizing.now.length c.args.resizing.now.from c.args.resizing.now.offset _ c.requires.size c.requires.places _ c.requires.was c.args.wanted c.requires.wants c.in-Ok.grown (at_ok _ _ _ _ c.in-Ok.is c.in_ok-grown.ensures)) in
    let laid = laid_for fork f.file len mdb old c.requires.volume.directory c.deref.result.now _ all from _ offset part _ _ z.zeros z.patch below c.in_ok-zeros.ensures.lays c.in_ok-zeros.ensures.written zeros in
    let enough = subst (λ (ps : List Extent). HasNodesFor (records_coming was ps) (extents_nodes old)) c.deref-2.ensures.value gained.enough in
    resized f fork len offset part c.args.resizing.now.moment _ _ old _ z.patch c.in-Ok-made.settled gained.settled z.zeros below from _ z.written laid
    c.fork_change.result c.fork_change.ensures.patch c.fork_change.ensures.counts c.fork_change.ensures.written c.in_ok-zeros.ensures.among c.fork_change.ensures.value
    (grown.meets_none _ _ _ _ _ c.requires.volume _ c.args.resizing.now.fork _ c.requires.found.is c.args.block_size c.args.resizing.now.length c.args.resizing.now.from c.args.resizing.now.offset _ c.requires.size c.requires.places _ c.requires.was c.args.wanted c.requires.wants c.in-Ok.grown (at_ok _ _ _ _ c.in-Ok.is c.in_ok-grown.ensures) enough)

pub returns : goal.returns
returns g c =
    let f = c.args.resizing.now.found.now in
    let old = g.B.Blocks.blocks c.args.volume.now.blocks.now in
    let told = at_err _ _ _ _ c.in-Err-made.is c.in_ok-made.ensures in
    grown.meets_nodes _ _ _ _ _ c.requires.volume _ c.args.resizing.now.fork _ c.requires.found.is c.args.block_size c.args.resizing.now.length c.args.resizing.now.from c.args.resizing.now.offset _ c.requires.size c.requires.places _ c.requires.was c.args.wanted c.requires.wants c.in-Ok.grown (at_ok _ _ _ _ c.in-Ok.is c.in_ok-grown.ensures) c.in-Err-made.want
    (subst (λ (ps : List Extent). IsNodesWanted f c.args.resizing.now.fork ps old c.in-Err-made.want) c.deref-2.ensures.value told)
