-- Whole blocks of zeros, and zeros in the parts beside these.
use Rattle.std.proofs.Common.{◌≡◌, ℕ, ◌+◌, ◌-◌, ◌/◌, List, refl, subst, arith}
use Rattle.hfs_blocks.specs.Layers.{changes, over, AreWithin}
use Rattle.hfs_space.specs.ForkLengths.{all_bytes}
use Rattle.hfs_space.specs.Parts.{with_part, zeros}
use Rattle.hfs_space.specs.Zeros.{zero_blocks}
use Rattle.hfs_space.specs.Clearing.{zeroed}
use Rattle.hfs_space.proofs.WholeLemmas.{all-length, AreParts, parts-of, parts-zeros}
use Rattle.hfs_space.proofs.clearing.clear_fork.Goals as goal

pub returns-clause-written : goal.returns-clause-written
returns-clause-written g c =
    let blocks = g.B.Blocks.blocks in
    let below = blocks c.args.blocks.now in
    let mdb = c.args.mdb.now in
    let extents = c.args.extents.now in
    let offset = c.args.offset in
    let count = c.args.count in
    let front = c.min-front.result in
    let back = c.max-back.result in
    let last = (offset + count) / 512 in
    let first = c.min-first.result in
    let mid = zeroed c.in_ok-zeros.zeros below in
    let new = over (changes c.in_ok-patch.patch) mid in
    let shown : over (zero_blocks c.over.result.zeros.now) (blocks c.over.result.below.now) ≡ mid = λ t. over (zero_blocks (c.over.ensures.zeros t)) (blocks (c.over.ensures.below t)) in
    let parts : AreParts offset count first last front back = parts-of offset count first last front back refl (omega (arith, c.min-first.ensures, c.div_ceil.ensures)) c.min-front.ensures c.max-back.ensures in
    let long = all-length mdb extents (g.B.Blocks.total c.args.blocks.now) below c.requires.area c.requires.extents (λ k lt. g.met.B.Blocks.whole c.args.blocks.now k lt) in
    parts-zeros mdb extents below mid new offset count first last front back parts (let fits = c.requires.fits in omega (arith, fits, long)) c.in_ok-zeros.ensures.written
    (subst (λ (bs : ℕ → List ℕ). all_bytes (over (changes c.in_ok-patch.patch) bs) mdb extents ≡ with_part back (zeros (offset + count - back)) (with_part offset (zeros front) (all_bytes bs mdb extents))) shown
    c.in_ok-patch.ensures.written)

pub returns-clause-within : goal.returns-clause-within
returns-clause-within g c = subst (λ below. AreWithin (changes c.in_ok-patch.patch) (g.B.Blocks.total below)) c.over.ensures.below c.in_ok-patch.ensures.within
