-- What is written over the runs is written over the fork.
use Rattle.std.proofs.Common.{ℕ, ◌+◌, length, refl, ap, ◌∙◌, subst, arith}
use Rattle.std.specs.List.{flat_map}
use Rattle.hfs_blocks.specs.Blocks.{run_of}
use Rattle.hfs_blocks.specs.Layers.{changes, over, length-over}
use Rattle.hfs_space.specs.Written.{KeepsBeside, HasPart}
use Rattle.hfs_space.proofs.ForkLemmas.{runs-different, runs-reach, fork-beside, fork-written}
use Rattle.hfs_space.proofs.forks.write_fork.Goals as goal

pub write_runs-requires-clause-different : goal.write_runs-requires-clause-different
write_runs-requires-clause-different g c =
    runs-different c.args.mdb.now c.args.extents.now (c.args.offset + length c.args.bytes.now) (g.B.Blocks.total c.args.blocks.now) c.deref.result.now c.requires.area c.requires.extents c.requires.once
    (ap (flat_map run_of) c.deref.ensures.value ∙ c.in_ok-runs.ensures.numbers)

pub write_runs-requires-clause-fits : goal.write_runs-requires-clause-fits
write_runs-requires-clause-fits g c =
    let reach = runs-reach c.args.mdb.now c.args.extents.now (c.args.offset + length c.args.bytes.now) (g.B.Blocks.total c.args.blocks.now) c.deref.result.now c.requires.area c.requires.extents c.requires.once
    (ap (flat_map run_of) c.deref.ensures.value ∙ c.in_ok-runs.ensures.numbers) c.requires.fits in
    omega (arith, reach, c.from.ensures)

pub returns-in_err-write_runs-clause-beside : goal.returns-in_err-write_runs-clause-beside
returns-in_err-write_runs-clause-beside g c =
    let below = g.B.Blocks.blocks c.args.blocks.now in
    let old = over (changes c.args.patch.now) below in
    let new = over (changes c.write_runs.new.patch) below in
    fork-beside c.args.mdb.now c.args.extents.now (c.args.offset + length c.args.bytes.now) (g.B.Blocks.total c.args.blocks.now) c.deref.result.now c.requires.area c.requires.extents c.requires.once
    (ap (flat_map run_of) c.deref.ensures.value ∙ c.in_ok-runs.ensures.numbers) c.args.offset c.args.bytes.now old new refl c.requires.fits
    (subst (λ (o : ℕ). KeepsBeside (flat_map run_of c.deref.result.now) o (length c.args.bytes.now) old new) c.from.ensures c.in_err-write_runs.ensures.beside)

pub returns-clause-written : goal.returns-clause-written
returns-clause-written g c =
    let below = g.B.Blocks.blocks c.args.blocks.now in
    let old = over (changes c.args.patch.now) below in
    let new = over (changes c.write_runs.new.patch) below in
    fork-written c.args.mdb.now c.args.extents.now (c.args.offset + length c.args.bytes.now) (g.B.Blocks.total c.args.blocks.now) c.deref.result.now c.requires.area c.requires.extents c.requires.once
    (ap (flat_map run_of) c.deref.ensures.value ∙ c.in_ok-runs.ensures.numbers) c.args.offset c.args.bytes.now old new refl c.requires.fits
    (λ k lt. length-over (changes c.args.patch.now) below k c.in_ok-write_runs.ensures.whole.0 (g.met.B.Blocks.whole c.args.blocks.now k lt))
    (λ k lt. length-over (changes c.write_runs.new.patch) below k c.in_ok-write_runs.ensures.whole.1 (g.met.B.Blocks.whole c.args.blocks.now k lt))
    (subst (λ (o : ℕ). KeepsBeside (flat_map run_of c.deref.result.now) o (length c.args.bytes.now) old new) c.from.ensures c.in_ok-write_runs.ensures.beside)
    (subst (λ (o : ℕ). HasPart (flat_map run_of c.deref.result.now) o c.args.bytes.now old new) c.from.ensures c.in_ok-write_runs.ensures.part)

pub returns-clause-beside : goal.returns-clause-beside
returns-clause-beside g c =
    let below = g.B.Blocks.blocks c.args.blocks.now in
    let old = over (changes c.args.patch.now) below in
    let new = over (changes c.write_runs.new.patch) below in
    fork-beside c.args.mdb.now c.args.extents.now (c.args.offset + length c.args.bytes.now) (g.B.Blocks.total c.args.blocks.now) c.deref.result.now c.requires.area c.requires.extents c.requires.once
    (ap (flat_map run_of) c.deref.ensures.value ∙ c.in_ok-runs.ensures.numbers) c.args.offset c.args.bytes.now old new refl c.requires.fits
    (subst (λ (o : ℕ). KeepsBeside (flat_map run_of c.deref.result.now) o (length c.args.bytes.now) old new) c.from.ensures c.in_ok-write_runs.ensures.beside)
