-- The change was laid over the image, or nothing has changed.
use Rattle.std.proofs.Common.{ℕ, List, ◌++◌, sym, ap, ◌∙◌, subst}
use Rattle.std.specs.List.{flat_map}
use Rattle.hfs_fields.specs.declared.mdb.Mdb.{Mdb}
use Rattle.hfs_blocks.specs.declared.run.Run.{Run}
use Rattle.hfs_blocks.specs.Blocks.{block_count, run_of}
use Rattle.hfs_blocks.specs.Layers.{changes, AreWithin}
use Rattle.hfs_space.specs.Zeros.{AreAmong}
use Rattle.hfs_space.specs.Changed.{laid_changes}
use Rattle.hfs_volume.specs.Image.{ImageValue}
use Rattle.hfs_volume.specs.Laid.{laid_over}
use Rattle.hfs_volume.specs.Mounted.{IsMounted}
use Rattle.hfs_volume.specs.Steps.{zero_runs}
use Rattle.hfs_call_patches.specs.CallChanges.{written_blocks}
use Rattle.hfs_volume.proofs.Stepping.{still_mounted, committed_volume, committed_blocks, committed_mounted, zeros_among, blocks_written}
use Rattle.hfs_check.proofs.Stays.{agreements_join}
use Rattle.hfs_volume.proofs.volume.Volume.commit.Goals as goal

pub commit-requires-clause-patch : goal.commit-requires-clause-patch
commit-requires-clause-patch c = subst (λ (v : ImageValue). AreWithin (changes c.args.change.patch) (block_count v.current)) (sym c.self.view_is) c.requires.is.comes.within

pub commit-requires-clause-zeros : goal.commit-requires-clause-zeros
commit-requires-clause-zeros c =
    subst (λ (rs : List Run). AreAmong rs (block_count c.self.inside.image.current)) (sym c.zero_runs.ensures)
    (subst (λ (v : ImageValue). AreAmong (zero_runs c.args.change.written) (block_count v.current)) (sym c.self.view_is) (zeros_among c.args.change.written (block_count c.args.self.now.current) c.requires.is.comes.zeros))

pub invariant_of-self : goal.invariant_of-self
invariant_of-self c =
    still_mounted c.self.inside.image c.args.self.now c.commit.new.self c.self.inside.mdb c.self.inside.extents.items c.self.inside.catalog.items c.self.view_is c.self.invariant
    c.in_err-commit.ensures.base c.in_err-commit.ensures.unchanged c.in_err-commit.ensures.unwritten

pub invariant_of-self-2 : goal.invariant_of-self-2
invariant_of-self-2 c =
    subst (λ (m : Mdb). IsMounted c.commit.new.self m c.self.inside.extents.items c.self.inside.catalog.items) (sym c.with_counts-self-inside.ensures)
    (committed_mounted c.self.inside.image c.args.self.now c.commit.new.self c.self.inside.mdb c.self.inside.extents.items c.self.inside.catalog.items c.self.view_is c.self.invariant
    c.args.change (c.in_ok-commit.ensures.current ∙ ap (λ (rs : List Run). laid_over (laid_changes c.args.change.patch rs) c.self.inside.image.current) c.zero_runs.ensures)
    c.requires.of (record { is = c.requires.is; room = c.requires.room; forks = c.requires.forks }) agreements_join c.in_ok-commit.ensures.base
    (c.in_ok-commit.ensures.written ∙ ap (λ (bs : List ℕ). c.self.inside.image.written ++ bs) (ap (λ (rs : List Run). flat_map run_of rs) c.written_runs.ensures ∙ blocks_written c.args.change.written)))

pub returns-clause-volume : goal.returns-clause-volume
returns-clause-volume c = λ call is.
    committed_volume c.self.inside.image c.args.self.now c.commit.new.self c.self.inside.mdb c.self.inside.extents.items c.self.inside.catalog.items c.self.view_is c.self.invariant
    c.args.change (c.in_ok-commit.ensures.current ∙ ap (λ (rs : List Run). laid_over (laid_changes c.args.change.patch rs) c.self.inside.image.current) c.zero_runs.ensures) call is

pub returns-clause-written : goal.returns-clause-written
returns-clause-written c =
    c.in_ok-commit.ensures.written ∙ ap (λ (bs : List ℕ). c.self.inside.image.written ++ bs) (ap (λ (rs : List Run). flat_map run_of rs) c.written_runs.ensures ∙ blocks_written c.args.change.written)
    ∙ ap (λ (v : ImageValue). v.written ++ written_blocks c.args.change.written) c.self.view_is

pub returns-clause-laid : goal.returns-clause-laid
returns-clause-laid c =
    committed_blocks c.self.inside.image c.args.self.now c.commit.new.self c.self.inside.mdb c.self.inside.extents.items c.self.inside.catalog.items c.self.view_is c.self.invariant
    c.args.change (c.in_ok-commit.ensures.current ∙ ap (λ (rs : List Run). laid_over (laid_changes c.args.change.patch rs) c.self.inside.image.current) c.zero_runs.ensures)
    c.requires.of (record { is = c.requires.is; room = c.requires.room; forks = c.requires.forks })
