-- The first blocks of the fork's extents have its bytes.
use Rattle.std.proofs.Common.{◌∙◌, sym, ap, subst, List, Some}
use Rattle.std.specs.List.{flat_map}
use Rattle.hfs_blocks.specs.declared.run.Run.{Run}
use Rattle.hfs_blocks.specs.Blocks.{run_of, AreRunsWithin}
use Rattle.hfs_space.specs.Extents.{fork_extents, fork_byte}
use Rattle.hfs_check.specs.Parts.{mdb_in, overflow_in}
use Rattle.hfs_source.specs.Sparse.{sparse}
use Rattle.hfs_image.proofs.ForkBytes.{fork-known}
use Rattle.hfs_image.proofs.forks.read_kind.Goals as goal

pub returns-clause-bytes : goal.returns-clause-bytes
returns-clause-bytes g c = λ image h.
    fork-known (Some image) c.args.volume.now.count c.deref.result.now
    (subst (λ (runs : List Run). AreRunsWithin runs c.args.volume.now.count) (sym c.deref.ensures.value) c.in-Ok.ensures.runs.within) (mdb_in (sparse c.args.volume.now.read))
    (fork_extents (overflow_in (sparse c.args.volume.now.read)) c.args.fork.now.file (fork_byte c.args.fork.now.kind) c.args.fork.now.fields.now.extents) c.args.fork.now.fields.now.length
    (ap (flat_map run_of) c.deref.ensures.value ∙ c.in-Ok.ensures.runs.numbers) c.in_ok-bytes.bytes.items c.truncate.new.self.items (c.in_ok-bytes.ensures.each image h)
    c.truncate.ensures.items
