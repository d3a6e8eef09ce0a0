-- The first blocks of the fork's extents have its bytes.
use Rattle.std.proofs.Common.{◌∙◌, sym, ap, subst, List, Some}
use Rattle.std.specs.List.{flat_map}
use Rattle.std.specs.Io.KnownBytes.{Appends}
use Rattle.hfs_texts.specs.Writing.{AppendsFront}
use Rattle.hfs_blocks.specs.declared.run.Run.{Run}
use Rattle.hfs_blocks.specs.Blocks.{run_of, AreRunsWithin}
use Rattle.hfs_space.specs.Extents.{fork_extents, fork_byte}
use Rattle.hfs_check.specs.Parts.{mdb_in, overflow_in}
use Rattle.hfs_source.specs.Sparse.{sparse}
use Rattle.hfs_image.specs.Forks.{bytes_by}
use Rattle.hfs_image.proofs.ForkBytes.{fork-fact, fork-unwritten, on-error}
use Rattle.hfs_image.proofs.TreeNodes.{on-ok}
use Rattle.hfs_image.proofs.forks.write_kind.Goals as goal

pub returns-in_default-clause-part : goal.returns-in_default-clause-part
returns-in_default-clause-part g c =
    fork-unwritten (g.S.BlockSource.image c.args.source.now) c.args.volume.now.count (λ image. bytes_by c.args.volume.now.read image c.args.fork.now.file c.args.fork.now.kind c.args.fork.now.fields.now)
    (g.W.Write.contents c.args.writer.now)

pub returns-clause-written : goal.returns-clause-written
returns-clause-written g c =
    on-ok c.copy_runs.result
    (fork-fact (g.S.BlockSource.image c.args.source.now) c.args.volume.now.count c.deref.result.now
    (subst (λ (runs : List Run). AreRunsWithin runs c.args.volume.now.count) (sym c.deref.ensures.value) c.in-Ok.ensures.runs.within) (mdb_in (sparse c.args.volume.now.read))
    (fork_extents (overflow_in (sparse c.args.volume.now.read)) c.args.fork.now.file (fork_byte c.args.fork.now.kind) c.args.fork.now.fields.now.extents) c.args.fork.now.fields.now.length
    (ap (flat_map run_of) c.deref.ensures.value ∙ c.in-Ok.ensures.runs.numbers)
    (Appends (g.W.Write.contents c.args.writer.now) (g.W.Write.contents c.copy_runs.new.writer))) c.copy_runs.ensures.written

pub returns-clause-part : goal.returns-clause-part
returns-clause-part g c =
    on-error c.copy_runs.result
    (fork-fact (g.S.BlockSource.image c.args.source.now) c.args.volume.now.count c.deref.result.now
    (subst (λ (runs : List Run). AreRunsWithin runs c.args.volume.now.count) (sym c.deref.ensures.value) c.in-Ok.ensures.runs.within) (mdb_in (sparse c.args.volume.now.read))
    (fork_extents (overflow_in (sparse c.args.volume.now.read)) c.args.fork.now.file (fork_byte c.args.fork.now.kind) c.args.fork.now.fields.now.extents) c.args.fork.now.fields.now.length
    (ap (flat_map run_of) c.deref.ensures.value ∙ c.in-Ok.ensures.runs.numbers)
    (AppendsFront (g.W.Write.contents c.args.writer.now) (g.W.Write.contents c.copy_runs.new.writer))) c.copy_runs.ensures.part

pub returns-in_default-clause-each_part : goal.returns-in_default-clause-each_part
returns-in_default-clause-each_part g c = λ image h.
    fork-unwritten (Some image) c.args.volume.now.count (λ image. bytes_by c.args.volume.now.read image c.args.fork.now.file c.args.fork.now.kind c.args.fork.now.fields.now)
    (g.W.Write.contents c.args.writer.now)

pub returns-clause-each : goal.returns-clause-each
returns-clause-each g c =
    on-ok c.copy_runs.result
    (λ each image h.
    fork-fact (Some image) c.args.volume.now.count c.deref.result.now
    (subst (λ (runs : List Run). AreRunsWithin runs c.args.volume.now.count) (sym c.deref.ensures.value) c.in-Ok.ensures.runs.within) (mdb_in (sparse c.args.volume.now.read))
    (fork_extents (overflow_in (sparse c.args.volume.now.read)) c.args.fork.now.file (fork_byte c.args.fork.now.kind) c.args.fork.now.fields.now.extents) c.args.fork.now.fields.now.length
    (ap (flat_map run_of) c.deref.ensures.value ∙ c.in-Ok.ensures.runs.numbers)
    (Appends (g.W.Write.contents c.args.writer.now) (g.W.Write.contents c.copy_runs.new.writer)) (each image h)) c.copy_runs.ensures.each

pub returns-clause-each_part : goal.returns-clause-each_part
returns-clause-each_part g c =
    on-error c.copy_runs.result
    (λ each image h.
    fork-fact (Some image) c.args.volume.now.count c.deref.result.now
    (subst (λ (runs : List Run). AreRunsWithin runs c.args.volume.now.count) (sym c.deref.ensures.value) c.in-Ok.ensures.runs.within) (mdb_in (sparse c.args.volume.now.read))
    (fork_extents (overflow_in (sparse c.args.volume.now.read)) c.args.fork.now.file (fork_byte c.args.fork.now.kind) c.args.fork.now.fields.now.extents) c.args.fork.now.fields.now.length
    (ap (flat_map run_of) c.deref.ensures.value ∙ c.in-Ok.ensures.runs.numbers)
    (AppendsFront (g.W.Write.contents c.args.writer.now) (g.W.Write.contents c.copy_runs.new.writer)) (each image h)) c.copy_runs.ensures.each_part
