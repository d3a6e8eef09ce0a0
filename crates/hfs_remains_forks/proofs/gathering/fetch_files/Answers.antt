-- The catalog file's blocks were found by what was read before, which stays.
use Rattle.std.proofs.Common.{◌≡◌, ◌≤◌, sym, ap, ◌∙◌, arith}
use Rattle.hfs_space.specs.Forks.{blocks_each}
use Rattle.hfs_remains.specs.CatalogRecords.{looks_elsewhere}
use Rattle.hfs_remains.specs.TreeFiles.{file_blocks}
use Rattle.hfs_source.specs.Sparse.{sparse}
use Rattle.hfs_image.proofs.Gathered.{reads-on}
use Rattle.hfs_remains_forks.proofs.GatherLemmas.{elsewhere-read, files-read}
use Rattle.hfs_source.proofs.Seen.{sees_on}
use Rattle.hfs_remains_forks.proofs.gathering.fetch_files.Goals as goal

pub returns-in-Ok-is_elsewhere-clause-has : goal.returns-in-Ok-is_elsewhere-clause-has
returns-in-Ok-is_elsewhere-clause-has g c =
    let some : 1 ≤ blocks_each c.args.mdb.now = omega (arith, c.requires.size) in
    files-read c.args.count c.fetch_extents.new.read c.fetch_file.new.read c.in_ok-fetch_file.ensures.reads.grown c.args.mdb.now some c.in_ok-extents.ensures.has
    c.deref.result.now c.deref-2.result.now (c.deref.ensures.value ∙ c.in_ok-extents.ensures.extents) (c.deref-2.ensures.value ∙ c.in-Ok.ensures.blocks)
    c.in_ok-fetch_file.ensures.has

pub returns-in-Ok-is_elsewhere-clause-elsewhere : goal.returns-in-Ok-is_elsewhere-clause-elsewhere
returns-in-Ok-is_elsewhere-clause-elsewhere g c =
    let some : 1 ≤ blocks_each c.args.mdb.now = omega (arith, c.requires.size) in
    let told : c.in-Ok-is_elsewhere.elsewhere ≡ looks_elsewhere (sparse c.fetch_file.new.read) c.args.mdb.now c.deref-3.result.now c.deref-4.result.now =
    c.in-Ok-is_elsewhere.ensures in
    told
    ∙ elsewhere-read c.args.count c.fetch_extents.new.read c.fetch_file.new.read c.in_ok-fetch_file.ensures.reads.grown c.args.mdb.now some
    c.in_ok-extents.ensures.has c.deref-3.result.now c.deref-4.result.now (c.deref-3.ensures.value ∙ c.in_ok-extents.ensures.extents)
    (c.deref-4.ensures.value ∙ c.in-Ok.ensures.blocks ∙ ap (file_blocks c.args.count c.args.mdb.now) (c.deref.ensures.value ∙ sym c.deref-3.ensures.value))

pub returns-in-Ok-is_elsewhere-clause-reads : goal.returns-in-Ok-is_elsewhere-clause-reads
returns-in-Ok-is_elsewhere-clause-reads g c =
    reads-on (g.S.BlockSource.image c.args.source.now) (g.S.BlockSource.image c.fetch_extents.new.source) c.args.count c.args.read.now c.fetch_extents.new.read
    c.fetch_file.new.read c.in_ok-extents.ensures.image c.in_ok-extents.ensures.reads c.in_ok-fetch_file.ensures.reads

pub returns-in_err-fetch_file-clause-sees : goal.returns-in_err-fetch_file-clause-sees
returns-in_err-fetch_file-clause-sees g c = sees_on c.in_ok-extents.ensures.sees c.in_err-fetch_file.ensures.sees

pub returns-in-Ok-is_elsewhere-clause-sees : goal.returns-in-Ok-is_elsewhere-clause-sees
returns-in-Ok-is_elsewhere-clause-sees g c = sees_on c.in_ok-extents.ensures.sees c.in_ok-fetch_file.ensures.sees

pub returns-clause-sees : goal.returns-clause-sees
returns-clause-sees g c = sees_on c.in_ok-extents.ensures.sees c.in_ok-fetch_file.ensures.sees
