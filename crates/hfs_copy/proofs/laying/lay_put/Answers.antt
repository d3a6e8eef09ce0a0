-- A byte is put into a block that was read.
use Rattle.std.proofs.Common.{ℕ, ◌/◌, ◌<◌, List, ap, refl, ◌∙◌, arith}
use Rattle.std.specs.Prelude.{◌%◌, slice_set}
use Rattle.std.proofs.lemmas.List.{length-set}
use Rattle.hfs_source.specs.declared.volume.SparseVolume.{SparseVolume}
use Rattle.hfs_image.proofs.Gathered.{reads-block}
use Rattle.hfs_copy.proofs.ReadParts.{seen-is}
use Rattle.hfs_copy.proofs.PutBlocks.{puts-byte, within-put, within-same}
use Rattle.hfs_copy.proofs.laying.lay_put.Goals as goal

pub returns-in_err-fetch-clause-reads : goal.returns-in_err-fetch-clause-reads
returns-in_err-fetch-clause-reads g c =
    let lt : c.args.put.now.at / 512 < c.args.count = omega (arith, c.requires.within) in
    reads-block (g.S.BlockSource.image c.args.source.now) c.args.count c.args.read.now c.fetch.new.read (c.args.put.now.at / 512) lt
    c.in_err-fetch.ensures.grown c.in_err-fetch.ensures.stays c.in_err-fetch.ensures.within

pub returns-in-Ok-clause-put : goal.returns-in-Ok-clause-put
returns-in-Ok-clause-put g c =
    let n = c.args.put.now.at / 512 in
    let lt : n < c.args.count = omega (arith, c.requires.within) in
    let seen = seen-is c.over.result.patch.now c.args.patch.now c.over.result.below.now.read.now c.fetch.new.read c.over.ensures.patch
    (ap (λ (v : SparseVolume). v.read.now) c.over.ensures.below ∙ c.volume.ensures.read) in
    puts-byte c.args.count c.args.patch.now c.put.new.self c.fetch.new.read n c.args.put.now
    (slice_set c.block.new.into (c.args.put.now.at % 512) c.args.put.now.byte)
    c.in_ok-fetch.ensures.has refl lt
    c.in-Ok.ensures.written
    (ap (λ (b : List ℕ). slice_set b (c.args.put.now.at % 512) c.args.put.now.byte) (c.block.ensures ∙ ap (λ (f : ℕ → List ℕ). f n) seen))

pub returns-in-Ok-clause-within : goal.returns-in-Ok-clause-within
returns-in-Ok-clause-within g c =
    let lt : c.args.put.now.at / 512 < c.args.count = omega (arith, c.requires.within) in
    within-put c.args.patch.now c.put.new.self (c.args.put.now.at / 512) c.args.count (slice_set c.block.new.into (c.args.put.now.at % 512) c.args.put.now.byte)
    c.in-Ok.ensures.written lt (length-set c.block.new.into (c.args.put.now.at % 512) c.args.put.now.byte ∙ c.block.array_long)

pub returns-in-Ok-clause-reads : goal.returns-in-Ok-clause-reads
returns-in-Ok-clause-reads g c =
    let lt : c.args.put.now.at / 512 < c.args.count = omega (arith, c.requires.within) in
    reads-block (g.S.BlockSource.image c.args.source.now) c.args.count c.args.read.now c.fetch.new.read (c.args.put.now.at / 512) lt
    c.in_ok-fetch.ensures.grown c.in_ok-fetch.ensures.stays c.in_ok-fetch.ensures.within

pub returns-in-Err-clause-within : goal.returns-in-Err-clause-within
returns-in-Err-clause-within g c = within-same c.args.patch.now c.put.new.self c.args.count c.in-Err.ensures.kept

pub returns-in-Err-clause-reads : goal.returns-in-Err-clause-reads
returns-in-Err-clause-reads g c =
    let lt : c.args.put.now.at / 512 < c.args.count = omega (arith, c.requires.within) in
    reads-block (g.S.BlockSource.image c.args.source.now) c.args.count c.args.read.now c.fetch.new.read (c.args.put.now.at / 512) lt
    c.in_ok-fetch.ensures.grown c.in_ok-fetch.ensures.stays c.in_ok-fetch.ensures.within
