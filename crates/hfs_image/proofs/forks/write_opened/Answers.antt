-- What was gathered finds the file that the image has.
use Rattle.std.proofs.Common.{ℕ, refl, sym, subst}
use Rattle.std.specs.Io.KnownBytes.{Appends}
use Rattle.hfs_texts.specs.Writing.{AppendsFront}
use Rattle.hfs_check.specs.Sound.{AreBlocksSound}
use Rattle.hfs_source.specs.Sparse.{sparse}
use Rattle.hfs_image.specs.Gathered.{HasNeeded}
use Rattle.hfs_image.proofs.Named.{unread-known, fact-known}
use Rattle.hfs_image.proofs.SeenFiles.{fact-seen, refuses-seen}
use Rattle.hfs_check.proofs.LawsProved.{no_blocks_fault}
use Rattle.hfs_image.proofs.LawsProved.{gathered_is_enough}
use Rattle.hfs_items.proofs.QueryLawsProved.{catalog_answers-entries}
use Rattle.hfs_image.proofs.forks.write_opened.Goals as goal

pub returns-in-Err-clause-unread : goal.returns-in-Err-clause-unread
returns-in-Err-clause-unread g c = λ len same.
    let volume = c.args.volume.now in
    unread-known no_blocks_fault gathered_is_enough catalog_answers-entries len volume.read
    (subst (λ (n : ℕ). HasNeeded n volume.read) (sym same) c.requires.needed) (subst (λ (n : ℕ). AreBlocksSound n (sparse volume.read)) (sym same) c.requires.sound)
    c.args.named.now.dir c.args.named.now.name.now c.args.named.now.fork (g.S.BlockSource.image c.args.source.now) c.requires.of c.in-Err.reply c.in-Err.ensures.found

pub returns-in-Ok-write_file-clause-written : goal.returns-in-Ok-write_file-clause-written
returns-in-Ok-write_file-clause-written g c = λ len same.
    let volume = c.args.volume.now in
    fact-known no_blocks_fault gathered_is_enough catalog_answers-entries len volume.read
    (subst (λ (n : ℕ). HasNeeded n volume.read) (sym same) c.requires.needed) (subst (λ (n : ℕ). AreBlocksSound n (sparse volume.read)) (sym same) c.requires.sound)
    c.args.named.now.dir c.args.named.now.name.now c.args.named.now.fork (g.S.BlockSource.image c.args.source.now) _ refl c.requires.of volume.count (sym same)
    c.in-Ok.file c.in-Ok.ensures.found (Appends (g.W.Write.contents c.args.writer.now) (g.W.Write.contents c.write_file.new.writer)) c.in-Ok-write_file.ensures.written

pub returns-in-Err-write_file-clause-part : goal.returns-in-Err-write_file-clause-part
returns-in-Err-write_file-clause-part g c = λ len same.
    let volume = c.args.volume.now in
    fact-known no_blocks_fault gathered_is_enough catalog_answers-entries len volume.read
    (subst (λ (n : ℕ). HasNeeded n volume.read) (sym same) c.requires.needed) (subst (λ (n : ℕ). AreBlocksSound n (sparse volume.read)) (sym same) c.requires.sound)
    c.args.named.now.dir c.args.named.now.name.now c.args.named.now.fork (g.S.BlockSource.image c.args.source.now) _ refl c.requires.of volume.count (sym same)
    c.in-Ok.file c.in-Ok.ensures.found (AppendsFront (g.W.Write.contents c.args.writer.now) (g.W.Write.contents c.write_file.new.writer)) c.in-Err-write_file.ensures.part

pub returns-in-Err-clause-each : goal.returns-in-Err-clause-each
returns-in-Err-clause-each g c = λ is image h.
    refuses-seen no_blocks_fault gathered_is_enough catalog_answers-entries (g.S.BlockSource.Holds c.args.source.now) c.args.volume.now
    (g.S.BlockSource.image c.args.source.now) c.requires is image h c.args.named.now.dir c.args.named.now.name.now c.args.named.now.fork c.in-Err.reply c.in-Err.ensures.found

pub returns-in-Ok-write_file-clause-each : goal.returns-in-Ok-write_file-clause-each
returns-in-Ok-write_file-clause-each g c = λ is image h.
    fact-seen no_blocks_fault gathered_is_enough catalog_answers-entries (g.S.BlockSource.Holds c.args.source.now) c.args.volume.now
    (g.S.BlockSource.image c.args.source.now) c.requires is image (c.in-Ok-write_file.ensures.narrows image h) c.args.named.now.dir c.args.named.now.name.now c.args.named.now.fork
    c.in-Ok.file c.in-Ok.ensures.found (Appends (g.W.Write.contents c.args.writer.now) (g.W.Write.contents c.write_file.new.writer))
    (c.in-Ok-write_file.ensures.each image h)

pub returns-in-Err-write_file-clause-each_part : goal.returns-in-Err-write_file-clause-each_part
returns-in-Err-write_file-clause-each_part g c = λ is image h.
    fact-seen no_blocks_fault gathered_is_enough catalog_answers-entries (g.S.BlockSource.Holds c.args.source.now) c.args.volume.now
    (g.S.BlockSource.image c.args.source.now) c.requires is image (c.in-Err-write_file.ensures.narrows image h) c.args.named.now.dir c.args.named.now.name.now c.args.named.now.fork
    c.in-Ok.file c.in-Ok.ensures.found (AppendsFront (g.W.Write.contents c.args.writer.now) (g.W.Write.contents c.write_file.new.writer))
    (c.in-Err-write_file.ensures.each_part image h)
