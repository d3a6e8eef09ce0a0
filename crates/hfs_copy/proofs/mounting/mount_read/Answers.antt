-- What the checks found of the blocks that were read holds of the copy.
use Rattle.std.proofs.Common.{ℕ, List, sym, ap, subst, ◌∙◌, arith}
use Rattle.hfs_blocks.specs.Blocks.{block_at}
use Rattle.hfs_check.specs.Parts.{mdb_in}
use Rattle.hfs_check.specs.Sound.{IsImageLength}
use Rattle.hfs_check.specs.Trees.{HasTreesOf}
use Rattle.hfs_volume.proofs.CopyLemmas.{length-copy}
use Rattle.hfs_copy.proofs.Copies.{directory-copy, trees-copy}
use Rattle.hfs_copy.proofs.mounting.mount_read.Goals as goal

pub of_read-requires-clause-small : goal.of_read-requires-clause-small
of_read-requires-clause-small c =
    let long = length-copy c.args.working.read c.args.len c.requires.working.within in omega (arith, long, c.requires.sound.len.most)

pub mount_sound-requires-clause-directory : goal.mount_sound-requires-clause-directory
mount_sound-requires-clause-directory c =
    let is = c.requires.working in
    let read = c.args.working.read in
    let right = subst IsImageLength (length-copy read c.args.len is.within) c.requires.sound.len in
    is.directory ∙ sym (directory-copy read c.args.len is.within is.working is.sound right)
    ∙ ap (λ (bytes : List ℕ). mdb_in (block_at bytes)) (sym c.in-Ok.ensures.bytes)

pub mount_sound-requires-clause-trees : goal.mount_sound-requires-clause-trees
mount_sound-requires-clause-trees c =
    let is = c.requires.working in
    let read = c.args.working.read in
    let trees = c.args.working.sound.trees in
    let right = subst IsImageLength (length-copy read c.args.len is.within) c.requires.sound.len in
    subst (λ (bytes : List ℕ). HasTreesOf bytes trees) (sym c.in-Ok.ensures.bytes)
    (trees-copy read c.args.len is.within is.working is.sound right trees is.trees)
