use Rattle.std.proofs.Common.{◌∙◌, sym}
use Rattle.hfs_blocks.specs.Blocks.{block_at}
use Rattle.hfs_check.specs.Parts.{mdb_in}
use Rattle.hfs_check.specs.VolumeOf.{volume_of}
use Rattle.hfs_fields.proofs.OutcomeLemmas.{on_ok}
use Rattle.hfs_viewers.proofs.Opened.{folder_entered, file_entered}
use Rattle.hfs_viewers.proofs.opening.Maps.take.Goals as goal

pub returns-then-is_folder : goal.returns-then-is_folder
returns-then-is_folder c =
    let v = c.args.volume.now in
    on_ok c.enter.result _ _ (λ enters done are.
    folder_entered v.base v.current c.args.entry.now c.key-key.result.now c.body-body.result.now c.key-key.ensures c.body-body.ensures c.requires.right c.folder_row.result c.args.self.now c.enter.new.self
    c.in-Some.folder (sym c.is_folder.ensures ∙ c.if-is_folder.true) c.in-Some.ensures.1 (c.folder_row.ensures.shows v.base (mdb_in (block_at v.current)))
    (λ id. c.folder_row.ensures.kind (volume_of v.current).items (mdb_in (block_at v.current)) id) enters done are) c.enter.ensures

pub returns-then-is_file : goal.returns-then-is_file
returns-then-is_file c =
    let v = c.args.volume.now in
    on_ok c.enter-then-is_file.result _ _ (λ enters done are.
    file_entered v.base v.current c.args.entry.now c.key-key.result.now c.body-body.result.now c.key-key.ensures c.body-body.ensures c.requires.right c.in_ok-row.row c.args.self.now c.enter-then-is_file.new.self
    c.in-Some-read.file c.has.result (sym c.is_folder.ensures ∙ c.if-is_folder.false) (sym c.is_file.ensures ∙ c.if-is_file.true) c.in-Some-read.ensures.1
    (c.has.ensures ∙ c.requires.threads c.in-Some-read.file.id) c.in_ok-row.ensures.shows
    (λ id. c.in_ok-row.ensures.kind (volume_of v.current).items id) enters done are) c.enter-then-is_file.ensures
