use Rattle.std.proofs.Common.{ℕ, subst}
use Rattle.hfs_fields.proofs.OutcomeLemmas.{if_ok}
use Rattle.hfs_catalog.specs.declared.item.ItemRecord.TheVariants.{File}
use Rattle.hfs_blocks.specs.Layers.{changes, over}
use Rattle.hfs_call_patches.specs.Settings.{HasSetItem}
use Rattle.hfs_call_patches.proofs.Made.{lock_made}
use Rattle.hfs_call_patches.proofs.ChosenItems.{file_named, file_under}
use Rattle.hfs_record_edits.proofs.LawsProved.{choice_stands, set_lock_makes}
use Rattle.hfs_call_patches.proofs.settings.patch_set_lock.Goals as goal

pub patch_record-requires-clause-name : goal.patch_record-requires-clause-name
patch_record-requires-clause-name g c =
    let below = c.args.volume.now.blocks.now in
    file_named (g.B.Blocks.total below) (g.B.Blocks.blocks below) c.requires.sound _ c.args.found.now.key c.args.found.now.file c.requires.chosen.chosen

pub patch_record-requires-clause-there : goal.patch_record-requires-clause-there
patch_record-requires-clause-there g c =
    let below = c.args.volume.now.blocks.now in
    file_under (g.B.Blocks.total below) (g.B.Blocks.blocks below) c.requires.sound _ c.args.found.now.key c.args.found.now.file c.requires.chosen.chosen choice_stands

pub returns-clause-makes : goal.returns-clause-makes
returns-clause-makes g c =
    let below = c.args.volume.now.blocks.now in
    let flagged = λ (bits : ℕ). record c.args.found.now.file { flags = record { 0 = bits } } in
    if_ok c.patch_record.result _ _
    (λ patch set. lock_made (g.B.Blocks.total below) c.args.now c.args.volume.now.mdb.now c.at_time.result c.args.found.now.key (g.B.Blocks.blocks below) (over (changes patch) (g.B.Blocks.blocks below))
    c.requires.sound c.requires.mdb c.at_time.ensures set_lock_makes c.args.locked c.args.found.now.file
    (subst (λ (bits : ℕ). HasSetItem c.args.found.now.key (File (flagged bits)) c.at_time.result (g.B.Blocks.blocks below) (over (changes patch) (g.B.Blocks.blocks below))) c.with_lock.ensures set).value
    (subst (λ (bits : ℕ). HasSetItem c.args.found.now.key (File (flagged bits)) c.at_time.result (g.B.Blocks.blocks below) (over (changes patch) (g.B.Blocks.blocks below))) c.with_lock.ensures set).set)
    c.patch_record.ensures.set
