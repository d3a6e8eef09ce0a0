use Rattle.std.proofs.Common.{List, ℕ, subst}
use Rattle.hfs_fields.proofs.OutcomeLemmas.{if_ok}
use Rattle.hfs_catalog.specs.declared.item.ItemRecord.TheVariants.{Folder}
use Rattle.hfs_blocks.specs.Layers.{changes, over}
use Rattle.hfs_call_patches.specs.Settings.{HasSetItem}
use Rattle.hfs_call_patches.proofs.Made.{folder_info_made}
use Rattle.hfs_call_patches.proofs.ChosenItems.{folder_named, folder_under}
use Rattle.hfs_record_edits.proofs.LawsProved.{choice_stands, set_cat_info_makes-folder}
use Rattle.hfs_call_patches.proofs.settings.patch_set_folder_info.Goals as goal

pub patch_record-requires-clause-name : goal.patch_record-requires-clause-name
patch_record-requires-clause-name g c =
    let below = c.args.volume.now.blocks.now in
    folder_named (g.B.Blocks.total below) (g.B.Blocks.blocks below) c.requires.sound _ c.args.found.now.key c.args.found.now.folder c.requires.chosen.chosen

pub patch_record-requires-clause-there : goal.patch_record-requires-clause-there
patch_record-requires-clause-there g c =
    let below = c.args.volume.now.blocks.now in
    folder_under (g.B.Blocks.total below) (g.B.Blocks.blocks below) c.requires.sound _ c.args.found.now.key c.args.found.now.folder c.requires.chosen.chosen choice_stands

pub returns-clause-makes : goal.returns-clause-makes
returns-clause-makes g c =
    let below = c.args.volume.now.blocks.now in
    let s = c.args.settings.now in
    let told = λ (both : List ℕ × List ℕ). record c.args.found.now.folder { created = s.created; modified = s.modified; backup = s.backup; finder_info = both.0; extended_finder_info = both.1 } in
    if_ok c.patch_record.result _ _
    (λ patch set. folder_info_made (g.B.Blocks.total below) c.args.now c.args.volume.now.mdb.now c.at_time.result c.args.found.now.key (g.B.Blocks.blocks below) (over (changes patch) (g.B.Blocks.blocks below))
    c.requires.sound c.requires.mdb c.at_time.ensures set_cat_info_makes-folder c.args.found.now.folder s
    (subst (λ (both : List ℕ × List ℕ). HasSetItem c.args.found.now.key (Folder (told both)) c.at_time.result (g.B.Blocks.blocks below) (over (changes patch) (g.B.Blocks.blocks below))) c.halves.ensures set).value
    (subst (λ (both : List ℕ × List ℕ). HasSetItem c.args.found.now.key (Folder (told both)) c.at_time.result (g.B.Blocks.blocks below) (over (changes patch) (g.B.Blocks.blocks below))) c.halves.ensures set).set)
    c.patch_record.ensures.set
