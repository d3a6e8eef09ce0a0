use Rattle.hfs_fields.proofs.OutcomeLemmas.{if_ok}
use Rattle.hfs_blocks.specs.Layers.{changes, over}
use Rattle.hfs_call_patches.proofs.Made.{f_info_made}
use Rattle.hfs_call_patches.proofs.ChosenItems.{file_named, file_under}
use Rattle.hfs_record_edits.proofs.LawsProved.{choice_stands, set_f_info_makes}
use Rattle.hfs_call_patches.proofs.settings.patch_set_f_info.Goals as goal

pub patch_record-requires-clause-name : goal.patch_record-requires-clause-name
patch_record-requires-clause-name g c =
    let below = c.args.volume.now.blocks.now in
    file_named (g.B.Blocks.total below) (g.B.Blocks.blocks below) c.requires.sound _ c.args.found.now.key c.args.found.now.file c.requires.chosen.chosen

pub patch_record-requires-clause-there : goal.patch_record-requires-clause-there
patch_record-requires-clause-there g c =
    let below = c.args.volume.now.blocks.now in
    file_under (g.B.Blocks.total below) (g.B.Blocks.blocks below) c.requires.sound _ c.args.found.now.key c.args.found.now.file c.requires.chosen.chosen choice_stands

pub returns-clause-makes : goal.returns-clause-makes
returns-clause-makes g c =
    let below = c.args.volume.now.blocks.now in
    if_ok c.patch_record.result _ _
    (λ patch set. f_info_made (g.B.Blocks.total below) c.args.now c.args.volume.now.mdb.now c.at_time.result c.args.found.now.key (g.B.Blocks.blocks below) (over (changes patch) (g.B.Blocks.blocks below))
    c.requires.sound c.requires.mdb c.at_time.ensures set_f_info_makes c.args.found.now.file c.args.info.now set.value set.set)
    c.patch_record.ensures.set
