-- The item stands under its new name.
use Rattle.hfs_fields.proofs.OutcomeLemmas.{if_ok}
use Rattle.hfs_blocks.specs.Layers.{changes, over}
use Rattle.hfs_call_patches.proofs.Rekeys.{rekeyed_named}
use Rattle.hfs_call_patches.proofs.RenameMade.{rename_made}
use Rattle.hfs_check.proofs.LawsProved.{catalog_is_sound}
use Rattle.hfs_record_edits.proofs.LawsProved.{rename_makes}
use Rattle.hfs_call_patches.proofs.renaming.patch_rename.Goals as goal

pub close_catalog-requires-clause-keeps : goal.close_catalog-requires-clause-keeps
close_catalog-requires-clause-keeps g c = rekeyed_named c.args.item.now _ _ c.requires.can.named c.in_ok-nodes.ensures.rekeyed

pub returns-clause-makes : goal.returns-clause-makes
returns-clause-makes g c =
    let below = c.args.volume.now.blocks.now in
    let old = g.B.Blocks.blocks below in
    if_ok c.close_catalog.result _ _
    (λ patch closed. rename_made catalog_is_sound rename_makes (g.B.Blocks.total below) old (over (changes patch) old) _ c.args.volume.now.mdb.now c.at_time.result c.args.item.now c.args.now
    c.requires.sound c.requires.mdb c.at_time.ensures c.in_ok-nodes.ensures.rekeyed closed)
    c.close_catalog.ensures.catalog
