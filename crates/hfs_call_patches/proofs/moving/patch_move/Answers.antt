-- The item stands under the other folder, and both folders' records are set.
use Rattle.std.proofs.Common.{sym, subst}
use Rattle.hfs_fields.proofs.OutcomeLemmas.{if_ok}
use Rattle.hfs_blocks.specs.Layers.{changes, over}
use Rattle.hfs_call_patches.specs.Moving.{FitsCounts}
use Rattle.hfs_call_patches.proofs.MoveMade.{stand_at, move_named, move_made}
use Rattle.hfs_check.proofs.LawsProved.{catalog_is_sound}
use Rattle.hfs_record_edits.proofs.LawsProved.{folders_stand-moved, cat_move_makes}
use Rattle.hfs_call_patches.proofs.moving.patch_move.Goals as goal

pub counts_moved-counts-requires : goal.counts_moved-counts-requires
counts_moved-counts-requires g c = subst (λ mdb. FitsCounts mdb c.args.moving.now) (sym c.requires.mdb) c.requires.can.fits

pub set_valences-requires-clause-stand : goal.set_valences-requires-clause-stand
set_valences-requires-clause-stand g c =
    let below = c.args.volume.now.blocks.now in
    let can = c.requires.can in
    stand_at catalog_is_sound (g.B.Blocks.total below) (g.B.Blocks.blocks below) c.requires.sound can.dir can.name can.new_dir c.args.moving.now can.is
    folders_stand-moved _ c.in_ok-nodes.ensures.rekeyed

pub close_catalog-requires-clause-keeps : goal.close_catalog-requires-clause-keeps
close_catalog-requires-clause-keeps g c =
    let below = c.args.volume.now.blocks.now in
    let can = c.requires.can in
    move_named catalog_is_sound (g.B.Blocks.total below) (g.B.Blocks.blocks below) c.requires.sound can.dir can.name can.new_dir c.args.moving.now can.is
    folders_stand-moved _ c.in_ok-nodes.ensures.rekeyed c.args.now _ c.in_ok-set_valences.ensures.set can.can.named

pub returns-clause-makes : goal.returns-clause-makes
returns-clause-makes g c =
    let below = c.args.volume.now.blocks.now in
    let old = g.B.Blocks.blocks below in
    if_ok c.close_catalog.result _ _
    (λ patch closed. move_made catalog_is_sound folders_stand-moved cat_move_makes (g.B.Blocks.total below) old (over (changes patch) old) _ _ c.args.volume.now.mdb.now c.counts_moved-counts.result
    c.args.moving.now c.args.now c.requires.sound c.requires.mdb c.counts_moved-counts.ensures c.in_ok-nodes.ensures.rekeyed c.in_ok-set_valences.ensures.set closed)
    c.close_catalog.ensures.catalog
