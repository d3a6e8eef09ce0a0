-- The bits were cleared, the records went from both trees, and the counts were put.
use Rattle.std.proofs.Common.{◌+◌, ◌∙◌, ap, refl, sym, subst, arith}
use Rattle.hfs_fields.specs.declared.mdb.Mdb.{Mdb}
use Rattle.hfs_blocks.specs.Blocks.{nodes_in}
use Rattle.hfs_blocks.specs.Layers.{changes, over}
use Rattle.hfs_btree.specs.Sound.{IsDistinct}
use Rattle.hfs_btree_edits.proofs.WrittenLemmas.{put_within}
use Rattle.hfs_space.specs.Extents.{block_total, extent_blocks}
use Rattle.hfs_space.specs.TreeKeys.{IsExtentsTree}
use Rattle.hfs_record_edits.specs.Deletion.{without_one_file}
use Rattle.hfs_check.specs.Parts.{catalog_nodes}
use Rattle.hfs_call_patches.proofs.Different.{different}
use Rattle.hfs_call_patches.proofs.FileDeleted.{file_chosen_id, file_given, blocks_counted, freed_within, freed_alone, file_deleted}
use Rattle.hfs_call_patches.proofs.FileGone.{extents_old, extents_first, catalog_second, file_gone, free_fits}
use Rattle.hfs_call_patches.proofs.FromFolder.{own_under_by, under_by, stays_by, keeps_by, some_child}
use Rattle.hfs_check.proofs.LawsProved.{trees_are_sound}
use Rattle.hfs_record_edits.proofs.DeletionMakes.{fork_extents_are_within, fork_blocks_are_alone}
use Rattle.hfs_record_edits.proofs.LawsProved.{removal_fits, choice_stands, folders_stand-delete, deletion_leaves_file, dropped_leaves, delete_file_makes, deletions_are_steps}
use Rattle.hfs_call_patches.proofs.deleting_file.patch_delete_file.Goals as goal

pub file_extents-requires : goal.file_extents-requires
file_extents-requires g c =
    let below = c.args.volume.now.blocks.now in
    let old = g.B.Blocks.blocks below in
    let total = g.B.Blocks.total below in
    subst IsExtentsTree (sym (extents_old total old c.requires.sound c.args.volume.now.extents.now c.args.volume.now.catalog.now c.requires.extents c.requires.catalog)) (trees_are_sound total old c.requires.sound).0

pub clear_bits-requires-clause-within : goal.clear_bits-requires-clause-within
clear_bits-requires-clause-within g c =
    let below = c.args.volume.now.blocks.now in
    let old = g.B.Blocks.blocks below in
    let total = g.B.Blocks.total below in
    freed_within total c.args.parent.now.id c.requires.chosen.name c.args.key.now c.args.file.now old c.requires.sound c.requires.chosen.chosen c.deref.result.now (nodes_in old c.args.volume.now.extents.now)
    (extents_old total old c.requires.sound c.args.volume.now.extents.now c.args.volume.now.catalog.now c.requires.extents c.requires.catalog) (c.deref.ensures.value ∙ c.in_ok-freed.ensures) fork_extents_are_within

pub drop_records-requires-clause-same : goal.drop_records-requires-clause-same
drop_records-requires-clause-same g c =
    let below = c.args.volume.now.blocks.now in
    let old = g.B.Blocks.blocks below in
    let total = g.B.Blocks.total below in
    extents_first total old c.requires.sound c.args.volume.now.extents.now c.args.volume.now.catalog.now c.requires.extents c.requires.catalog (extent_blocks c.deref.result.now) (over (changes c.in_ok-bits.bits) old) c.in_ok-bits.ensures.released

pub overflow_sub-left : goal.overflow_sub-left
overflow_sub-left g c =
    let below = c.args.volume.now.blocks.now in
    let ch = c.requires.chosen.chosen in
    let one = some_child removal_fits (g.B.Blocks.total below) c.args.parent.now.id c.requires.chosen.name c.args.parent.now.key c.args.parent.now.valence ch.of (g.B.Blocks.blocks below) c.requires.sound ch.choice c.requires.parent in
    omega (arith, one)

pub invariant_of-drop_item_over : goal.invariant_of-drop_item_over
invariant_of-drop_item_over g c =
    let below = c.args.volume.now.blocks.now in
    record {
      within = c.requires.catalog.within;
      different = subst IsDistinct (sym c.requires.catalog.numbers) (different (g.B.Blocks.total below) (g.B.Blocks.blocks below) c.requires.sound);
      inside = c.in_ok-records.ensures.within;
    }

pub drop_item_over-requires-clause-same : goal.drop_item_over-requires-clause-same
drop_item_over-requires-clause-same g c =
    let below = c.args.volume.now.blocks.now in
    let old = g.B.Blocks.blocks below in
    let total = g.B.Blocks.total below in
    catalog_second total old c.requires.sound c.args.volume.now.extents.now c.args.volume.now.catalog.now c.requires.extents c.requires.catalog (extent_blocks c.deref.result.now) (over (changes c.in_ok-bits.bits) old) c.in_ok-bits.ensures.released
    c.args.file.now.id (over (changes c.in_ok-records.records) old) c.in_ok-records.ensures.dropped c.in_ok-records.ensures.beside

pub drop_item_over-requires-clause-there : goal.drop_item_over-requires-clause-there
drop_item_over-requires-clause-there g c =
    let below = c.args.volume.now.blocks.now in
    let old = g.B.Blocks.blocks below in
    let ch = c.requires.chosen.chosen in
    under_by choice_stands folders_stand-delete (g.B.Blocks.total below) c.args.parent.now.id c.args.file.now.id c.requires.chosen.name c.args.key.now c.args.parent.now.key c.args.parent.now.valence ch.of old
    c.requires.sound ch.choice ch.own_key (file_chosen_id (g.B.Blocks.total below) c.args.parent.now.id c.requires.chosen.name c.args.key.now c.args.file.now old c.requires.sound ch) c.requires.parent (catalog_nodes old) refl

pub drop_item_over-requires-clause-own : goal.drop_item_over-requires-clause-own
drop_item_over-requires-clause-own g c =
    let below = c.args.volume.now.blocks.now in
    let old = g.B.Blocks.blocks below in
    let ch = c.requires.chosen.chosen in
    own_under_by choice_stands folders_stand-delete (g.B.Blocks.total below) c.args.parent.now.id c.args.file.now.id c.requires.chosen.name c.args.key.now c.args.parent.now.key c.args.parent.now.valence ch.of old
    c.requires.sound ch.choice ch.own_key (file_chosen_id (g.B.Blocks.total below) c.args.parent.now.id c.requires.chosen.name c.args.key.now c.args.file.now old c.requires.sound ch) c.requires.parent (catalog_nodes old) refl

pub drop_item_over-requires-clause-stays : goal.drop_item_over-requires-clause-stays
drop_item_over-requires-clause-stays g c =
    let below = c.args.volume.now.blocks.now in
    let old = g.B.Blocks.blocks below in
    let ch = c.requires.chosen.chosen in
    stays_by choice_stands folders_stand-delete (g.B.Blocks.total below) c.args.parent.now.id c.args.file.now.id c.requires.chosen.name c.args.key.now c.args.parent.now.key c.args.parent.now.valence ch.of old
    c.requires.sound ch.choice ch.own_key (file_chosen_id (g.B.Blocks.total below) c.args.parent.now.id c.requires.chosen.name c.args.key.now c.args.file.now old c.requires.sound ch) c.requires.parent (catalog_nodes old) refl

pub free_after-free-requires : goal.free_after-free-requires
free_after-free-requires g c =
    let below = c.args.volume.now.blocks.now in
    let old = g.B.Blocks.blocks below in
    let total = g.B.Blocks.total below in
    let xs = c.deref.result.now in
    let alone = freed_alone total c.args.parent.now.id c.requires.chosen.name c.args.key.now c.args.file.now old c.requires.sound c.requires.chosen.chosen xs (nodes_in old c.args.volume.now.extents.now)
    (extents_old total old c.requires.sound c.args.volume.now.extents.now c.args.volume.now.catalog.now c.requires.extents c.requires.catalog) (c.deref.ensures.value ∙ c.in_ok-freed.ensures) fork_blocks_are_alone in
    let fits = free_fits total old c.requires.sound (extent_blocks xs) (over (changes c.in_ok-bits.bits) old) c.in_ok-bits.ensures.released alone in
    let most = ap (λ (m : Mdb). m.allocation_blocks) c.requires.mdb in
    let free = ap (λ (m : Mdb). m.free_blocks) c.requires.mdb in
    let same = ap block_total (c.deref-2.ensures.value ∙ sym c.deref.ensures.value) in
    omega (arith, fits, most, free, same, blocks_counted xs)

pub returns-clause-makes : goal.returns-clause-makes
returns-clause-makes g c name ch =
    let below = c.args.volume.now.blocks.now in
    let old = g.B.Blocks.blocks below in
    let total = g.B.Blocks.total below in
    let h = c.requires.sound in
    let xs = c.deref.result.now in
    let nodes = nodes_in old c.args.volume.now.extents.now in
    let is = extents_old total old h c.args.volume.now.extents.now c.args.volume.now.catalog.now c.requires.extents c.requires.catalog in
    let found = c.deref.ensures.value ∙ c.in_ok-freed.ensures in
    let final = nodes_in (over (changes c.in_ok-patch.patch) old) c.args.volume.now.catalog.now in
    let alone = freed_alone total c.args.parent.now.id name c.args.key.now c.args.file.now old h ch xs nodes is found fork_blocks_are_alone in
    let keeps = keeps_by choice_stands folders_stand-delete total c.args.parent.now.id c.args.file.now.id name c.args.key.now c.args.parent.now.key c.args.parent.now.valence ch.of old h ch.choice ch.own_key
    (file_chosen_id total c.args.parent.now.id name c.args.key.now c.args.file.now old h ch) c.requires.parent (catalog_nodes old) refl c.args.now final c.in_ok-patch.ensures.dropped in
    let gone = file_gone total old h c.args.volume.now.extents.now c.args.volume.now.catalog.now c.requires.extents c.requires.catalog (extent_blocks xs) (over (changes c.in_ok-bits.bits) old) c.in_ok-bits.ensures.released
    c.args.file.now.id (over (changes c.in_ok-records.records) old) c.in_ok-records.ensures.dropped c.in_ok-records.ensures.beside
    (over (changes c.in_ok-patch.patch) old) keeps c.in_ok-patch.ensures.beside (changes c.in_ok-patch.patch) (changes c.put_counts.new.patch) c.without_file-counts.result refl c.in_ok-put_counts.ensures
    deletion_leaves_file (file_given total c.args.parent.now.id name c.args.key.now c.args.file.now old h ch) alone in
    let counted = ap block_total (c.deref-2.ensures.value ∙ sym c.deref.ensures.value) in
    file_deleted total c.args.parent.now.id name c.args.key.now c.args.file.now old h ch xs nodes is found choice_stands folders_stand-delete dropped_leaves delete_file_makes
    deletions_are_steps c.args.now c.args.parent.now.valence c.args.parent.now.key c.requires.parent c.args.volume.now.mdb.now c.without_file-counts.result c.requires.mdb
    (c.without_file-counts.ensures ∙ ap (λ n. without_one_file c.args.parent.now.id n c.args.now c.args.volume.now.mdb.now) (c.free_after-free.ensures ∙ ap (λ n. c.args.volume.now.mdb.now.free_blocks + n) counted))
    (over (changes c.put_counts.new.patch) old) final c.in_ok-patch.ensures.dropped gone

pub returns-clause-within : goal.returns-clause-within
returns-clause-within g c =
    let total = g.B.Blocks.total c.args.volume.now.blocks.now in
    let put = c.in_ok-put_counts.ensures in
    let area = c.requires.sound.mdb.area in
    let some = c.requires.sound.mdb.some in
    put_within (changes c.in_ok-patch.patch) (changes c.put_counts.new.patch) 2 put.block total put.put (omega (arith, c.requires.sound.mdb.bitmap_behind, c.requires.sound.mdb.bitmap_before, area)) put.long c.in_ok-patch.ensures.within
