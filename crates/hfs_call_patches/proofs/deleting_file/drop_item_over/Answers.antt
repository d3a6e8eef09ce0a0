-- The nodes are those of a sound volume's catalog, and the edit kept what lies below them.
use Rattle.std.proofs.Common.{sym, subst}
use Rattle.hfs_blocks.specs.Layers.{changes}
use Rattle.hfs_catalog.specs.Records.{Catalog}
use Rattle.hfs_catalog.specs.Tree.{IsCatalogTree}
use Rattle.hfs_items.proofs.ReplyLemmas.{by_nodes}
use Rattle.hfs_call_patches.specs.Deleting.{HasIdUnder, IsItemUnder}
use Rattle.hfs_call_patches.proofs.EditedNodes.{edited_within}
use Rattle.hfs_call_patches.proofs.FromFolder.{opened_records}
use Rattle.hfs_check.proofs.LawsProved.{trees_are_sound}
use Rattle.hfs_call_patches.proofs.deleting_file.drop_item_over.Goals as goal

pub drop_from_folder-requires-clause-tree : goal.drop_from_folder-requires-clause-tree
drop_from_folder-requires-clause-tree g c =
    let below = c.args.nodes.below.now in
    subst IsCatalogTree (sym c.requires.same) (trees_are_sound (g.B.Blocks.total below) (g.B.Blocks.blocks below) c.requires.sound).1

pub drop_from_folder-requires-clause-records : goal.drop_from_folder-requires-clause-records
drop_from_folder-requires-clause-records g c = opened_records (g.B.Blocks.total c.args.nodes.below.now) (g.B.Blocks.blocks c.args.nodes.below.now) c.requires.sound _ c.requires.same

pub drop_from_folder-requires-clause-there : goal.drop_from_folder-requires-clause-there
drop_from_folder-requires-clause-there g c =
    subst (IsItemUnder c.args.key.now) (sym (by_nodes (λ (k : Catalog). k) (g.B.Blocks.blocks c.args.nodes.below.now) _ c.requires.same)) c.requires.there

pub drop_from_folder-requires-clause-own : goal.drop_from_folder-requires-clause-own
drop_from_folder-requires-clause-own g c =
    subst (HasIdUnder c.args.key.now c.args.id) (sym (by_nodes (λ (k : Catalog). k) (g.B.Blocks.blocks c.args.nodes.below.now) _ c.requires.same)) c.requires.own

pub returns-clause-within : goal.returns-clause-within
returns-clause-within g c =
    edited_within g.B.Blocks.blocks g.B.Blocks.total c.args.nodes.below.now c.drop_from_folder.new.nodes.below.now c.args.nodes.runs.now c.drop_from_folder.new.nodes.runs.now
    (changes c.args.nodes.patch) (changes c.drop_from_folder.new.nodes.patch) c.in_ok-drop_from_folder.ensures.kept c.drop_from_folder.new.nodes.inside
