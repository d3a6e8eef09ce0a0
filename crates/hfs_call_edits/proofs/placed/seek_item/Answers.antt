-- What stands at the place of the key is the item of that name, if it is an item's record.
use Rattle.std.proofs.Common.{sym, ap, ◌∙◌, Some}
use Rattle.hfs_btree.specs.Tree.{pair_of}
use Rattle.hfs_catalog.specs.Lookups.{item_at}
use Rattle.hfs_catalog.specs.Tree.{cat_keys}
use Rattle.hfs_call_edits.proofs.PlacedLemmas.{none-named, item-named, item-placed}
use Rattle.hfs_call_edits.proofs.placed.seek_item.Goals as goal

pub returns-in_default-clause-named : goal.returns-in_default-clause-named
returns-in_default-clause-named g c = none-named (g.N.Nodes.nodes c.args.nodes.now) c.requires c.args.key.now c.in_default.ensures

pub returns-in-Some-item_in-clause-named : goal.returns-in-Some-item_in-clause-named
returns-in-Some-item_in-clause-named g c =
    sym c.in-Some-item_in.is ∙ c.item_in.ensures ∙ ap (λ e. item_at (Some (pair_of cat_keys e))) c.in-Some-entry_in.ensures.1
    ∙ item-named (g.N.Nodes.nodes c.args.nodes.now) c.requires c.args.key.now c.in-Some.place c.in-Some.ensures

pub returns-in-Some-item_in-clause-place : goal.returns-in-Some-item_in-clause-place
returns-in-Some-item_in-clause-place g c =
    item-placed (g.N.Nodes.nodes c.args.nodes.now) c.requires c.args.key.now c.in-Some.place c.in-Some.ensures c.in-Some-item_in.item
    (sym (c.item_in.ensures ∙ ap (λ e. item_at (Some (pair_of cat_keys e))) c.in-Some-entry_in.ensures.1) ∙ c.in-Some-item_in.is)

pub returns-in-None-clause-named : goal.returns-in-None-clause-named
returns-in-None-clause-named g c =
    sym c.in-None.is ∙ c.item_in.ensures ∙ ap (λ e. item_at (Some (pair_of cat_keys e))) c.in-Some-entry_in.ensures.1
    ∙ item-named (g.N.Nodes.nodes c.args.nodes.now) c.requires c.args.key.now c.in-Some.place c.in-Some.ensures
