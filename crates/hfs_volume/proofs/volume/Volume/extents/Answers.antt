-- The item that is found is the file.
use Rattle.std.proofs.Common.{◌∙◌, ap, subst}
use Rattle.std.specs.Option.{option_map}
use Rattle.hfs_fields.proofs.OutcomeLemmas.{if_ok}
use Rattle.hfs_blocks.specs.Blocks.{block_at}
use Rattle.hfs_catalog.specs.Lookups.{catalog_item}
use Rattle.hfs_catalog.specs.Records.{Catalog, item_with}
use Rattle.hfs_check.specs.Agree.{AgreesBut}
use Rattle.hfs_volume.specs.Image.{ImageValue}
use Rattle.hfs_volume.specs.Sharing.{file_extents}
use Rattle.hfs_volume.proofs.FileExtents.{is_there, no_folder, its_record, are_extents, are_within, have_fork}
use Rattle.hfs_catalog.proofs.CatalogLawsProved.{items_are_records}
use Rattle.hfs_volume.proofs.OwnedStay.{forks_stay}
use Rattle.hfs_volume.proofs.volume.Volume.extents.Goals as goal

pub unreachable-requires : goal.unreachable-requires
unreachable-requires c =
    let v = c.args.self.now in
    is_there v.current items_are_records c.args.id c.requires.0 c.requires.1 c.by_id.result
    (c.by_id.ensures ∙ ap (λ (k : Catalog). option_map catalog_item (item_with k c.args.id)) c.catalog_nodes.ensures.content) c.in_default.is

pub unreachable-requires-in-Folder : goal.unreachable-requires-in-Folder
unreachable-requires-in-Folder c =
    let v = c.args.self.now in
    no_folder v.current items_are_records c.args.id c.requires.0 c.requires.1 c.by_id.result
    (c.by_id.ensures ∙ ap (λ (k : Catalog). option_map catalog_item (item_with k c.args.id)) c.catalog_nodes.ensures.content) c.in-Some.item _ c.in-Some.is c.in-Folder.is

pub returns-clause-extents : goal.returns-clause-extents
returns-clause-extents c =
    let v = c.args.self.now in
    let found = c.by_id.ensures ∙ ap (λ (k : Catalog). option_map catalog_item (item_with k c.args.id)) c.catalog_nodes.ensures.content in
    let agrees : AgreesBut v.written v.base v.current = subst (λ (w : ImageValue). AgreesBut w.written w.base w.current) c.self.view_is c.self.invariant.agrees in
    let own = its_record v.current items_are_records c.args.id c.requires.0 c.requires.1 c.by_id.result found c.in-Some.item _ c.in-Some.is c.in-File.is in
    if_ok c.file_extents.result _ _ (λ x is. are_extents v.current items_are_records c.args.id c.requires.0 c.requires.1 c.by_id.result found v.written v.base agrees forks_stay c.args.fork x.items
    (is ∙ ap (file_extents (block_at v.current) c.args.fork) own))
    c.file_extents.ensures

pub returns-clause-within : goal.returns-clause-within
returns-clause-within c =
    let v = c.args.self.now in
    let found = c.by_id.ensures ∙ ap (λ (k : Catalog). option_map catalog_item (item_with k c.args.id)) c.catalog_nodes.ensures.content in
    let agrees : AgreesBut v.written v.base v.current = subst (λ (w : ImageValue). AgreesBut w.written w.base w.current) c.self.view_is c.self.invariant.agrees in
    let own = its_record v.current items_are_records c.args.id c.requires.0 c.requires.1 c.by_id.result found c.in-Some.item _ c.in-Some.is c.in-File.is in
    if_ok c.file_extents.result _ _ (λ x is. are_within v.current items_are_records c.args.id c.requires.0 c.requires.1 c.by_id.result found v.written v.base agrees forks_stay c.args.fork x.items
    (is ∙ ap (file_extents (block_at v.current) c.args.fork) own))
    c.file_extents.ensures

pub returns-clause-bytes : goal.returns-clause-bytes
returns-clause-bytes c =
    let v = c.args.self.now in
    let found = c.by_id.ensures ∙ ap (λ (k : Catalog). option_map catalog_item (item_with k c.args.id)) c.catalog_nodes.ensures.content in
    let agrees : AgreesBut v.written v.base v.current = subst (λ (w : ImageValue). AgreesBut w.written w.base w.current) c.self.view_is c.self.invariant.agrees in
    let own = its_record v.current items_are_records c.args.id c.requires.0 c.requires.1 c.by_id.result found c.in-Some.item _ c.in-Some.is c.in-File.is in
    if_ok c.file_extents.result _ _ (λ x is.
    have_fork v.current items_are_records c.args.id c.requires.0 c.requires.1 c.by_id.result found v.written v.base agrees forks_stay c.args.fork x.items
    (are_extents v.current items_are_records c.args.id c.requires.0 c.requires.1 c.by_id.result found v.written v.base agrees forks_stay c.args.fork x.items
    (is ∙ ap (file_extents (block_at v.current) c.args.fork) own)))
    c.file_extents.ensures
