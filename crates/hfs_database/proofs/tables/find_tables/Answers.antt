-- Each was asked for, one behind the other, and what there is of all is what there is of each; or one of them can't be looked for.
use Rattle.std.proofs.Common.{◌≡◌, ◌∙◌, ap, sym, subst, ℕ, List, codes}
use Rattle.sqlite.specs.Held.{state}
use Rattle.hfs_database.specs.declared.tables.Found.{Found}
use Rattle.hfs_database.specs.Tables.{FailsToFind, FailsToFindParts, FindsPart, all_parts, both, data_index, image_table, item_table, part_of, resource_index, volume_table}
use Rattle.hfs_database.proofs.FaultLemmas.{passed_on}
use Rattle.hfs_database.proofs.TableLemmas.{finds_by, unfound_fifth, unfound_first, unfound_fourth, unfound_second, unfound_third}
use Rattle.hfs_database.proofs.tables.find_tables.Goals as goal

pub returns-clause-found : goal.returns-clause-found
returns-clause-found g c =
    let two : c.and-2.result ≡ both (both c.in_ok-image.image c.in_ok-volume.volume) c.in_ok-item.item = c.and-2.ensures ∙ ap (λ (found : Found). both found c.in_ok-item.item) c.and.ensures in
    let three : c.and-3.result ≡ both (both (both c.in_ok-image.image c.in_ok-volume.volume) c.in_ok-item.item) c.in_ok-data.data =
    c.and-3.ensures ∙ ap (λ (found : Found). both found c.in_ok-data.data) two in
    let all : c.and-4.result ≡ both (both (both (both c.in_ok-image.image c.in_ok-volume.volume) c.in_ok-item.item) c.in_ok-data.data) c.in_ok-resource.resource =
    c.and-4.ensures ∙ ap (λ (found : Found). both found c.in_ok-resource.resource) three in
    finds_by g.S.Store c.args.conn.now c.find.new.conn c.find-2.new.conn c.find-3.new.conn c.find-4.new.conn c.find-5.new.conn
    c.in_ok-image.image c.in_ok-volume.volume c.in_ok-item.item c.in_ok-data.data c.in_ok-resource.resource
    (subst (λ (text : List ℕ). FindsPart (state g.S.Store c.args.conn.now) (state g.S.Store c.find.new.conn) (part_of (codes "image") text) c.in_ok-image.image) c.image_table.ensures c.in_ok-image.ensures.found)
    (subst (λ (text : List ℕ). FindsPart (state g.S.Store c.find.new.conn) (state g.S.Store c.find-2.new.conn) (part_of (codes "volume") text) c.in_ok-volume.volume) c.volume_table.ensures c.in_ok-volume.ensures.found)
    (subst (λ (text : List ℕ). FindsPart (state g.S.Store c.find-2.new.conn) (state g.S.Store c.find-3.new.conn) (part_of (codes "item") text) c.in_ok-item.item) c.item_table.ensures c.in_ok-item.ensures.found)
    (subst (λ (text : List ℕ). FindsPart (state g.S.Store c.find-3.new.conn) (state g.S.Store c.find-4.new.conn) (part_of (codes "item_data") text) c.in_ok-data.data) c.data_index.ensures c.in_ok-data.ensures.found)
    (subst (λ (text : List ℕ). FindsPart (state g.S.Store c.find-4.new.conn) (state g.S.Store c.find-5.new.conn) (part_of (codes "item_resource") text) c.in_ok-resource.resource) c.resource_index.ensures c.in_ok-resource.ensures.found)
    c.and-4.result (sym all)

pub returns-in_err-image-clause-unfound : goal.returns-in_err-image-clause-unfound
returns-in_err-image-clause-unfound g c =
    let fault = c.in_err-image.field-0.0 in
    passed_on c.from_residual.result fault (FailsToFindParts g.S.Store all_parts c.args.conn.now c.find.new.conn) c.from_residual.ensures.1
    (unfound_first g.S.Store (part_of (codes "image") image_table) (part_of (codes "volume") volume_table) (part_of (codes "item") item_table) (part_of (codes "item_data") data_index) (part_of (codes "item_resource") resource_index) fault c.args.conn.now c.find.new.conn (subst (λ (text : List ℕ). FailsToFind (state g.S.Store c.args.conn.now) (state g.S.Store c.find.new.conn) (part_of (codes "image") text) fault) c.image_table.ensures c.in_err-image.ensures.unfound))

pub returns-in_err-volume-clause-unfound : goal.returns-in_err-volume-clause-unfound
returns-in_err-volume-clause-unfound g c =
    let fault = c.in_err-volume.field-0.0 in
    passed_on c.from_residual-in_err-volume.result fault (FailsToFindParts g.S.Store all_parts c.args.conn.now c.find-2.new.conn) c.from_residual-in_err-volume.ensures.1
    (unfound_second g.S.Store (part_of (codes "image") image_table) (part_of (codes "volume") volume_table) (part_of (codes "item") item_table) (part_of (codes "item_data") data_index) (part_of (codes "item_resource") resource_index) fault c.args.conn.now c.find.new.conn c.in_ok-image.image (subst (λ (text : List ℕ). FindsPart (state g.S.Store c.args.conn.now) (state g.S.Store c.find.new.conn) (part_of (codes "image") text) c.in_ok-image.image) c.image_table.ensures c.in_ok-image.ensures.found) c.find-2.new.conn (subst (λ (text : List ℕ). FailsToFind (state g.S.Store c.find.new.conn) (state g.S.Store c.find-2.new.conn) (part_of (codes "volume") text) fault) c.volume_table.ensures c.in_err-volume.ensures.unfound))

pub returns-in_err-item-clause-unfound : goal.returns-in_err-item-clause-unfound
returns-in_err-item-clause-unfound g c =
    let fault = c.in_err-item.field-0.0 in
    passed_on c.from_residual-in_err-item.result fault (FailsToFindParts g.S.Store all_parts c.args.conn.now c.find-3.new.conn) c.from_residual-in_err-item.ensures.1
    (unfound_third g.S.Store (part_of (codes "image") image_table) (part_of (codes "volume") volume_table) (part_of (codes "item") item_table) (part_of (codes "item_data") data_index) (part_of (codes "item_resource") resource_index) fault c.args.conn.now c.find.new.conn c.in_ok-image.image (subst (λ (text : List ℕ). FindsPart (state g.S.Store c.args.conn.now) (state g.S.Store c.find.new.conn) (part_of (codes "image") text) c.in_ok-image.image) c.image_table.ensures c.in_ok-image.ensures.found) c.find-2.new.conn c.in_ok-volume.volume (subst (λ (text : List ℕ). FindsPart (state g.S.Store c.find.new.conn) (state g.S.Store c.find-2.new.conn) (part_of (codes "volume") text) c.in_ok-volume.volume) c.volume_table.ensures c.in_ok-volume.ensures.found) c.find-3.new.conn (subst (λ (text : List ℕ). FailsToFind (state g.S.Store c.find-2.new.conn) (state g.S.Store c.find-3.new.conn) (part_of (codes "item") text) fault) c.item_table.ensures c.in_err-item.ensures.unfound))

pub returns-in_err-data-clause-unfound : goal.returns-in_err-data-clause-unfound
returns-in_err-data-clause-unfound g c =
    let fault = c.in_err-data.field-0.0 in
    passed_on c.from_residual-in_err-data.result fault (FailsToFindParts g.S.Store all_parts c.args.conn.now c.find-4.new.conn) c.from_residual-in_err-data.ensures.1
    (unfound_fourth g.S.Store (part_of (codes "image") image_table) (part_of (codes "volume") volume_table) (part_of (codes "item") item_table) (part_of (codes "item_data") data_index) (part_of (codes "item_resource") resource_index) fault c.args.conn.now c.find.new.conn c.in_ok-image.image (subst (λ (text : List ℕ). FindsPart (state g.S.Store c.args.conn.now) (state g.S.Store c.find.new.conn) (part_of (codes "image") text) c.in_ok-image.image) c.image_table.ensures c.in_ok-image.ensures.found) c.find-2.new.conn c.in_ok-volume.volume (subst (λ (text : List ℕ). FindsPart (state g.S.Store c.find.new.conn) (state g.S.Store c.find-2.new.conn) (part_of (codes "volume") text) c.in_ok-volume.volume) c.volume_table.ensures c.in_ok-volume.ensures.found) c.find-3.new.conn c.in_ok-item.item (subst (λ (text : List ℕ). FindsPart (state g.S.Store c.find-2.new.conn) (state g.S.Store c.find-3.new.conn) (part_of (codes "item") text) c.in_ok-item.item) c.item_table.ensures c.in_ok-item.ensures.found) c.find-4.new.conn (subst (λ (text : List ℕ). FailsToFind (state g.S.Store c.find-3.new.conn) (state g.S.Store c.find-4.new.conn) (part_of (codes "item_data") text) fault) c.data_index.ensures c.in_err-data.ensures.unfound))

pub returns-in_err-resource-clause-unfound : goal.returns-in_err-resource-clause-unfound
returns-in_err-resource-clause-unfound g c =
    let fault = c.in_err-resource.field-0.0 in
    passed_on c.from_residual-in_err-resource.result fault (FailsToFindParts g.S.Store all_parts c.args.conn.now c.find-5.new.conn) c.from_residual-in_err-resource.ensures.1
    (unfound_fifth g.S.Store (part_of (codes "image") image_table) (part_of (codes "volume") volume_table) (part_of (codes "item") item_table) (part_of (codes "item_data") data_index) (part_of (codes "item_resource") resource_index) fault c.args.conn.now c.find.new.conn c.in_ok-image.image (subst (λ (text : List ℕ). FindsPart (state g.S.Store c.args.conn.now) (state g.S.Store c.find.new.conn) (part_of (codes "image") text) c.in_ok-image.image) c.image_table.ensures c.in_ok-image.ensures.found) c.find-2.new.conn c.in_ok-volume.volume (subst (λ (text : List ℕ). FindsPart (state g.S.Store c.find.new.conn) (state g.S.Store c.find-2.new.conn) (part_of (codes "volume") text) c.in_ok-volume.volume) c.volume_table.ensures c.in_ok-volume.ensures.found) c.find-3.new.conn c.in_ok-item.item (subst (λ (text : List ℕ). FindsPart (state g.S.Store c.find-2.new.conn) (state g.S.Store c.find-3.new.conn) (part_of (codes "item") text) c.in_ok-item.item) c.item_table.ensures c.in_ok-item.ensures.found) c.find-4.new.conn c.find-5.new.conn c.in_ok-data.data (subst (λ (text : List ℕ). FindsPart (state g.S.Store c.find-3.new.conn) (state g.S.Store c.find-4.new.conn) (part_of (codes "item_data") text) c.in_ok-data.data) c.data_index.ensures c.in_ok-data.ensures.found) (subst (λ (text : List ℕ). FailsToFind (state g.S.Store c.find-4.new.conn) (state g.S.Store c.find-5.new.conn) (part_of (codes "item_resource") text) fault) c.resource_index.ensures c.in_err-resource.ensures.unfound))
