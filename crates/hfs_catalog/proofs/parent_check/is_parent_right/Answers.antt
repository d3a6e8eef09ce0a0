use Rattle.std.proofs.Common.{ℕ, List, ◌&&◌, length, ◌∙◌, sym, ap}
use Rattle.hfs_fields.specs.Records.{is_item, item_id}
use Rattle.hfs_fields.specs.declared.key.CatKey.{CatKey}
use Rattle.hfs_catalog.specs.Records.{is_folder_id}
use Rattle.hfs_catalog.specs.Parents.{reaches_root}
use Rattle.hfs_catalog.specs.Indexes.{only_if}
use Rattle.hfs_catalog.proofs.ParentSteps.{right_at_root, right_elsewhere, known_reaches, reaches_known}
use Rattle.hfs_catalog.proofs.parent_check.is_parent_right.Goals as goal

pub returns-then-id-eq2-clause-right : goal.returns-then-id-eq2-clause-right
returns-then-id-eq2-clause-right c =
    let is = c.in-Some.ensures ∙ ap (λ (body : List ℕ). only_if (is_item body) (item_id body)) c.body.ensures in
    sym (right_at_root c.args.catalog.now c.args.r.now c.in-Some.id is c.if-id-eq2.true)

pub returns-then-not-is_folder_id-clause-right : goal.returns-then-not-is_folder_id-clause-right
returns-then-not-is_folder_id-clause-right c =
    let is = c.in-Some.ensures ∙ ap (λ (body : List ℕ). only_if (is_item body) (item_id body)) c.body.ensures in
    let folder = ap (λ (key : CatKey). is_folder_id c.args.catalog.now key.parent) (sym c.key.ensures) ∙ sym c.is_folder_id.ensures ∙ c.if-not-is_folder_id.true in
    sym (right_elsewhere c.args.catalog.now c.args.r.now c.in-Some.id is c.if-id-eq2.false ∙ (λ i. folder i && reaches_root c.args.catalog.now (length c.args.catalog.now) c.in-Some.id))

pub returns-then-is_parent_known-clause-right : goal.returns-then-is_parent_known-clause-right
returns-then-is_parent_known-clause-right c =
    let is = c.in-Some.ensures ∙ ap (λ (body : List ℕ). only_if (is_item body) (item_id body)) c.body.ensures in
    let folder = ap (λ (key : CatKey). is_folder_id c.args.catalog.now key.parent) (sym c.key.ensures) ∙ sym c.is_folder_id.ensures ∙ c.if-not-is_folder_id.false in
    let reaches = known_reaches c.args.catalog.now c.in-Some.id (c.is_parent_known.ensures c.if-is_parent_known.true) in
    sym (right_elsewhere c.args.catalog.now c.args.r.now c.in-Some.id is c.if-id-eq2.false ∙ (λ i. folder i && reaches i))

pub returns-then-not-reaches_root-clause-right : goal.returns-then-not-reaches_root-clause-right
returns-then-not-reaches_root-clause-right c =
    let is = c.in-Some.ensures ∙ ap (λ (body : List ℕ). only_if (is_item body) (item_id body)) c.body.ensures in
    let folder = ap (λ (key : CatKey). is_folder_id c.args.catalog.now key.parent) (sym c.key.ensures) ∙ sym c.is_folder_id.ensures ∙ c.if-not-is_folder_id.false in
    let reaches = sym c.reaches_root.ensures ∙ c.if-not-reaches_root.true in
    sym (right_elsewhere c.args.catalog.now c.args.r.now c.in-Some.id is c.if-id-eq2.false ∙ (λ i. folder i && reaches i))

pub note_chain-requires-clause-reaches : goal.note_chain-requires-clause-reaches
note_chain-requires-clause-reaches c = reaches_known c.args.catalog.now c.in-Some.id (sym c.reaches_root.ensures ∙ c.if-not-reaches_root.false)

pub returns-clause-right : goal.returns-clause-right
returns-clause-right c =
    let is = c.in-Some.ensures ∙ ap (λ (body : List ℕ). only_if (is_item body) (item_id body)) c.body.ensures in
    let folder = ap (λ (key : CatKey). is_folder_id c.args.catalog.now key.parent) (sym c.key.ensures) ∙ sym c.is_folder_id.ensures ∙ c.if-not-is_folder_id.false in
    let reaches = sym c.reaches_root.ensures ∙ c.if-not-reaches_root.false in
    sym (right_elsewhere c.args.catalog.now c.args.r.now c.in-Some.id is c.if-id-eq2.false ∙ (λ i. folder i && reaches i))
