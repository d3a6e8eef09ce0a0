use Rattle.std.proofs.Common.{◌≡◌, true, false, List, [], filter, ap, sym, subst, ◌∙◌, cond}
use Rattle.std.specs.Prelude.{IfOk}
use Rattle.std.specs.Option.{is_none}
use Rattle.hfs_fields.specs.declared.mdb.Mdb.{Mdb}
use Rattle.hfs_check.specs.Faults.{mdb_fault}
use Rattle.hfs_repair.specs.Fields.{PlacedNumber}
use Rattle.hfs_repair.specs.Opened.{is_extents_right, is_catalog_right, are_records_right}
use Rattle.hfs_repair.specs.Placed.{is_wrong}
use Rattle.hfs_repair.specs.Wrong.{placed_of}
use Rattle.hfs_repair.proofs.Mendable.{mdb-wrong, extents-wrong, catalog-wrong, trees-right}
use Rattle.hfs_repair.proofs.Openings.{is-some-none, found-wrong, found-right}
use Rattle.hfs_repair.proofs.wrong.wrong_in_blocks.Goals as goal

pub returns-then-is_some : goal.returns-then-is_some
returns-then-is_some g c =
    let total = g.B.Blocks.total c.args.blocks.now in
    let blocks = g.B.Blocks.blocks c.args.blocks.now in
    let same = c.mdb_fault.ensures ∙ (λ i. mdb_fault (c.count.ensures i) (c.read_mdb-mdb.ensures i)) in
    c.new.ensures.items ∙ mdb-wrong blocks total (sym (ap is_none same) ∙ is-some-none _ true (sym c.is_some.ensures ∙ c.if-is_some.true))

pub returns-in_default : goal.returns-in_default
returns-in_default g c =
    let total = g.B.Blocks.total c.args.blocks.now in
    let blocks = g.B.Blocks.blocks c.args.blocks.now in
    let mdb = c.read_mdb-mdb.result in
    let same = c.mdb_fault.ensures ∙ (λ i. mdb_fault (c.count.ensures i) (c.read_mdb-mdb.ensures i)) in
    let right = sym (ap is_none same) ∙ is-some-none _ false (sym c.is_some.ensures ∙ c.if-is_some.false) in
    let wrong = found-wrong (is_extents_right blocks mdb) _ _ c.in_default.is c.in_ok-extents.ensures in
    c.new-in_default.ensures.items ∙ extents-wrong blocks total right (sym (ap (is_extents_right blocks) c.read_mdb-mdb.ensures) ∙ wrong)

pub returns-in_default-2 : goal.returns-in_default-2
returns-in_default-2 g c =
    let total = g.B.Blocks.total c.args.blocks.now in
    let blocks = g.B.Blocks.blocks c.args.blocks.now in
    let mdb = c.read_mdb-mdb.result in
    let same = c.mdb_fault.ensures ∙ (λ i. mdb_fault (c.count.ensures i) (c.read_mdb-mdb.ensures i)) in
    let right = sym (ap is_none same) ∙ is-some-none _ false (sym c.is_some.ensures ∙ c.if-is_some.false) in
    let first = found-right (is_extents_right blocks mdb) _ _ _ c.in-Some.is c.in_ok-extents.ensures in
    let wrong = found-wrong (is_catalog_right blocks mdb) _ _ c.in_default-2.is c.in_ok-catalog.ensures in
    c.new-in_default-2.ensures.items
    ∙ catalog-wrong blocks total right (sym (ap (is_extents_right blocks) c.read_mdb-mdb.ensures) ∙ first.0) (sym (ap (is_catalog_right blocks) c.read_mdb-mdb.ensures) ∙ wrong)

pub returns : goal.returns
returns g c =
    let total = g.B.Blocks.total c.args.blocks.now in
    let blocks = g.B.Blocks.blocks c.args.blocks.now in
    let mdb = c.read_mdb-mdb.result in
    let same = c.mdb_fault.ensures ∙ (λ i. mdb_fault (c.count.ensures i) (c.read_mdb-mdb.ensures i)) in
    let right = sym (ap is_none same) ∙ is-some-none _ false (sym c.is_some.ensures ∙ c.if-is_some.false) in
    let first = found-right (is_extents_right blocks mdb) _ _ _ c.in-Some.is c.in_ok-extents.ensures in
    let second = found-right (is_catalog_right blocks mdb) _ _ _ c.in-Some-2.is c.in_ok-catalog.ensures in
    subst (λ (ns : List PlacedNumber). IfOk c.numbers_behind_trees.result (λ wrong. wrong.items ≡ ns))
    (ap (λ (m : Mdb). cond (are_records_right blocks m) (filter is_wrong (placed_of blocks m)) []) c.read_mdb-mdb.ensures
    ∙ trees-right blocks total right (sym (ap (is_extents_right blocks) c.read_mdb-mdb.ensures) ∙ first.0) (sym (ap (is_catalog_right blocks) c.read_mdb-mdb.ensures) ∙ second.0))
    c.numbers_behind_trees.ensures
