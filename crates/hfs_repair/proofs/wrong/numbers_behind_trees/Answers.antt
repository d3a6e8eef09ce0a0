use Rattle.std.proofs.Common.{◌++◌, ◌∙◌, ap, sym, List, [], Bool, filter, cond}
use Rattle.hfs_blocks.specs.Blocks.{nodes_in}
use Rattle.hfs_catalog.specs.Tree.{catalog_of}
use Rattle.hfs_repair.specs.Fields.{PlacedNumber}
use Rattle.hfs_repair.specs.Placed.{is_wrong}
use Rattle.hfs_repair.specs.Wrong.{placed_of}
use Rattle.hfs_repair.proofs.Mendable.{records-tested}
use Rattle.hfs_repair.proofs.wrong.numbers_behind_trees.Goals.{then-branch+in_ok-push_numbers, else-branch}
use Rattle.hfs_repair.proofs.wrong.numbers_behind_trees.Goals as goal

pub returns : goal.returns
returns g c =
    let blocks = g.B.Blocks.blocks c.args.blocks.now in
    let mdb = c.args.mdb.now in
    let nodes = ap (nodes_in blocks) c.deref.ensures.value ∙ c.requires.catalog.runs.same in
    let records = c.deref-2.ensures.value ∙ c.in_ok-records.ensures ∙ ap catalog_of nodes in
    let tested = records-tested blocks mdb _ _ nodes records in
    let all : List PlacedNumber = filter is_wrong (placed_of blocks mdb) in
    elim c.if-branch.branch [
      | then-branch+in_ok-push_numbers w ↦
          ap (λ v. v.items) w.wrong-is ∙ w.in_ok-push_numbers.ensures ∙ ap (λ (xs : List PlacedNumber). xs ++ all) c.new-wrong.ensures.items
          ∙ sym (ap (λ (b : Bool). cond b all []) (sym tested ∙ sym c.in_ok-are_records_right.ensures ∙ w.if-branch.true))
      | else-branch w ↦ ap (λ v. v.items) w.wrong-is ∙ c.new-wrong.ensures.items ∙ sym (ap (λ (b : Bool). cond b all []) (sym tested ∙ sym c.in_ok-are_records_right.ensures ∙ w.if-branch.false))
    ]
