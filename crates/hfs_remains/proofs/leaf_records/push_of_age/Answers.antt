use Rattle.std.proofs.Common.{◌≡◌, ℕ, ◌+◌, ◌*◌, List, ◌++◌, length, sym, ap, ◌∙◌, arith, append_assoc}
use Rattle.std.specs.List.{flat_map, range_with_len}
use Rattle.std.proofs.Math.Nat.{add-mul}
use Rattle.hfs_space.specs.Forks.{blocks_each}
use Rattle.hfs_remains.specs.TreeFiles.{nodes_of}
use Rattle.hfs_remains.specs.LeafRecords.{records_at, records_of_age}
use Rattle.hfs_remains.specs.declared.leaf_records.LeafRecord.{LeafRecord}
use Rattle.hfs_remains.proofs.NodeLemmas.{length-nodes}
use Rattle.hfs_remains.proofs.RangeLemmas.{flat-add}
use Rattle.hfs_remains.proofs.leaf_records.push_of_age.Goals as goal

pub loop-place-preserved : goal.loop-place-preserved
loop-place-preserved g c =
    let mdb = c.args.nodes.now.mdb.now in
    let f = records_at (nodes_of (g.B.Blocks.blocks c.args.nodes.now.blocks.now) mdb c.args.nodes.now.file.now) c.args.old in
    let each = blocks_each mdb in
    let place = c.loop-place.place in
    let more : place * each + each ≡ (place + 1) * each = omega (arith, add-mul place 1 each) in
    c.in_ok-push_block.ensures
    ∙ ap (λ (l : List LeafRecord). l ++ flat_map f (range_with_len (place * each) each)) c.loop-place.invariant
    ∙ append_assoc c.args.records.now.items (flat_map f (range_with_len 0 (place * each))) (flat_map f (range_with_len (place * each) each))
    ∙ ap (λ (l : List LeafRecord). c.args.records.now.items ++ l) (sym (flat-add f 0 (place * each) each (place * each) (omega arith)))
    ∙ ap (λ (n : ℕ). c.args.records.now.items ++ flat_map f (range_with_len 0 n)) more

pub returns : goal.returns
unfolding records_of_age
returns g c =
    let blocks = g.B.Blocks.blocks c.args.nodes.now.blocks.now in
    let mdb = c.args.nodes.now.mdb.now in
    let file = c.args.nodes.now.file.now in
    let f = records_at (nodes_of blocks mdb file) c.args.old in
    let last : c.loop-place.place ≡ length file = omega arith in
    c.loop-place.invariant
    ∙ ap (λ (n : ℕ). c.args.records.now.items ++ flat_map f (range_with_len 0 (n * blocks_each mdb))) last
    ∙ ap (λ (n : ℕ). c.args.records.now.items ++ flat_map f (range_with_len 0 n)) (sym (length-nodes blocks mdb file))
