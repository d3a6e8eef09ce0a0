use Rattle.std.proofs.Common.{◌≡◌, ℕ, ◌+◌, ◌-◌, ◌≤◌, List, ◌++◌, sym, ap, ◌∙◌, arith, inl, inr}
use Rattle.std.proofs.lemmas.Bool.{cases_lt}
use Rattle.std.specs.List.{flat_map, range_with_len}
use Rattle.hfs_remains.specs.CatalogRecords.{stray_records_at, all_stray_records}
use Rattle.hfs_remains.specs.declared.leaf_records.LeafRecord.{LeafRecord}
use Rattle.hfs_remains.proofs.RangeLemmas.{flat-more}
use Rattle.hfs_remains.proofs.strays.all_stray_records.Goals as goal

pub loop-k-preserved : goal.loop-k-preserved
loop-k-preserved g c =
    let f = stray_records_at (g.B.Blocks.blocks c.args.nodes.now.blocks.now) c.args.nodes.now.mdb.now c.args.nodes.now.file.now in
    let k = c.loop-k.k in
    let next : k - 3 + 1 ≡ k + 1 - 3 = omega (arith, c.loop-k.auto.k) in
    let here : 3 + (k - 3) ≡ k = omega (arith, c.loop-k.auto.k) in
    record {
      records =
          c.in_ok-push_stray.ensures
          ∙ ap (λ (l : List LeafRecord). l ++ f k) c.loop-k.invariant.records
          ∙ sym (flat-more f 3 (k - 3) k here)
          ∙ ap (λ (n : ℕ). flat_map f (range_with_len 3 n)) next;
      first = λ few. omega (arith, c.loop-k.auto.k, c.loop-k-test.true);
    }

pub returns : goal.returns
unfolding all_stray_records
returns g c =
    let f = stray_records_at (g.B.Blocks.blocks c.args.nodes.now.blocks.now) c.args.nodes.now.mdb.now c.args.nodes.now.file.now in
    let all : c.loop-k.k - 3 ≡ g.B.Blocks.total c.args.nodes.now.blocks.now - 3 =
    elim (cases_lt c.count-k-end.result 3) [
      | inl few ↦ let start : c.loop-k.k ≡ 3 = c.loop-k.invariant.first few in omega (arith, start, few, c.count-k-end.ensures)
      | inr enough ↦ let within : c.loop-k.k ≤ c.count-k-end.result = c.loop-k.auto.k-end enough in omega (arith, within, c.loop-k-test.false, c.count-k-end.ensures)
    ] in
    c.loop-k.invariant.records ∙ ap (λ (n : ℕ). flat_map f (range_with_len 3 n)) all
