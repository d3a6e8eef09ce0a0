use Rattle.std.proofs.Common.{ℕ, ◌+◌, List, ◌∷◌, [], ◌++◌, refl, ap, sym, append_assoc, ◌∙◌, arith}
use Rattle.std.proofs.lemmas.List.FromFn.{map-range_with_len_more}
use Rattle.hfs_format.specs.BitRow.{bit_row_byte, bit_row}
use Rattle.hfs_format.proofs.bit_row.push_bits.Goals as goal

pub loop-i-preserved : goal.loop-i-preserved
unfolding bit_row
loop-i-preserved c =
    let more = map-range_with_len_more (bit_row_byte c.args.set) c.args.first c.loop-i.i (c.args.first + c.loop-i.i) refl in
    record {
      bytes =
          c.push_u8.ensures.bytes ∙ (λ i. c.loop-i.invariant.bytes i ++ c.bit_row_byte.ensures i ∷ []) ∙ append_assoc c.args.row.now _ _
          ∙ ap (λ (bytes : List ℕ). c.args.row.now ++ bytes) (sym more);
      length = omega arith;
    }
