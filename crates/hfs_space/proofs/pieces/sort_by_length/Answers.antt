-- The closure compares by the lengths.
use Rattle.std.proofs.Common.{◌≡◌, ap, rules}
use Rattle.std.specs.Ordering.{is_lt}
use Rattle.std.proofs.lemmas.List.Sorted.{answers_always}
use Rattle.hfs_fields.specs.declared.extent.Extent.{Extent}
use Rattle.hfs_space.specs.Pieces.{by_length}
use Rattle.hfs_space.proofs.Firsts.{by_length-order}
use Rattle.hfs_space.proofs.pieces.sort_by_length.Goals as goal

pub returns : goal.returns
returns c = record {
  same = c.sort_unstable_by.ensures.permutation;
  order = c.sort_unstable_by.ensures.sorted (λ (x y : Extent). is_lt (by_length x y)) by_length-order
      (answers_always _ _ _ (λ f a r g h. ap is_lt (let e : r ≡ by_length a.0.now a.1.0.now = search rules in e)));
}
