-- Files that are made of a head and a stream.
use Rattle.std.proofs.Common.{◌≡◌, ℕ, List, [], ◌++◌, Option, ap, ◌∙◌, subst}
use Rattle.hfs_bag.specs.Entries.{ShelfEntry, with_file, with_piece, IsBeginning}
use Rattle.hfs_bag.proofs.Beginnings.{begins_longer, with_piece-last}
use Rattle.hfs_bag.specs.Filling.{with_dated_file}

-- the file was not made
pub part_unmade : (g0 g : List ShelfEntry) (path : List ℕ) (time : Option ℕ) (all : List ℕ) → IsBeginning g (with_file g0 path time) → IsBeginning g (with_dated_file g0 path time all)
part_unmade g0 g path time all part = begins_longer g g0 [] path time [] all part

module _ (g0 g1 : List ShelfEntry) (path : List ℕ) (time : Option ℕ) (head : List ℕ) (made : g1 ≡ with_file g0 path time) where
  headed : with_piece g1 head ≡ with_dated_file g0 path time head
  headed = ap (λ (xs : List ShelfEntry). with_piece xs head) made ∙ with_piece-last g0 path time [] head

  -- of a file that is one piece
  pub whole_text : (g2 : List ShelfEntry) → g2 ≡ with_piece g1 head → g2 ≡ with_dated_file g0 path time head
  whole_text g2 given = given ∙ headed

  pub part_text : (g : List ShelfEntry) → IsBeginning g (with_piece g1 head) → IsBeginning g (with_dated_file g0 path time head)
  part_text g part = subst (IsBeginning g) headed part

  -- the shelf failed with the head
  pub part_headless : (g : List ShelfEntry) (bytes : List ℕ) → IsBeginning g (with_piece g1 head) → IsBeginning g (with_dated_file g0 path time (head ++ bytes))
  part_headless g bytes part = begins_longer g g0 [] path time head bytes (part_text g part)

  module _ (g2 : List ShelfEntry) (bytes : List ℕ) (given : g2 ≡ with_piece g1 head) where
    streamed : with_piece g2 bytes ≡ with_dated_file g0 path time (head ++ bytes)
    streamed = ap (λ (xs : List ShelfEntry). with_piece xs bytes) (given ∙ headed) ∙ with_piece-last g0 path time head bytes

    pub whole_file : (g3 : List ShelfEntry) → g3 ≡ with_piece g2 bytes → g3 ≡ with_dated_file g0 path time (head ++ bytes)
    whole_file g3 more = more ∙ streamed

    pub part_streamed : (g : List ShelfEntry) → IsBeginning g (with_piece g2 bytes) → IsBeginning g (with_dated_file g0 path time (head ++ bytes))
    part_streamed g part = subst (IsBeginning g) streamed part
