-- The blocks of runs in pieces.
use Rattle.std.proofs.Common.{◌≡◌, ℕ, ◌+◌, ◌-◌, ◌*◌, ◌<◌, ◌≤◌, false, List, [], ◌∷◌, ◌++◌, length, get_or, drop, Some, sym, ap, ◌∙◌, append_assoc, append-nil}
use Rattle.std.specs.List.{flat_map, range_with_len}
use Rattle.std.proofs.lemmas.List.Concat.{flat_map-append}
use Rattle.std.proofs.lemmas.List.{drop_all}
use Rattle.hfs_blocks.specs.declared.run.Run.{Run}
use Rattle.hfs_blocks.specs.Blocks.{block_at, run_of}
use Rattle.hfs_source.specs.Writing.{blocks_of}
use Rattle.hfs_source.proofs.Copied.{flat-range}
use Rattle.hfs_source.proofs.Written.{split-behind, split-runs}
use Rattle.hfs_bag.specs.declared.piece.Piece.{Piece}
use Rattle.hfs_bag.specs.Forks.{first_bytes, piece_bytes, pieces_bytes}

module _ (image : List ℕ) where
  abbrev bytes : List Piece → List ℕ
  bytes pieces = pieces_bytes false image pieces

  -- a piece of so many blocks came behind the others
  pub piece_pushed : (old new : List Piece) (piece : Piece) (first count : ℕ) → new ≡ old ++ piece ∷ [] → piece.first ≡ Some first → piece.len ≡ count * 512
      → bytes new ≡ bytes old ++ blocks_of image (range_with_len first count)
  piece_pushed old new piece first count pushed first_is len_is =
      ap bytes pushed ∙ flat_map-append (piece_bytes false image) old (piece ∷ [])
      ∙ ap (λ (xs : List ℕ). bytes old ++ xs)
      (append-nil (piece_bytes false image piece)
      ∙ (λ i. first_bytes false image (first_is i) (len_is i))
      ∙ sym (flat-range image first count))

  -- with a piece more, those that are behind are fewer
  pub piece_more : (pieces pieces' : List Piece) (first count behind step : ℕ) (whole : List ℕ) → behind ≤ count → step ≤ behind
      → bytes pieces' ≡ bytes pieces ++ blocks_of image (range_with_len (first + (count - behind)) step)
      → bytes pieces ++ blocks_of image (range_with_len (first + (count - behind)) behind) ≡ whole
      → bytes pieces' ++ blocks_of image (range_with_len (first + (count - (behind - step))) (behind - step)) ≡ whole
  piece_more pieces pieces' first count behind step whole le few grown so =
      let numbers = range_with_len (first + (count - behind)) step in
      let behind_numbers = range_with_len (first + (count - (behind - step))) (behind - step) in
      ap (λ (xs : List ℕ). xs ++ blocks_of image behind_numbers) grown
      ∙ append_assoc (bytes pieces) (blocks_of image numbers) (blocks_of image behind_numbers)
      ∙ ap (λ (xs : List ℕ). bytes pieces ++ xs)
      (sym (ap (blocks_of image) (split-behind first count behind step le few) ∙ flat_map-append (block_at image) numbers behind_numbers))
      ∙ so

  -- none is behind
  pub run_ended : (pieces : List Piece) (place behind : ℕ) (whole : List ℕ) → bytes pieces ++ blocks_of image (range_with_len place behind) ≡ whole → behind ≡ 0 → bytes pieces ≡ whole
  run_ended pieces place behind whole so none =
      sym (append-nil (bytes pieces)) ∙ ap (λ (n : ℕ). bytes pieces ++ blocks_of image (range_with_len place n)) (sym none) ∙ so

  -- the pieces of the runs so far and those of a run more
  pub run_more : (pieces pieces' : List Piece) (runs : List Run) (i : ℕ) (none : Run) (whole : List ℕ) → i < length runs
      → bytes pieces' ≡ bytes pieces ++ blocks_of image (run_of (get_or runs i none))
      → bytes pieces ++ blocks_of image (flat_map run_of (drop i runs)) ≡ whole
      → bytes pieces' ++ blocks_of image (flat_map run_of (drop (i + 1) runs)) ≡ whole
  run_more pieces pieces' runs i none whole lt grown so =
      let own = run_of (get_or runs i none) in
      let rest = flat_map run_of (drop (i + 1) runs) in
      ap (λ (xs : List ℕ). xs ++ blocks_of image rest) grown
      ∙ append_assoc (bytes pieces) (blocks_of image own) (blocks_of image rest)
      ∙ ap (λ (xs : List ℕ). bytes pieces ++ xs) (sym (ap (blocks_of image) (split-runs runs i none lt) ∙ flat_map-append (block_at image) own rest))
      ∙ so

  -- of all of them
  pub runs_whole : (pieces : List Piece) (runs : List Run) (i : ℕ) (whole : List ℕ) → length runs ≤ i
      → bytes pieces ++ blocks_of image (flat_map run_of (drop i runs)) ≡ whole → bytes pieces ≡ whole
  runs_whole pieces runs i whole le so =
      sym (append-nil (bytes pieces)) ∙ ap (λ (rs : List Run). bytes pieces ++ blocks_of image (flat_map run_of rs)) (sym (drop_all i runs le)) ∙ so
