-- How many bytes the blocks of a fork have, where each block has 512.
use Rattle.std.proofs.Common.{◌≡◌, ℕ, ◌+◌, List, [], ◌∷◌, ◌++◌, refl, ap, ◌∙◌}
use Rattle.std.specs.Prelude.{map}
use Rattle.std.specs.List.{flat_map}
use Rattle.std.proofs.lemmas.List.{map-append}
use Rattle.std.proofs.lemmas.List.Concat.{flat_map-append}
use Rattle.hfs_fields.specs.declared.extent.Extent.{Extent}
use Rattle.hfs_fields.specs.declared.mdb.Mdb.{Mdb}
use Rattle.hfs_blocks.specs.Blocks.{nodes_in, run_of}
use Rattle.hfs_space.specs.Forks.{run_in, file_blocks, joined, extent_bytes}

module _ (blocks : ℕ → List ℕ) (mdb : Mdb) where
  -- the bytes of all these extents
  abbrev pub all_bytes : List Extent → List ℕ
  all_bytes extents = joined (file_blocks blocks mdb extents)

  pub all_bytes-cons : (e : Extent) (rest : List Extent) → all_bytes (e ∷ rest) ≡ extent_bytes blocks mdb e ++ all_bytes rest
  unfolding nodes_in
  all_bytes-cons e rest =
      ap joined (map-append blocks (run_of (run_in mdb e)) (flat_map run_of (map (run_in mdb) rest)))
      ∙ flat_map-append (λ b. b) (map blocks (run_of (run_in mdb e))) (map blocks (flat_map run_of (map (run_in mdb) rest)))

  pub all_bytes-nil : all_bytes [] ≡ []
  unfolding nodes_in
  all_bytes-nil = refl
