-- Uses of blocks, block by block and as a row.
use Rattle.std.proofs.Common.{◌≡◌, ℕ, Bool, List, ◌++◌, length, take, drop, map, get_or, sym, ap, ◌∙◌, arith}
use Rattle.std.specs.List.{range_with_len}
use Rattle.std.proofs.lemmas.List.FromFn.{get_or-map-range_with_len, length-map-range_with_len, fill_by_all}
use Rattle.std.proofs.Math.Seq.{take-append_seam}
use Rattle.hfs_page.specs.declared.parts.BlockUse.{BlockUse}
use Rattle.hfs_page.specs.declared.parts.Holding.{Holding}
use Rattle.hfs_page.specs.Uses.{AreUsed, block_uses, unowned, use_by}

module _ (holdings : List Holding) (is_marked : ℕ → Bool) (n : ℕ) where
  pub uses-all : (old new : List BlockUse) → old ≡ map (λ b. unowned (is_marked b)) (range_with_len 0 n) → length new ≡ length old → AreUsed holdings old new → new ≡ block_uses holdings is_marked n
  unfolding block_uses
  uses-all old new is long used =
      let old-long : length old ≡ n = ap length is ∙ length-map-range_with_len (λ b. unowned (is_marked b)) 0 n in
      fill_by_all (λ b. use_by holdings (unowned (is_marked b)) b) new n (unowned (is_marked 0)) (long ∙ old-long)
      (λ k lt. used k (unowned (is_marked 0)) (omega (arith, old-long))
      ∙ ap (λ u. use_by holdings u k) (ap (λ l. get_or l k (unowned (is_marked 0))) is ∙ get_or-map-range_with_len (λ b. unowned (is_marked b)) 0 n k k (unowned (is_marked 0)) lt (omega arith)))

  pub uses-back : (old new : List BlockUse) (len : ℕ) → old ≡ map (λ b. unowned (is_marked b)) (range_with_len 0 n) → length new ≡ length old → len ≡ length old → AreUsed holdings old new
      → take len (new ++ drop (length new) old) ≡ block_uses holdings is_marked n
  uses-back old new len is long same used =
      ap (λ k. take k (new ++ drop (length new) old)) (same ∙ sym long) ∙ take-append_seam new (drop (length new) old) ∙ uses-all old new is long used
