-- The blocks in which a volume differs from the copy on which it was mounted.
use Rattle.std.proofs.Common.{◌≡◌, ⊎_elim, ℕ, List, IsSome, sym, subst}
use Rattle.hfs_fields.specs.Each.{Each}
use Rattle.hfs_fields.specs.Members.{In}
use Rattle.hfs_fields.proofs.ElementLemmas.{each-append}
use Rattle.hfs_fields.proofs.MemberLemmas.{each_in}
use Rattle.hfs_blocks.specs.Blocks.{block_at, block_count}
use Rattle.hfs_blocks.specs.Layers.{Numbered, changes}
use Rattle.hfs_btree.specs.Sound.{IsOther}
use Rattle.hfs_check.specs.Agree.{AgreesBut, changing_blocks}
use Rattle.hfs_copy.specs.Working.{IsWorkingCopy, AreChangesBut, CarriesOverBut}
use Rattle.hfs_copy.proofs.LawsProved as working
use Rattle.hfs_put.specs.Saved.{IsDifference, DifferencesCarryOver}
use Rattle.hfs_copy.proofs.ChangingBlocks.{among-or-other, changing-each}

module _ (copy current image written : List ℕ) (patch : Numbered) (is : IsWorkingCopy copy image) (agrees : AgreesBut written copy current)
    (difference : IsDifference patch copy current) where
  -- what differs is in a block that calls change, or in one of a fork that was written
  known : (n : ℕ) → IsSome (changes patch n) → Each (IsOther n) written → block_at image n ≡ block_at copy n
  known n some unwritten = ⊎_elim
      (λ (i : In n (changing_blocks (block_at copy))).
      each_in (λ m. block_at image m ≡ block_at copy m) (changing_blocks (block_at copy)) n
      (changing-each (λ m. block_at image m ≡ block_at copy m) (block_count copy) (block_at copy) is.sound.blocks is.same) i)
      (λ (beside : Each (IsOther n) (changing_blocks (block_at copy))).
      absurd (difference.differ n some (agrees.kept.others n (each-append (IsOther n) written (changing_blocks (block_at copy)) unwritten beside))))
      (among-or-other n (changing_blocks (block_at copy)))

  are-changes : AreChangesBut written patch copy image
  are-changes = record {
    within = difference.within;
    known = known;
    agrees = subst (λ (bytes : List ℕ). AgreesBut written copy bytes) (sym difference.makes) agrees;
  }

  pub carries : CarriesOverBut written patch copy image
  carries = working.changes_carry_over copy image written patch is are-changes

pub differences_carry_over : DifferencesCarryOver
differences_carry_over = λ copy current image written patch is agrees difference. carries copy current image written patch is agrees difference
