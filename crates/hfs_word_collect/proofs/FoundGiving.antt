-- What remains of a volume, as its bytes tell it.
use Rattle.std.proofs.Common.{◌≡◌, ◌∙◌, ℕ, ◌*◌, Bool, List, length, Option, Some, ap, subst, sym}
use Rattle.std.specs.Prelude.{IfSome}
use Rattle.hfs_remains_forks.specs.declared.finds.Finds.{Finds}
use Rattle.hfs_remains_forks.specs.Finds.{AreFinds, IsFoundIn}
use Rattle.hfs_remains_forks.specs.Images.{IsSalvageOf, kept_image}
use Rattle.hfs_remains_forks.proofs.ImageLemmas.{kept_found}
use Rattle.hfs_remains_forks.specs.Verdicts.{Salvaged}
use Rattle.hfs_database.specs.Taken.{TakenRow}
use Rattle.hfs_word_collect.specs.declared.counts.FileCounts.{FileCounts}
use Rattle.hfs_word_collect.specs.Counts.{files_by, remains_files_from}
use Rattle.hfs_word_collect.specs.Refused.{IsFoundOf}
use Rattle.hfs_word_collect.specs.Remains.{remains_rows_by, remains_rows_from}

module _ (bytes : List ℕ) (finds : Finds) (salvage : Salvaged) (limit : ℕ) (found : AreFinds bytes finds) (kept : IsSalvageOf finds limit salvage) (usual : limit ≡ 4 * length bytes) where
  same-limit : IsSalvageOf finds (4 * length bytes) salvage
  same-limit = subst (λ (n : ℕ). IsSalvageOf finds n salvage) usual kept

  pub rows_kept : (taken : Bool) (Fact : List TakenRow → Type 0) → Fact (remains_rows_from taken (kept_image bytes finds.places salvage) 0 finds.items.items) → Fact (remains_rows_by taken bytes (Some finds.mdb))
  rows_kept taken Fact given = subst Fact (λ i. remains_rows_from taken (kept_found bytes finds salvage found same-limit i) 0 (found.items_are i)) given

  pub files_kept : (Fact : FileCounts → Type 0) → Fact (remains_files_from (kept_image bytes finds.places salvage) 0 finds.items.items) → Fact (files_by bytes (Some finds.mdb))
  files_kept Fact given = subst Fact (λ i. remains_files_from (kept_found bytes finds salvage found same-limit i) 0 (found.items_are i)) given

-- what was found of each image is of this one
pub found_of : (found : Option Finds) (finds : Finds) (len limit : ℕ) (image : List ℕ) → found ≡ Some finds → length image ≡ len → IsFoundIn image found → IfSome found (λ _. limit ≡ 4 * len)
    → IsFoundOf finds limit image
found_of found finds len limit image some long are usual =
    let is : IsFoundIn image (Some finds) = subst (IsFoundIn image) some are in
    let most : limit ≡ 4 * len = subst (λ (o : Option Finds). IfSome o (λ _. limit ≡ 4 * len)) some usual in
    record { directory_is = is.0; finds_are = is.1; limit_is = most ∙ ap (λ (n : ℕ). 4 * n) (sym long) }
