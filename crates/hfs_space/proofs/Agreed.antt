-- The checks of a tree's file and of extents.
use Rattle.std.proofs.Common.{◌≡◌, ℕ, ◌+◌, true, List, length, refl, sym, ap, Option, Some, None}
use Rattle.std.specs.Prelude.{◌↔◌}
use Rattle.std.specs.Option.{option_map}
use Rattle.std.proofs.lemmas.Option.{none-some}
use Rattle.hfs_fields.specs.declared.mdb.Mdb.{Mdb}
use Rattle.hfs_fields.specs.declared.extent.Extent.{Extent}
use Rattle.hfs_fields.specs.declared.key.CatKey.{CatKey}
use Rattle.hfs_btree.specs.Pairs.{Pairs}
use Rattle.hfs_fields.proofs.TwoFaultLemmas.{neither, both_none}
use Rattle.hfs_fields.proofs.ScanLemmas.{check}
use Rattle.hfs_space.specs.Extents.{Overflow}
use Rattle.hfs_space.specs.Owners.{all_forks}
use Rattle.hfs_space.specs.Sound.{IsTreeFile, AreForksSound}
use Rattle.hfs_space.specs.Faults.{is_tree_file, are_forks_right, is_overflow_right, file_fault, overflow_fault, fork_fault}
use Rattle.hfs_space.proofs.Decided.{tree_file_decides, forks_decide, overflow_decides}

none_behind : (n : ℕ) (o : Option ℕ) → option_map (λ i. n + i) o ≡ None → o ≡ None
none_behind n None e = refl
none_behind n (Some i) e = absurd (none-some (n + i) (sym e))

-- ---- the checks

pub no_tree_file_fault : (mdb : Mdb) (extents : List Extent) (size : ℕ) → (is_tree_file mdb extents size ≡ true) ↔ IsTreeFile mdb extents size
no_tree_file_fault mdb extents size = tree_file_decides mdb extents size

pub no_fork_fault : (mdb : Mdb) (overflow : Overflow) (catalog : Pairs CatKey) → (fork_fault mdb overflow catalog ≡ None) ↔ AreForksSound mdb overflow catalog
unfolding fork_fault
no_fork_fault mdb overflow catalog =
    let forks = all_forks mdb catalog in
    let files = check (are_forks_right mdb overflow) _ (forks_decide mdb overflow) catalog in
    let records = check (is_overflow_right mdb overflow forks) _ (overflow_decides mdb overflow forks) overflow in (
      λ is.
          let both = neither (file_fault mdb overflow catalog) _ is in
          record { files = files.0 both.0; records = records.0 (none_behind (length catalog) (overflow_fault mdb overflow forks) both.1) },
      λ h. both_none _ _ (files.1 h.files) (ap (option_map (λ (i : ℕ). length catalog + i)) (records.1 h.records)),
    )
