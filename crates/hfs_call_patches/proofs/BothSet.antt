-- The records of two folders whose valences are set, one after the other.
use Rattle.std.proofs.Common.{◌≡◌, ℕ, ◌+◌, ◌-◌, true, [], ◌∷◌, sym, ◌∙◌, ap, subst, Option, Some}
use Rattle.std.specs.Option.{option_map}
use Rattle.std.proofs.lemmas.Option.{same_Some}
use Rattle.hfs_fields.specs.declared.key.CatKey.{CatKey}
use Rattle.hfs_fields.specs.Keys.{cat_cmp}
use Rattle.hfs_fields.specs.Records.{is_dir, dir_record_of}
use Rattle.hfs_fields.specs.RecordForms.{IsDirRecordValue, dir_record_bytes}
use Rattle.hfs_fields.specs.Members.{In}
use Rattle.hfs_btree.specs.Pairs.{lookup}
use Rattle.hfs_btree.specs.Tree.{Store}
use Rattle.hfs_catalog.specs.Records.{Record}
use Rattle.hfs_catalog.specs.Tree.{IsCatalogTree, catalog_of}
use Rattle.hfs_record_edits.specs.Bodies.{IfBody, with_valence}
use Rattle.hfs_record_edits.specs.Finds.{record_at}
use Rattle.hfs_record_edits.proofs.FindLemmas.{own_record, body_at}
use Rattle.hfs_record_edits.specs.ItemEdits.{HasValenceSet, ValenceSet}
use Rattle.hfs_record_edits.specs.Keeps.{KeepsCatalog}
use Rattle.hfs_record_edits.proofs.KeepLemmas.{keeps_then}
use Rattle.hfs_record_edits.specs.Swaps.{Swaps}
use Rattle.hfs_record_edits.specs.Changes.{with_children, folder_with}
use Rattle.hfs_record_edits.specs.PlaceLaws.{BothStand}
use Rattle.hfs_record_edits.proofs.PlaceLaws.{StandsStill}
use Rattle.hfs_call_patches.specs.declared.valences.FolderPlace.{FolderPlace}
use Rattle.hfs_call_patches.specs.Valences.{StandAt, ValencesSet}

-- ---- one folder

module _ (s : Store) (tree : IsCatalogTree s) (r : Record) (there : In r (catalog_of s)) (key : CatKey) (key_is : r.0 ≡ key) where
  found_is : record_at key (catalog_of s) ≡ Some r
  found_is = ap (λ (k : CatKey). record_at k (catalog_of s)) (sym key_is) ∙ own_record (catalog_of s) r tree.ordered.rises there

  body_is : lookup cat_cmp key (catalog_of s) ≡ Some r.1
  body_is = sym (body_at key (catalog_of s)) ∙ ap (option_map (λ (q : Record). q.1)) found_is

  pub dir_there : is_dir r.1 ≡ true → IfBody (λ body. is_dir body ≡ true) (lookup cat_cmp key (catalog_of s))
  dir_there dir = subst (IfBody (λ body. is_dir body ≡ true)) (sym body_is) dir

  module _ (n now : ℕ) (t : Store) (set : HasValenceSet key n now s t) where
    its : ValenceSet key n now r.1 s t
    its = set r.1 body_is

    pub one_kept : KeepsCatalog (key ∷ []) s t
    one_kept = its.set.keeps

    pub one_value : IsDirRecordValue (with_children n now (dir_record_of r.1))
    one_value = its.value

    pub one_set : Swaps (Some r) (Some (folder_with n now r)) (catalog_of s) (catalog_of t)
    one_set = subst (λ (p : Option Record × CatKey). Swaps p.0 (Some (p.1, dir_record_bytes (with_valence n now (dir_record_of r.1)))) (catalog_of s) (catalog_of t)) (λ i. (found_is i, sym key_is i)) its.set.swap

-- ---- two folders

module _ (still : StandsStill) (s t : Store) (tree : IsCatalogTree s) (left entered : FolderPlace) (now : ℕ) (set : HasValenceSet left.key (left.valence - 1) now s t) where
  -- the second stands as it did
  second_there : (r1 r2 : Record) → BothStand r1 r2 (catalog_of s) → r1.0 ≡ left.key → In r2 (catalog_of t)
  second_there r1 r2 both key_is =
      still (Some r1) (Some (folder_with (left.valence - 1) now r1)) r2 (catalog_of s) (catalog_of t)
      (one_set s tree r1 both.first left.key key_is (left.valence - 1) now t set) both.second (λ e. both.others (same_Some r1 r2 e))

  pub after_first : StandAt left entered (catalog_of s) → IsCatalogTree t
  after_first stand = (one_kept s tree stand.first stand.both.first left.key stand.first_key (left.valence - 1) now t set).sound

  pub second_dir : (stand : StandAt left entered (catalog_of s)) → IfBody (λ body. is_dir body ≡ true) (lookup cat_cmp entered.key (catalog_of t))
  second_dir stand = dir_there t (after_first stand) stand.second (second_there stand.first stand.second stand.both stand.first_key) entered.key stand.second_key stand.second_dir

  pub both_set : StandAt left entered (catalog_of s) → (u : Store) → HasValenceSet entered.key (entered.valence + 1) now t u → ValencesSet left entered now s u
  both_set stand u more =
      let after = after_first stand in
      record {
        keeps =
            keeps_then (left.key ∷ []) (entered.key ∷ []) s t u (one_kept s tree stand.first stand.both.first left.key stand.first_key (left.valence - 1) now t set)
            (one_kept t after stand.second (second_there stand.first stand.second stand.both stand.first_key) entered.key stand.second_key (entered.valence + 1) now u more);
        set = λ r1 r2 both first second.
            let there = second_there r1 r2 both first in
            record {
              third = catalog_of t;
              first_set = one_set s tree r1 both.first left.key first (left.valence - 1) now t set;
              second_set = one_set t after r2 there entered.key second (entered.valence + 1) now u more;
              first_value = one_value s tree r1 both.first left.key first (left.valence - 1) now t set;
              second_value = one_value t after r2 there entered.key second (entered.valence + 1) now u more;
            };
      }
