-- Records that stand as they did where others went.
use Rattle.std.proofs.Common.{◌≡◌, ◌⊎◌, inl, inr, ⊎_elim, ℕ, List, [], ◌∷◌, ◌++◌, sym, ◌∙◌, ap, subst, Option, Some, None}
use Rattle.std.proofs.lemmas.Option.{none-some, same_Some}
use Rattle.hfs_fields.specs.Records.{item_id}
use Rattle.hfs_fields.specs.Members.{In}
use Rattle.hfs_catalog.specs.Records.{Record, Catalog, item_with}
use Rattle.hfs_catalog.specs.Lookups.{thread_of}
use Rattle.hfs_check.specs.Parts.{mdb_in, catalog_in}
use Rattle.hfs_check.proofs.LawTypes.{CatalogIsSound}
use Rattle.hfs_check.specs.VolumeOf.{contents_in, volume_in}
use Rattle.hfs_record_edits.specs.Swaps.{Swaps, list_of}
use Rattle.hfs_record_edits.proofs.OnceLemmas.{item_or_thread}
use Rattle.hfs_record_edits.proofs.ChangesLaws.{ItemRekeyed}
use Rattle.hfs_record_edits.specs.MoveLaws.{under_folder}
use Rattle.hfs_record_edits.proofs.PlaceLaws.{StandsStill, DeleteLeavesFolder, MoveLeavesFolders}
use Rattle.hfs_catalog.proofs.Held.{with_id}
use Rattle.hfs_record_edits.proofs.Items.{item_parent}
use Rattle.hfs_record_edits.proofs.Linked.{with_thread}
use Rattle.hfs_record_edits.proofs.Dropped.{not_in_itself}
use Rattle.hfs_record_edits.proofs.Chosen.{delete_chosen}
use Rattle.hfs_record_edits.proofs.Move.{apart_from}

module _ {X : Type 0} (x : X) where
  in_parts : (xs ys : List X) → In x (xs ++ ys) → In x xs ⊎ In x ys
  in_parts [] ys there = inr there
  in_parts (y ∷ xs) ys there = ⊎_elim
      (λ (here : y ≡ x). inl (inl here))
      (λ (later : In x (xs ++ ys)). ⊎_elim (λ (a : In x xs). inl (inr a)) (λ (b : In x ys). inr b) (in_parts xs ys later))
      there

  in_left : (xs ys : List X) → In x xs → In x (xs ++ ys)
  in_left [] ys there = absurd there
  in_left (y ∷ xs) ys there = ⊎_elim (λ (here : y ≡ x). inl here) (λ (later : In x xs). inr (in_left xs ys later)) there

  in_right : (xs ys : List X) → In x ys → In x (xs ++ ys)
  in_right [] ys there = there
  in_right (y ∷ xs) ys there = inr (in_right xs ys there)

  in_one : (o : Option X) → In x (list_of o) → o ≡ Some x
  in_one None there = absurd there
  in_one (Some y) there = ⊎_elim (λ (here : y ≡ x). ap Some here) (λ (none : In x []). absurd none) there

pub stands_still : StandsStill
stands_still went come r old new swap there other =
    subst (In r) (sym swap.is) (⊎_elim
    (λ (first : In r swap.before). in_left r swap.before (list_of come ++ swap.behind) first)
    (λ (rest : In r (list_of went ++ swap.behind)). ⊎_elim
    (λ (gone : In r (list_of went)). absurd (other (in_one r went gone)))
    (λ (last : In r swap.behind). in_right r swap.before (list_of come ++ swap.behind) (in_right r (list_of come) swap.behind last))
    (in_parts r (list_of went) swap.behind rest))
    (in_parts r swap.before (list_of went ++ swap.behind) (subst (In r) swap.was there)))

-- an item is not what stands as a thread
no_item_thread : (catalog : Catalog) (k id : ℕ) (r : Record) → item_with catalog id ≡ Some r → thread_of catalog k ≡ Some r → ⊥
no_item_thread catalog k id r item thread = item_or_thread r.1 (with_id catalog id r item).1 (with_thread catalog k r thread).1

-- records of two IDs
two_ids : (catalog : Catalog) (j k : ℕ) (r s : Record) → item_with catalog j ≡ Some r → item_with catalog k ≡ Some s → (j ≡ k → ⊥) → Some r ≡ Some s → ⊥
two_ids catalog j k r s first second apart same =
    apart (sym (with_id catalog j r first).2 ∙ ap (λ (x : Record). item_id x.1) (same_Some r s same) ∙ (with_id catalog k s second).2)

pub delete_leaves_folder : CatalogIsSound → DeleteLeavesFolder
unfolding volume_in
delete_leaves_folder catalogs total dir name item r old first second h c f out thread =
    let catalog = catalog_in old in
    let under = sym (item_parent (contents_in old) catalog item) ∙ (delete_chosen (volume_in old) dir name _ c.is).under in
    let apart : c.id ≡ dir → ⊥ = λ same. not_in_itself (mdb_in old).next_id c.id catalog item (catalogs total old h) c.was (under ∙ sym same) in
    let one = stands_still (Some item) None r catalog first out (with_id catalog dir r f.was).0 (two_ids catalog c.id dir item r c.was f.was apart) in
    stands_still (thread_of catalog c.id) None r first second thread one (no_item_thread catalog c.id dir r f.was)

-- a record that wasn't rekeyed
past_rekeyed : (item s r : Record) (old new : Catalog) → ItemRekeyed item s old new → In r old → (Some item ≡ Some r → ⊥) → In r new
past_rekeyed item s r old new moved there other = ⊎_elim
    (λ (swap : Swaps (Some item) (Some s) old new). stands_still (Some item) (Some s) r old new swap there other)
    (λ two. stands_still None (Some s) r two.0 new two.2 (stands_still (Some item) None r old two.0 two.1 there other) (λ none. none-some r none))
    moved

pub move_leaves_folders : CatalogIsSound → MoveLeavesFolders
move_leaves_folders catalogs total from to name item turned r1 r2 old second middle h c one two rekeyed thread =
    let catalog = catalog_in old in
    let all = apart_from catalogs total from to name item old h c r2 two in
    let past = λ (r : Record) (id : ℕ) (was : item_with catalog id ≡ Some r) (apart : c.id ≡ id → ⊥).
    stands_still (thread_of catalog c.id) turned r second middle thread
    (past_rekeyed item (under_folder to item) r catalog second rekeyed (with_id catalog id r was).0 (two_ids catalog c.id id item r c.was was apart)) (no_item_thread catalog c.id id r was) in
    record {
      first = past r1 from one.was all.not_first;
      second = past r2 to two.was all.not_second;
      others = λ same. two_ids catalog from to r1 r2 one.was two.was all.others (ap Some same);
    }
