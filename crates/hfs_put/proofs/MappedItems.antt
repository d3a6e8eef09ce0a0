-- The items of a catalog whose files have other bytes in their forks.
use Rattle.std.proofs.Common.{◌≡◌, ⊎_elim, ℕ, Bool, true, false, cond, List, [], ◌∷◌, map, Option, Some, None, refl, sym, ap, ◌∙◌, true≢false}
use Rattle.std.specs.Cmp.{nat_cmp_total}
use Rattle.std.specs.FinMap as fin
use Rattle.std.specs.FinMap.{nat_cmp-IsAntisymmetric}
use Rattle.std.specs.Option.{option_map}
use Rattle.std.specs.Ordering.{nat_cmp}
use Rattle.std.proofs.lemmas.Bool.{or_cases}
use Rattle.hfs_fields.specs.Records.{is_dir, is_file, is_item, item_id, dir_record_of, file_record_of}
use Rattle.hfs_fields.specs.Each.{Each}
use Rattle.hfs_model.specs.declared.item.Kind.{Kind}
use Rattle.hfs_model.specs.Volume.{Entry, Items}
use Rattle.hfs_model.proofs.MappedEntries.{mapped_item, mapped_entry, mapped_items, get-mapped, insert-mapped}
use Rattle.hfs_catalog.specs.Items.{Contents, folder_of, file_of, item_of, entry_of, items_in}
use Rattle.hfs_catalog.specs.Records.{Record, Catalog, has_thread, items_of}
use Rattle.hfs_put_plan.specs.WithForks.{FileForks, forks_of, kind_with_forks}
use Rattle.hfs_put.proofs.AlikeForks.{by_forks}

-- of a list of entries
from_entries-mapped : (g : ℕ → Kind → Kind) (es : List Entry) → mapped_items g (fin.from_entries es) ≡ fin.from_entries (map (mapped_entry g) es)
from_entries-mapped g [] = fin.same_map nat_cmp_total nat_cmp-IsAntisymmetric (mapped_items g (fin.from_entries [])) (fin.from_entries []) (λ q.
    get-mapped g (fin.from_entries []) q ∙ ap (option_map (mapped_item g q)) (fin.get-empty nat_cmp q) ∙ sym (fin.get-empty nat_cmp q))
from_entries-mapped g (e ∷ es) =
    sym (insert-mapped g (fin.from_entries es) e.0 e.1)
    ∙ ap (λ (m : Items). fin.insert m e.0 (mapped_item g e.0 e.1)) (from_entries-mapped g es)

-- the bytes of the forks that came, or those that stood there
abbrev pub chosen : Option FileForks → List ℕ × List ℕ → List ℕ × List ℕ
chosen None contents = contents
chosen (Some own) contents = (own.data_fork, own.resource_fork)

module _ (forks : List FileForks) (old new : Contents) (whole : Catalog) where
  -- the record's file has the bytes that came, or those that stood there
  abbrev pub HasChosen : Record → Type 0
  HasChosen r = is_file r.1 ≡ true → new (file_record_of r.1) ≡ chosen (forks_of forks (item_id r.1)) (old (file_record_of r.1))

  folder-kind : (o : Option FileForks) (r : Record) → mapped_item (λ q k. kind_with_forks o k) (item_id r.1) (folder_of r.0 (dir_record_of r.1)) ≡ folder_of r.0 (dir_record_of r.1)
  unfolding folder_of
  folder-kind None r = refl
  folder-kind (Some own) r = refl

  file-kind : (o : Option FileForks) (has : Bool) (r : Record)
      → mapped_item (λ q k. kind_with_forks o k) (item_id r.1) (file_of has (old (file_record_of r.1)) r.0 (file_record_of r.1))
      ≡ file_of has (chosen o (old (file_record_of r.1))) r.0 (file_record_of r.1)
  unfolding file_of
  file-kind None has r = refl
  file-kind (Some own) has r = refl

  item-chosen : (r : Record) → is_item r.1 ≡ true → HasChosen r → mapped_item (by_forks forks) (item_id r.1) (item_of old whole r) ≡ item_of new whole r
  unfolding item_of
  item-chosen r item has =
      let f = file_record_of r.1 in
      let thread = has_thread whole f.id in
      elim (is_dir r.1)
      as (λ (b : Bool). is_dir r.1 ≡ b
      → mapped_item (by_forks forks) (item_id r.1) (cond b (folder_of r.0 (dir_record_of r.1)) (file_of thread (old f) r.0 f))
      ≡ cond b (folder_of r.0 (dir_record_of r.1)) (file_of thread (new f) r.0 f)) [
        | true ↦ λ e. folder-kind (forks_of forks (item_id r.1)) r
        | false ↦ λ e.
            let file : is_file r.1 ≡ true = ⊎_elim (λ (d : is_dir r.1 ≡ true). absurd (true≢false (sym d ∙ e))) (λ f. f) (or_cases (is_dir r.1) (is_file r.1) item) in
            file-kind (forks_of forks (item_id r.1)) thread r ∙ ap (λ (contents : List ℕ × List ℕ). file_of thread contents r.0 f) (sym (has file))
      ] refl

  entries-chosen : (rs : Catalog) → Each HasChosen rs → map (mapped_entry (by_forks forks)) (map (entry_of old whole) (items_of rs)) ≡ map (entry_of new whole) (items_of rs)
  entries-chosen [] has = refl
  entries-chosen (r ∷ rs) has =
      let rest = entries-chosen rs has.1 in
      elim (is_item r.1)
      as (λ (b : Bool). is_item r.1 ≡ b
      → map (mapped_entry (by_forks forks)) (map (entry_of old whole) (cond b (r ∷ items_of rs) (items_of rs))) ≡ map (entry_of new whole) (cond b (r ∷ items_of rs) (items_of rs))) [
        | true ↦ λ e. λ i. (item_id r.1, item-chosen r e has.0 i) ∷ rest i
        | false ↦ λ e. rest
      ] refl

  pub items-chosen : Each HasChosen whole → mapped_items (by_forks forks) (items_in old whole) ≡ items_in new whole
  unfolding items_in
  items-chosen has =
      from_entries-mapped (by_forks forks) (map (entry_of old whole) (items_of whole)) ∙ ap (λ (es : List Entry). fin.from_entries es) (entries-chosen whole has)
