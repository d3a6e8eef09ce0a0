-- The payload of what remains of a sound image is the payload of its volume.
use Rattle.std.proofs.Common.{inl, inr, ℕ, List, ◌∷◌, codes}
use Rattle.std.specs.Prelude.{◌↔◌}
use Rattle.hfs_bag.specs.Bags.{items_entries, payload}
use Rattle.hfs_fields.specs.Members as scans
use Rattle.hfs_model.specs.Children.{entries_of}
use Rattle.hfs_model.specs.Volume.{Entry}
use Rattle.hfs_model.proofs.Members.{In}
use Rattle.hfs_word_take.specs.Items.{bag_items, entries_in}
use Rattle.hfs_check.specs.VolumeOf.{volume_in, volume_of}
use Rattle.hfs_blocks.specs.Blocks.{block_at}
use Rattle.hfs_bag.specs.Entries.{ShelfEntry, folder}
use Rattle.hfs_rescue_items.specs.declared.found.Found.{Found}
use Rattle.hfs_word_rescue.specs.Bags.{rescued_items}
use Rattle.hfs_word_rescue.proofs.MemberLemmas.{to-model, to-scans}
use Rattle.hfs_word_rescue.proofs.TakenItemLemmas.{IsSoundFind}
use Rattle.hfs_word_rescue.proofs.TakeGivenLemmas.{take-given}
use Rattle.hfs_word_rescue.proofs.RescueGivenLemmas.{rescue-given}

same-first : (x : ShelfEntry) (xs ys : List ShelfEntry) → ((e : ShelfEntry) → In e xs → In e ys) → (e : ShelfEntry) → scans.In e (x ∷ xs) → scans.In e (x ∷ ys)
same-first x xs ys over e (inl same) = inl same
same-first x xs ys over e (inr there) = inr (to-scans e ys (over e (to-model e xs there)))

module _ (image : List ℕ) (limit : ℕ) (found : Found) (find : IsSoundFind image limit found) where
  abbrev es : List Entry
  es = entries_of (volume_in (block_at image))

  pub payloads-same : (e : ShelfEntry) → scans.In e (payload (rescued_items image found)) ↔ scans.In e (payload (bag_items (entries_in image)))
  unfolding volume_of
  payloads-same e = (
    same-first (folder (codes "data")) (items_entries (rescued_items image found)) (items_entries (bag_items es)) (rescue-given image limit found find) e,
    same-first (folder (codes "data")) (items_entries (bag_items es)) (items_entries (rescued_items image found)) (take-given image limit found find) e,
  )
