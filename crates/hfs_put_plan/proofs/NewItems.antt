-- The ID that is answered of a new item.
use Rattle.std.proofs.Common.{◌≡◌, ℕ, ◌+◌, List, refl, sym, ◌∙◌, ap, Result, Ok, Err, ℤ}
use Rattle.std.specs.FinMap as map
use Rattle.hfs_model.specs.declared.item.Kind.{Kind}
use Rattle.hfs_model.specs.declared.reply.Reply.{Reply}
use Rattle.hfs_model.specs.declared.reply.Value.TheVariants as value
use Rattle.hfs_model.specs.Changes.{touched, new_file, new_folder, new_item, add, create}
use Rattle.hfs_model.specs.Choices.{to_create}
use Rattle.hfs_model.specs.Replies.{success}
use Rattle.hfs_model.specs.Volume.{Items, Volume}
use Rattle.hfs_put_plan.specs.Laws.{AreNewItemsNamed}
use Rattle.hfs_put_plan.specs.Put.{id_named}
use Rattle.hfs_put_plan.proofs.MadeFiles.{created, created-alone}
use Rattle.hfs_model.proofs.MappedCalls.{created_id}
use Rattle.hfs_put_plan.proofs.PutFiles.{id-alone}

same-id : (x y : ℕ) → value.Id x ≡ value.Id y → x ≡ y
same-id x y e = cc

no-id : (x : ℕ) → value.Nothing ≡ value.Id x → ⊥
no-id x e = cc

module _ (kind : Kind) (v : Volume) (dir : ℕ) (name : List ℕ) (now id : ℕ) where
  abbrev with_item : ℕ → Items → Items
  with_item n m = touched (map.insert m n (new_item kind dir name now)) dir now

  named : (create kind v dir name now).1 ≡ success (value.Id id) → id_named (create kind v dir name now).0 dir name ≡ id
  unfolding create
  named told = at (to_create v dir name) refl told
    where
      at : (r : Result ℕ ℤ) → to_create v dir name ≡ r → (add v r with_item now).1 ≡ success (value.Id id)
          → id_named (add v r with_item now).0 dir name ≡ id
      at (Ok n) is told =
          let own : v.next_id ≡ n = created_id v dir name n is in
          ap (λ (k : ℕ). id_named (record v { items = with_item k v.items; changed = now; next_id = v.next_id + 1 }) dir name) (sym own)
          ∙ id-alone (created kind v dir name now) dir name v.next_id (new_item kind dir name now) (created-alone kind v dir name now n is)
          ∙ own ∙ same-id n id (ap (λ (r : Reply). r.value) told)
      at (Err code) is told = absurd (no-id id (ap (λ (r : Reply). r.value) told))

pub new_items_are_named : AreNewItemsNamed
new_items_are_named = record { files = named new_file; folders = named new_folder }
