-- What calls make of items whose kinds were changed by their IDs, where they look at no byte of a fork.
use Rattle.std.proofs.Common.{◌≡◌, ℕ, ◌+◌, Bool, List, Option, Some, None, Result, Ok, Err, refl, sym, ap, ◌∙◌}
use Rattle.std.specs.Prelude.{ℤ, not, ◌||◌, ◌==◌}
use Rattle.std.specs.FinMap as fin
use Rattle.std.specs.Option.{option_map, option_map_or}
use Rattle.hfs_fields.specs.Names.{is_item_name}
use Rattle.hfs_model.specs.declared.codes.TheConstants.{FOLDER_FULL, BAD_NAME, DUPLICATE, NOT_A_FOLDER}
use Rattle.hfs_model.specs.declared.item.Kind.{Kind}
use Rattle.hfs_model.specs.declared.reply.Value.TheVariants as value
use Rattle.hfs_model.specs.Changes.{Outcome, touched, with_lock, new_item, changed_to, change, add, create, delete, set_cat_info, set_lock}
use Rattle.hfs_model.specs.Children.{entry_at, is_folder, entries_of}
use Rattle.hfs_model.specs.Choices.{is_locked, lock_code, is_full, is_held, to_create, to_delete, to_set_cat_info, file_to_change}
use Rattle.hfs_model.specs.Replies.{success}
use Rattle.hfs_model.specs.Volume.{Entry, Items, Volume}
use Rattle.hfs_model.proofs.Facts.{not_refused}
use Rattle.hfs_model.proofs.MappedEntries.{mapped_item, mapped_entry, mapped_items, mapped, TellsSame, entry_at-mapped, entries-mapped, insert-mapped, remove-mapped}
use Rattle.hfs_model.proofs.MappedChoices.{mapped_choice, to_create-mapped, to_delete-mapped, to_set_cat_info-mapped, file_to_change-mapped}

-- an outcome with the kinds of its volume changed
abbrev pub mapped_outcome : (ℕ → Kind → Kind) → Outcome → Outcome
mapped_outcome g o = (mapped g o.0, o.1)

-- a new item gets the next ID
pub created_id : (v : Volume) (dir : ℕ) (name : List ℕ) (id : ℕ) → to_create v dir name ≡ Ok id → v.next_id ≡ id
unfolding to_create
created_id v dir name id is =
    let a = not_refused (is_locked v) (lock_code v) _ id is in
    let b = not_refused (not (is_item_name name)) BAD_NAME _ id a.1 in
    let c = not_refused (not (is_folder (entries_of v) dir)) NOT_A_FOLDER _ id b.1 in
    let d = not_refused (is_held (entries_of v) dir name) DUPLICATE _ id c.1 in
    let e = not_refused (is_full (entries_of v) dir || (v.next_id == 4294967295)) FOLDER_FULL (Ok v.next_id) id d.1 in
    same_ok v.next_id id e.1
  where
    same_ok : (x y : ℕ) → ◌≡◌ {A = Result ℕ ℤ} (Ok x) (Ok y) → x ≡ y
    same_ok x y e = cc

module _ (g : ℕ → Kind → Kind) (tells : TellsSame g) where
  -- ---- changes of the items

  pub touched-mapped : (m : Items) (dir now : ℕ) → touched (mapped_items g m) dir now ≡ mapped_items g (touched m dir now)
  touched-mapped m dir now =
      ap (λ (o : Option Entry). option_map_or (λ (e : Entry). fin.insert (mapped_items g m) e.0 (record e.1 { modified = now })) o (mapped_items g m))
      (ap (λ (l : List Entry). entry_at l dir) (entries-mapped g m) ∙ entry_at-mapped g (fin.entries m) dir)
      ∙ by (entry_at (fin.entries m) dir)
    where
      by : (o : Option Entry) → option_map_or (λ (e : Entry). fin.insert (mapped_items g m) e.0 (record e.1 { modified = now })) (option_map
          (mapped_entry g) o) (mapped_items g m)
          ≡ mapped_items g (option_map_or (λ (e : Entry). fin.insert m e.0 (record e.1 { modified = now })) o m)
      by None = refl
      by (Some e) = insert-mapped g m e.0 (record e.1 { modified = now })

  module _ (v : Volume) (now : ℕ) where
    -- ---- the outcome of a choice

    pub change-mapped : (s r : Result Entry ℤ) (make : Entry → Items → Items) → s ≡ mapped_choice g r
        → ((e : Entry) → r ≡ Ok e → make (mapped_entry g e) (mapped_items g v.items) ≡ mapped_items g (make e v.items))
        → change (mapped g v) s make now ≡ mapped_outcome g (change v r make now)
    change-mapped s r make chosen same = ap (λ (t : Result Entry ℤ). change (mapped g v) t make now) chosen ∙ by r same
      where
        by : (r : Result Entry ℤ) → ((e : Entry) → r ≡ Ok e → make (mapped_entry g e) (mapped_items g v.items) ≡ mapped_items g (make e v.items))
            → change (mapped g v) (mapped_choice g r) make now ≡ mapped_outcome g (change v r make now)
        by (Ok e) same = ap (λ (items : Items). (changed_to (mapped g v) items now, success value.Nothing)) (same e refl)
        by (Err code) same = refl

    add-mapped : (s r : Result ℕ ℤ) (make : ℕ → Items → Items) → s ≡ r → ((id : ℕ) → r ≡ Ok id
        → make id (mapped_items g v.items) ≡ mapped_items g (make id v.items))
        → add (mapped g v) s make now ≡ mapped_outcome g (add v r make now)
    add-mapped s r make chosen same = ap (λ (t : Result ℕ ℤ). add (mapped g v) t make now) chosen ∙ by r same
      where
        by : (r : Result ℕ ℤ) → ((id : ℕ) → r ≡ Ok id → make id (mapped_items g v.items) ≡ mapped_items g (make id v.items))
            → add (mapped g v) r make now ≡ mapped_outcome g (add v r make now)
        by (Ok id) same = ap (λ (items : Items). (record (changed_to (mapped g v) items now) { next_id = v.next_id + 1 }, success (value.Id id)))
            (same id refl)
        by (Err code) same = refl

    -- ---- the calls

    -- the new item is the same where the change leaves its kind
    pub create-mapped : (kind : Kind) → g v.next_id kind ≡ kind → (dir : ℕ) (name : List ℕ)
        → create kind (mapped g v) dir name now ≡ mapped_outcome g (create kind v dir name now)
    unfolding create
    create-mapped kind plain dir name =
        let x = new_item kind dir name now in
        add-mapped (to_create (mapped g v) dir name) (to_create v dir name) (λ id m. touched (fin.insert m id x) dir now)
        (to_create-mapped g tells v dir name)
        (λ id is. ap (λ (k : Kind). touched (fin.insert (mapped_items g v.items) id (new_item k dir name now)) dir now)
        (sym plain ∙ ap (λ (q : ℕ). g q kind) (created_id v dir name id is))
        ∙ ap (λ (m : Items). touched m dir now) (insert-mapped g v.items id x) ∙ touched-mapped (fin.insert v.items id x) dir now)

    pub delete-mapped : (dir : ℕ) (name : List ℕ) → delete (mapped g v) dir name now ≡ mapped_outcome g (delete v dir name now)
    unfolding delete
    delete-mapped dir name =
        change-mapped (to_delete (mapped g v) dir name) (to_delete v dir name) (λ e m. touched (fin.remove m e.0) dir now)
        (to_delete-mapped g tells v dir name)
        (λ e is. ap (λ (m : Items). touched m dir now) (remove-mapped g v.items e.0) ∙ touched-mapped (fin.remove v.items e.0) dir now)

    pub set_cat_info-mapped : (dir : ℕ) (name : List ℕ) (created modified backup : ℕ) (info : List ℕ)
        → set_cat_info (mapped g v) dir name created modified backup info now ≡ mapped_outcome g
        (set_cat_info v dir name created modified backup info now)
    unfolding set_cat_info
    set_cat_info-mapped dir name created modified backup info =
        change-mapped (to_set_cat_info (mapped g v) dir name) (to_set_cat_info v dir name)
        (λ e m. fin.insert m e.0 (record e.1 { created = created; modified = modified; backup = backup; finder = info }))
        (to_set_cat_info-mapped g tells v dir name)
        (λ e is. insert-mapped g v.items e.0 (record e.1 { created = created; modified = modified; backup = backup; finder = info }))

    pub set_lock-mapped : (locked : Bool) (dir : ℕ) (name : List ℕ) → set_lock locked (mapped g v) dir name now
        ≡ mapped_outcome g (set_lock locked v dir name now)
    unfolding set_lock
    set_lock-mapped locked dir name =
        change-mapped (file_to_change (mapped g v) dir name) (file_to_change v dir name)
        (λ e m. fin.insert m e.0 (record e.1 { kind = with_lock locked e.1.kind })) (file_to_change-mapped g tells v dir name)
        (λ e is. ap (λ (k : Kind). fin.insert (mapped_items g v.items) e.0 (record (mapped_item g e.0 e.1) { kind = k }))
        (tells.lock locked e.0 e.1.kind)
        ∙ insert-mapped g v.items e.0 (record e.1 { kind = with_lock locked e.1.kind }))
