-- What calls change, which no byte of a fork decides.
use Rattle.std.proofs.Common.{◌≡◌, ℕ, ◌+◌, Bool, true, false, List, ◌++◌, drop, length, replicate, Result, Ok, Err, refl, sym, ap, subst, ◌∙◌}
use Rattle.std.specs.Prelude.{ℤ, max}
use Rattle.std.specs.FinMap as fin
use Rattle.std.proofs.lemmas.List.{length-replicate}
use Rattle.hfs_model.specs.declared.call.Fork.{Fork}
use Rattle.hfs_model.specs.declared.call.Fork.TheVariants.{DataFork, ResFork}
use Rattle.hfs_model.specs.declared.item.Kind.{Kind}
use Rattle.hfs_model.specs.declared.item.Kind.TheVariants.{Folder, File}
use Rattle.hfs_model.specs.declared.reply.Value.TheVariants as value
use Rattle.hfs_model.specs.Changes.{Outcome, touched, moved, new_folder, new_file, changed_to, change, create, delete, rename, cat_move, set_f_info, set_cat_info, set_lock}
use Rattle.hfs_model.specs.Choices.{to_rename, to_move, to_set_f_info}
use Rattle.hfs_model.specs.FileIds.{with_thread, set_thread, to_create_file_id, to_delete_file_id, change_to_id, create_file_id, delete_file_id}
use Rattle.hfs_model.specs.Forks.{physical_length, resized, written, with_physical_length, fork_bytes, kind_with_fork}
use Rattle.hfs_model.specs.ForkCalls.{to_set_eof, to_write_fork, set_eof, write_fork}
use Rattle.hfs_model.specs.Replies.{success}
use Rattle.hfs_model.specs.Volume.{Entry, Items, Volume}
use Rattle.hfs_model.proofs.ForkLemmas.{length-resized, length-written}
use Rattle.hfs_model.proofs.KeepsForks.{edited, edits}
use Rattle.hfs_model.specs.Alike.{zeros_for, bare_kind, bare_item, bare, bare_items, bare_volume}
use Rattle.hfs_model.proofs.BareEntries.{by_keep, tells-bare, insert-bare, items-twice}
use Rattle.hfs_model.proofs.MappedCalls.{touched-mapped, change-mapped, create-mapped, delete-mapped, set_cat_info-mapped, set_lock-mapped}
use Rattle.hfs_model.proofs.BareChoices.{bare_choice, to_rename-bare, to_move-bare, to_set_f_info-bare, to_create_file_id-bare, to_delete_file_id-bare, to_set_eof-bare, to_write_fork-bare}

-- an outcome with zeros in its volume's forks
abbrev pub bare_outcome : (ℕ → Bool) → Outcome → Outcome
bare_outcome keep o = (bare_volume keep o.0, o.1)

pub file-plain : (kept : Bool) → bare_kind kept new_file ≡ new_file
file-plain true = refl
file-plain false = refl

pub folder-plain : (kept : Bool) → bare_kind kept new_folder ≡ new_folder
folder-plain true = refl
folder-plain false = refl

-- how long the made bytes are is decided by how long the old ones are
record ByLength (make : List ℕ → List ℕ) : Type 0 where
  same : (a b : List ℕ) → length a ≡ length b → length (make a) ≡ length (make b)

resized-by : (n : ℕ) → ByLength (resized n)
resized-by n = record { same = λ a b e. length-resized n a ∙ sym (length-resized n b) }

written-by : (offset : ℕ) (bytes : List ℕ) → ByLength (written offset bytes)
written-by offset bytes = record { same = λ a b e. length-written offset bytes a ∙ ap (λ (n : ℕ). max n (offset + length bytes)) e ∙ sym (length-written offset bytes b) }

fork_kind-bare : (size : ℕ) (fork : Fork) (make : List ℕ → List ℕ) → ByLength make → (kept : Bool) (k : Kind)
    → bare_kind kept (kind_with_fork size fork (make (fork_bytes fork (bare_kind kept k))) (bare_kind kept k)) ≡ bare_kind kept (kind_with_fork size fork (make (fork_bytes fork k)) k)
fork_kind-bare size fork make by true k = refl
fork_kind-bare size fork make by false (Folder kept) = refl
fork_kind-bare size DataFork make by false (File file) =
    let made = by.same (zeros_for file.«data») file.«data» (length-replicate {A = ℕ} (length file.«data») 0) in
    let other = length-replicate {A = ℕ} (length file.resource) 0 in
    λ i. File (record file { kept = with_physical_length DataFork (physical_length size (made i)) file.kept; «data» = replicate (made i) 0; resource = replicate (other i) 0 })
fork_kind-bare size ResFork make by false (File file) =
    let made = by.same (zeros_for file.resource) file.resource (length-replicate {A = ℕ} (length file.resource) 0) in
    let other = length-replicate {A = ℕ} (length file.«data») 0 in
    λ i. File (record file { kept = with_physical_length ResFork (physical_length size (made i)) file.kept; «data» = replicate (other i) 0; resource = replicate (made i) 0 })

module _ (keep : ℕ → Bool) where
  -- ---- changes of the items

  touched-bare : (m : Items) (dir now : ℕ) → touched (bare_items keep m) dir now ≡ bare_items keep (touched m dir now)
  touched-bare = touched-mapped (by_keep keep) (tells-bare keep)

  with_thread-bare : (kept there : Bool) (k : Kind) → with_thread there (bare_kind kept k) ≡ bare_kind kept (with_thread there k)
  with_thread-bare true there k = refl
  with_thread-bare false there (Folder kept) = refl
  with_thread-bare false there (File file) = refl

  entry_thread-bare : (there : Bool) (e : Entry) (m : Items) → set_thread there (bare keep e) (bare_items keep m) ≡ bare_items keep (set_thread there e m)
  entry_thread-bare there e m =
      ap (λ (k : Kind). fin.insert (bare_items keep m) e.0 (record (bare_item (keep e.0) e.1) { kind = k })) (with_thread-bare (keep e.0) there e.1.kind)
      ∙ insert-bare keep m e.0 (record e.1 { kind = with_thread there e.1.kind })

  -- ---- the outcome of a choice

  module _ (v : Volume) (now : ℕ) where
    change-bare : (s r : Result Entry ℤ) (make : Entry → Items → Items) → s ≡ bare_choice keep r
        → ((e : Entry) → make (bare keep e) (bare_items keep v.items) ≡ bare_items keep (make e v.items)) → change (bare_volume keep v) s make now ≡ bare_outcome keep (change v r make now)
    change-bare s r make chosen same = change-mapped (by_keep keep) (tells-bare keep) v now s r make chosen (λ e is. same e)

    id-bare : (s r : Result Entry ℤ) (make : Entry → Items → Items) → s ≡ bare_choice keep r
        → ((e : Entry) → make (bare keep e) (bare_items keep v.items) ≡ bare_items keep (make e v.items))
        → change_to_id (bare_volume keep v) s make now ≡ bare_outcome keep (change_to_id v r make now)
    id-bare s r make chosen same = ap (λ (t : Result Entry ℤ). change_to_id (bare_volume keep v) t make now) chosen ∙ by r
      where
        by : (r : Result Entry ℤ) → change_to_id (bare_volume keep v) (bare_choice keep r) make now ≡ bare_outcome keep (change_to_id v r make now)
        by (Ok e) = ap (λ (items : Items). (changed_to (bare_volume keep v) items now, success (value.Id e.0))) (same e)
        by (Err code) = refl

    -- ---- the calls

    pub create-bare : (kind : Kind) → ((kept : Bool) → bare_kind kept kind ≡ kind) → (dir : ℕ) (name : List ℕ)
        → create kind (bare_volume keep v) dir name now ≡ bare_outcome keep (create kind v dir name now)
    create-bare kind plain dir name = create-mapped (by_keep keep) (tells-bare keep) v now kind (plain (keep v.next_id)) dir name

    pub delete-bare : (dir : ℕ) (name : List ℕ) → delete (bare_volume keep v) dir name now ≡ bare_outcome keep (delete v dir name now)
    delete-bare = delete-mapped (by_keep keep) (tells-bare keep) v now

    pub rename-bare : (dir : ℕ) (name new_name : List ℕ) → rename (bare_volume keep v) dir name new_name now ≡ bare_outcome keep (rename v dir name new_name now)
    unfolding rename
    rename-bare dir name new_name =
        change-bare (to_rename (bare_volume keep v) dir name new_name) (to_rename v dir name new_name) (λ e m. fin.insert m e.0 (record e.1 { name = new_name }))
        (to_rename-bare keep v dir name new_name) (λ e. insert-bare keep v.items e.0 (record e.1 { name = new_name }))

    pub cat_move-bare : (dir : ℕ) (name : List ℕ) (new_dir : ℕ) → cat_move (bare_volume keep v) dir name new_dir now ≡ bare_outcome keep (cat_move v dir name new_dir now)
    unfolding cat_move
    cat_move-bare dir name new_dir =
        change-bare (to_move (bare_volume keep v) dir name new_dir) (to_move v dir name new_dir) (λ e m. moved m e dir new_dir now) (to_move-bare keep v dir name new_dir)
        (λ e.
        let there = fin.insert v.items e.0 (record e.1 { parent = new_dir }) in
        ap (λ (m : Items). touched (touched m dir now) new_dir now) (insert-bare keep v.items e.0 (record e.1 { parent = new_dir }))
        ∙ ap (λ (m : Items). touched m new_dir now) (touched-bare there dir now) ∙ touched-bare (touched there dir now) new_dir now)

    pub set_f_info-bare : (dir : ℕ) (name info : List ℕ) → set_f_info (bare_volume keep v) dir name info now ≡ bare_outcome keep (set_f_info v dir name info now)
    unfolding set_f_info
    set_f_info-bare dir name info =
        change-bare (to_set_f_info (bare_volume keep v) dir name) (to_set_f_info v dir name)
        (λ e m. fin.insert m e.0 (record e.1 { finder = info ++ drop 16 e.1.finder })) (to_set_f_info-bare keep v dir name)
        (λ e. insert-bare keep v.items e.0 (record e.1 { finder = info ++ drop 16 e.1.finder }))

    pub set_cat_info-bare : (dir : ℕ) (name : List ℕ) (created modified backup : ℕ) (info : List ℕ)
        → set_cat_info (bare_volume keep v) dir name created modified backup info now ≡ bare_outcome keep (set_cat_info v dir name created modified backup info now)
    set_cat_info-bare = set_cat_info-mapped (by_keep keep) (tells-bare keep) v now

    pub set_lock-bare : (locked : Bool) (dir : ℕ) (name : List ℕ) → set_lock locked (bare_volume keep v) dir name now ≡ bare_outcome keep (set_lock locked v dir name now)
    set_lock-bare = set_lock-mapped (by_keep keep) (tells-bare keep) v now

    pub create_file_id-bare : (dir : ℕ) (name : List ℕ) → create_file_id (bare_volume keep v) dir name now ≡ bare_outcome keep (create_file_id v dir name now)
    unfolding create_file_id
    create_file_id-bare dir name =
        id-bare (to_create_file_id (bare_volume keep v) dir name) (to_create_file_id v dir name) (set_thread true) (to_create_file_id-bare keep v dir name)
        (λ e. entry_thread-bare true e v.items)

    pub delete_file_id-bare : (id : ℕ) → delete_file_id (bare_volume keep v) id now ≡ bare_outcome keep (delete_file_id v id now)
    unfolding delete_file_id
    delete_file_id-bare id =
        change-bare (to_delete_file_id (bare_volume keep v) id) (to_delete_file_id v id) (set_thread false) (to_delete_file_id-bare keep v id)
        (λ e. entry_thread-bare false e v.items)

    -- ---- the calls that write forks, whose own bytes are no zeros: both volumes are bared behind them

    -- the same but for the bytes of forks, and the same reply
    pub record EndsBare (there here : Outcome) : Type 0 where
      pub volume : bare_volume keep there.0 ≡ bare_volume keep here.0
      pub reply : there.1 ≡ here.1

    ends-bare : (s r : Result Entry ℤ) (make : Entry → Items → Items) → s ≡ bare_choice keep r
        → ((e : Entry) → bare_items keep (make (bare keep e) (bare_items keep v.items)) ≡ bare_items keep (make e v.items))
        → EndsBare (change (bare_volume keep v) s make now) (change v r make now)
    ends-bare s r make chosen same = subst (λ (t : Result Entry ℤ). EndsBare (change (bare_volume keep v) t make now) (change v r make now)) (sym chosen) (by r)
      where
        by : (r : Result Entry ℤ) → EndsBare (change (bare_volume keep v) (bare_choice keep r) make now) (change v r make now)
        by (Ok e) = record { volume = ap (λ (items : Items). changed_to v items now) (same e); reply = refl }
        by (Err code) = record { volume = ap (λ (items : Items). record v { items = items }) (items-twice keep v.items); reply = refl }

    -- an entry whose fork was made anew
    fork_put-bare : (size : ℕ) (fork : Fork) (make : List ℕ → List ℕ) → ByLength make → (e : Entry)
        → bare_items keep (edits size fork make now (bare keep e) (bare_items keep v.items)) ≡ bare_items keep (edits size fork make now e v.items)
    fork_put-bare size fork make by e =
        let x = edited size fork make now (bare_item (keep e.0) e.1) in
        sym (insert-bare keep (bare_items keep v.items) e.0 x)
        ∙ ap (λ (items : Items). fin.insert items e.0 (bare_item (keep e.0) x)) (items-twice keep v.items)
        ∙ ap (λ (k : Kind). fin.insert (bare_items keep v.items) e.0 (record e.1 { modified = now; kind = k })) (fork_kind-bare size fork make by (keep e.0) e.1.kind)
        ∙ insert-bare keep v.items e.0 (edited size fork make now e.1)

    pub set_eof-bare : (size dir : ℕ) (name : List ℕ) (fork : Fork) (length : ℕ) → EndsBare (set_eof size (bare_volume keep v) dir name fork length now) (set_eof size v dir name fork length now)
    unfolding set_eof
    set_eof-bare size dir name fork length =
        ends-bare (to_set_eof (bare_volume keep v) dir name length) (to_set_eof v dir name length) (edits size fork (resized length) now) (to_set_eof-bare keep v dir name length)
        (fork_put-bare size fork (resized length) (resized-by length))

    pub write_fork-bare : (size dir : ℕ) (name : List ℕ) (fork : Fork) (offset : ℕ) (bytes : List ℕ)
        → EndsBare (write_fork size (bare_volume keep v) dir name fork offset bytes now) (write_fork size v dir name fork offset bytes now)
    unfolding write_fork
    write_fork-bare size dir name fork offset bytes =
        ends-bare (to_write_fork (bare_volume keep v) dir name fork offset bytes) (to_write_fork v dir name fork offset bytes) (edits size fork (written offset bytes) now)
        (to_write_fork-bare keep v dir name fork offset bytes) (fork_put-bare size fork (written offset bytes) (written-by offset bytes))
