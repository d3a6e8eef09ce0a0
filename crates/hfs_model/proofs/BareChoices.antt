-- What calls choose, which no byte of a fork decides.
use Rattle.std.proofs.Common.{◌≡◌, ℕ, zero, suc, ◌+◌, Bool, true, false, cond, List, length, map, Option, is_some, Result, Ok, Err, refl, ap, ◌∙◌}
use Rattle.std.specs.Prelude.{ℤ, not, ◌&&◌, ◌||◌, ◌==◌, nat_lt, find}
use Rattle.std.specs.Option.{option_map, option_map_or, ok_or}
use Rattle.std.proofs.lemmas.List.{length-map}
use Rattle.hfs_fields.specs.Names.{is_item_name}
use Rattle.hfs_model.specs.declared.codes.TheConstants.{FOLDER_FULL, BAD_NAME, DUPLICATE, NOT_A_FOLDER, BAD_MOVE, END_OF_FILE, PARAMETER, FILE_ID_NOT_FOUND, FILE_ID_EXISTS, NOT_A_FILE}
use Rattle.hfs_model.specs.Children.{is_folder, is_folder_kind, valence, entries_of, entry_at}
use Rattle.hfs_model.specs.Choices.{and_then, is_locked, lock_code, is_busy, is_full, is_held, is_other_named, is_taken, lies_in, is_bad_move, child_to_change, file_to_change, unless_locked_file, to_create, to_delete, to_rename, to_move, to_set_f_info, to_set_cat_info}
use Rattle.hfs_model.specs.Forks.{fork_bytes}
use Rattle.hfs_model.specs.ForkCalls.{file_to_write, to_set_eof, unless_past_end, to_write_fork}
use Rattle.hfs_model.specs.declared.call.Fork.{Fork}
use Rattle.hfs_model.specs.declared.call.Fork.TheVariants.{DataFork, ResFork}
use Rattle.hfs_model.specs.declared.item.Kind.{Kind}
use Rattle.hfs_model.specs.FileIds.{unless_has_thread, if_has_thread, file_of_id, to_create_file_id, to_delete_file_id, place_reply}
use Rattle.hfs_model.specs.Replies.{has_thread}
use Rattle.hfs_model.specs.Volume.{Entry, Volume}
use Rattle.hfs_model.specs.Alike.{bare_kind, bare, bare_volume}
use Rattle.hfs_model.proofs.MappedChoices.{mapped_choice, err-or-mapped, ok-mapped, then-mapped, unless_locked-mapped, folder-is-mapped, valence-is-mapped, held-is-mapped, full-is-mapped, busy-is-mapped, child_to_change-mapped, behind-child-mapped, file_to_change-mapped, to_create-mapped, to_delete-mapped, to_set_cat_info-mapped, file_to_write-mapped, to_set_eof-mapped}
use Rattle.hfs_model.proofs.BareEntries.{by_keep, tells-bare, folder-bare, thread-bare, data-bare, resource-bare, find-bare, or-bare, some-bare, entry_at-bare, entries-bare}

-- the chosen entry with zeros in its forks
abbrev pub bare_choice : (ℕ → Bool) → Result Entry ℤ → Result Entry ℤ
bare_choice keep r = mapped_choice (by_keep keep) r

-- a fork stays as long
pub fork-bare : (fork : Fork) (kept : Bool) (k : Kind) → length (fork_bytes fork (bare_kind kept k)) ≡ length (fork_bytes fork k)
fork-bare DataFork kept k = data-bare kept k
fork-bare ResFork kept k = resource-bare kept k

module _ (keep : ℕ → Bool) where
  -- ---- choices one behind the other

  err-or : (b : Bool) (code : ℤ) (r s : Result Entry ℤ) → r ≡ bare_choice keep s → cond b (Err code) r ≡ bare_choice keep (cond b (Err code) s)
  err-or = err-or-mapped (by_keep keep) (tells-bare keep)

  ok-bare : (o : Option Entry) (code : ℤ) → ok_or (option_map (bare keep) o) code ≡ bare_choice keep (ok_or o code)
  ok-bare = ok-mapped (by_keep keep) (tells-bare keep)

  then-bare : (r : Result Entry ℤ) (f g : Entry → Result Entry ℤ) → ((e : Entry) → f (bare keep e) ≡ bare_choice keep (g e)) → and_then (bare_choice keep r) f ≡ bare_choice keep (and_then r g)
  then-bare = then-mapped (by_keep keep) (tells-bare keep)

  -- ---- tests of one entry

  unless_locked-bare : (e : Entry) → unless_locked_file (bare keep e) ≡ bare_choice keep (unless_locked_file e)
  unless_locked-bare = unless_locked-mapped (by_keep keep) (tells-bare keep)

  unless_folder-bare : (code : ℤ) (e : Entry) (r s : Result Entry ℤ) → r ≡ bare_choice keep s
      → cond (is_folder_kind (bare keep e).1.kind) (Err code) r ≡ bare_choice keep (cond (is_folder_kind e.1.kind) (Err code) s)
  unless_folder-bare code e r s same =
      ap (λ (b : Bool). cond b (Err code) r) (folder-bare (keep e.0) e.1.kind) ∙ err-or (is_folder_kind e.1.kind) code r s same

  unless_thread-bare : (e : Entry) → unless_has_thread (bare keep e) ≡ bare_choice keep (unless_has_thread e)
  unless_thread-bare e = unless_folder-bare NOT_A_FILE e (cond (has_thread (bare keep e).1.kind) (Err FILE_ID_EXISTS) (Ok (bare keep e)))
      (cond (has_thread e.1.kind) (Err FILE_ID_EXISTS) (Ok e))
      (ap (λ (b : Bool). cond b (Err FILE_ID_EXISTS) (Ok (bare keep e))) (thread-bare (keep e.0) e.1.kind) ∙ err-or (has_thread e.1.kind) FILE_ID_EXISTS (Ok (bare keep e)) (Ok e) refl)

  or-err : (b : Bool) (code : ℤ) (r s : Result Entry ℤ) → r ≡ bare_choice keep s → cond b r (Err code) ≡ bare_choice keep (cond b s (Err code))
  or-err true code r s same = same
  or-err false code r s same = refl

  if_thread-bare : (e : Entry) → if_has_thread (bare keep e) ≡ bare_choice keep (if_has_thread e)
  if_thread-bare e = unless_folder-bare NOT_A_FILE e (cond (has_thread (bare keep e).1.kind) (Ok (bare keep e)) (Err FILE_ID_NOT_FOUND))
      (cond (has_thread e.1.kind) (Ok e) (Err FILE_ID_NOT_FOUND))
      (ap (λ (b : Bool). cond b (Ok (bare keep e)) (Err FILE_ID_NOT_FOUND)) (thread-bare (keep e.0) e.1.kind) ∙ or-err (has_thread e.1.kind) FILE_ID_NOT_FOUND (Ok (bare keep e)) (Ok e) refl)

  pub file_of_id-bare : (es : List Entry) (id : ℕ) → file_of_id (map (bare keep) es) id ≡ bare_choice keep (file_of_id es id)
  unfolding file_of_id
  file_of_id-bare es id =
      ap (λ (o : Option Entry). and_then (ok_or o FILE_ID_NOT_FOUND) if_has_thread) (entry_at-bare keep es id)
      ∙ ap (λ (r : Result Entry ℤ). and_then r if_has_thread) (ok-bare (entry_at es id) FILE_ID_NOT_FOUND)
      ∙ then-bare (ok_or (entry_at es id) FILE_ID_NOT_FOUND) if_has_thread if_has_thread if_thread-bare

  pub place-reply-bare : (r : Result Entry ℤ) → place_reply (bare_choice keep r) ≡ place_reply r
  place-reply-bare (Ok e) = refl
  place-reply-bare (Err code) = refl

  -- ---- tests of a volume

  lies_in-bare : (es : List Entry) (n id up : ℕ) → lies_in (map (bare keep) es) n id up ≡ lies_in es n id up
  unfolding lies_in
  lies_in-bare es zero id up = refl
  lies_in-bare es (suc n) id up =
      ap (λ (b : Bool). (id == up) || b)
      (ap (λ (o : Option Entry). option_map_or (λ (e : Entry). lies_in (map (bare keep) es) n e.1.parent up) o false) (entry_at-bare keep es id)
      ∙ or-bare keep (λ (e : Entry). lies_in (map (bare keep) es) n e.1.parent up) (λ (e : Entry). lies_in es n e.1.parent up) (λ e. lies_in-bare es n e.1.parent up)
      (entry_at es id) false)

  module _ (v : Volume) where
    abbrev es : List Entry
    es = entries_of v

    pub are : entries_of (bare_volume keep v) ≡ map (bare keep) es
    are = entries-bare keep v.items

    folder-is : (dir : ℕ) → is_folder (entries_of (bare_volume keep v)) dir ≡ is_folder es dir
    folder-is = folder-is-mapped (by_keep keep) (tells-bare keep) v

    valence-is : (dir : ℕ) → valence (entries_of (bare_volume keep v)) dir ≡ valence es dir
    valence-is = valence-is-mapped (by_keep keep) (tells-bare keep) v

    held-is : (dir : ℕ) (name : List ℕ) → is_held (entries_of (bare_volume keep v)) dir name ≡ is_held es dir name
    held-is = held-is-mapped (by_keep keep) (tells-bare keep) v

    taken-is : (dir : ℕ) (name : List ℕ) (id : ℕ) → is_taken (entries_of (bare_volume keep v)) dir name id ≡ is_taken es dir name id
    unfolding is_taken
    taken-is dir name id =
        ap (λ (l : List Entry). is_some (find (is_other_named dir name id) l)) are
        ∙ ap (λ (o : Option Entry). is_some o) (find-bare keep (is_other_named dir name id) (λ e. refl) es) ∙ some-bare keep (find (is_other_named dir name id) es)

    full-is : (dir : ℕ) → is_full (entries_of (bare_volume keep v)) dir ≡ is_full es dir
    full-is = full-is-mapped (by_keep keep) (tells-bare keep) v

    busy-is : (e : Entry) → is_busy (entries_of (bare_volume keep v)) (bare keep e) ≡ is_busy es e
    busy-is = busy-is-mapped (by_keep keep) (tells-bare keep) v

    bad-is : (e : Entry) (dir : ℕ) → is_bad_move (entries_of (bare_volume keep v)) (bare keep e) dir ≡ is_bad_move es e dir
    unfolding is_bad_move
    bad-is e dir =
        let lies = (λ i. lies_in (are i) (length (are i)) dir e.0) ∙ ap (λ (n : ℕ). lies_in (map (bare keep) es) n dir e.0) (length-map es (bare keep)) ∙ lies_in-bare es (length es) dir e.0 in
        λ i. folder-bare (keep e.0) e.1.kind i && lies i

    -- ---- the choices

    pub child_to_change-bare : (dir : ℕ) (name : List ℕ) → child_to_change (bare_volume keep v) dir name ≡ bare_choice keep (child_to_change v dir name)
    child_to_change-bare = child_to_change-mapped (by_keep keep) (tells-bare keep) v

    -- a choice behind that one
    behind-child : (dir : ℕ) (name : List ℕ) (f g : Entry → Result Entry ℤ) → ((e : Entry) → f (bare keep e) ≡ bare_choice keep (g e))
        → and_then (child_to_change (bare_volume keep v) dir name) f ≡ bare_choice keep (and_then (child_to_change v dir name) g)
    behind-child = behind-child-mapped (by_keep keep) (tells-bare keep) v

    pub file_to_change-bare : (dir : ℕ) (name : List ℕ) → file_to_change (bare_volume keep v) dir name ≡ bare_choice keep (file_to_change v dir name)
    file_to_change-bare = file_to_change-mapped (by_keep keep) (tells-bare keep) v

    pub to_create-bare : (dir : ℕ) (name : List ℕ) → to_create (bare_volume keep v) dir name ≡ to_create v dir name
    to_create-bare = to_create-mapped (by_keep keep) (tells-bare keep) v

    pub to_delete-bare : (dir : ℕ) (name : List ℕ) → to_delete (bare_volume keep v) dir name ≡ bare_choice keep (to_delete v dir name)
    to_delete-bare = to_delete-mapped (by_keep keep) (tells-bare keep) v

    pub to_rename-bare : (dir : ℕ) (name new_name : List ℕ) → to_rename (bare_volume keep v) dir name new_name ≡ bare_choice keep (to_rename v dir name new_name)
    unfolding to_rename
    to_rename-bare dir name new_name =
        let free = λ (l : List Entry) (e : Entry). cond (is_taken l dir new_name e.0) (Err DUPLICATE) (Ok e) in
        let here = and_then (child_to_change v dir name) unless_locked_file in
        let there = and_then (child_to_change (bare_volume keep v) dir name) unless_locked_file in
        let same : there ≡ bare_choice keep here = behind-child dir name unless_locked_file unless_locked_file unless_locked-bare in
        let last : and_then there (free (entries_of (bare_volume keep v))) ≡ bare_choice keep (and_then here (free es)) =
        ap (λ (r : Result Entry ℤ). and_then r (free (entries_of (bare_volume keep v)))) same
        ∙ then-bare here (free (entries_of (bare_volume keep v))) (free es) (λ e. ap (λ (b : Bool). cond b (Err DUPLICATE) (Ok (bare keep e))) (taken-is dir new_name e.0)
        ∙ err-or (is_taken es dir new_name e.0) DUPLICATE (Ok (bare keep e)) (Ok e) refl) in
        err-or (is_locked v) (lock_code v) (cond (not (is_item_name new_name)) (Err BAD_NAME) (and_then there (free (entries_of (bare_volume keep v)))))
        (cond (not (is_item_name new_name)) (Err BAD_NAME) (and_then here (free es)))
        (err-or (not (is_item_name new_name)) BAD_NAME (and_then there (free (entries_of (bare_volume keep v)))) (and_then here (free es)) last)

    pub to_move-bare : (dir : ℕ) (name : List ℕ) (new_dir : ℕ) → to_move (bare_volume keep v) dir name new_dir ≡ bare_choice keep (to_move v dir name new_dir)
    unfolding to_move
    to_move-bare dir name new_dir =
        let place = λ (folder bad held full : Bool) (e : Entry).
        cond (not folder) (Err NOT_A_FOLDER) (cond bad (Err BAD_MOVE) (cond held (Err DUPLICATE) (cond full (Err FOLDER_FULL) (Ok e)))) in
        let placed = λ (l : List Entry) (e : Entry). place (is_folder l new_dir) (is_bad_move l e new_dir) (is_held l new_dir name) (is_full l new_dir) e in
        behind-child dir name (placed (entries_of (bare_volume keep v))) (placed es)
        (λ e.
        let bad = is_bad_move es e new_dir in
        let held = is_held es new_dir name in
        let full = is_full es new_dir in
        (λ i. place (folder-is new_dir i) (bad-is e new_dir i) (held-is new_dir name i) (full-is new_dir i) (bare keep e))
        ∙ err-or (not (is_folder es new_dir)) NOT_A_FOLDER (cond bad (Err BAD_MOVE) (cond held (Err DUPLICATE) (cond full (Err FOLDER_FULL) (Ok (bare keep e)))))
        (cond bad (Err BAD_MOVE) (cond held (Err DUPLICATE) (cond full (Err FOLDER_FULL) (Ok e))))
        (err-or bad BAD_MOVE (cond held (Err DUPLICATE) (cond full (Err FOLDER_FULL) (Ok (bare keep e)))) (cond held (Err DUPLICATE) (cond full (Err FOLDER_FULL) (Ok e)))
        (err-or held DUPLICATE (cond full (Err FOLDER_FULL) (Ok (bare keep e))) (cond full (Err FOLDER_FULL) (Ok e))
        (err-or full FOLDER_FULL (Ok (bare keep e)) (Ok e) refl))))

    pub to_set_f_info-bare : (dir : ℕ) (name : List ℕ) → to_set_f_info (bare_volume keep v) dir name ≡ bare_choice keep (to_set_f_info v dir name)
    unfolding to_set_f_info
    to_set_f_info-bare dir name =
        ap (λ (r : Result Entry ℤ). and_then r unless_locked_file) (file_to_change-bare dir name)
        ∙ then-bare (file_to_change v dir name) unless_locked_file unless_locked_file unless_locked-bare

    pub to_set_cat_info-bare : (dir : ℕ) (name : List ℕ) → to_set_cat_info (bare_volume keep v) dir name ≡ bare_choice keep (to_set_cat_info v dir name)
    to_set_cat_info-bare = to_set_cat_info-mapped (by_keep keep) (tells-bare keep) v

    pub to_create_file_id-bare : (dir : ℕ) (name : List ℕ) → to_create_file_id (bare_volume keep v) dir name ≡ bare_choice keep (to_create_file_id v dir name)
    unfolding to_create_file_id
    to_create_file_id-bare dir name = behind-child dir name unless_has_thread unless_has_thread unless_thread-bare

    pub to_delete_file_id-bare : (id : ℕ) → to_delete_file_id (bare_volume keep v) id ≡ bare_choice keep (to_delete_file_id v id)
    unfolding to_delete_file_id
    to_delete_file_id-bare id = err-or (is_locked v) (lock_code v) (file_of_id (entries_of (bare_volume keep v)) id) (file_of_id es id)
        (ap (λ (l : List Entry). file_of_id l id) are ∙ file_of_id-bare es id)

    file_to_write-bare : (dir : ℕ) (name : List ℕ) → file_to_write (bare_volume keep v) dir name ≡ bare_choice keep (file_to_write v dir name)
    file_to_write-bare = file_to_write-mapped (by_keep keep) (tells-bare keep) v

    pub to_set_eof-bare : (dir : ℕ) (name : List ℕ) (length : ℕ) → to_set_eof (bare_volume keep v) dir name length ≡ bare_choice keep (to_set_eof v dir name length)
    to_set_eof-bare = to_set_eof-mapped (by_keep keep) (tells-bare keep) v

    past_end-bare : (fork : Fork) (offset : ℕ) (e : Entry) → unless_past_end fork offset (bare keep e) ≡ bare_choice keep (unless_past_end fork offset e)
    past_end-bare fork offset e =
        ap (λ (n : ℕ). cond (nat_lt n offset) (Err END_OF_FILE) (Ok (bare keep e))) (fork-bare fork (keep e.0) e.1.kind)
        ∙ err-or (nat_lt (length (fork_bytes fork e.1.kind)) offset) END_OF_FILE (Ok (bare keep e)) (Ok e) refl

    pub to_write_fork-bare : (dir : ℕ) (name : List ℕ) (fork : Fork) (offset : ℕ) (bytes : List ℕ)
        → to_write_fork (bare_volume keep v) dir name fork offset bytes ≡ bare_choice keep (to_write_fork v dir name fork offset bytes)
    unfolding to_write_fork
    to_write_fork-bare dir name fork offset bytes =
        err-or (nat_lt 65536 (length bytes) || nat_lt 2147483647 (offset + length bytes)) PARAMETER
        (and_then (file_to_write (bare_volume keep v) dir name) (unless_past_end fork offset)) (and_then (file_to_write v dir name) (unless_past_end fork offset))
        (ap (λ (r : Result Entry ℤ). and_then r (unless_past_end fork offset)) (file_to_write-bare dir name)
        ∙ then-bare (file_to_write v dir name) (unless_past_end fork offset) (unless_past_end fork offset) (past_end-bare fork offset))
