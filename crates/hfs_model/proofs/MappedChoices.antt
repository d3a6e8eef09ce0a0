-- What calls choose among items whose kinds were changed by their IDs.
use Rattle.std.proofs.Common.{◌≡◌, ℕ, Bool, true, false, cond, List, map, Option, Some, None, is_some, Result, Ok, Err, refl, ap, ◌∙◌}
use Rattle.std.specs.Prelude.{ℤ, not, ◌&&◌, ◌||◌, ◌==◌, nat_lt, if◌then◌else◌}
use Rattle.std.specs.Option.{option_map, ok_or}
use Rattle.hfs_fields.specs.Names.{is_item_name}
use Rattle.hfs_model.specs.declared.codes.TheConstants.{FOLDER_FULL, BAD_NAME, NOT_FOUND, FILE_LOCKED, BUSY, DUPLICATE, NOT_A_FOLDER, PARAMETER}
use Rattle.hfs_model.specs.Children.{is_folder, is_folder_kind, child_named, valence, entries_of}
use Rattle.hfs_model.specs.Choices.{and_then, is_locked, lock_code, is_busy, is_full, is_held, child_to_change, file_to_change, unless_locked_file, to_create, to_delete, to_set_cat_info}
use Rattle.hfs_model.specs.ForkCalls.{file_to_write, to_set_eof}
use Rattle.hfs_model.specs.declared.item.Kind.{Kind}
use Rattle.hfs_model.specs.Replies.{is_locked_file}
use Rattle.hfs_model.specs.Volume.{Entry, Volume}
use Rattle.hfs_model.proofs.MappedEntries.{mapped_entry, mapped, TellsSame, some-mapped, child_named-mapped, is_folder-mapped, valence-mapped, entries-mapped}

-- the chosen entry, with its kind changed
abbrev pub mapped_choice : (ℕ → Kind → Kind) → Result Entry ℤ → Result Entry ℤ
mapped_choice g (Ok e) = Ok (mapped_entry g e)
mapped_choice g (Err code) = Err code

module _ (g : ℕ → Kind → Kind) (tells : TellsSame g) where
  -- ---- choices one behind the other

  pub err-or-mapped : (b : Bool) (code : ℤ) (r s : Result Entry ℤ) → r ≡ mapped_choice g s → cond b (Err code) r ≡ mapped_choice g (cond b (Err code) s)
  err-or-mapped true code r s same = refl
  err-or-mapped false code r s same = same

  pub ok-mapped : (o : Option Entry) (code : ℤ) → ok_or (option_map (mapped_entry g) o) code ≡ mapped_choice g (ok_or o code)
  ok-mapped None code = refl
  ok-mapped (Some e) code = refl

  pub then-mapped : (r : Result Entry ℤ) (f h : Entry → Result Entry ℤ) → ((e : Entry) → f (mapped_entry g e) ≡ mapped_choice g (h e))
      → and_then (mapped_choice g r) f ≡ mapped_choice g (and_then r h)
  then-mapped (Ok e) f h same = same e
  then-mapped (Err code) f h same = refl

  pub unless_locked-mapped : (e : Entry) → unless_locked_file (mapped_entry g e) ≡ mapped_choice g (unless_locked_file e)
  unless_locked-mapped e =
      ap (λ (b : Bool). cond b (Err FILE_LOCKED) (Ok (mapped_entry g e))) (tells.locked e.0 e.1.kind)
      ∙ err-or-mapped (is_locked_file e.1.kind) FILE_LOCKED (Ok (mapped_entry g e)) (Ok e) refl

  pub unless_folder-mapped : (e : Entry) → cond (is_folder_kind (mapped_entry g e).1.kind) (Err NOT_FOUND) (Ok (mapped_entry g e))
      ≡ mapped_choice g (cond (is_folder_kind e.1.kind) (Err NOT_FOUND) (Ok e))
  unless_folder-mapped e =
      ap (λ (b : Bool). cond b (Err NOT_FOUND) (Ok (mapped_entry g e))) (tells.folder e.0 e.1.kind)
      ∙ err-or-mapped (is_folder_kind e.1.kind) NOT_FOUND (Ok (mapped_entry g e)) (Ok e) refl

  module _ (v : Volume) where
    abbrev es : List Entry
    es = entries_of v

    pub are : entries_of (mapped g v) ≡ map (mapped_entry g) es
    are = entries-mapped g v.items

    pub folder-is-mapped : (dir : ℕ) → is_folder (entries_of (mapped g v)) dir ≡ is_folder es dir
    folder-is-mapped dir = ap (λ (l : List Entry). is_folder l dir) are ∙ is_folder-mapped g tells es dir

    pub valence-is-mapped : (dir : ℕ) → valence (entries_of (mapped g v)) dir ≡ valence es dir
    valence-is-mapped dir = ap (λ (l : List Entry). valence l dir) are ∙ valence-mapped g es dir

    pub child-is : (dir : ℕ) (name : List ℕ) → child_named (entries_of (mapped g v)) dir name ≡ option_map (mapped_entry g) (child_named es dir name)
    child-is dir name = ap (λ (l : List Entry). child_named l dir name) are ∙ child_named-mapped g es dir name

    pub held-is-mapped : (dir : ℕ) (name : List ℕ) → is_held (entries_of (mapped g v)) dir name ≡ is_held es dir name
    unfolding is_held
    held-is-mapped dir name = ap (λ (o : Option Entry). is_some o) (child-is dir name) ∙ some-mapped g (child_named es dir name)

    pub full-is-mapped : (dir : ℕ) → is_full (entries_of (mapped g v)) dir ≡ is_full es dir
    unfolding is_full
    full-is-mapped dir = ap (λ (n : ℕ). not (nat_lt n 65535)) (valence-is-mapped dir)

    pub busy-is-mapped : (e : Entry) → is_busy (entries_of (mapped g v)) (mapped_entry g e) ≡ is_busy es e
    unfolding is_busy
    busy-is-mapped e = λ i. tells.folder e.0 e.1.kind i && nat_lt 0 (valence-is-mapped e.0 i)

    -- ---- the choices

    pub child_to_change-mapped : (dir : ℕ) (name : List ℕ) → child_to_change (mapped g v) dir name ≡ mapped_choice g (child_to_change v dir name)
    unfolding child_to_change
    child_to_change-mapped dir name =
        let found = ok_or (child_named (entries_of (mapped g v)) dir name) NOT_FOUND in
        let here = ok_or (child_named es dir name) NOT_FOUND in
        let same : found ≡ mapped_choice g here = ap (λ (o : Option Entry). ok_or o NOT_FOUND) (child-is dir name)
        ∙ ok-mapped (child_named es dir name) NOT_FOUND in
        let behind : cond (not (is_folder (entries_of (mapped g v)) dir)) (Err NOT_A_FOLDER) found
        ≡ mapped_choice g (cond (not (is_folder es dir)) (Err NOT_A_FOLDER) here) =
        ap (λ (b : Bool). cond (not b) (Err NOT_A_FOLDER) found) (folder-is-mapped dir) ∙ err-or-mapped (not (is_folder es dir)) NOT_A_FOLDER found here same in
        err-or-mapped (is_locked v) (lock_code v) (cond (not (is_item_name name)) (Err BAD_NAME) (cond (not (is_folder (entries_of (mapped g v)) dir))
        (Err NOT_A_FOLDER) found))
        (cond (not (is_item_name name)) (Err BAD_NAME) (cond (not (is_folder es dir)) (Err NOT_A_FOLDER) here))
        (err-or-mapped (not (is_item_name name)) BAD_NAME (cond (not (is_folder (entries_of (mapped g v)) dir)) (Err NOT_A_FOLDER) found)
        (cond (not (is_folder es dir)) (Err NOT_A_FOLDER) here) behind)

    -- a choice behind that one
    pub behind-child-mapped : (dir : ℕ) (name : List ℕ) (f h : Entry → Result Entry ℤ) → ((e : Entry) → f (mapped_entry g e) ≡ mapped_choice g (h e))
        → and_then (child_to_change (mapped g v) dir name) f ≡ mapped_choice g (and_then (child_to_change v dir name) h)
    behind-child-mapped dir name f h same =
        ap (λ (r : Result Entry ℤ). and_then r f) (child_to_change-mapped dir name) ∙ then-mapped (child_to_change v dir name) f h same

    pub file_to_change-mapped : (dir : ℕ) (name : List ℕ) → file_to_change (mapped g v) dir name ≡ mapped_choice g (file_to_change v dir name)
    unfolding file_to_change
    file_to_change-mapped dir name =
        behind-child-mapped dir name (λ e. if is_folder_kind e.1.kind then Err NOT_FOUND else Ok e)
        (λ e. if is_folder_kind e.1.kind then Err NOT_FOUND else Ok e)
        unless_folder-mapped

    pub to_create-mapped : (dir : ℕ) (name : List ℕ) → to_create (mapped g v) dir name ≡ to_create v dir name
    unfolding to_create
    to_create-mapped dir name = λ i.
        if is_locked v then Err (lock_code v)
        else if not (is_item_name name) then Err BAD_NAME
        else if not (folder-is-mapped dir i) then Err NOT_A_FOLDER
        else if held-is-mapped dir name i then Err DUPLICATE
        else if full-is-mapped dir i || (v.next_id == 4294967295) then Err FOLDER_FULL
        else Ok v.next_id

    pub to_delete-mapped : (dir : ℕ) (name : List ℕ) → to_delete (mapped g v) dir name ≡ mapped_choice g (to_delete v dir name)
    unfolding to_delete
    to_delete-mapped dir name =
        behind-child-mapped dir name (λ e. if is_busy (entries_of (mapped g v)) e then Err BUSY else unless_locked_file e)
        (λ e. if is_busy es e then Err BUSY else unless_locked_file e)
        (λ e. ap (λ (b : Bool). cond b (Err BUSY) (unless_locked_file (mapped_entry g e))) (busy-is-mapped e)
        ∙ err-or-mapped (is_busy es e) BUSY (unless_locked_file (mapped_entry g e)) (unless_locked_file e) (unless_locked-mapped e))

    pub to_set_cat_info-mapped : (dir : ℕ) (name : List ℕ) → to_set_cat_info (mapped g v) dir name ≡ mapped_choice g (to_set_cat_info v dir name)
    unfolding to_set_cat_info
    to_set_cat_info-mapped dir name = behind-child-mapped dir name unless_locked_file unless_locked_file unless_locked-mapped

    pub file_to_write-mapped : (dir : ℕ) (name : List ℕ) → file_to_write (mapped g v) dir name ≡ mapped_choice g (file_to_write v dir name)
    file_to_write-mapped dir name =
        ap (λ (r : Result Entry ℤ). and_then r unless_locked_file) (file_to_change-mapped dir name)
        ∙ then-mapped (file_to_change v dir name) unless_locked_file unless_locked_file unless_locked-mapped

    pub to_set_eof-mapped : (dir : ℕ) (name : List ℕ) (length : ℕ) → to_set_eof (mapped g v) dir name length
        ≡ mapped_choice g (to_set_eof v dir name length)
    unfolding to_set_eof
    to_set_eof-mapped dir name length =
        err-or-mapped (nat_lt 2147483647 length) PARAMETER (file_to_write (mapped g v) dir name) (file_to_write v dir name) (file_to_write-mapped dir name)
