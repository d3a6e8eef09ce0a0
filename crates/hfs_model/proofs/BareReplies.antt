-- The replies of calls that read, which tell no byte of a fork.
use Rattle.std.proofs.Common.{◌≡◌, ℕ, ◌+◌, ◌-◌, Bool, true, false, cond, List, length, map, Option, Some, None, refl, ap, ◌∙◌}
use Rattle.std.specs.Prelude.{pos, not, ◌==◌, nat_lt, if◌then◌else◌, slice_get, replicate}
use Rattle.std.specs.Option.{option_map, option_map_or}
use Rattle.std.proofs.lemmas.List.{length-replicate}
use Rattle.hfs_fields.specs.Names.{is_item_name}
use Rattle.hfs_model.specs.declared.call.Fork.{Fork}
use Rattle.hfs_model.specs.declared.call.Fork.TheVariants.{DataFork, ResFork}
use Rattle.hfs_model.specs.declared.codes.TheConstants.{BAD_NAME, END_OF_FILE, NOT_FOUND, PARAMETER, NOT_A_FOLDER}
use Rattle.hfs_model.specs.declared.item.Kind.{Kind}
use Rattle.hfs_model.specs.declared.item.Kind.TheVariants.{Folder, File}
use Rattle.hfs_model.specs.declared.reply.Info.{Info}
use Rattle.hfs_model.specs.declared.reply.Reply.{Reply}
use Rattle.hfs_model.specs.declared.reply.Value.TheVariants as value
use Rattle.hfs_model.specs.Children.{is_folder, is_folder_kind, child_named, entry_at, children}
use Rattle.hfs_model.specs.Reading.{one, get_dir_info, get_cat_info, get_indexed, list, part_of, fork_part, read_fork}
use Rattle.hfs_model.specs.Replies.{refusal, success, info_of, infos}
use Rattle.hfs_model.specs.Volume.{Entry}
use Rattle.hfs_model.specs.Alike.{bare_kind, bare}
use Rattle.hfs_model.proofs.BareEntries.{folder-bare, kind-bare, locked-bare, thread-bare, data-bare, resource-bare, or-bare, entry_at-bare, child_named-bare, is_folder-bare, valence-bare, children-bare, map-bare}

module _ (keep : ℕ → Bool) where
  pub info-bare : (es : List Entry) (e : Entry) → info_of (map (bare keep) es) (bare keep e) ≡ info_of es e
  unfolding info_of
  info-bare es e = λ i. record {
    id = e.0;
    parent = e.1.parent;
    name = e.1.name;
    kind = kind-bare (keep e.0) e.1.kind i;
    created = e.1.created;
    modified = e.1.modified;
    backup = e.1.backup;
    finder = e.1.finder;
    locked = locked-bare (keep e.0) e.1.kind i;
    has_id = thread-bare (keep e.0) e.1.kind i;
    valence = if folder-bare (keep e.0) e.1.kind i then valence-bare keep es e.0 i else 0;
    data_len = data-bare (keep e.0) e.1.kind i;
    res_len = resource-bare (keep e.0) e.1.kind i;
  }

  pub infos-bare : (es : List Entry) (dir : ℕ) → infos (map (bare keep) es) dir ≡ infos es dir
  infos-bare es dir =
      ap (map (info_of (map (bare keep) es))) (children-bare keep es dir) ∙ map-bare keep (info_of (map (bare keep) es)) (info_of es) (info-bare es) (children es dir)

  one-bare : (es : List Entry) (e : Entry) → one (map (bare keep) es) (bare keep e) ≡ one es e
  one-bare es e = ap (λ (info : Info). success (value.One info)) (info-bare es e)

  pub get_dir_info-bare : (es : List Entry) (dir : ℕ) → get_dir_info (map (bare keep) es) dir ≡ get_dir_info es dir
  unfolding get_dir_info
  get_dir_info-bare es dir =
      let told = λ (l : List Entry) (e : Entry). if is_folder_kind e.1.kind then one l e else refusal NOT_A_FOLDER in
      ap (λ (o : Option Entry). option_map_or (told (map (bare keep) es)) o (refusal NOT_A_FOLDER)) (entry_at-bare keep es dir)
      ∙ or-bare keep (told (map (bare keep) es)) (told es) (λ e. λ i. if folder-bare (keep e.0) e.1.kind i then one-bare es e i else refusal NOT_A_FOLDER) (entry_at es dir)
      (refusal NOT_A_FOLDER)

  named-bare : (es : List Entry) (dir : ℕ) (name : List ℕ)
      → option_map_or (one (map (bare keep) es)) (child_named (map (bare keep) es) dir name) (refusal NOT_FOUND) ≡ option_map_or (one es) (child_named es dir name) (refusal NOT_FOUND)
  named-bare es dir name =
      ap (λ (o : Option Entry). option_map_or (one (map (bare keep) es)) o (refusal NOT_FOUND)) (child_named-bare keep es dir name)
      ∙ or-bare keep (one (map (bare keep) es)) (one es) (one-bare es) (child_named es dir name) (refusal NOT_FOUND)

  pub get_cat_info-bare : (es : List Entry) (dir : ℕ) (name : List ℕ) → get_cat_info (map (bare keep) es) dir name ≡ get_cat_info es dir name
  unfolding get_cat_info
  get_cat_info-bare es dir name = λ i.
      if not (is_item_name name) then refusal BAD_NAME
      else if not (is_folder-bare keep es dir i) then refusal NOT_A_FOLDER
      else named-bare es dir name i

  pub get_indexed-bare : (es : List Entry) (dir index : ℕ) → get_indexed (map (bare keep) es) dir index ≡ get_indexed es dir index
  unfolding get_indexed
  get_indexed-bare es dir index = λ i.
      if index == 0 then refusal PARAMETER
      else if not (is_folder-bare keep es dir i) then refusal NOT_A_FOLDER
      else option_map_or (λ (info : Info). success (value.One info)) (slice_get (infos-bare es dir i) (index - 1)) (refusal NOT_FOUND)

  pub list-bare : (es : List Entry) (dir : ℕ) → list (map (bare keep) es) dir ≡ list es dir
  unfolding list
  list-bare es dir = λ i.
      if not (is_folder-bare keep es dir i) then refusal NOT_A_FOLDER
      else success (value.Many (infos-bare es dir i))

  -- ---- the code of a reply with bytes of a fork

  code-behind : (b : Bool) (r s t : Reply) → s.code ≡ t.code → (cond b r s).code ≡ (cond b r t).code
  code-behind true r s t same = refl
  code-behind false r s t same = same

  part-code : (bytes others : List ℕ) (offset count : ℕ) → length bytes ≡ length others → (part_of bytes offset count).code ≡ (part_of others offset count).code
  part-code bytes others offset count same = ap (λ (n : ℕ). if nat_lt n (offset + count) then END_OF_FILE else pos 0) same

  fork-code : (kept : Bool) (fork : Fork) (offset count : ℕ) (k : Kind) → (fork_part fork offset count (bare_kind kept k)).code ≡ (fork_part fork offset count k).code
  fork-code true fork offset count k = refl
  fork-code false fork offset count (Folder kept) = refl
  fork-code false DataFork offset count (File file) =
      part-code (replicate (length file.«data») 0) file.«data» offset count (length-replicate {A = ℕ} (length file.«data») 0)
  fork-code false ResFork offset count (File file) =
      part-code (replicate (length file.resource) 0) file.resource offset count (length-replicate {A = ℕ} (length file.resource) 0)

  found-code : (fork : Fork) (offset count : ℕ) (o : Option Entry)
      → (option_map_or (λ (e : Entry). fork_part fork offset count e.1.kind) (option_map (bare keep) o) (refusal NOT_FOUND)).code
      ≡ (option_map_or (λ (e : Entry). fork_part fork offset count e.1.kind) o (refusal NOT_FOUND)).code
  found-code fork offset count o = elim o
      as (λ (o : Option Entry). (option_map_or (λ (e : Entry). fork_part fork offset count e.1.kind) (option_map (bare keep) o) (refusal NOT_FOUND)).code
      ≡ (option_map_or (λ (e : Entry). fork_part fork offset count e.1.kind) o (refusal NOT_FOUND)).code) [
        | None ↦ refl
        | Some e ↦ fork-code (keep e.0) fork offset count e.1.kind
      ]

  pub read_fork-code : (es : List Entry) (dir : ℕ) (name : List ℕ) (fork : Fork) (offset count : ℕ)
      → (read_fork (map (bare keep) es) dir name fork offset count).code ≡ (read_fork es dir name fork offset count).code
  unfolding read_fork
  read_fork-code es dir name fork offset count =
      let part = λ (o : Option Entry). option_map_or (λ (e : Entry). fork_part fork offset count e.1.kind) o (refusal NOT_FOUND) in
      let behind = λ (there : Bool) (o : Option Entry). cond (not there) (refusal NOT_A_FOLDER) (part o) in
      let last : (behind (is_folder (map (bare keep) es) dir) (child_named (map (bare keep) es) dir name)).code ≡ (behind (is_folder es dir) (child_named es dir name)).code =
      (λ i. (behind (is_folder-bare keep es dir i) (child_named-bare keep es dir name i)).code)
      ∙ code-behind (not (is_folder es dir)) (refusal NOT_A_FOLDER) (part (option_map (bare keep) (child_named es dir name))) (part (child_named es dir name))
      (found-code fork offset count (child_named es dir name)) in
      let named = code-behind (not (is_item_name name)) (refusal BAD_NAME) (behind (is_folder (map (bare keep) es) dir) (child_named (map (bare keep) es) dir name))
      (behind (is_folder es dir) (child_named es dir name)) last in
      code-behind (nat_lt 65536 count) (refusal PARAMETER)
      (cond (not (is_item_name name)) (refusal BAD_NAME) (behind (is_folder (map (bare keep) es) dir) (child_named (map (bare keep) es) dir name)))
      (cond (not (is_item_name name)) (refusal BAD_NAME) (behind (is_folder es dir) (child_named es dir name))) named

  -- ---- the bytes of a fork that is kept

  pub read_fork-kept : (es : List Entry) (dir : ℕ) (name : List ℕ) (fork : Fork) (offset count : ℕ)
      → ((e : Entry) → child_named es dir name ≡ Some e → keep e.0 ≡ true) → read_fork (map (bare keep) es) dir name fork offset count ≡ read_fork es dir name fork offset count
  unfolding read_fork
  read_fork-kept es dir name fork offset count kept =
      let part = λ (o : Option Entry). option_map_or (λ (e : Entry). fork_part fork offset count e.1.kind) o (refusal NOT_FOUND) in
      let same = λ (o : Option Entry). elim o as (λ (o : Option Entry). child_named es dir name ≡ o → part (option_map (bare keep) o) ≡ part o) [
        | None ↦ λ e. refl
        | Some x ↦ λ e. ap (λ (b : Bool). fork_part fork offset count (bare_kind b x.1.kind)) (kept x e)
      ] in
      let found : part (child_named (map (bare keep) es) dir name) ≡ part (child_named es dir name) =
      ap part (child_named-bare keep es dir name) ∙ same (child_named es dir name) refl in
      λ i.
      if nat_lt 65536 count then refusal PARAMETER
      else if not (is_item_name name) then refusal BAD_NAME
      else if not (is_folder-bare keep es dir i) then refusal NOT_A_FOLDER
      else found i
