-- How much the payload of a plan has.
use Rattle.std.proofs.Common.{◌≡◌, ℕ, zero, suc, ◌+◌, ◌-◌, ◌<◌, ◌≤◌, Bool, true, false, ◌||◌, ◌==◌, if◌then◌else◌, List, [], ◌∷◌, ◌++◌, length, length-append, length-drop, length-take, map, take, drop, replicate, Option, Some, None, inl, inr, refl, sym, ap, subst, ◌∙◌, arith}
use Rattle.std.specs.Prelude.{slice_get}
use Rattle.std.specs.List.{flat_map, sum_by}
use Rattle.std.specs.Option.{option_and_then, option_map_or}
use Rattle.std.proofs.lemmas.Bool.{and_parts, cases_lt, eqb-true, or_cases, true≢false}
use Rattle.std.proofs.lemmas.List.Sums.{sum_by-cons}
use Rattle.std.proofs.lemmas.Option.{slice_get_cases}
use Rattle.hfs_bag.specs.declared.item.BagKind.{BagKind}
use Rattle.hfs_bag.specs.declared.item.BagKind.TheVariants as bag
use Rattle.hfs_bag.specs.Bags.{bytes_in, double_number, doubles_told, items_entries}
use Rattle.hfs_bag.specs.Items.{BagItem, digests_of_kind, double_bytes, double_head, entries_of_kind, item_digests, item_entries}
use Rattle.hfs_bag.proofs.GivingLemmas.{bytes_in-append}
use Rattle.hfs_catalog.specs.declared.item.ItemRecord.TheVariants.{Folder, File}
use Rattle.hfs_catalog.specs.Lookups.{catalog_item}
use Rattle.hfs_encodings.specs.AppleDouble.{apple_double_head_bytes}
use Rattle.hfs_encodings.proofs.WrittenAppleDouble.{length-apple_double_head_bytes}
use Rattle.hfs_fields.specs.declared.key.CatKey.{CatKey}
use Rattle.hfs_fields.specs.Mdb.{bytes_at as bytes_from}
use Rattle.hfs_fields.specs.Records.{dir_record_of, file_record_of, is_dir, is_file, is_item, type_byte}
use Rattle.hfs_items.specs.Told.{file_info, folder_info}
use Rattle.hfs_remains_forks.specs.declared.shares.FileShares.{FileShares}
use Rattle.hfs_remains_forks.specs.Forks.{fork_length}
use Rattle.hfs_remains_forks.specs.Verdicts.{fork_share, shares_at}
use Rattle.hfs_remains_forks.proofs.ForkByteLemmas.{length-share_bytes}
use Rattle.hfs_remains.specs.declared.catalog.FoundRecord.{FoundRecord}
use Rattle.hfs_fields.specs.Each.{Each}
use Rattle.hfs_space.specs.declared.fork_kind.ForkKind.{ForkKind}
use Rattle.hfs_space.specs.declared.fork_kind.ForkKind.TheVariants.{Data, Resource}
use Rattle.hfs_rescue_items.specs.declared.found.Found.{Found}
use Rattle.hfs_rescue_items.specs.declared.plan.Planned.{Planned}
use Rattle.hfs_rescue_items.specs.Bytes.{bytes_by, taken_bytes}
use Rattle.hfs_rescue_items.specs.Found.{info_of, path_at, record_info, told, told_at}
use Rattle.hfs_rescue_items.specs.Laws.{HasCountedPayload, IsOfRecords, part_number}
use Rattle.hfs_rescue_items.specs.Plan.{file_kind, own_kind, thing_kind, whole_plan}
use Rattle.hfs_rescue_items.specs.Sources.{above_of, finder_told, is_alone, modified_told, name_of, planned_item}
use Rattle.hfs_rescue_items.specs.Sums.{byte_number, bytes_at, file_number, files_at, folder_number, folders_at, of_first, root_of, taken_len, unless_root}
use Rattle.hfs_rescue_items.proofs.PartLemmas.{HasKind, IsPart, own_path, plan_is}
use Rattle.hfs_rescue_items.proofs.PlanSumLemmas.{plan_counts}
use Rattle.hfs_rescue_items.proofs.SumLemmas.{more}

-- ---- Finder bytes are 32

length-from : (at n : ℕ) (body : List ℕ) → at + n ≤ length body → length (bytes_from at n body) ≡ n
length-from at n body fits = omega (arith, fits, length-take n (drop at body), length-drop at body)

module _ (key : CatKey) (body : List ℕ) where
  folder-finder : length body ≡ 70 → length (folder_info key (dir_record_of body)).finder ≡ 32
  unfolding folder_info dir_record_of
  folder-finder long =
      omega (arith, length-append (bytes_from 22 16 body) (bytes_from 38 16 body), length-from 22 16 body (omega (arith, long)), length-from 38 16 body (omega (arith, long)))

  file-finder : length body ≡ 102 → length (file_info false key (file_record_of body)).finder ≡ 32
  unfolding file_info file_record_of
  file-finder long =
      omega (arith, length-append (bytes_from 4 16 body) (bytes_from 56 16 body), length-from 4 16 body (omega (arith, long)), length-from 56 16 body (omega (arith, long)))

  record-finder : (dir : Bool) → is_dir body ≡ dir → (dir || is_file body) ≡ true
      → length (record_info key (if dir then Folder (dir_record_of body) else File (file_record_of body))).finder ≡ 32
  record-finder true is item = folder-finder (eqb-true (length body) 70 (and_parts (type_byte body == 1) (length body == 70) is).1)
  record-finder false is item = file-finder (eqb-true (length body) 102 (and_parts (type_byte body == 2) (length body == 102) item).1)

item-finder : (item : FoundRecord) → is_item item.entry.1 ≡ true → length (info_of (catalog_item item.entry)).finder ≡ 32
unfolding catalog_item
item-finder item is = record-finder item.entry.0 item.entry.1 (is_dir item.entry.1) refl is

told-finder : (o : Option FoundRecord) → length (finder_told (option_and_then told o)) ≡ 32
told-finder None = refl
told-finder (Some item) = by (is_item item.entry.1) refl
  where
    by : (b : Bool) → is_item item.entry.1 ≡ b → length (finder_told (if b then Some (info_of (catalog_item item.entry)) else None)) ≡ 32
    by true is = item-finder item is
    by false is = refl

-- ---- an item is a file or a folder

module _ (found : Found) where
  one-of : (o : Option FileShares) → 1 ≡ file_number o + folder_number o
  one-of None = refl
  one-of (Some file) = refl

  one-each : (i : ℕ) → unless_root found.items.now i 1 ≡ unless_root found.items.now i (files_at found i) + unless_root found.items.now i (folders_at found i)
  one-each i = by (option_map_or (λ root. root == i) (root_of found.items.now) false)
    where
      by : (b : Bool) → (if b then 0 else 1) ≡ (if b then 0 else files_at found i) + (if b then 0 else folders_at found i)
      by true = refl
      by false = one-of (shares_at found.salvage.now i)

  first-count : (m : ℕ) → of_first found (λ i. 1) m ≡ of_first found (files_at found) m + of_first found (folders_at found) m
  first-count zero = refl
  first-count (suc m) =
      let e : m + 1 ≡ suc m = omega arith in
      subst (λ (k : ℕ). of_first found (λ i. 1) k ≡ of_first found (files_at found) k + of_first found (folders_at found) k) e
      (omega (arith, more found m (λ i. 1), more found m (files_at found), more found m (folders_at found), first-count m, one-each m))

-- ---- what an item has

-- there is an AppleDouble file without a data fork
abbrev lacks-data : Option BagKind → Bool
lacks-data None = false
lacks-data (Some bag.Folder) = true
lacks-data (Some bag.File) = false
lacks-data (Some bag.FolderAlone) = false
lacks-data (Some bag.DoubleAlone) = true

no-named : (made : Bool) → lacks-data (if made then None else Some bag.FolderAlone) ≡ true → ⊥
no-named true is = true≢false (sym is)
no-named false is = true≢false (sym is)

module _ (image : List ℕ) (found : Found) (records : List FoundRecord) (are : IsOfRecords found records) where
  abbrev taken : ForkKind → ℕ → ℕ
  taken kind i = length (taken_bytes image found kind i)

  taken-by : (kind : ForkKind) (i : ℕ) (o : Option FileShares) → shares_at found.salvage.now i ≡ o
      → taken kind i ≡ option_map_or (λ (file : FileShares). taken_len found.salvage.now.trees (fork_share kind file)) o 0
  unfolding taken_bytes
  taken-by kind i o is =
      ap (λ (o : Option FileShares). length (option_map_or (λ (file : FileShares). bytes_by image found.salvage.now.trees (fork_share kind file)) o [])) is ∙ by o
    where
      by : (o : Option FileShares) → length (option_map_or (λ (file : FileShares). bytes_by image found.salvage.now.trees (fork_share kind file)) o [])
          ≡ option_map_or (λ (file : FileShares). taken_len found.salvage.now.trees (fork_share kind file)) o 0
      by None = refl
      by (Some file) =
          length-share_bytes image found.salvage.now.trees.total found.salvage.now.trees.overflow.now found.salvage.now.trees.mdb.now (fork_share kind file)

  -- an AppleDouble file's head and what is taken of both forks
  bytes-are : (i : ℕ) → bytes_at found i ≡ 82 + (taken Data i + taken Resource i)
  bytes-are i = by (shares_at found.salvage.now i) refl
    where
      by : (o : Option FileShares) → shares_at found.salvage.now i ≡ o → byte_number found.salvage.now.trees o ≡ 82 + (taken Data i + taken Resource i)
      by None is = omega (arith, taken-by Data i None is, taken-by Resource i None is)
      by (Some file) is = sym (λ k. 82 + (taken-by Data i (Some file) is k + taken-by Resource i (Some file) is k))

  data-none : (i : ℕ) (made : Bool) → lacks-data (own_kind found i made) ≡ true → taken Data i ≡ 0
  unfolding own_kind
  data-none i made lacks =
      elim (slice_get_cases found.items.now i).1 [
        | inl there ↦ by there.0 there.2 (is_dir there.0.entry.1) refl (sym (ap (λ (o : Option FoundRecord). lacks-data (thing_kind found i made o)) there.2) ∙ lacks)
        | inr past ↦ absurd (no-named made (sym (ap (λ (o : Option FoundRecord). lacks-data (thing_kind found i made o)) past.1) ∙ lacks))
      ]
    where
      left : (file : FileShares) → shares_at found.salvage.now i ≡ Some file → (b : Bool) → file.«data».taken ≡ b
          → lacks-data (Some (if b then bag.File else bag.DoubleAlone)) ≡ true → taken Data i ≡ 0
      left file is true whole lacks = absurd (true≢false (sym lacks))
      left file is false whole lacks =
          taken-by Data i (Some file) is ∙ ap (λ (b : Bool). if b then taken_whole file else 0) whole
        where
          taken_whole : FileShares → ℕ
          taken_whole file = fork_length found.salvage.now.trees.overflow.now found.salvage.now.trees.mdb.now file.«data».fork

      of-file : (o : Option FileShares) → shares_at found.salvage.now i ≡ o → lacks-data (Some (file_kind o)) ≡ true → taken Data i ≡ 0
      of-file None is lacks = taken-by Data i None is
      of-file (Some file) is lacks = left file is file.«data».taken refl lacks

      by : (item : FoundRecord) → slice_get found.items.now i ≡ Some item → (dir : Bool) → is_dir item.entry.1 ≡ dir
          → lacks-data (Some (if dir then (if made then bag.DoubleAlone else bag.Folder) else file_kind (shares_at found.salvage.now i))) ≡ true → taken Data i ≡ 0
      by item there true dir lacks = taken-by Data i None (are.folders i item there dir)
      by item there false dir lacks = of-file (shares_at found.salvage.now i) refl lacks

  -- ---- parts

  module _ (part : Planned) (is : IsPart found part) where
    abbrev i : ℕ
    i = part.place

    abbrev item-of : BagKind → BagItem
    item-of kind = record {
      above = above_of found part;
      name = name_of found part;
      kind = kind;
      finder = finder_told (if is_alone kind then None else told_at found.items.now i);
      modified = modified_told (if is_alone kind then None else told_at found.items.now i);
      data_fork = if is_alone kind then [] else taken_bytes image found Data i;
      resource_fork = if is_alone kind then [] else taken_bytes image found Resource i;
    }

    double : (kind : BagKind) → is_alone kind ≡ false → length (double_bytes (item-of kind)) ≡ 82 + length (item-of kind).resource_fork
    double kind alone =
        length-append (apple_double_head_bytes (double_head (item-of kind))) (item-of kind).resource_fork
        ∙ ap (λ (n : ℕ). n + length (item-of kind).resource_fork)
        (length-apple_double_head_bytes (double_head (item-of kind))
        (ap (λ (b : Bool). length (finder_told (if b then None else told_at found.items.now i))) alone ∙ told-finder (slice_get found.items.now i)))

    own-made : (kind : BagKind) → part.kind ≡ kind → is_alone kind ≡ false → HasKind found i kind
    own-made kind same alone =
        elim (cases_lt part.to (length (own_path found part))) [
          | inl short ↦ absurd (true≢false (ap is_alone (sym (is.alone short) ∙ same) ∙ alone))
          | inr whole ↦ (let own = is.own whole in record { made = own.made; kind_is = own.kind_is ∙ ap (λ (k : BagKind). Some k) same })
        ]

    no-data : (kind : BagKind) → part.kind ≡ kind → is_alone kind ≡ false → lacks-data (Some kind) ≡ true → taken Data i ≡ 0
    no-data kind same alone lacks = let own = own-made kind same alone in data-none i own.made (ap lacks-data own.kind_is ∙ lacks)

    kind-bytes : (kind : BagKind) → part.kind ≡ kind → bytes_in (entries_of_kind kind (item-of kind)) ≡ (if is_alone kind then 0 else bytes_at found i)
    kind-bytes bag.Folder same = omega (arith, double bag.Folder refl, bytes-are i, no-data bag.Folder same refl refl)
    kind-bytes bag.File same = omega (arith, double bag.File refl, bytes-are i)
    kind-bytes bag.FolderAlone same = refl
    kind-bytes bag.DoubleAlone same = omega (arith, double bag.DoubleAlone refl, bytes-are i, no-data bag.DoubleAlone same refl refl)

    part-bytes : bytes_in (item_entries (planned_item image found part)) ≡ part_number (bytes_at found) part
    part-bytes = kind-bytes part.kind refl

  kind-double : (kind : BagKind) (item : BagItem) → double_number (digests_of_kind kind item) ≡ (if is_alone kind then 0 else 1)
  kind-double bag.Folder item = refl
  kind-double bag.File item = refl
  kind-double bag.FolderAlone item = refl
  kind-double bag.DoubleAlone item = refl

  -- ---- all parts

  all-bytes : (parts : List Planned) → Each (IsPart found) parts → bytes_in (items_entries (map (planned_item image found) parts)) ≡ sum_by (part_number (bytes_at found)) parts
  all-bytes [] each = refl
  all-bytes (part ∷ parts) each =
      bytes_in-append (item_entries (planned_item image found part)) (items_entries (map (planned_item image found) parts))
      ∙ (λ k. part-bytes part each.0 k + all-bytes parts each.1 k)
      ∙ sym (sum_by-cons (part_number (bytes_at found)) part parts)

  all-doubles : (parts : List Planned) → doubles_told (map item_digests (map (planned_item image found) parts)) ≡ sum_by (part_number (λ i. 1)) parts
  all-doubles [] = refl
  all-doubles (part ∷ parts) =
      (λ k. kind-double part.kind (planned_item image found part) k + all-doubles parts k)
      ∙ sym (sum_by-cons (part_number (λ i. 1)) part parts)

  pub payload_counts : HasCountedPayload found (map (planned_item image found) (whole_plan found))
  payload_counts = record {
    bytes_are = all-bytes (whole_plan found) (plan_is found).each ∙ plan_counts found (bytes_at found) records are;
    doubles_are = all-doubles (whole_plan found) ∙ plan_counts found (λ i. 1) records are ∙ first-count found (length found.items.now);
  }
