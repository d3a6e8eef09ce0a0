-- What is looked up in a table.
use Rattle.std.proofs.Common.{◌≡◌, ⊎_elim, ℕ, ◌+◌, ◌-◌, ◌<◌, ◌≤◌, ◌^◌, arith, cond, List, true, length, refl, sym, ◌∙◌, ap, subst, Option, Some, None, Bor}
use Rattle.std.specs.Ordering.{nat_cmp}
use Rattle.std.specs.Option.{option_map, option_and_then, option_copied}
use Rattle.std.specs.FinMap as map
use Rattle.std.specs.BTreeMap as tree
use Rattle.std.specs.BTreeMap.{get}
use Rattle.hfs_blocks.specs.Blocks.{block_at, block_count, length-block_at}
use Rattle.hfs_space.specs.ForkLengths.{all_bytes}
use Rattle.hfs_space.proofs.ForkLengthLemmas.{length-fork_bytes}
use Rattle.std.specs.Prelude.{IfSome, ◌*◌, ◌/◌, ◌%◌, min, nat_lt, pos}
use Rattle.hfs_fields.specs.declared.extent.Extent.{Extent}
use Rattle.hfs_space.specs.Extents.{AreExtentsWithin}
use Rattle.hfs_space.specs.Forks.{HasArea, blocks_each, fork_bytes, read_from}
use Rattle.hfs_check.specs.Parts.{mdb_in}
use Rattle.hfs_volume.proofs.LayoutLemmas.{same_bytes}
use Rattle.hfs_volume.specs.Sharing.{bytes_of_extents}
use Rattle.hfs_model.specs.declared.codes.TheConstants.{END_OF_FILE}
use Rattle.hfs_model.specs.declared.reply.Value.TheVariants as value
use Rattle.hfs_model.specs.Lawful.{Has, AreLawful}
use Rattle.hfs_model.specs.Reading.{part_of}
use Rattle.hfs_model.proofs.Facts.{found_has, folder_is}
use Rattle.hfs_model.specs.Replies.{info_of}
use Rattle.hfs_model.specs.declared.reply.Info.{Info}
use Rattle.hfs_model.specs.declared.reply.ItemKind.TheVariants as item_kind
use Rattle.hfs_viewers.specs.declared.row.RowKind.TheVariants.{File as FileRow}
use Rattle.hfs_viewers.specs.declared.row.RowFile.{RowFile}
use Rattle.hfs_viewers.specs.declared.row.RowFork.{RowFork}
use Rattle.hfs_model.specs.declared.item.Item.{Item}
use Rattle.hfs_model.specs.Volume.{Items, Entry}
use Rattle.hfs_model.specs.Children.{entry_at, child_named, is_child_named, is_folder}
use Rattle.hfs_viewers.specs.declared.row.Row.{Row}
use Rattle.hfs_viewers.specs.declared.table.Table.{Table}
use Rattle.hfs_viewers.specs.Places.{place, place_cmp}
use Rattle.hfs_viewers.specs.Pieces.{fork_length}
use Rattle.hfs_viewers.proofs.EditedPieces.{length-shown}
use Rattle.hfs_viewers.specs.Tables.{base_bytes, bytes_of, item_of, kind_of, items_of, IsForkIn, IsTable}
use Rattle.hfs_viewers.proofs.ShownLemmas.{get_items}
use Rattle.hfs_check.proofs.EntryLemmas.{entry_get as entry_at_is}
use Rattle.hfs_viewers.proofs.Named.{child_named_is}
use Rattle.hfs_viewers.proofs.Cut.{read-take}

module _ (t : Table) (is : IsTable t) where
  pub get_of : (q : ℕ) → map.get (items_of t) q ≡ option_map (item_of t.base t.mdb) (tree.get nat_cmp t.by_id q)
  unfolding items_of
  get_of q = get_items (item_of t.base t.mdb) t.by_id q is.sorted

  abbrev entry : ℕ → Row → Entry
  entry q r = (q, item_of t.base t.mdb r)

  both_maps : (q : ℕ) (r : Option (Bor Row)) → option_map {U = Entry} (λ (i : Item). (q, i)) (option_map (item_of t.base t.mdb) (option_copied r)) ≡ option_map (λ (x : Bor Row). entry q x.now) r
  both_maps q None = refl
  both_maps q (Some r) = refl

  -- of the row that was found
  pub row_at : (q : ℕ) (r : Option (Bor Row)) → option_copied r ≡ tree.get nat_cmp t.by_id q → entry_at (map.entries (items_of t)) q ≡ option_map (λ (x : Bor Row). entry q x.now) r
  row_at q r found = entry_at_is (items_of t) q ∙ ap (option_map {U = Entry} (λ (i : Item). (q, i))) (get_of q ∙ ap (option_map (item_of t.base t.mdb)) (sym found)) ∙ both_maps q r

  -- the row that was found has its item
  pub row_has : (q : ℕ) (r : Option (Bor Row)) → option_copied r ≡ tree.get nat_cmp t.by_id q → IfSome r (λ (x : Bor Row). Has (items_of t) q (item_of t.base t.mdb x.now))
  row_has q None found = tt
  row_has q (Some r) found = get_of q ∙ ap (option_map (item_of t.base t.mdb)) (sym found)

  -- of the ID that was found
  pub child_at : (dir : ℕ) (name : List ℕ) (r : Option (Bor ℕ)) → option_copied r ≡ tree.get place_cmp t.by_name (place dir name)
      → child_named (map.entries (items_of t)) dir name ≡ option_and_then (entry_at (map.entries (items_of t))) (option_copied r)
  child_at dir name r found = child_named_is (items_of t) t.by_name is.names dir name ∙ ap (option_and_then (entry_at (map.entries (items_of t)))) (sym found)

  -- by what was found
  pub no_child : (dir : ℕ) (name : List ℕ) (r : Option (Bor ℕ)) → option_copied r ≡ tree.get place_cmp t.by_name (place dir name) → r ≡ None → child_named (map.entries (items_of t)) dir name ≡ None
  no_child dir name r found none = child_at dir name r found ∙ ap (λ (o : Option (Bor ℕ)). option_and_then (entry_at (map.entries (items_of t))) (option_copied o)) none

  pub a_child : (dir : ℕ) (name : List ℕ) (r : Option (Bor ℕ)) (id : Bor ℕ) → option_copied r ≡ tree.get place_cmp t.by_name (place dir name) → r ≡ Some id → child_named (map.entries (items_of t)) dir name ≡ entry_at (map.entries (items_of t)) id.now
  a_child dir name r id found some = child_at dir name r found ∙ ap (λ (o : Option (Bor ℕ)). option_and_then (entry_at (map.entries (items_of t))) (option_copied o)) some

  pub child_has : (dir : ℕ) (name : List ℕ) (id : ℕ) (r : Row) → child_named (map.entries (items_of t)) dir name ≡ Some (id, item_of t.base t.mdb r) → Has (items_of t) id (item_of t.base t.mdb r)
  child_has dir name id r found = (found_has (items_of t) (is_child_named dir name) (id, item_of t.base t.mdb r) found).0

  -- ---- what is told of an item

  -- in the base the allocation blocks lie where the master directory block says
  area : HasArea t.mdb (block_count t.base)
  area =
      let l = is.over.layout in
      let blocks : t.mdb.allocation_blocks * blocks_each t.mdb ≡ (mdb_in (block_at t.base)).allocation_blocks * blocks_each (mdb_in (block_at t.base)) = (λ i. l.allocation_blocks i * (l.allocation_block_size i / 512)) in
      omega (arith, l.allocation_start, blocks, is.over.sound.blocks.mdb.area)

  even : t.mdb.allocation_block_size % 512 ≡ 0
  even = ap (λ n. n % 512) is.over.layout.allocation_block_size ∙ is.over.sound.blocks.mdb.whole_size

  -- the base has as many bytes of the fork as the row says
  pub base_long : (fork : RowFork) → IsForkIn t.mdb fork → length (base_bytes t.base t.mdb fork) ≡ fork.pieces.base_len
  base_long fork in_ = length-fork_bytes (block_at t.base) _ (length-block_at t.base) t.mdb area fork.extents fork.pieces.base_len even in_.within in_.room

  pub size_is : (fork : RowFork) → IsForkIn t.mdb fork → length (bytes_of t.base t.mdb fork) ≡ fork_length fork.pieces
  unfolding bytes_of
  size_is fork in_ = length-shown fork.pieces (base_bytes t.base t.mdb fork) in_.pieces (base_long fork in_)

  pub told_file : (id : ℕ) (r : Row) (f : RowFile) (data_len res_len : ℕ) → data_len ≡ fork_length f.«data».pieces → res_len ≡ fork_length f.resource.pieces → r.kind ≡ FileRow f → IsForkIn t.mdb f.«data» × IsForkIn t.mdb f.resource
      → record { id = id; parent = r.parent; name = r.name; kind = item_kind.File; created = r.created; modified = r.modified; backup = r.backup; finder = r.finder; locked = f.locked; has_id = f.has_thread; valence = 0; data_len = data_len; res_len = res_len }
      ≡ info_of (map.entries (items_of t)) (id, item_of t.base t.mdb r)
  unfolding info_of
  told_file id r f data_len res_len data_is res_is is_file forks =
      let all : Info = record { id = id; parent = r.parent; name = r.name; kind = item_kind.File; created = r.created; modified = r.modified; backup = r.backup; finder = r.finder; locked = f.locked; has_id = f.has_thread; valence = 0; data_len = data_len; res_len = res_len } in
      (λ i. record all { data_len = (data_is ∙ sym (size_is f.«data» forks.0)) i; res_len = (res_is ∙ sym (size_is f.resource forks.1)) i }) ∙ ap (λ k. info_of (map.entries (items_of t)) (id, record (item_of t.base t.mdb r) { kind = kind_of t.base t.mdb k })) (sym is_file)

  -- ---- forks

  pub within_base : (fork : RowFork) (read : List Extent) → IsForkIn t.mdb fork → read ≡ fork.extents → AreExtentsWithin (mdb_in (block_at t.base)).allocation_blocks read
  within_base fork read in_ same = subst (λ (n : ℕ). AreExtentsWithin n read) is.over.layout.allocation_blocks (subst (AreExtentsWithin t.mdb.allocation_blocks) (sym same) in_.within)

  -- what is read of the base is a part of its fork, where it lies within that
  pub base_part : (fork : RowFork) (read : List Extent) (offset count : ℕ) (bytes : List ℕ) → read ≡ fork.extents → offset + count ≤ fork.pieces.base_len
      → bytes ≡ read_from (bytes_of_extents t.base read) offset count
      → bytes ≡ read_from (base_bytes t.base t.mdb fork) offset count
  unfolding fork_bytes
  base_part fork read offset count bytes same within is_read =
      let few : count ≡ min count (fork.pieces.base_len - offset) = omega (arith, within) in
      is_read
      ∙ (λ i. read_from (bytes_of_extents t.base (same i)) offset (few i))
      ∙ ap (λ (l : List ℕ). read_from l offset (min count (fork.pieces.base_len - offset))) (sym (same_bytes (block_at t.base) (mdb_in (block_at t.base)) t.mdb fork.extents is.over.layout))
      ∙ sym (read-take count offset fork.pieces.base_len (all_bytes (block_at t.base) t.mdb fork.extents))

  -- a fork has as many bytes as its length says
  pub part_is : (fork : RowFork) (size offset count : ℕ) (bytes : List ℕ) → IsForkIn t.mdb fork → size ≡ fork_length fork.pieces
      → bytes ≡ read_from (bytes_of t.base t.mdb fork) offset count
      → record { code = cond (nat_lt size (offset + count)) END_OF_FILE (pos 0); value = value.Bytes bytes } ≡ part_of (bytes_of t.base t.mdb fork) offset count
  part_is fork size offset count bytes in_ size_as is_read i = record {
    code = cond (nat_lt ((size_as ∙ sym (size_is fork in_)) i) (offset + count)) END_OF_FILE (pos 0);
    value = value.Bytes (is_read i);
  }

module _ (m : Items) where
  -- the ID behind a folder's is a number of 32 bits
  pub below_next : (next dir : ℕ) → next < 2 ^ 32 → AreLawful m next → is_folder (map.entries m) dir ≡ true → dir + 1 < 2 ^ 32
  below_next next dir small lawful folder =
      let item = folder_is m dir folder in
      ⊎_elim (λ (e : dir ≡ 2). omega (arith, e)) (λ given. omega (arith, given.1, small)) (lawful.ids dir item.item item.has)
