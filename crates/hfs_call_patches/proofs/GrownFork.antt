-- What a fork asks that gets more blocks, or as many as it has: the numbers of its blocks and bytes.
use Rattle.std.proofs.Common.{◌≡◌, ℕ, ◌+◌, ◌-◌, ◌*◌, ◌%◌, ◌<◌, ◌≤◌, ◌^◌, Bool, true, false, cond, ltb, List, ◌++◌, length, length-append, refl, sym, ◌∙◌, ap, subst, arith, None}
use Rattle.std.specs.Prelude.{Result, ℤ, max}
use Rattle.std.proofs.lemmas.Bool.{lt-ltb, le-ltb, ltb-true, ltb-false}
use Rattle.std.proofs.lemmas.Grind.{div_ceil_times}
use Rattle.std.proofs.lemmas.Nat.{mul-le}
use Rattle.hfs_fields.specs.declared.extent.Extent.{Extent}
use Rattle.hfs_fields.specs.declared.mdb.Mdb.{Mdb}
use Rattle.hfs_blocks.specs.declared.run.Run.{Run}
use Rattle.hfs_space.specs.Bitmap.{is_used}
use Rattle.hfs_space.specs.Extents.{block_total, extent_blocks, AreExtentsWithin}
use Rattle.hfs_space.specs.ForkLaws.{block_numbers}
use Rattle.hfs_space.specs.Forks.{HasArea}
use Rattle.hfs_space.specs.Owners.{owners}
use Rattle.hfs_record_edits.specs.Need.{HasNodesFor}
use Rattle.hfs_space.specs.Choice.{free_count, AreChosen, AreFreeOnce, IsRoom}
use Rattle.hfs_model.specs.declared.call.Fork.{Fork}
use Rattle.hfs_model.specs.declared.journal.Want.{Want}
use Rattle.hfs_model.specs.Volume.{Entry}
use Rattle.hfs_check.specs.Parts.{Blocks, mdb_in, extents_nodes}
use Rattle.hfs_model.specs.Forks.{blocks, physical_length}
use Rattle.hfs_record_edits.specs.Growing.{grown, records_coming}
use Rattle.hfs_record_edits.specs.Wants.{blocks_wanted}
use Rattle.hfs_call_patches.specs.Files.{fork_of}
use Rattle.hfs_call_patches.specs.Edits.{extents_of, blocks_of}
use Rattle.hfs_call_patches.specs.Laid.{AreZeros}
use Rattle.hfs_call_patches.proofs.Laid.{numbers_long}
use Rattle.hfs_space.proofs.OwnedLemmas.{length-blocks}
use Rattle.hfs_call_patches.specs.Calls.{IsForkVolume, HasPlaces}
use Rattle.hfs_call_patches.specs.Found.{IsFoundFile}
use Rattle.hfs_call_patches.specs.Gaining.{IsNodesWanted}
use Rattle.hfs_call_patches.specs.Room.{block_after, IsGrowing, IsRoomWanted}
use Rattle.hfs_call_patches.specs.Wanting.{MeetsWant, IsWanting}
use Rattle.hfs_call_patches.specs.Zeros.{zeros_end}
use Rattle.hfs_call_patches.specs.declared.choosing.FoundFile.{FoundFile}
use Rattle.hfs_call_patches.specs.declared.room.Growing.{Growing}
use Rattle.hfs_call_patches.proofs.Apart.{with_pieces}
use Rattle.hfs_call_patches.proofs.Edits as edits
use Rattle.hfs_call_patches.proofs.Wants as wanting

module _ (total : ℕ) (old : Blocks) (mdb : Mdb) (extents catalog : List Run) (v : IsForkVolume total old mdb extents catalog) (f : FoundFile) (fork : Fork) (chosen : Result Entry ℤ) (is : IsFoundFile old chosen f)
    (size len from offset given : ℕ) (size_is : size ≡ mdb.allocation_block_size) (places : HasPlaces fork f.file len from offset given) where
  abbrev n : ℕ
  n = blocks size len

  abbrev was_length : ℕ
  was_length = (fork_of fork f.file).length

  abbrev had : ℕ
  had = length (blocks_of old fork f.file)

  pub area_there : HasArea mdb total
  area_there = subst (λ (m : Mdb). HasArea m total) (sym v.directory) v.sound.mdb.area

  least : 0 < size
  least =
      let low : 512 ≤ mdb.allocation_block_size = subst (λ (m : Mdb). 512 ≤ m.allocation_block_size) (sym v.directory) v.sound.mdb.least_size in
      omega (arith, low, size_is)

  -- its blocks have room for its bytes, and for those that it had
  pub len_fits : len ≤ n * size
  len_fits = (div_ceil_times len size least).0

  was_fits : was_length ≤ had * size
  was_fits = subst (λ (k : ℕ). was_length ≤ had * k) (sym size_is) (edits.room_of total old mdb extents catalog v f fork chosen is)

  pub size_old : size ≡ (mdb_in old).allocation_block_size
  size_old = size_is ∙ ap (λ (m : Mdb). m.allocation_block_size) v.directory

  -- so many blocks have so many bytes
  pub capacity : (es : List Extent) → 512 * length (block_numbers mdb es) ≡ length (extent_blocks es) * size
  capacity es =
      subst (λ (k : ℕ). 512 * length (block_numbers mdb es) ≡ length (extent_blocks es) * k) (sym size_is)
      (numbers_long mdb es (subst (λ (m : Mdb). m.allocation_block_size % 512 ≡ 0) (sym v.directory) v.sound.mdb.whole_size))

  pub bytes_small : n ≤ mdb.allocation_blocks → n * size ≤ 2147483648
  bytes_small few = subst (λ (k : ℕ). n * k ≤ 2147483648) (sym size_is) (edits.bytes_few total old mdb extents catalog v f fork chosen is n few)

  pub physical_small : n ≤ mdb.allocation_blocks → physical_length size len < 2 ^ 32
  physical_small few = let bytes = bytes_small few in omega (arith, bytes)

  -- ---- blocks come

  module _ (was : List Extent) (was_is : was ≡ extents_of old fork f.file) (wanted : ℕ) (wants : block_total was + wanted ≡ n) where
    pub count_is : had + wanted ≡ n
    count_is = let same = ap block_total was_is in let long = length-blocks (extents_of old fork f.file) in omega (arith, wants, same, long)

    wanted_is : wanted ≡ blocks_wanted (mdb_in old).allocation_block_size had len
    wanted_is = let e : wanted ≡ n - had = (let count = count_is in omega (arith, count)) in e ∙ ap (λ (k : ℕ). blocks k len - had) size_old

    -- too few blocks are free
    pub meets_room : (told : Want) → IsRoomWanted old mdb wanted told → IsWanting fork f.file len old told
    meets_room told is_room =
        subst (λ (w : Want). IsWanting fork f.file len old w) (sym is_room.same)
        (wanting.meets_room total old v.sound fork f.file len wanted wanted_is is_room.room
        (subst (λ (m : Mdb). IsRoom (is_used old m.bitmap_start) m.allocation_blocks wanted is_room.room) v.directory is_room.is))

    module _ (g : Growing) (grows : IsGrowing old mdb was wanted g) where
      abbrev all : List Extent
      all = g.extents.items

      free_is : free_count (is_used old mdb.bitmap_start) mdb.allocation_blocks ≡ mdb.free_blocks
      free_is = subst (λ (m : Mdb). free_count (is_used old m.bitmap_start) m.allocation_blocks ≡ m.free_blocks) (sym v.directory) (sym v.sound.space.counted)

      pub enough_free : wanted ≤ mdb.free_blocks
      enough_free = let enough = grows.enough in let free = free_is in omega (arith, enough, free)

      pub few : n ≤ mdb.allocation_blocks
      few = let most = edits.few_of total old mdb extents catalog v f fork chosen is in let free = enough_free in let count = count_is in omega (arith, most, free, count)

      pub all_is : all ≡ grown (extents_of old fork f.file) g.pieces.items
      all_is = grows.all ∙ ap (λ (es : List Extent). grown es g.pieces.items) was_is

      pub made_is : extent_blocks all ≡ blocks_of old fork f.file ++ extent_blocks g.pieces.items
      made_is = grows.made ∙ ap (λ (es : List Extent). extent_blocks es ++ extent_blocks g.pieces.items) was_is

      pub made_grown : extent_blocks (grown (extents_of old fork f.file) g.pieces.items) ≡ blocks_of old fork f.file ++ extent_blocks g.pieces.items
      made_grown = ap (λ (es : List Extent). extent_blocks es) (sym all_is) ∙ made_is

      has : (a : ℕ) → owners (extent_blocks all) a ≤ owners (blocks_of old fork f.file) a + owners (extent_blocks g.pieces.items) a
      has = with_pieces all (blocks_of old fork f.file) (extent_blocks g.pieces.items) made_is

      pub all_within : AreExtentsWithin mdb.allocation_blocks all
      all_within = edits.within_all total old mdb extents catalog v f fork chosen is mdb.allocation_blocks g.pieces.items (edits.within_of total old mdb extents catalog v f fork chosen is) grows.free.within all has

      pub all_once : (b : ℕ) → owners (extent_blocks all) b ≤ 1
      all_once = edits.once_all total old mdb extents catalog v f fork chosen is wanted g.pieces.items grows.free all has

      room_is : 512 * length (block_numbers mdb all) ≡ n * size
      room_is =
          let parts = length-append (blocks_of old fork f.file) (extent_blocks g.pieces.items) in
          let long : length (extent_blocks all) ≡ n = (let same = ap (λ (l : List ℕ). length l) made_is in let come = grows.free.enough in let count = count_is in omega (arith, same, parts, come, count)) in
          capacity all ∙ ap (λ (k : ℕ). k * size) long

      was_room : was_length ≤ n * size
      was_room = let fits = was_fits in let more = mul-le had size n size (let count = count_is in omega (arith, count)) (omega arith) in omega (arith, fits, more)

      -- ---- where its zeros end

      abbrev end : ℕ
      end = zeros_end size wanted from len

      end_by : (P : ℕ → Type 0) → (0 < wanted → P (n * size)) → (wanted ≡ 0 → P (max from len)) → P end
      end_by P some none = by (ltb 0 wanted) refl
        where
          by : (b : Bool) → ltb 0 wanted ≡ b → P (cond b (n * size) (max from len))
          by true e = some (ltb-true 0 wanted e)
          by false e = none (let most = ltb-false 0 wanted e in omega (arith, most))

      from_room : from ≤ n * size
      from_room = let begins = places.begins in let within = places.within in let was = was_room in let fits = len_fits in omega (arith, begins, within, was, fits)

      pub order : from ≤ end
      order = end_by (λ (e : ℕ). from ≤ e) (λ some. from_room) (λ none. omega arith)

      pub fits : end ≤ 512 * length (block_numbers mdb all)
      fits =
          let room = room_is in
          end_by (λ (e : ℕ). e ≤ 512 * length (block_numbers mdb all)) (λ some. omega (arith, room)) (λ none. let begins = from_room in let long = len_fits in omega (arith, room, begins, long))

      pub bytes_fit : offset + given ≤ 512 * length (block_numbers mdb all)
      bytes_fit = let within = places.within in let room = room_is in let long = len_fits in omega (arith, within, room, long)

      pub bytes_end : offset + given < 2 ^ 32
      bytes_end = let within = places.within in let long = len_fits in let bytes = bytes_small few in omega (arith, within, long, bytes)

      -- so many blocks are counted by 16 bits
      pub wanted_few : mdb.allocation_blocks ≤ 65535 → wanted ≤ 65535
      wanted_few most = let free = enough_free in let left = edits.few_of total old mdb extents catalog v f fork chosen is in omega (arith, most, free, left)

      pub zeros_are : AreZeros (mdb_in old).allocation_block_size was_length had len (blocks (mdb_in old).allocation_block_size len) offset given from (end - from)
      zeros_are = subst (λ (k : ℕ). AreZeros k was_length had len (blocks k len) offset given from (end - from)) size_old (record {
        behind = places.behind;
        begins = places.begins;
        ends = (let le = order in omega (arith, le)) ∙ end_is;
      })
        where
          end_is : end ≡ cond (ltb had n) (n * size) (max from len)
          end_is = end_by (λ (e : ℕ). e ≡ cond (ltb had n) (n * size) (max from len))
              (λ some. ap (λ (b : Bool). cond b (n * size) (max from len)) (sym (lt-ltb had n (let count = count_is in omega (arith, some, count)))))
              (λ none. ap (λ (b : Bool). cond b (n * size) (max from len)) (sym (le-ltb had n (let count = count_is in omega (arith, none, count)))))

      -- ---- what is wanting

      chosen_old : AreChosen (is_used old (mdb_in old).bitmap_start) (mdb_in old).allocation_blocks (block_after (extents_of old fork f.file)) wanted g.pieces.items
      chosen_old =
          subst (λ (m : Mdb). AreChosen (is_used old m.bitmap_start) m.allocation_blocks (block_after (extents_of old fork f.file)) wanted g.pieces.items) v.directory
          (subst (λ (es : List Extent). AreChosen (is_used old mdb.bitmap_start) mdb.allocation_blocks (block_after es) wanted g.pieces.items) was_is grows.chosen)

      free_old : AreFreeOnce (is_used old (mdb_in old).bitmap_start) (mdb_in old).allocation_blocks wanted g.pieces.items
      free_old = subst (λ (m : Mdb). AreFreeOnce (is_used old m.bitmap_start) m.allocation_blocks wanted g.pieces.items) v.directory grows.free

      enough_old : wanted ≤ (mdb_in old).free_blocks
      enough_old = subst (λ (m : Mdb). wanted ≤ m.free_blocks) v.directory enough_free

      -- too few nodes are free
      pub meets_nodes : (told : Want) → IsNodesWanted f fork g.pieces.items old told → IsWanting fork f.file len old told
      meets_nodes told is_nodes =
          subst (λ (w : Want). IsWanting fork f.file len old w) (sym is_nodes.same)
          (wanting.meets_nodes total old v.sound fork f.file len wanted wanted_is g.pieces.items chosen_old enough_old free_old is_nodes.nodes is_nodes.is)

      -- nothing is
      pub meets_none : HasNodesFor (records_coming (extents_of old fork f.file) g.pieces.items) (extents_nodes old) → MeetsWant fork f.file len old None
      meets_none = wanting.meets_none total old v.sound fork f.file len wanted wanted_is g.pieces.items chosen_old enough_old
