-- What the edits of the extents tree and of the bitmap make of the blocks of a fork of a sound volume.
use Rattle.std.proofs.Common.{◌≡◌, inl, inr, ◌⊎◌, ℕ, ◌+◌, ◌*◌, ◌/◌, ◌%◌, ◌<◌, ◌≤◌, true, not, List, [], ◌++◌, length, length-append, take, drop, append-nil, refl, sym, ◌∙◌, ap, subst, arith, Some}
use Rattle.std.proofs.lemmas.List.{take-append-drop, length-take-le}
use Rattle.hfs_fields.specs.declared.extent.Extent.{Extent}
use Rattle.hfs_fields.specs.declared.file_record.FileRecord.{FileRecord}
use Rattle.hfs_fields.specs.Records.{is_file, file_record_of}
use Rattle.hfs_space.specs.Bitmap.{bitmap_len, is_used, is_marked, clear_count}
use Rattle.hfs_space.specs.Extents.{extent_blocks, fork_extents}
use Rattle.hfs_space.specs.Owners.{owners}
use Rattle.hfs_space.specs.TreeKeys.{overflow_of}
use Rattle.hfs_space.proofs.CountingLemmas.{count_below-same}
use Rattle.hfs_space.proofs.OwnerLemmas.{append}
use Rattle.hfs_record_edits.specs.Released.{AreAlone}
use Rattle.hfs_model.specs.declared.call.Fork.{Fork}
use Rattle.hfs_catalog.specs.Records.{Record, item_with}
use Rattle.hfs_check.specs.Parts.{Blocks, mdb_in, extents_nodes, overflow_in, catalog_in}
use Rattle.hfs_check.specs.Sound.{AreBlocksSound}
use Rattle.hfs_check.proofs.LawTypes.{CatalogIsSound}
use Rattle.hfs_check.proofs.LawfulVolume.{sound_trees}
use Rattle.hfs_space.specs.Claimed.{AreFree}
use Rattle.hfs_record_edits.specs.Whole.{IsWhole, EditsFork}
use Rattle.hfs_record_edits.proofs.TreeEdits.{edits-none}
use Rattle.hfs_call_patches.specs.Files.{fork_of}
use Rattle.hfs_call_patches.specs.Edits.{byte_of, blocks_of, MovesBlocks, SetsExtents, SetsBits}
use Rattle.hfs_call_patches.specs.Sized.{HasBitmapOf, Gains, Loses, Stays, GetsBlocks}
use Rattle.hfs_call_patches.proofs.SoundForks.{own_once, own_marked, own_within, own_whole}
use Rattle.hfs_call_patches.proofs.Rooms.{within_each}

-- The fork, whose record is this now, has n blocks: those that it had and behind them those that came, or the first of those that it had.
-- The extents tree, the bitmap and its clear bits are right for that.
pub record HasBlocks (fork : Fork) (was now : FileRecord) (n : ℕ) (old new : Blocks) : Type 0 where
  pub extents : SetsExtents fork now old new
  pub come : List ℕ
  pub go : List ℕ
  pub one_way : (come ≡ []) ⊎ (go ≡ [])
  pub moves : MovesBlocks fork was now come go old new
  pub bits : SetsBits come go old new
  pub exact : length (blocks_of new fork now) ≡ n
  pub clear : clear_count new (mdb_in old).bitmap_start (mdb_in old).allocation_blocks + n ≡ (mdb_in old).free_blocks + length (blocks_of old fork was)

-- ---- the bitmap is as it is in other blocks

module _ (old bits new : Blocks) (same : HasBitmapOf old bits new) where
  bit_same : (b : ℕ) → b < 4096 * bitmap_len (mdb_in old).allocation_blocks → is_used new (mdb_in old).bitmap_start b ≡ is_used bits (mdb_in old).bitmap_start b
  bit_same b within =
      let k : ℕ = (mdb_in old).bitmap_start + b / 4096 in
      ap (λ (bytes : List ℕ). is_marked bytes (b % 4096)) (same k (omega arith) (omega (arith, within)))

  clear_same : clear_count new (mdb_in old).bitmap_start (mdb_in old).allocation_blocks ≡ clear_count bits (mdb_in old).bitmap_start (mdb_in old).allocation_blocks
  clear_same =
      count_below-same (λ b. not (is_used new (mdb_in old).bitmap_start b)) (λ b. not (is_used bits (mdb_in old).bitmap_start b)) (mdb_in old).allocation_blocks (λ b low. ap not (bit_same b (omega (arith, low))))

-- a fork's blocks by its first extents
blocks_by : (fork : Fork) (was now : FileRecord) (first : List Extent) (new : Blocks) → now.id ≡ was.id → (fork_of fork now).extents ≡ first
    → blocks_of new fork now ≡ extent_blocks (fork_extents (overflow_of (extents_nodes new)) was.id (byte_of fork) first)
unfolding overflow_in
blocks_by fork was now first new id_same is = λ i. extent_blocks (fork_extents (overflow_of (extents_nodes new)) (id_same i) (byte_of fork) (is i))

old_blocks : (fork : Fork) (was : FileRecord) (old : Blocks) → blocks_of old fork was ≡ extent_blocks (fork_extents (overflow_of (extents_nodes old)) was.id (byte_of fork) (fork_of fork was).extents)
unfolding overflow_in
old_blocks fork was old = refl

module _ (catalogs : CatalogIsSound) (total id : ℕ) (fork : Fork) (r : Record) (n : ℕ) (first : List Extent) (now : FileRecord) (old new : Blocks) (h : AreBlocksSound total old)
    (there : item_with (catalog_in old) id ≡ Some r) (is : is_file r.1 ≡ true) (id_same : now.id ≡ (file_record_of r.1).id) (first_is : (fork_of fork now).extents ≡ first) where
  abbrev was : FileRecord
  was = file_record_of r.1

  abbrev start : ℕ
  start = (mdb_in old).bitmap_start

  abbrev blocks : ℕ
  blocks = (mdb_in old).allocation_blocks

  sets_extents : EditsFork was.id (byte_of fork) (extents_nodes old) (extents_nodes new) → IsWhole was.id (byte_of fork) first (extents_nodes new) → SetsExtents fork now old new
  sets_extents edits whole = record {
    edits = subst (λ (k : ℕ). EditsFork k (byte_of fork) (extents_nodes old) (extents_nodes new)) (sym id_same) edits;
    whole = subst (λ (es : List Extent). IsWhole now.id (byte_of fork) es (extents_nodes new)) (sym first_is) (subst (λ (k : ℕ). IsWhole k (byte_of fork) first (extents_nodes new)) (sym id_same) whole);
  }

  counted : (mdb_in old).free_blocks ≡ clear_count old start blocks
  counted = h.space.counted

  -- ---- blocks that come

  module _ (g : Gains fork was first n old new) where
    come_within : (b : ℕ) → 0 < owners (extent_blocks g.pieces) b → b < blocks
    come_within b some = within_each blocks b g.pieces g.free.within some

    gained : blocks_of new fork now ≡ blocks_of old fork was ++ extent_blocks g.pieces
    gained = blocks_by fork was now first new id_same first_is ∙ g.grown.blocks ∙ ap (λ (l : List ℕ). l ++ extent_blocks g.pieces) (sym (old_blocks fork was old))

    pub gains : HasBlocks fork was now n old new
    gains = record {
      extents = sets_extents g.grown.edits g.grown.has.whole;
      come = extent_blocks g.pieces;
      go = [];
      one_way = inr refl;
      moves = record {
        stay = blocks_of old fork was;
        before = sym (append-nil (blocks_of old fork was));
        after = gained;
        once = g.free.once;
        free = g.free.free;
        within = come_within;
      };
      bits = record {
        set = λ b some. let low = come_within b some in bit_same old g.bits new g.bitmap b (omega (arith, low)) ∙ g.claimed.set b some;
        clear = λ b none. absurd (let no_one : 0 < 0 = none in omega (arith, no_one));
        others = λ b low none gone. bit_same old g.bits new g.bitmap b low ∙ g.claimed.others b none;
      };
      exact =
          let all = ap (λ (l : List ℕ). length l) gained in
          let parts = length-append (blocks_of old fork was) (extent_blocks g.pieces) in
          let more = g.free.enough in
          let count = g.count in
          omega (arith, all, parts, more, count);
      clear =
          let are_free : AreFree old start (extent_blocks g.pieces) = record { once = g.free.once; free = g.free.free } in
          let less = g.claimed.counted are_free in
          let more = g.free.enough in
          let count = g.count in
          let same = clear_same old g.bits new g.bitmap in
          let before = counted in
          omega (arith, less, more, count, same, before);
    }

  -- ---- blocks that go

  module _ (l : Loses fork was first n old new) where
    abbrev went : List ℕ
    went = extent_blocks l.short.surplus.items

    split : blocks_of old fork was ≡ take n (blocks_of old fork was) ++ went
    split = sym (take-append-drop n (blocks_of old fork was)) ∙ ap (λ (xs : List ℕ). take n (blocks_of old fork was) ++ xs) (ap (drop n) (old_blocks fork was old) ∙ sym l.shortened.lost)

    owned : (b : ℕ) → owners went b ≤ owners (blocks_of old fork was) b
    owned b = let parts = ap (λ (xs : List ℕ). owners xs b) split ∙ append b (take n (blocks_of old fork was)) went in omega (arith, parts)

    went_within : (b : ℕ) → 0 < owners went b → b < blocks
    went_within b some = own_within catalogs total id fork r old h there is b (omega (arith, owned b, some))

    left : blocks_of new fork now ≡ take n (blocks_of old fork was)
    left =
        blocks_by fork was now first new id_same first_is ∙ ap (λ (es : List Extent). extent_blocks (fork_extents (overflow_of (extents_nodes new)) was.id (byte_of fork) es)) (sym l.left)
        ∙ l.shortened.blocks ∙ ap (take n) (sym (old_blocks fork was old))

    pub loses : HasBlocks fork was now n old new
    loses = record {
      extents = sets_extents l.shortened.edits (subst (λ (es : List Extent). IsWhole was.id (byte_of fork) es (extents_nodes new)) l.left l.shortened.whole);
      come = [];
      go = went;
      one_way = inl refl;
      moves = record {
        stay = take n (blocks_of old fork was);
        before = split;
        after = left ∙ sym (append-nil (take n (blocks_of old fork was)));
        once = λ b. omega arith;
        free = λ b none. absurd (let no_one : 0 < 0 = none in omega (arith, no_one));
        within = λ b none. absurd (let no_one : 0 < 0 = none in omega (arith, no_one));
      };
      bits = record {
        set = λ b none. absurd (let no_one : 0 < 0 = none in omega (arith, no_one));
        clear = λ b some. let low = went_within b some in bit_same old l.bits new l.bitmap b (omega (arith, low)) ∙ l.released.clear b some;
        others = λ b low none gone. bit_same old l.bits new l.bitmap b low ∙ l.released.others b gone;
      };
      exact = ap (λ (xs : List ℕ). length xs) left ∙ length-take-le n (blocks_of old fork was) l.fewer;
      clear =
          let alone : AreAlone old start went = record {
            once = λ b. omega (arith, owned b, own_once catalogs total id fork r old h there is b);
            used = λ b some. own_marked catalogs total id fork r old h there is b (omega (arith, owned b, some));
          } in
          let more = l.released.counted alone in
          let parts = ap (λ (xs : List ℕ). length xs) split ∙ length-append (take n (blocks_of old fork was)) went in
          let front = length-take-le n (blocks_of old fork was) l.fewer in
          let same = clear_same old l.bits new l.bitmap in
          let before = counted in
          omega (arith, more, parts, front, same, before);
    }

  -- ---- as many blocks as before

  module _ (s : Stays fork was first n old new) where
    kept : blocks_of new fork now ≡ blocks_of old fork was
    kept =
        blocks_by fork was now first new id_same first_is
        ∙ (λ i. extent_blocks (fork_extents (overflow_of (s.nodes i)) was.id (byte_of fork) (s.same i)))
        ∙ sym (old_blocks fork was old)

    pub stays : HasBlocks fork was now n old new
    stays = record {
      extents = sets_extents
          (subst (λ (nodes : List (List ℕ)). EditsFork was.id (byte_of fork) (extents_nodes old) nodes) (sym s.nodes) (edits-none was.id (byte_of fork) (extents_nodes old) (sound_trees total old h).0))
          (subst (λ (nodes : List (List ℕ)). IsWhole was.id (byte_of fork) first nodes) (sym s.nodes)
          (subst (λ (es : List Extent). IsWhole was.id (byte_of fork) es (extents_nodes old)) (sym s.same) (own_whole catalogs total id fork r old h there is)));
      come = [];
      go = [];
      one_way = inl refl;
      moves = record {
        stay = blocks_of old fork was;
        before = sym (append-nil (blocks_of old fork was));
        after = kept ∙ sym (append-nil (blocks_of old fork was));
        once = λ b. omega arith;
        free = λ b none. absurd (let no_one : 0 < 0 = none in omega (arith, no_one));
        within = λ b none. absurd (let no_one : 0 < 0 = none in omega (arith, no_one));
      };
      bits = record {
        set = λ b none. absurd (let no_one : 0 < 0 = none in omega (arith, no_one));
        clear = λ b none. absurd (let no_one : 0 < 0 = none in omega (arith, no_one));
        others = λ b low none gone. bit_same old old new s.bitmap b low;
      };
      exact = ap (λ (xs : List ℕ). length xs) kept ∙ s.count;
      clear = let same = clear_same old old new s.bitmap in let before = counted in let count = s.count in omega (arith, same, before, count);
    }

  pub has_blocks : GetsBlocks fork was first n old new → HasBlocks fork was now n old new
  has_blocks (inl g) = gains g
  has_blocks (inr (inl l)) = loses l
  has_blocks (inr (inr s)) = stays s
