-- What stays as it was, stays so along changes.
use Rattle.std.proofs.Common.{◌≡◌, ℕ, ◌+◌, ◌*◌, ◌/◌, ◌%◌, ◌<◌, ◌≤◌, List, [], ◌∷◌, ◌++◌, map, take, drop, get_or, ap, refl, sym, ◌∙◌, subst, arith}
use Rattle.std.specs.List.{flat_map, range_with_len}
use Rattle.std.proofs.lemmas.List.{get_or-take, get_or-drop}
use Rattle.hfs_fields.specs.declared.mdb.Mdb.{Mdb}
use Rattle.hfs_fields.specs.declared.extent.Extent.{Extent}
use Rattle.hfs_fields.specs.Numbers.{number_at}
use Rattle.hfs_fields.proofs.PutLemmas.{number_at-same}
use Rattle.hfs_fields.specs.Counts.{IsBesideCounts, SameBesideCounts}
use Rattle.hfs_btree.specs.declared.key.Key.{Ghosts}
use Rattle.hfs_fields.specs.Each.{Each}
use Rattle.hfs_fields.proofs.ElementLemmas.{each-append, each-left, each-right}
use Rattle.hfs_btree.specs.Tree.{Store}
use Rattle.hfs_blocks.specs.declared.run.Run.{Run}
use Rattle.hfs_blocks.specs.Blocks.{run_of, block_at}
use Rattle.hfs_btree.specs.Sound.{IsOther, KeepsFrame}
use Rattle.hfs_space.specs.Bitmap.{bitmap_len}
use Rattle.hfs_space.specs.TreeKeys.{ext_keys}
use Rattle.hfs_catalog.specs.Tree.{cat_keys}
use Rattle.hfs_check.specs.Parts.{Blocks, mdb_in, extents_nodes, catalog_nodes}
use Rattle.hfs_check.specs.Sound.{IsSound}
use Rattle.hfs_check.specs.Agree.{changing_blocks, IsBeside, IsBesideAll, IsSpareBit, KeepsBut, AgreesBut, Agrees}

-- ---- trees

module _ {K : Type 0} (g : Ghosts K) where
  frame_itself : (nodes : Store) → KeepsFrame g nodes nodes
  frame_itself nodes = record { file = refl; nodes = refl; map = refl; map_length = refl; stray = λ n. (λ h. h, λ h. h) }

  frame_on : (old middle new : Store) → KeepsFrame g old middle → KeepsFrame g middle new → KeepsFrame g old new
  frame_on old middle new p q = record {
    file = q.file ∙ p.file;
    nodes = q.nodes ∙ p.nodes;
    map = q.map ∙ p.map;
    map_length = q.map_length ∙ p.map_length;
    stray = λ n. (λ h. (p.stray n).0 ((q.stray n).0 h), λ h. (q.stray n).1 ((p.stray n).1 h));
  }

-- ---- the fields of the master directory block that say where things lie

record SameLayout (old new : Mdb) : Type 0 where
  bitmap_start : new.bitmap_start ≡ old.bitmap_start
  allocation_blocks : new.allocation_blocks ≡ old.allocation_blocks
  allocation_block_size : new.allocation_block_size ≡ old.allocation_block_size
  allocation_start : new.allocation_start ≡ old.allocation_start
  extents_file : new.extents_file ≡ old.extents_file

module _ (old new : Blocks) (same : SameBesideCounts (old 2) (new 2)) where
  number : (a n : ℕ) → a + n ≤ 162 → ((k : ℕ) → a ≤ k → k < a + n → IsBesideCounts k) → number_at a n (take 162 (new 2)) ≡ number_at a n (take 162 (old 2))
  number a n fits beside =
      number_at-same a n (take 162 (new 2)) (take 162 (old 2)) (λ k low high.
      get_or-take 162 (new 2) k 0 (omega arith) ∙ same k (beside k low high) ∙ sym (get_or-take 162 (old 2) k 0 (omega arith)))

  same_layout : SameLayout (mdb_in old) (mdb_in new)
  unfolding mdb_in
  same_layout = record {
    bitmap_start = number 14 2 (omega arith) (λ k low high. omega arith);
    allocation_blocks = number 18 2 (omega arith) (λ k low high. omega arith);
    allocation_block_size = number 20 4 (omega arith) (λ k low high. omega arith);
    allocation_start = number 28 2 (omega arith) (λ k low high. omega arith);
    extents_file = λ i. record { first = number 134 2 (omega arith) (λ k low high. omega arith) i; count = number 136 2 (omega arith) (λ k low high. omega arith) i } ∷ record { first = number 138 2 (omega arith) (λ k low high. omega arith) i; count = number 140 2 (omega arith) (λ k low high. omega arith) i } ∷ record { first = number 142 2 (omega arith) (λ k low high. omega arith) i; count = number 144 2 (omega arith) (λ k low high. omega arith) i } ∷ [];
  }

-- ---- the blocks that calls change

abbrev pub run_by : ℕ → ℕ → Extent → Run
run_by start size e = record { first = start + e.first * (size / 512); count = e.count * (size / 512); before = 0 }

module _ (written : List ℕ) (old new : Blocks) (kept : KeepsBut written old new) where
  layout : SameLayout (mdb_in old) (mdb_in new)
  layout = same_layout old new kept.mdb

  same_changing : changing_blocks new ≡ changing_blocks old
  unfolding changing_blocks
  same_changing =
      let l = layout in
      λ i. 2 ∷ range_with_len (l.bitmap_start i) (bitmap_len (l.allocation_blocks i))
      ++ take (kept.extents.nodes i) (flat_map run_of (map (run_by (l.allocation_start i) (l.allocation_block_size i)) (l.extents_file i)))
      ++ take (kept.catalog.nodes i) (flat_map run_of (map (run_by (l.allocation_start i) (l.allocation_block_size i)) (kept.catalog_file i)))

-- ---- the whole

-- of calls that write no block of a fork
abbrev pub KeepsVolume : Blocks → Blocks → Type 0
KeepsVolume old new = KeepsBut [] old new

kept_itself : (blocks : Blocks) → KeepsVolume blocks blocks
kept_itself blocks = record {
  mdb = λ k beside. refl;
  bits = λ i spare. refl;
  others = λ n beside. refl;
  extents = frame_itself ext_keys (extents_nodes blocks);
  catalog = frame_itself cat_keys (catalog_nodes blocks);
  catalog_file = refl;
  stray = λ b lt. refl;
}

module _ (xs ys : List ℕ) (old middle new : Blocks) (p : KeepsBut xs old middle) (q : KeepsBut ys middle new) where
  same_blocks : (mdb_in middle).allocation_blocks ≡ (mdb_in old).allocation_blocks
  same_blocks = (layout xs old middle p).allocation_blocks

  spare : (i : ℕ) → IsSpareBit (mdb_in old) i → IsSpareBit (mdb_in middle) i
  spare i h = record {
    past = subst (λ (n : ℕ). n ≤ i) (sym same_blocks) h.past;
    within = subst (λ (n : ℕ). i < 4096 * bitmap_len n) (sym same_blocks) h.within;
  }

  -- what is beside both lists is beside each
  beside_first : (n : ℕ) → IsBesideAll (xs ++ ys) old n → IsBesideAll xs old n
  beside_first n beside =
      each-append (IsOther n) xs (changing_blocks old) (each-left (IsOther n) xs ys (each-left (IsOther n) (xs ++ ys) (changing_blocks old) beside)) (each-right (IsOther n) (xs ++ ys) (changing_blocks old) beside)

  beside_second : (n : ℕ) → IsBesideAll (xs ++ ys) old n → IsBesideAll ys middle n
  beside_second n beside =
      each-append (IsOther n) ys (changing_blocks middle) (each-right (IsOther n) xs ys (each-left (IsOther n) (xs ++ ys) (changing_blocks old) beside))
      (subst (λ (ns : List ℕ). Each (IsOther n) ns) (sym (same_changing xs old middle p)) (each-right (IsOther n) (xs ++ ys) (changing_blocks old) beside))

  kept_on : KeepsBut (xs ++ ys) old new
  kept_on = record {
    mdb = λ k beside. q.mdb k beside ∙ p.mdb k beside;
    bits = λ i h. q.bits i (spare i h) ∙ p.bits i h;
    others = λ n beside. q.others n (beside_second n beside) ∙ p.others n (beside_first n beside);
    extents = frame_on ext_keys (extents_nodes old) (extents_nodes middle) (extents_nodes new) p.extents q.extents;
    catalog = frame_on cat_keys (catalog_nodes old) (catalog_nodes middle) (catalog_nodes new) p.catalog q.catalog;
    catalog_file = q.catalog_file ∙ p.catalog_file;
    stray = λ b lt. q.stray b (subst (λ (n : ℕ). b < n) (sym same_blocks) lt) ∙ p.stray b lt;
  }

pub agrees_itself : (image : List ℕ) → IsSound image → Agrees image image
agrees_itself image sound = record { sound = sound; len = refl; kept = kept_itself (block_at image) }

pub agreements_join : (xs ys base middle image : List ℕ) → AgreesBut xs base middle → AgreesBut ys middle image → AgreesBut (xs ++ ys) base image
agreements_join xs ys base middle image p q =
    record { sound = q.sound; len = q.len ∙ p.len; kept = kept_on xs ys (block_at base) (block_at middle) (block_at image) p.kept q.kept }

pub agrees_on : (base middle image : List ℕ) → Agrees base middle → Agrees middle image → Agrees base image
agrees_on base middle image p q = agreements_join [] [] base middle image p q

-- ---- bytes

-- a byte stands in the block that its place divided by 512 is
byte_of_block : (bytes : List ℕ) (k : ℕ) → get_or (block_at bytes (k / 512)) (k % 512) 0 ≡ get_or bytes k 0
byte_of_block bytes k =
    get_or-take 512 (drop (512 * (k / 512)) bytes) (k % 512) 0 (omega arith) ∙ get_or-drop (512 * (k / 512)) bytes (k % 512) 0
    ∙ ap (λ (j : ℕ). get_or bytes j 0) (let e : 512 * (k / 512) + k % 512 ≡ k = omega arith in e)

pub bytes_stay_but : (written base image : List ℕ) → AgreesBut written base image → (k : ℕ) → IsBesideAll written (block_at base) (k / 512) → get_or image k 0 ≡ get_or base k 0
bytes_stay_but written base image h k beside =
    sym (byte_of_block image k) ∙ ap (λ (block : List ℕ). get_or block (k % 512) 0) (h.kept.others (k / 512) beside) ∙ byte_of_block base k

pub bytes_stay : (base image : List ℕ) → Agrees base image → (k : ℕ) → IsBeside (block_at base) (k / 512) → get_or image k 0 ≡ get_or base k 0
bytes_stay base image h k beside = bytes_stay_but [] base image h k beside
