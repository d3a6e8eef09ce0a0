-- Whether a volume is right before its counts, part by part.
use Rattle.std.proofs.Common.{◌≡◌, ℕ, Bool, true, false, List, [], length, Option, Some, None, filter, refl, sym, ap, ◌∙◌, cond}
use Rattle.std.specs.Prelude.{◌&&◌, nat_le}
use Rattle.std.specs.Option.{is_none}
use Rattle.hfs_fields.specs.declared.mdb.Mdb.{Mdb}
use Rattle.hfs_btree.specs.Tree.{Store}
use Rattle.hfs_catalog.specs.Records.{Catalog}
use Rattle.hfs_btree_checks.specs.Shape.{unless, ◌or_else◌}
use Rattle.hfs_blocks.specs.Blocks.{block_at, block_count}
use Rattle.hfs_space.specs.Owners.{catalog_fork}
use Rattle.hfs_check.specs.declared.mount_fault.MountFault.{MountFault}
use Rattle.hfs_check.specs.declared.mount_fault.MountFault.TheVariants.{TooLarge, Short}
use Rattle.hfs_check.specs.Answers.{listed_fault}
use Rattle.hfs_check.specs.Faults.{◌or_fault◌, fault_unless, check_fault, length_fault, mdb_fault, extents_fault, catalog_fault, trees_fault, records_fault}
use Rattle.hfs_check.specs.Parts.{Blocks, mdb_in, extents_nodes, overflow_in, catalog_extents, catalog_nodes, catalog_in}
use Rattle.hfs_repair.specs.Fields.{PlacedNumber}
use Rattle.hfs_repair.specs.Opened.{is_extents_right, is_catalog_right, catalog_file_of, catalog_nodes_of, catalog_in_of, are_records_right}
use Rattle.hfs_repair.specs.Placed.{is_wrong, placed_in}
use Rattle.hfs_repair.specs.Repair.{is_mendable, wrong_in}
use Rattle.hfs_repair.specs.Wrong.{are_blocks_mendable, wrong_in_blocks, placed_of}
use Rattle.hfs_check.proofs.CommonLemmas.{none-mapped as none-check}
use Rattle.hfs_repair.proofs.Openings.{none-else}

fault-and : (a b : Option MountFault) → is_none (a or_fault b) ≡ (is_none a && is_none b)
fault-and None b = refl
fault-and (Some x) b = refl

unless-none : (b : Bool) → is_none (unless b) ≡ b
unless-none true = refl
unless-none false = refl

and-true : (b : Bool) → (b && true) ≡ b
and-true true = refl
and-true false = refl

and-assoc : (a b c : Bool) → (a && (b && c)) ≡ ((a && b) && c)
and-assoc true b c = refl
and-assoc false b c = refl

shape-and : (a : Option ℕ) (b : Bool) → is_none (unless b or_else (a or_else unless true)) ≡ (b && is_none a)
shape-and a b = none-else (unless b) (a or_else unless true) ∙ (λ i. unless-none b i && (none-else a (unless true) ∙ and-true (is_none a)) i)

extents-and : (a k o : Option ℕ) (b : Bool) → is_none (unless b or_else ((a or_else unless true) or_else (k or_else o))) ≡ ((b && is_none a) && (is_none k && is_none o))
extents-and a k o b =
    none-else (unless b) ((a or_else unless true) or_else (k or_else o))
    ∙ (λ i. unless-none b i && (none-else (a or_else unless true) (k or_else o) ∙ (λ j. (none-else a (unless true) ∙ and-true (is_none a)) j && none-else k o j)) i)
    ∙ and-assoc b (is_none a) (is_none k && is_none o)

module _ (blocks : Blocks) where
  extents-part : is_none (check_fault 3 (extents_fault true (mdb_in blocks) (extents_nodes blocks))) ≡ is_extents_right blocks (mdb_in blocks)
  unfolding extents_fault is_extents_right extents_nodes
  extents-part = none-check 3 _ ∙ extents-and _ _ _ _

  file-same : catalog_file_of blocks (mdb_in blocks) ≡ catalog_extents blocks
  unfolding catalog_file_of catalog_extents overflow_in catalog_fork extents_nodes
  file-same = refl

  catalog-part : is_none (check_fault 4 (catalog_fault true (mdb_in blocks) (catalog_extents blocks) (catalog_nodes blocks))) ≡ is_catalog_right blocks (mdb_in blocks)
  unfolding catalog_fault is_catalog_right catalog_nodes catalog_file_of catalog_extents overflow_in catalog_fork extents_nodes
  catalog-part = none-check 4 _ ∙ shape-and _ _

  trees-part : is_none (trees_fault true true blocks) ≡ (is_extents_right blocks (mdb_in blocks) && is_catalog_right blocks (mdb_in blocks))
  unfolding trees_fault
  trees-part = fault-and _ _ ∙ (λ i. extents-part i && catalog-part i)

  records-part : is_none (records_fault blocks) ≡ are_records_right blocks (mdb_in blocks)
  unfolding records_fault are_records_right catalog_in catalog_nodes catalog_file_of catalog_extents overflow_in catalog_fork extents_nodes
  records-part = refl

  module _ (total : ℕ) where
    parts : are_blocks_mendable total blocks
        ≡ (is_none (mdb_fault total (mdb_in blocks)) && ((is_extents_right blocks (mdb_in blocks) && is_catalog_right blocks (mdb_in blocks)) && are_records_right blocks (mdb_in blocks)))
    unfolding are_blocks_mendable
    parts = fault-and _ _ ∙ (λ i. is_none (mdb_fault total (mdb_in blocks)) && (fault-and (trees_fault true true blocks) (records_fault blocks) ∙ (λ j. trees-part j && records-part j)) i)

    abbrev wrongs : Bool → List PlacedNumber
    wrongs b = cond b (filter is_wrong (placed_in blocks)) []

    pub by-parts : (m e c r : Bool) → is_none (mdb_fault total (mdb_in blocks)) ≡ m → is_extents_right blocks (mdb_in blocks) ≡ e → is_catalog_right blocks (mdb_in blocks) ≡ c
        → are_records_right blocks (mdb_in blocks) ≡ r → wrong_in_blocks total blocks ≡ wrongs (m && ((e && c) && r))
    unfolding wrong_in_blocks
    by-parts m e c r a b d f = ap wrongs (parts ∙ (λ i. a i && ((b i && d i) && f i)))

    any : (b : Bool) → (c : Bool) → b ≡ c → b ≡ c
    any b c e = e

    pub mdb-wrong : is_none (mdb_fault total (mdb_in blocks)) ≡ false → [] ≡ wrong_in_blocks total blocks
    mdb-wrong a = sym (by-parts false _ _ _ a refl refl refl)

    pub extents-wrong : is_none (mdb_fault total (mdb_in blocks)) ≡ true → is_extents_right blocks (mdb_in blocks) ≡ false → [] ≡ wrong_in_blocks total blocks
    extents-wrong a b = sym (by-parts true false _ _ a b refl refl)

    pub catalog-wrong : is_none (mdb_fault total (mdb_in blocks)) ≡ true → is_extents_right blocks (mdb_in blocks) ≡ true → is_catalog_right blocks (mdb_in blocks) ≡ false → [] ≡ wrong_in_blocks total blocks
    catalog-wrong a b d = sym (by-parts true true false _ a b d refl)

    placed-same : placed_of blocks (mdb_in blocks) ≡ placed_in blocks
    unfolding placed_of placed_in catalog_in catalog_nodes catalog_file_of catalog_extents overflow_in catalog_fork extents_nodes
    placed-same = refl

    pub trees-right : is_none (mdb_fault total (mdb_in blocks)) ≡ true → is_extents_right blocks (mdb_in blocks) ≡ true → is_catalog_right blocks (mdb_in blocks) ≡ true
        → cond (are_records_right blocks (mdb_in blocks)) (filter is_wrong (placed_of blocks (mdb_in blocks))) [] ≡ wrong_in_blocks total blocks
    trees-right a b d = ap (λ (ns : List PlacedNumber). cond (are_records_right blocks (mdb_in blocks)) (filter is_wrong ns) []) placed-same ∙ sym (by-parts true true true _ a b d refl)

-- ---- the image's length

length-part : (bytes : ℕ) → is_none (length_fault bytes) ≡ (nat_le bytes 2147483648 && nat_le 1536 bytes)
unfolding length_fault
length-part bytes = fault-and _ _ ∙ (λ i. fault-none TooLarge (nat_le bytes 2147483648) i && fault-none Short (nat_le 1536 bytes) i)
  where
    fault-none : (fault : MountFault) (b : Bool) → is_none (fault_unless fault b) ≡ b
    fault-none fault true = refl
    fault-none fault false = refl

module _ (image : List ℕ) where
  image-part : is_mendable image ≡ (is_none (length_fault (length image)) && are_blocks_mendable (block_count image) (block_at image))
  unfolding is_mendable are_blocks_mendable
  image-part = fault-and _ _

  pub image-right : (nat_le (length image) 2147483648 && nat_le 1536 (length image)) ≡ true → wrong_in_blocks (block_count image) (block_at image) ≡ wrong_in image
  unfolding wrong_in wrong_in_blocks
  image-right e =
      ap (λ (b : Bool). cond b (filter is_wrong (placed_in (block_at image))) [])
      (sym (image-part ∙ ap (λ (b : Bool). b && are_blocks_mendable (block_count image) (block_at image)) (length-part (length image) ∙ e)))

  pub image-wrong : (nat_le (length image) 2147483648 && nat_le 1536 (length image)) ≡ false → [] ≡ wrong_in image
  unfolding wrong_in
  image-wrong e =
      ap (λ (b : Bool). cond b (filter is_wrong (placed_in (block_at image))) [])
      (sym (image-part ∙ ap (λ (b : Bool). b && are_blocks_mendable (block_count image) (block_at image)) (length-part (length image) ∙ e)))

-- ---- the records that were read

pub records-tested : (blocks : Blocks) (mdb : Mdb) (nodes : Store) (records : Catalog) → nodes ≡ catalog_nodes_of blocks mdb → records ≡ catalog_in_of blocks mdb
    → is_none (listed_fault mdb.next_id nodes records) ≡ are_records_right blocks mdb
unfolding are_records_right
records-tested blocks mdb nodes records e f = λ i. is_none (listed_fault mdb.next_id (e i) (f i))
