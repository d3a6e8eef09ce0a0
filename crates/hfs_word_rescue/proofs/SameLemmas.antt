-- What is seen of what was found of an image is a function of its values, whatever holds them.
use Rattle.std.proofs.Common.{◌≡◌, ◌∙◌, ℕ, ◌≤◌, List, Option, Some, refl, sym, ap, subst}
use Rattle.hfs_bag.specs.Items.{BagItem}
use Rattle.hfs_bag.specs.Sources.{BagTables}
use Rattle.hfs_fields.specs.declared.mdb.Mdb.{Mdb}
use Rattle.hfs_remains_forks.specs.Finds.{found_catalog_file, found_extents_file, found_items, found_overflow, found_things}
use Rattle.hfs_remains_places.specs.declared.things.Thing.{Thing}
use Rattle.hfs_remains_forks.specs.declared.shares.FileShares.{FileShares}
use Rattle.hfs_remains_forks.specs.Verdicts.{all_used, shares_of}
use Rattle.hfs_remains.specs.declared.catalog.FoundRecord.{FoundRecord}
use Rattle.hfs_remains.specs.TreeFiles.{AreThere, FileBlocks}
use Rattle.hfs_rescue_items.specs.declared.found.Found.{Found}
use Rattle.hfs_rescue_items.specs.declared.sums.FoundSums.{FoundSums}
use Rattle.hfs_rescue_items.specs.Bytes.{taken_bytes}
use Rattle.hfs_rescue_items.specs.Lines.{item_line, remains_line}
use Rattle.hfs_rescue_items.specs.Plan.{is_made, own_kind, with_folder, with_thing}
use Rattle.hfs_rescue_items.specs.Sources.{rescued_tables}
use Rattle.hfs_space.specs.Extents.{Overflow}
use Rattle.hfs_word_rescue.specs.Answers.{found_sums}
use Rattle.hfs_word_rescue.specs.Bags.{rescued_items}
use Rattle.hfs_word_rescue.specs.Found.{IsFoundOf}

-- ---- the values

pub record Values : Type 0 where
  pub mdb : Mdb
  pub trees_mdb : Mdb
  pub total : ℕ
  pub overflow : Overflow
  pub extents_file : FileBlocks
  pub catalog_file : FileBlocks
  pub items : List FoundRecord
  pub things : List Thing
  pub shares : List (Option FileShares)

-- what must hold of them
pub record Fits (v : Values) : Type 0 where
  pub same : v.mdb ≡ v.trees_mdb
  pub size : 512 ≤ v.trees_mdb.allocation_block_size
  pub extents_there : AreThere v.total v.trees_mdb v.extents_file
  pub catalog_there : AreThere v.total v.trees_mdb v.catalog_file

abbrev pub values : Found → Values
values found = record {
  mdb = found.mdb.now;
  trees_mdb = found.salvage.now.trees.mdb.now;
  total = found.salvage.now.trees.total;
  overflow = found.salvage.now.trees.overflow.now;
  extents_file = found.salvage.now.trees.extents_file.now;
  catalog_file = found.salvage.now.trees.catalog_file.now;
  items = found.items.now;
  things = found.places.now;
  shares = found.salvage.now.shares;
}

abbrev pub fits : (found : Found) → Fits (values found)
fits found = record {
  same = found.mdb_is;
  size = found.salvage.now.trees.size;
  extents_there = found.salvage.now.trees.extents_there;
  catalog_there = found.salvage.now.trees.catalog_there;
}

-- what was found with these values in the places of its own
abbrev pub holding : Found → (v : Values) → Fits v → Found
holding found v p = record found {
  mdb = record found.mdb { now = v.mdb };
  items = record found.items { now = v.items };
  places = record found.places { now = v.things };
  salvage = record found.salvage {
    now = record {
      trees = record found.salvage.now.trees {
        total = v.total;
        mdb = record found.salvage.now.trees.mdb { now = v.trees_mdb };
        overflow = record found.salvage.now.trees.overflow { now = v.overflow };
        extents_file = record found.salvage.now.trees.extents_file { now = v.extents_file };
        catalog_file = record found.salvage.now.trees.catalog_file { now = v.catalog_file };
        size = p.size;
        extents_there = p.extents_there;
        catalog_there = p.catalog_there;
      };
      shares = v.shares;
    };
  };
  mdb_is = p.same;
}

-- ---- what is seen

pub record Seen : Type 0 where
  pub items : List BagItem
  pub tables : BagTables
  pub sums : FoundSums

abbrev pub seen : List ℕ → Found → Seen
seen image found = record { items = rescued_items image found; tables = rescued_tables found; sums = found_sums found }

seen-holding : (image : List ℕ) (f g : Found) (v : Values) (p q : Fits v) → seen image (holding f v p) ≡ seen image (holding g v q)
unfolding all_used taken_bytes item_line remains_line is_made own_kind with_folder with_thing
seen-holding image f g v p q = refl

seen-by : (image : List ℕ) (f g : Found) (v : Values) → values f ≡ v → (q : Fits v) → seen image f ≡ seen image (holding g v q)
seen-by image f g v same = subst (λ (w : Values). (q : Fits w) → seen image f ≡ seen image (holding g w q)) same (λ q. seen-holding image f g (values f) (fits f) q)

-- ---- of one image

module _ (image : List ℕ) (limit : ℕ) (f g : Found) (a : IsFoundOf image limit f) (b : IsFoundOf image limit g) where
  some-same : (m n : Mdb) → Some m ≡ Some n → m ≡ n
  some-same m n e = cc

  pub same_mdb : f.mdb.now ≡ g.mdb.now
  same_mdb = some-same f.mdb.now g.mdb.now (sym a.directory_is ∙ b.directory_is)

  pub same-values : values f ≡ values g
  same-values = λ i. record {
    mdb = same_mdb i;
    trees_mdb = (sym f.mdb_is ∙ same_mdb ∙ g.mdb_is) i;
    total = (a.total_is ∙ sym b.total_is) i;
    overflow = (a.overflow_is ∙ ap (found_overflow image) same_mdb ∙ sym b.overflow_is) i;
    extents_file = (a.extents_file_is ∙ ap (found_extents_file image) same_mdb ∙ sym b.extents_file_is) i;
    catalog_file = (a.catalog_file_is ∙ ap (found_catalog_file image) same_mdb ∙ sym b.catalog_file_is) i;
    items = (a.items_are ∙ ap (found_items image) same_mdb ∙ sym b.items_are) i;
    things = (a.places_are ∙ ap (found_things image) same_mdb ∙ sym b.places_are) i;
    shares = (a.shares_are ∙ ap (λ (m : Mdb). shares_of (found_overflow image m) m limit (found_items image m)) same_mdb ∙ sym b.shares_are) i;
  }

  pub same_seen : seen image f ≡ seen image g
  same_seen = seen-by image f g (values g) same-values (fits g)
