-- What was opened of an image is opened by the number of its blocks.
use Rattle.std.proofs.Common.{◌≡◌, ℕ, List, Option, sym, subst}
use Rattle.hfs_image.specs.declared.opening.NeededVolume.{NeededVolume}
use Rattle.hfs_image.specs.Opened.{IsOpenedOf}
use Rattle.hfs_blocks.specs.Layers.{Numbered}
use Rattle.hfs_check.specs.Parts.{mdb_in}
use Rattle.hfs_check.specs.Sound.{AreBlocksSound}
use Rattle.hfs_check.specs.Trees.{HasTrees}
use Rattle.hfs_image.specs.Gathered.{HasNeeded, IsOfKnown}
use Rattle.hfs_source.specs.Sparse.{sparse}

-- by a source that tells the same image
pub opened-at : (known now : Option (List ℕ)) (total : ℕ) (volume : NeededVolume) → now ≡ known → IsOpenedOf known total volume → IsOpenedOf now volume.count volume
opened-at known now total volume e h =
    subst (λ (o : Option (List ℕ)). IsOpenedOf o volume.count volume) (sym e) (subst (λ (n : ℕ). IsOpenedOf known n volume) (sym h.whole) h)

pub opened-by : (known now : Option (List ℕ)) (total : ℕ) (volume : NeededVolume) → now ≡ known → IsOpenedOf known total volume → IsOpenedOf now total volume
opened-by known now total volume e h = subst (λ (o : Option (List ℕ)). IsOpenedOf o total volume) (sym e) h

-- what was kept of a sound volume is opened
pub opened-from : (known : Option (List ℕ)) (total : ℕ) (read : Numbered) → HasNeeded total read → IsOfKnown known read → AreBlocksSound total (sparse read)
    → (volume : NeededVolume) → volume.read ≡ read → volume.count ≡ total → volume.sound.mdb ≡ mdb_in (sparse read)
    → HasTrees total (sparse read) volume.sound.trees → IsOpenedOf known total volume
opened-from known total read needed of sound volume same whole directory trees = record {
  whole = whole;
  needed = subst (λ (r : Numbered). HasNeeded total r) (sym same) needed;
  of = subst (λ (r : Numbered). IsOfKnown known r) (sym same) of;
  sound = subst (λ (r : Numbered). AreBlocksSound total (sparse r)) (sym same) sound;
  directory = subst (λ (r : Numbered). volume.sound.mdb ≡ mdb_in (sparse r)) (sym same) directory;
  trees = subst (λ (r : Numbered). HasTrees total (sparse r) volume.sound.trees) (sym same) trees;
}
