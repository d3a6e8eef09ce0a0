-- What the calls that claim a node, and give one back, make of the nodes.
use Rattle.std.proofs.Common.{◌≡◌, ℕ, ◌+◌, ◌-◌, ◌<◌, ◌≤◌, true, false, List, length, set, replicate, refl, ◌∙◌, arith}
use Rattle.std.proofs.lemmas.List.{get_or-replicate}
use Rattle.hfs_btree.specs.declared.header.Header.{Header}
use Rattle.hfs_btree.specs.declared.key.Key.{Ghosts}
use Rattle.hfs_btree.specs.Tree.{Store}
use Rattle.hfs_btree.specs.Header.{header_in, record_in, bit_of, free_nodes}
use Rattle.hfs_btree.specs.Sound.{IsSound, IsStray}
use Rattle.hfs_btree_edits.specs.Stored.{HasHeaderPut, HasClaimed, IsReleased}
use Rattle.hfs_btree_edits.specs.MapPlaces.{IsPlaced, HasBitPut}
use Rattle.hfs_btree.specs.Laid.{IsZeroFrom}
use Rattle.hfs_btree.proofs.DecodedLemmas.{decoded-within}
use Rattle.hfs_btree_edits.proofs.RemarkedLemmas.{remarked}
use Rattle.hfs_btree_edits.proofs.ClaimedLemmas.{claimed}
use Rattle.hfs_btree_edits.proofs.FreedLemmas.{placed-mark, marked-within, free-fewer, freed}

-- the bytes of a node that was freed
pub blank-zeros : IsZeroFrom 0 512 (replicate 512 0)
blank-zeros = λ k low high. get_or-replicate 512 k 0 0 high

module _ {K : Type 0} (g : Ghosts K) (old : Store) (sound : IsSound g old) where
  pub some-node : 0 < length old
  some-node = decoded-within old 0 sound.structure.header.value sound.structure.header.decodes

  pub count-fits : (n free nodes : ℕ) → IsStray g old n → free ≡ (header_in old).free_nodes → nodes ≡ (header_in old).nodes → free + 1 ≤ nodes
  count-fits n free nodes stray f c =
      let less = free-fewer old n stray.marked in
      let counted = sound.counts.free in
      omega (arith, less, counted, f, c)

  module _ (h : Header) (mid new : Store) (at entry bit n : ℕ) (place : IsPlaced old at entry bit n) where
    pub claim : 0 < free_nodes old → n < (header_in old).nodes → bit_of (record_in old at entry) bit ≡ false → HasBitPut at entry bit true old mid → HasHeaderPut h mid new
        → h ≡ record (header_in old) { free_nodes = (header_in old).free_nodes - 1 } → HasClaimed g n old new
    claim some lt clear w p is =
        let counted = sound.counts.free in
        let d = remarked g h old mid new at entry bit n ((header_in old).free_nodes - 1) true place w p is sound.structure.header sound.structure.map lt in
        claimed g n ((header_in old).free_nodes - 1) old new sound d (placed-mark old at entry bit n place lt ∙ clear) lt (omega (arith, some, counted))

    pub give-back : (bytes : List ℕ) (last : Store) → IsStray g old n → HasBitPut at entry bit false old mid → HasHeaderPut h mid new
        → h ≡ record (header_in old) { free_nodes = (header_in old).free_nodes + 1 } → last ≡ set new n bytes → n < length old → IsZeroFrom 0 512 bytes → IsReleased g n old last
    give-back bytes last stray w p is written within zeros =
        let lt = marked-within old n stray.marked in
        let d = remarked g h old mid new at entry bit n ((header_in old).free_nodes + 1) false place w p is sound.structure.header sound.structure.map lt in
        freed g n ((header_in old).free_nodes + 1) bytes old new last stray d refl written (omega (arith, within, d.len)) zeros
