-- The parts of a volume of which no call was made yet.
use Rattle.std.proofs.Common.{◌≡◌, ℕ, List, [], ap, sym, ◌∙◌}
use Rattle.hfs_check.specs.VolumeOf.{volume_of}
use Rattle.hfs_shared.specs.Histories.{opened}
use Rattle.hfs_shared.specs.Pairs.{PairState, IsOpened}
use Rattle.hfs_shared.specs.Desks.{DeskState, desk_state, IsHeadline}
use Rattle.hfs_shared.specs.Shareds.{IsUnused}

pub unused : (base : List ℕ) (workers : ℕ) (current : List ℕ) (d : DeskState) (p : PairState) → d ≡ desk_state base base [] [] workers → IsHeadline d.base d.current d.written d.journal
    → current ≡ d.current → IsOpened (volume_of current) p → IsUnused d p
unused base workers current d p is headline same opens =
    let first : current ≡ d.base = same ∙ ap (λ (x : DeskState). x.current) is ∙ sym (ap (λ (x : DeskState). x.base) is) in
    record {
      empty = ap (λ (x : DeskState). x.journal) is;
      headline = headline;
      all = ap (λ (x : PairState). x.all) opens ∙ ap (λ (b : List ℕ). opened (volume_of b)) first;
      shown = ap (λ (x : PairState). x.shown) opens ∙ ap (λ (b : List ℕ). opened (volume_of b)) first;
    }
