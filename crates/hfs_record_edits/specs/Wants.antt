-- What a call that writes a fork needs of a volume, and what is reported where that is lacking.
use Rattle.std.specs.Prelude.{◌≡◌, ℕ, ◌+◌, ◌-◌, ◌<◌, ◌≤◌, max, nat_lt, if◌then◌else◌, IsTrue, List, length, Option, Some, None, IfSome}
use Rattle.std.specs.Int.{div_ceil}
use Rattle.hfs_model.specs.declared.call.Fork.{Fork}
use Rattle.hfs_model.specs.declared.journal.Want.{Want}
use Rattle.hfs_model.specs.declared.journal.Want.TheVariants as want
use Rattle.hfs_model.specs.Volume.{Volume}
use Rattle.hfs_model.specs.Replies.{is_accepted}
use Rattle.hfs_record_edits.specs.Need.{extents_need}
use Rattle.hfs_model.specs.Forks.{blocks}
use Rattle.hfs_model.specs.ForkCalls.{set_eof, write_fork}
use Rattle.hfs_model.specs.ForkCallLaws.{fork_named}
use Rattle.hfs_record_edits.specs.declared.room.Supply.{Supply}
use Rattle.hfs_record_edits.specs.declared.room.Growth.{Growth}

-- ---- what is there, and what is added

-- the allocation blocks that are added to a fork which has so many, and gets so many bytes
abbrev pub blocks_wanted : ℕ → ℕ → ℕ → ℕ
blocks_wanted size have length = blocks size length - have

-- what is lacking, if something is: allocation blocks first, then nodes of the extents tree for the records that are added to it
abbrev pub want_of : Supply → Growth → Option Want
want_of s g =
    if nat_lt s.blocks g.blocks then Some (want.Room s.blocks g.blocks)
    else if nat_lt s.nodes (extents_need g.records s.depth s.records) then Some (want.ExtentNodes s.nodes s.depth)
    else None

-- ---- which want may be reported

-- there are fewer nodes than n more records need: at least one, and no more than there are threes of `most` blocks. An empty tree has
-- no records.
pub record IsWantOfNodes (most free depth n records : ℕ) : Type 0 where
  pub some : 1 ≤ n
  pub few : n ≤ div_ceil most 3
  pub empty : depth ≡ 0 → records ≡ 0
  pub wanting : free < extents_need n depth records

-- of a fork that gets so many allocation blocks at most: no nodes of the catalog, fewer blocks than are needed, which are no more than
-- all, or fewer nodes of the extents tree
abbrev pub IsForkWant : ℕ → Want → Type 0
IsForkWant most (want.Nodes free depth) = ⊥
IsForkWant most (want.Room free wanted) = (free < wanted) × (wanted ≤ most)
IsForkWant most (want.ExtentNodes free depth) = (n : ℕ) × (records : ℕ) × IsWantOfNodes most free depth n records

-- where blocks and records that are added are of a fork with so many blocks, what is reported is such a want
pub record IsGrowthOf (most : ℕ) (s : Supply) (g : Growth) : Type 0 where
  pub blocks : g.blocks ≤ most
  pub records : g.records ≤ div_ceil most 3
  pub empty : s.depth ≡ 0 → s.records ≡ 0

abbrev pub ForkWantsAreTold : Type 0
ForkWantsAreTold = (most : ℕ) (s : Supply) (g : Growth) → IsGrowthOf most s g → IfSome (want_of s g) (IsForkWant most)

-- ---- which want a call may meet: one that would be done otherwise, of the blocks that the fork's new length takes

abbrev pub IsSetEofWant : ℕ → Volume → ℕ → List ℕ → Fork → ℕ → ℕ → Want → Type 0
IsSetEofWant size v dir name fork length now want = IsTrue (is_accepted (set_eof size v dir name fork length now).1) × IsForkWant (blocks size length) want

-- the greater of the fork's length and where the bytes end
abbrev pub length_written : Volume → ℕ → List ℕ → Fork → ℕ → List ℕ → ℕ
length_written v dir name fork offset bytes = max (length (fork_named v dir name fork)) (offset + length bytes)

abbrev pub IsWriteForkWant : ℕ → Volume → ℕ → List ℕ → Fork → ℕ → List ℕ → ℕ → Want → Type 0
IsWriteForkWant size v dir name fork offset bytes now want =
    IsTrue (is_accepted (write_fork size v dir name fork offset bytes now).1) × IsForkWant (blocks size (length_written v dir name fork offset bytes)) want

-- of an accepted call, and of what is added to a fork of that length, what is lacking is such a want
abbrev pub SetEofWantsAreTold : Type 0
SetEofWantsAreTold = (size : ℕ) (v : Volume) (dir : ℕ) (name : List ℕ) (fork : Fork) (length now : ℕ) (s : Supply) (g : Growth) →
    IsTrue (is_accepted (set_eof size v dir name fork length now).1) → IsGrowthOf (blocks size length) s g →
    IfSome (want_of s g) (IsSetEofWant size v dir name fork length now)

-- the length is that of the fork afterwards
abbrev pub WriteForkWantsAreTold : Type 0
WriteForkWantsAreTold = (size : ℕ) (v : Volume) (dir : ℕ) (name : List ℕ) (fork : Fork) (offset : ℕ) (bytes : List ℕ) (now : ℕ) (s : Supply) (g : Growth) →
    IsTrue (is_accepted (write_fork size v dir name fork offset bytes now).1) → IsGrowthOf (blocks size (length_written v dir name fork offset bytes)) s g →
    IfSome (want_of s g) (IsWriteForkWant size v dir name fork offset bytes now)
