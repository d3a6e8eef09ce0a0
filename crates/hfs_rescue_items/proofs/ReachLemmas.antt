-- Blocks of a fork that a read can name.
use Rattle.std.proofs.Common.{◌≡◌, ℕ, zero, suc, ◌+◌, ◌-◌, ◌/◌, ◌^◌, ◌<◌, ◌≤◌, Bool, true, false, ◌&&◌, if◌then◌else◌, List, [], ◌∷◌, length, map, min, Option, None, Some, refl, sym, subst, arith}
use Rattle.std.proofs.lemmas.Bool.{leb-true}
use Rattle.std.proofs.Math.Nat.{add-mul}
use Rattle.std.specs.Option.{IsSomeAnd, option_map}
use Rattle.std.specs.Prelude.{IfSome, nat_le, nat_lt}
use Rattle.hfs_fields.specs.declared.mdb.Mdb.{Mdb}
use Rattle.hfs_remains.specs.Allocation.{is_there, start_of}
use Rattle.hfs_remains_forks.specs.declared.findings.FoundFork.{FoundFork}
use Rattle.hfs_remains_forks.specs.declared.forks.Fork.{Fork}
use Rattle.hfs_remains_forks.specs.declared.shares.FileShares.{FileShares}
use Rattle.hfs_remains_forks.specs.declared.shares.Share.{Share}
use Rattle.hfs_remains_forks.specs.Forks.{fork_blocks, fork_places, there}
use Rattle.hfs_remains_forks.specs.Verdicts.{FindsFork, IsForkOf, fork_share, share_used, shares_at}
use Rattle.hfs_space.specs.declared.fork_kind.ForkKind.{ForkKind}
use Rattle.hfs_space.specs.Extents.{Overflow}
use Rattle.hfs_space.specs.Forks.{blocks_each}
use Rattle.hfs_rescue_items.specs.declared.found.Found.{Found}
use Rattle.hfs_rescue_items.specs.Faults.{AreInReach, IsForkInReach, IsInReach, IsRunInReach}

-- ---- runs

-- what is left of a run behind some of its bytes is in reach
pub run_behind : (first next : Option ℕ) (left len rest : ℕ) → next ≡ option_map (λ n. n + len / 512) first → len ≡ min left 65536 → rest ≡ left - len
    → IsRunInReach first left → IsRunInReach next rest
run_behind None next left len rest is few less reach = subst (λ (o : Option ℕ). IsRunInReach o rest) (sym is) tt
run_behind (Some n) next left len rest is few less reach =
    let own : n + len / 512 + rest / 512 < 2 ^ 32 = omega (arith, reach, few, less) in
    subst (λ (o : Option ℕ). IsRunInReach o rest) (sym is) own

-- ---- blocks

-- the bytes of a block are in reach if it is
pub place_reach : (mdb : Mdb) (place : Option ℕ) (first : Option ℕ) (count : ℕ) → first ≡ option_map (start_of mdb) place → count ≤ mdb.allocation_block_size
    → IsInReach mdb place → IsRunInReach first count
place_reach mdb None first count is fits reach = subst (λ (o : Option ℕ). IsRunInReach o count) (sym is) tt
place_reach mdb (Some b) first count is fits reach =
    let own : start_of mdb b + count / 512 < 2 ^ 32 = omega (arith, fits, reach, add-mul b 1 (blocks_each mdb)) in
    subst (λ (o : Option ℕ). IsRunInReach o count) (sym is) own

-- ---- forks

module _ (total : ℕ) (mdb : Mdb) (few : total < 2 ^ 32) where
  -- a block that is there
  there-reach : (b : ℕ) → IsInReach mdb (there total mdb b)
  unfolding is_there
  there-reach b = by (nat_lt b mdb.allocation_blocks) (nat_le (start_of mdb (b + 1)) total) refl
    where
      by : (s t : Bool) → nat_le (start_of mdb (b + 1)) total ≡ t → IsInReach mdb (if s && t then Some b else None)
      by true true is = omega (arith, few, leb-true (start_of mdb (b + 1)) total is)
      by true false is = tt
      by false t is = tt

  mapped-reach : (bs : List ℕ) → AreInReach mdb (map (there total mdb) bs)
  mapped-reach [] i d within = absurd (omega (arith, within))
  mapped-reach (b ∷ bs) zero d within = there-reach b
  mapped-reach (b ∷ bs) (suc i) d within = mapped-reach bs i d (omega (arith, within))

  fork-reach : (records : Overflow) (fork : Fork) → AreInReach mdb (fork_places total records mdb fork)
  unfolding fork_places
  fork-reach records fork = mapped-reach (fork_blocks records mdb fork)

  share-reach : (records : Overflow) (share : Share) → AreInReach mdb (share_used total records mdb share)
  share-reach records share = by share.taken
    where
      by : (t : Bool) → AreInReach mdb (if t then fork_places total records mdb share.fork else [])
      by true = fork-reach records share.fork
      by false = λ i d within. absurd (omega (arith, within))

-- the blocks of a fork that is found
pub fork_reach : (found : Found) (kind : ForkKind) (i : ℕ) → found.mdb.now ≡ found.salvage.now.trees.mdb.now → (r : Option FoundFork)
    → FindsFork found.salvage.now i kind r → IfSome r (IsForkInReach found)
fork_reach found kind i same None finds = tt
fork_reach found kind i same (Some fork) finds = λ few. by few (shares_at found.salvage.now i) finds
  where
    by : found.salvage.now.trees.total < 2 ^ 32 → (o : Option FileShares) → IsSomeAnd o (IsForkOf found.salvage.now kind fork)
        → AreInReach found.mdb.now fork.places.items
    by few None is = absurd is
    by few (Some file) is =
        let trees = found.salvage.now.trees in
        subst (λ (m : Mdb). AreInReach m fork.places.items) (sym same)
        (subst (AreInReach trees.mdb.now) (sym is.places_are) (share-reach trees.total trees.mdb.now few trees.overflow.now (fork_share kind file)))
