-- Where numbers stand in a list.
use Rattle.std.proofs.Common.{◌≡◌, ℕ, zero, suc, ◌<◌, ◌≤◌, Bool, true, false, ◌||◌, List, [], ◌∷◌, length, map, take, get_or, nat_eq, refl, sym, arith, true≢false, eqb-true}
use Rattle.hfs_fields.specs.declared.mdb.Mdb.{Mdb}
use Rattle.hfs_fields.specs.declared.extent.Extent.{Extent}
use Rattle.hfs_blocks.specs.Blocks.{run_of}
use Rattle.hfs_btree.specs.Sound.{IsOther}
use Rattle.hfs_btree_edits.specs.Files.{is_one_of}
use Rattle.hfs_fields.specs.Each.{Each}
use Rattle.hfs_fields.proofs.ElementLemmas.{each-append}
use Rattle.hfs_space.specs.Forks.{run_in}
use Rattle.hfs_space.specs.ForkLaws.{block_numbers}
use Rattle.hfs_record_edits.proofs.Frames.{each_range}

-- a number that is one of these stands at a place
pub record IsAt (ns : List ℕ) (n : ℕ) : Type 0 where
  pub place : ℕ
  pub within : place < length ns
  pub is : get_or ns place 0 ≡ n

later : (m : ℕ) (ns : List ℕ) (n : ℕ) → IsAt ns n → IsAt (m ∷ ns) n
later m ns n at = record { place = suc at.place; within = omega (arith, at.within); is = at.is }

pub place_of : (ns : List ℕ) (n : ℕ) → is_one_of ns n ≡ true → IsAt ns n
place_of [] n h = absurd (true≢false (sym h))
place_of (m ∷ ns) n h = elim (nat_eq m n) as (λ (t : Bool). nat_eq m n ≡ t → (t || is_one_of ns n) ≡ true → IsAt (m ∷ ns) n) [
  | true ↦ λ same rest. record { place = 0; within = omega arith; is = eqb-true m n same }
  | false ↦ λ other rest. later m ns n (place_of ns n rest)
] refl h

-- a number that isn't one of the first m stands behind them
pub behind_first : (n : ℕ) (xs : List ℕ) (m c k : ℕ) → Each (IsOther n) (take m xs) → k < length (take c xs) → get_or (take c xs) k 0 ≡ n → m ≤ k
behind_first n [] m zero k h lt is = absurd (omega arith)
behind_first n [] m (suc c) k h lt is = absurd (omega arith)
behind_first n (x ∷ xs) m zero k h lt is = absurd (omega arith)
behind_first n (x ∷ xs) zero (suc c) k h lt is = omega arith
behind_first n (x ∷ xs) (suc m) (suc c) zero h lt is = absurd (h.0 is)
behind_first n (x ∷ xs) (suc m) (suc c) (suc k) h lt is = let less = behind_first n xs m c k h.1 (omega arith) is in omega (arith, less)

-- an element of a mapped list
pub at_place : (f : ℕ → List ℕ) (ns : List ℕ) (k : ℕ) → k < length ns → get_or (map f ns) k [] ≡ f (get_or ns k 0)
at_place f [] k lt = absurd (omega arith)
at_place f (n ∷ ns) zero lt = refl
at_place f (n ∷ ns) (suc k) lt = at_place f ns k (omega arith)
