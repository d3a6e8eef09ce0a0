-- Larger volumes with allocation blocks of the same size have as many at least.
use Rattle.std.proofs.Common.{◌≡◌, ◌∙◌, sym, ap, subst, ℕ, zero, suc, ◌+◌, ◌-◌, ◌*◌, ◌/◌, ◌<◌, ◌≤◌, min, true, false, ◌&&◌, List, arith, leb, leb-true, leb-false, le-leb, inl, inr}
use Rattle.std.proofs.lemmas.Nat.{le-div}
use Rattle.std.proofs.Math.Nat.{add-mul-div_left, div-mul-le_self}
use Rattle.std.proofs.lemmas.Bool.{lt-leb, and_left, and_parts, cases_lt}
use Rattle.hfs_format.specs.Plan.{allocation_blocks, block_factor}
use Rattle.hfs_format.specs.declared.items.NewItem.{NewItem}
use Rattle.hfs_format.specs.Least.{IsLeastFrom}
use Rattle.hfs_format.specs.Wanted.{has_blocks, holds_all, wanted_blocks}
use Rattle.hfs_format.proofs.PlanNumbers.{allocation_blocks_is, blocks_at}

pub div-mono : (a b k : ℕ) → 0 < k → a ≤ b → a / k ≤ b / k
div-mono a b k some le = let back = div-mul-le_self a k in le-div (a / k) b k some (omega arith)

-- one more is at most one quotient more
div-step : (n k : ℕ) → 0 < k → (n + 1) / k ≤ n / k + 1
div-step n k some =
    let more = add-mul-div_left n 1 some in
    let up = div-mono (n + 1) (n + k * 1) k some (omega arith) in
    omega arith

blocks-step : (factor n : ℕ) → 0 < factor → blocks_at factor n ≤ blocks_at factor (n + 1)
blocks-step factor n some =
    let near = div-step n factor some in
    div-mono (n - 2 - (3 + (n / factor + 4095) / 4096)) (n + 1 - 2 - (3 + ((n + 1) / factor + 4095) / 4096)) factor some (omega arith)

blocks-more : (factor n : ℕ) → 0 < factor → (more : ℕ) → blocks_at factor n ≤ blocks_at factor (n + more)
blocks-more factor n some zero = subst (λ m. blocks_at factor n ≤ blocks_at factor m) (omega arith) (let same : blocks_at factor n ≤ blocks_at factor n = omega arith in same)
blocks-more factor n some (suc more) =
    let before = blocks-more factor n some more in
    let step = blocks-step factor (n + more) some in
    let next : n + more + 1 ≡ n + suc more = omega arith in
    subst (λ m. blocks_at factor n ≤ blocks_at factor m) next (omega arith)

pub factor-some : (n : ℕ) → 1 ≤ block_factor n
unfolding block_factor
factor-some n = omega arith

pub factor-few : (n : ℕ) → n ≤ 4194304 → block_factor n ≤ 65
unfolding block_factor
factor-few n few = omega arith

pub factor-within : (factor first last n : ℕ) → factor ≡ block_factor first → factor ≡ block_factor last → first ≤ n → n ≤ last → factor ≡ block_factor n
unfolding block_factor
factor-within factor first last n at_first at_last from to = omega arith

-- the last size whose allocation blocks are as large
pub factor-last : (factor first last : ℕ) → factor ≡ block_factor first → first ≤ 4194304 → last ≡ min (65536 * factor - 1) 4194304
    → (factor ≡ block_factor last) × (first ≤ last)
unfolding block_factor
factor-last factor first last is few ends = (omega arith, omega arith)

allocation_blocks-more : (factor a b : ℕ) → factor ≡ block_factor a → factor ≡ block_factor b → a ≤ b → allocation_blocks a ≤ allocation_blocks b
allocation_blocks-more factor a b at_a at_b le =
    let some : 0 < factor = omega (arith, factor-some a) in
    let up = blocks-more factor a some (b - a) in
    let whole : a + (b - a) ≡ b = omega arith in
    let is_a = allocation_blocks_is a factor at_a in
    let is_b = ap (blocks_at factor) whole ∙ allocation_blocks_is b factor at_b in
    omega arith

-- what is too small for so many allocation blocks has none smaller that isn't
pub none-below : (wanted factor n end : ℕ) → factor ≡ block_factor n → factor ≡ block_factor end → n ≤ end → has_blocks wanted end ≡ false
    → has_blocks wanted n ≡ false
none-below wanted factor n end at_n at_end le none =
    let few = leb-false wanted (allocation_blocks end) none in
    let up = allocation_blocks-more factor n end at_n at_end le in
    lt-leb wanted (allocation_blocks n) (omega arith)

module _ (nodes : ℕ) (items : List NewItem) where
  pub holds-in : (factor n : ℕ) → factor ≡ block_factor n → n ≤ 4194304 → holds_all nodes items n ≡ has_blocks (wanted_blocks nodes items factor) n
  holds-in factor n is few =
      ap (λ t. t && has_blocks (wanted_blocks nodes items (block_factor n)) n) (le-leb n 4194304 few)
      ∙ ap (λ f. has_blocks (wanted_blocks nodes items f) n) (sym is)

  pub holds-beyond : (n : ℕ) → 4194304 < n → holds_all nodes items n ≡ false
  holds-beyond n many = and_left (leb n 4194304) (has_blocks (wanted_blocks nodes items (block_factor n)) n) (lt-leb n 4194304 many)

  pub holds-few : (n : ℕ) → holds_all nodes items n ≡ true → n ≤ 4194304
  holds-few n holds = leb-true n 4194304 (and_parts (leb n 4194304) (has_blocks (wanted_blocks nodes items (block_factor n)) n) holds).0

  -- the least one of a range is the least of all where none before the range holds all
  pub least-of_range : (from first last factor least : ℕ) → factor ≡ block_factor first → factor ≡ block_factor last → last ≤ 4194304
      → from ≤ first → ((n : ℕ) → from ≤ n → n < first → holds_all nodes items n ≡ false)
      → least ≤ last → IsLeastFrom first (has_blocks (wanted_blocks nodes items factor)) least → IsLeastFrom from (holds_all nodes items) least
  least-of_range from first last factor least at_first at_last few after none within is =
      let same : (n : ℕ) → first ≤ n → n ≤ last → holds_all nodes items n ≡ has_blocks (wanted_blocks nodes items factor) n =
      λ n up down. holds-in factor n (factor-within factor first last n at_first at_last up down) (omega arith) in
      let up = is.reached in
      record {
        reached = omega arith;
        passed = same least up within ∙ is.passed;
        below = λ n lower smaller.
            elim (cases_lt n first) [ inl before ↦ none n lower before | inr inside ↦ same n inside (omega arith) ∙ is.below n inside smaller ];
      }

  -- none holds all up to the end of a range in which none does
  pub none-of_range : (from first last factor : ℕ) → factor ≡ block_factor first → factor ≡ block_factor last → last ≤ 4194304
      → ((n : ℕ) → from ≤ n → n < first → holds_all nodes items n ≡ false)
      → ((n : ℕ) → first ≤ n → n ≤ last → has_blocks (wanted_blocks nodes items factor) n ≡ false)
      → (n : ℕ) → from ≤ n → n < last + 1 → holds_all nodes items n ≡ false
  none-of_range from first last factor at_first at_last few none inside n lower upper =
      elim (cases_lt n first) [
        | inl before ↦ none n lower before
        | inr from_first ↦ holds-in factor n (factor-within factor first last n at_first at_last from_first (omega arith)) (omega arith)
            ∙ inside n from_first (omega arith)
      ]

  pub none-from : (from first : ℕ) → 4194304 < first → ((n : ℕ) → from ≤ n → n < first → holds_all nodes items n ≡ false)
      → (n : ℕ) → from ≤ n → holds_all nodes items n ≡ false
  none-from from first beyond none n lower =
      elim (cases_lt n first) [ inl before ↦ none n lower before | inr behind ↦ holds-beyond n (omega arith) ]
