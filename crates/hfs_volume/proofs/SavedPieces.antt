-- The pieces of an image, one behind the other.
use Rattle.std.proofs.Common.{◌≡◌, ℕ, ◌+◌, ◌-◌, ◌*◌, ◌/◌, ◌%◌, ◌<◌, ◌≤◌, List, ◌++◌, length, take, drop, replicate, Result, Ok, Err, OnOk, IfErr, IsErrAnd, Option, Some, None, is_some, false, unwrap_or, refl, ap, sym, ◌∙◌, subst, arith, length-take, length-drop, true≢false}
use Rattle.std.proofs.Math.Seq.{take-add}
use Rattle.std.proofs.lemmas.List.{drop-drop, take_at, take-append-drop, take-replicate}
use Rattle.std.specs.Io.KnownBytes.{Appends}
use Rattle.std.proofs.KnownBytes.{Appends-trans}
use lib.Seq.{take-append-le}
use Rattle.hfs_blocks.specs.Blocks.{block_at, block_count}
use Rattle.hfs_volume.specs.BaseBytes.{EndsInZeros}
use Rattle.hfs_volume.specs.Laid.{laid_from, laid_over}
use Rattle.hfs_volume.specs.declared.saving.SaveFault.{SaveFault}
use Rattle.hfs_volume.specs.Saving.{HasWritten}
use Rattle.hfs_volume.proofs.Laid.{laid_from-run, laid_from-zero, drop-laid, length-laid, AreBlocks-within, block_at-laid_over}
use Rattle.hfs_blocks.specs.Layers.{AreWithin, over}

module _ (g : ℕ → Option (List ℕ)) (base : List ℕ) (within : AreWithin g (block_count base)) where
  -- where no block is changed, the piece is the base's
  pub run_bytes : (n e : ℕ) → n ≤ e → e ≤ block_count base → ((k : ℕ) → n ≤ k → k < e → is_some (g k) ≡ false)
      → take (e * 512 - n * 512) (drop (n * 512) base) ≡ take (512 * (e - n)) (drop (512 * n) (laid_over g base))
  run_bytes n e order inside unchanged =
      ap (λ x. take x (drop (n * 512) base)) (let z : e * 512 - n * 512 ≡ 512 * (e - n) = omega arith in z)
      ∙ ap (λ x. take (512 * (e - n)) (drop x base)) (let z : n * 512 ≡ 512 * n = omega arith in z)
      ∙ sym (take_at (take (512 * k) rest) _ (512 * k) (omega (arith, length-take (512 * k) rest, length-drop (512 * n) base)))
      ∙ ap (take (512 * k)) (sym (drop-laid f n base (AreBlocks-within g base within) (omega arith) ∙ ap (λ x. laid_from f x n rest) split ∙ laid_from-run f k c n rest own))
    where
      k : ℕ
      k = e - n

      c : ℕ
      c = block_count base - e

      rest : List ℕ
      rest = drop (512 * n) base

      f : ℕ → List ℕ
      f = over g (block_at base)

      split : block_count base - n ≡ k + c
      split = omega arith

      none : (o : Option (List ℕ)) (b : List ℕ) → is_some o ≡ false → unwrap_or o b ≡ b
      none None b h = refl
      none (Some x) b h = absurd (true≢false h)

      own : (j : ℕ) → j < k → f (n + j) ≡ block_at rest j
      own j below =
          none (g (n + j)) (block_at base (n + j)) (unchanged (n + j) (omega arith) (omega arith))
          ∙ ap (λ x. take 512 (drop x base)) (let z : 512 * (n + j) ≡ 512 * n + 512 * j = omega arith in z)
          ∙ ap (take 512) (sym (drop-drop (512 * j) (512 * n) base))

  -- a changed block is a piece
  pub block_bytes : (n : ℕ) (b : List ℕ) → Some b ≡ g n → b ≡ take (512 * (n + 1 - n)) (drop (512 * n) (laid_over g base))
  block_bytes n b is =
      ap (λ o. unwrap_or o (block_at base n)) is ∙ ap (λ f. f n) (sym (block_at-laid_over g base within))
      ∙ ap (λ x. take x (drop (512 * n) (laid_over g base))) (let z : 512 ≡ 512 * (n + 1 - n) = omega arith in z)

  -- behind the last block the base's bytes follow
  pub tail_bytes : drop (512 * block_count base) (laid_over g base) ≡ drop (512 * block_count base) base
  tail_bytes =
      drop-laid (over g (block_at base)) (block_count base) base (AreBlocks-within g base within) (omega arith)
      ∙ laid_from-zero _ (block_count base - block_count base) _ _ (omega arith)

  pub tail_piece : (count : ℕ) → count ≡ block_count base → drop (count * 512) base ≡ drop (512 * count) (laid_over g base)
  tail_piece count is =
      ap (λ x. drop x base) (let z : count * 512 ≡ 512 * block_count base = omega (arith, is) in z) ∙ sym tail_bytes
      ∙ ap (λ x. drop x (laid_over g base)) (let z : 512 * block_count base ≡ 512 * count = omega (arith, is) in z)

  pub length-laid_over : length (laid_over g base) ≡ length base
  length-laid_over = length-laid _ base (AreBlocks-within g base within)

  -- zeros behind the last block stay
  pub ends-laid : EndsInZeros base → EndsInZeros (laid_over g base)
  ends-laid ends =
      ap (λ (k : ℕ). drop (512 * (k / 512)) (laid_over g base)) length-laid_over ∙ tail_bytes ∙ ends
      ∙ ap (λ (k : ℕ). replicate (k % 512) 0) (sym length-laid_over)

module _ (a b c : Option (List ℕ)) (current bytes : List ℕ) (n : ℕ) (before : Appends a b (take (512 * n) current)) where
  -- a whole piece more
  pub whole_piece : (next : ℕ) → n ≤ next → bytes ≡ take (512 * (next - n)) (drop (512 * n) current) → Appends b c bytes → Appends a c (take (512 * next) current)
  whole_piece next order is out =
      let z : 512 * n + 512 * (next - n) ≡ 512 * next = omega arith in
      subst (Appends a c) (ap (λ l. take (512 * n) current ++ l) is ∙ sym (take-add (512 * n) (512 * (next - n)) current) ∙ ap (λ x. take x current) z) (Appends-trans a b c _ bytes before out)

  -- the first k bytes of a piece more
  pub part_piece : (m k : ℕ) → bytes ≡ take m (drop (512 * n) current) → k ≤ length bytes → Appends b c (take k bytes) → Appends a c (take (n * 512 + k) current)
  part_piece m k is fits out =
      let z : 512 * n + k ≡ n * 512 + k = omega arith in
      let rest = drop (512 * n) current in
      let l : k ≤ length (take m rest) = subst (λ x. k ≤ length x) is fits in
      let first : take k bytes ≡ take k rest = ap (take k) is ∙ sym (take-append-le k (take m rest) (drop m rest) l) ∙ ap (take k) (take-append-drop m rest) in
      subst (Appends a c) (ap (λ l. take (512 * n) current ++ l) first ∙ sym (take-add (512 * n) k current) ∙ ap (λ x. take x current) z) (Appends-trans a b c _ (take k bytes) before out)

  -- the rest
  pub rest_piece : bytes ≡ drop (512 * n) current → Appends b c bytes → Appends a c current
  rest_piece is out = subst (Appends a c) (ap (λ l. take (512 * n) current ++ l) is ∙ take-append-drop (512 * n) current) (Appends-trans a b c _ bytes before out)

  pub part_rest : (k : ℕ) → bytes ≡ drop (512 * n) current → Appends b c (take k bytes) → Appends a c (take (n * 512 + k) current)
  part_rest k is out =
      let z : 512 * n + k ≡ n * 512 + k = omega arith in
      subst (Appends a c) (ap (λ l. take (512 * n) current ++ take k l) is ∙ sym (take-add (512 * n) k current) ∙ ap (λ x. take x current) z) (Appends-trans a b c _ (take k bytes) before out)

  -- what broke off behind n blocks
  pub broken_off : (m w : ℕ) → 512 * n ≤ length current → bytes ≡ take m (drop (512 * n) current) → (512 * n ≤ w) × HasWritten b c (w - 512 * n) bytes
      → HasWritten a c w current
  broken_off m w inside is out =
      let k = w - 512 * n in
      let same : n * 512 + k ≡ w = omega (arith, out.0) in (
        omega (arith, out.0, out.1.0, ap length is, length-take m (drop (512 * n) current), length-drop (512 * n) current, inside),
        subst (Appends a c) (ap (λ x. take x current) same) (part_piece m k is out.1.0 out.1.1),
      )

  pub broken_rest : (w : ℕ) → 512 * n ≤ length current → bytes ≡ drop (512 * n) current → (512 * n ≤ w) × HasWritten b c (w - 512 * n) bytes → HasWritten a c w current
  broken_rest w inside is out =
      let k = w - 512 * n in
      let same : n * 512 + k ≡ w = omega (arith, out.0) in (
        omega (arith, out.0, out.1.0, ap length is, length-drop (512 * n) current, inside),
        subst (Appends a c) (ap (λ x. take x current) same) (part_rest k is out.1.1),
      )

-- as many of 512 zeros as follow the last of the blocks
pub zeros_behind : (current : List ℕ) (count len : ℕ) → count ≡ block_count current → len ≡ length current → EndsInZeros current
    → take (len % 512) (replicate 512 0) ≡ drop (512 * count) current
zeros_behind current count len blocks long ends =
    take-replicate (len % 512) 512 0 (omega arith) ∙ ap (λ (k : ℕ). replicate (k % 512) 0) long ∙ sym ends
    ∙ ap (λ (k : ℕ). drop (512 * k) current) (sym blocks)

-- ---- answers that are handed on

pub passed_on : {T : Type 0} (r : Result T SaveFault) (fault : SaveFault) (P : SaveFault → Type 0) → IsErrAnd r (λ x. x ≡ fault) → P fault → IfErr r P
passed_on (Ok a) fault P is p = tt
passed_on (Err x) fault P is p = subst P (sym is) p

pub err_so : {T : Type 0} (r : Result T SaveFault) (P Q : SaveFault → Type 0) → ((fault : SaveFault) → P fault → Q fault) → IfErr r P → IfErr r Q
err_so (Ok a) P Q f h = tt
err_so (Err x) P Q f h = f x h
