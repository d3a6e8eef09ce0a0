-- Pieces of lists that lie one behind the other.
use Rattle.std.proofs.Common.{◌≡◌, ℕ, zero, suc, ◌+◌, ◌-◌, ◌*◌, ◌/◌, ◌%◌, ◌<◌, ◌≤◌, List, [], ◌++◌, length, take, drop, ⊎_elim, refl, sym, ap, ◌∙◌, arith, append-nil, append_assoc, length-drop, length-take, drop_at}
use Rattle.std.specs.Prelude.{min}
use Rattle.std.proofs.Math.Seq.{take-add}
use Rattle.std.proofs.lemmas.List.{take_all, take_at, take-take, take-append-le, drop-drop, drop-append-le, drop_all, drop-take}
use Rattle.std.proofs.lemmas.Bool.{cases_lt}
use Rattle.hfs_space.specs.Forks.{run_bytes}

module _ {X : Type 0} where
  pub drop_past : (s p : ℕ) (xs ys : List X) → p ≡ min s (length xs) → drop s (xs ++ ys) ≡ drop p xs ++ drop (s - p) ys
  drop_past s p xs ys e = ⊎_elim
      (λ within.
      let same : s ≡ p = omega arith in
      let none : 0 ≡ s - p = omega arith in
      drop-append-le s xs ys (omega arith) ∙ (λ i. drop (same i) xs ++ drop (none i) ys))
      (λ past.
      let split : length xs + (s - p) ≡ s = omega arith in
      let all : length xs ≤ p = omega arith in
      ap (λ n. drop n (xs ++ ys)) (sym split) ∙ sym (drop-drop (s - p) (length xs) (xs ++ ys)) ∙ ap (drop (s - p)) (drop_at xs ys (length xs) refl)
      ∙ ap (λ l. l ++ drop (s - p) ys) (sym (drop_all p xs all)))
      (cases_lt s (length xs))

  pub take_past : (r n : ℕ) (xs ys : List X) → n ≡ min r (length xs) → take r (xs ++ ys) ≡ take n xs ++ take (r - n) ys
  take_past r n xs ys e = ⊎_elim
      (λ within.
      let same : r ≡ n = omega arith in
      let none : 0 ≡ r - n = omega arith in
      take-append-le r xs ys (omega arith) ∙ sym (append-nil (take r xs)) ∙ (λ i. take (same i) xs ++ take (none i) ys))
      (λ past.
      let split : length xs + (r - n) ≡ r = omega arith in
      ap (λ k. take k (xs ++ ys)) (sym split) ∙ take-add (length xs) (r - n) (xs ++ ys)
      ∙ (λ i. take_at xs ys (length xs) refl i ++ take (r - n) (drop_at xs ys (length xs) refl i))
      ∙ ap (λ l. l ++ take (r - n) ys) (sym (take_all n xs (omega arith))))
      (cases_lt r (length xs))

  -- what is read of two lists: a piece of the first, and what is left to read of the second
  pub read-append : (r s p n : ℕ) (xs ys : List X) → p ≡ min s (length xs) → n ≡ min r (length xs - p)
      → take r (drop s (xs ++ ys)) ≡ take n (drop p xs) ++ take (r - n) (drop (s - p) ys)
  read-append r s p n xs ys is_p is_n =
      ap (take r) (drop_past s p xs ys is_p) ∙ take_past r n (drop p xs) (drop (s - p) ys) (omega (arith, length-drop p xs))

  -- what is read of the first bytes alone
  pub read-take : (c o n : ℕ) (xs : List X) → take c (drop o (take n xs)) ≡ take (min c (n - o)) (drop o xs)
  read-take c o n xs = ⊎_elim
      (λ within.
      let split : o + (n - o) ≡ n = omega arith in
      ap (λ k. take c (drop o (take k xs))) (sym split) ∙ ap (take c) (drop-take o (n - o) xs) ∙ cut (drop o xs) (n - o))
      (λ past.
      let none : 0 ≡ min c (n - o) = omega arith in
      ap (take c) (drop_all o (take n xs) (omega (arith, length-take n xs))) ∙ take_all c [] (omega arith) ∙ ap (λ k. take k (drop o xs)) none)
      (cases_lt o n)
    where
      cut : (ys : List X) (k : ℕ) → take c (take k ys) ≡ take (min c k) ys
      cut ys k = ⊎_elim
          (λ below. let e : c ≡ min c k = omega arith in take-take c k ys (omega arith) ∙ ap (λ m. take m ys) e)
          (λ above. let e : k ≡ min c k = omega arith in take_all c (take k ys) (omega (arith, length-take k ys)) ∙ ap (λ m. take m ys) e)
          (cases_lt c k)

  -- one more piece, behind what was read
  pub read-more : (a m o n : ℕ) (xs : List X) → o + a ≡ n → take (a + m) (drop o xs) ≡ take a (drop o xs) ++ take m (drop n xs)
  read-more a m o n xs e = take-add a m (drop o xs) ∙ ap (λ l. take a (drop o xs) ++ take m l) (drop-drop a o xs ∙ ap (λ k. drop k xs) e)

-- ---- the bytes of a run of blocks

module _ (blocks : ℕ → List ℕ) where
  module _ (m : ℕ) (whole : (n : ℕ) → n < m → length (blocks n) ≡ 512) where
    drop-run_bytes : (j k n : ℕ) → n + (j + k) ≤ m → drop (512 * j) (run_bytes blocks n (j + k)) ≡ run_bytes blocks (n + j) k
    drop-run_bytes zero k n within =
        let e : zero + k ≡ k = omega arith in
        let e' : n ≡ n + zero = omega arith in
        (λ i. run_bytes blocks (e' i) (e i))
    drop-run_bytes (suc j) k n within =
        let e : suc j + k ≡ suc (j + k) = omega arith in
        let e' : n + 1 + j ≡ n + suc j = omega arith in
        let six : 512 + 512 * j ≡ 512 * suc j = omega arith in
        ap (λ x. drop (512 * suc j) (run_bytes blocks n x)) e
        ∙ ap (λ x. drop x (run_bytes blocks n (suc (j + k)))) (sym six) ∙ sym (drop-drop (512 * j) 512 (run_bytes blocks n (suc (j + k))))
        ∙ ap (drop (512 * j)) (drop_at (blocks n) (run_bytes blocks (n + 1) (j + k)) 512 (whole n (omega arith)))
        ∙ drop-run_bytes j k (n + 1) (omega arith) ∙ ap (λ x. run_bytes blocks x k) e'

    -- bytes within one block are bytes of the run
    pub read-block : (n k at c : ℕ) → n + k ≤ m → at < 512 * k → at % 512 + c ≤ 512
        → take c (drop (at % 512) (blocks (n + at / 512))) ≡ take c (drop at (run_bytes blocks n k))
    read-block n k at c within lt fits =
        let j = at / 512 in
        let rest = k - suc j in
        let split : k ≡ j + suc rest = omega arith in
        let place : 512 * j + at % 512 ≡ at = omega arith in
        let block = blocks (n + j) in
        let len : length block ≡ 512 = whole (n + j) (omega arith) in
        sym (ap (λ x. take c (drop at (run_bytes blocks n x))) split
        ∙ ap (λ x. take c (drop x (run_bytes blocks n (j + suc rest)))) (sym place)
        ∙ ap (take c) (sym (drop-drop (at % 512) (512 * j) (run_bytes blocks n (j + suc rest))) ∙ ap (drop (at % 512)) (drop-run_bytes j (suc rest) n (omega arith))
        ∙ drop-append-le (at % 512) block (run_bytes blocks (n + j + 1) rest) (omega arith))
        ∙ take-append-le c (drop (at % 512) block) (run_bytes blocks (n + j + 1) rest) (omega (arith, length-drop (at % 512) block)))

    -- what was read, and a piece of one more block
    pub run-more : (n k from at end c : ℕ) (before now next block : List ℕ) → n + k ≤ m → from ≤ at → at < end → end ≤ 512 * k → c ≡ min (end - at) (512 - at % 512)
        → now ≡ before ++ take (at - from) (drop from (run_bytes blocks n k)) → block ≡ blocks (n + at / 512) → next ≡ now ++ take (c + at % 512 - at % 512) (drop (at % 512) block)
        → next ≡ before ++ take (at + (c + at % 512 - at % 512) - from) (drop from (run_bytes blocks n k))
    run-more n k from at end c before now next block within after lt fits is_c is_now is_block is_next =
        let step = c + at % 512 - at % 512 in
        let whole_piece : (at - from) + step ≡ at + (c + at % 512 - at % 512) - from = omega arith in
        let piece = ap (λ b. take step (drop (at % 512) b)) is_block ∙ read-block n k at step within (omega arith) (omega arith) in
        is_next ∙ (λ i. is_now i ++ piece i)
        ∙ append_assoc before (take (at - from) (drop from (run_bytes blocks n k))) (take step (drop at (run_bytes blocks n k)))
        ∙ ap (λ l. before ++ l) (sym (read-more (at - from) step from at (run_bytes blocks n k) (omega arith)) ∙ ap (λ x. take x (drop from (run_bytes blocks n k))) whole_piece)

pub read-nothing : (from : ℕ) (items bytes : List ℕ) → items ≡ items ++ take (from - from) bytes
read-nothing from items bytes = sym (append-nil items) ∙ ap (λ n. items ++ take n bytes) (let e : 0 ≡ from - from = omega arith in e)
