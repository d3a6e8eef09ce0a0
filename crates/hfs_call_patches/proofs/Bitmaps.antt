-- Bits that were set or cleared over blocks whose bitmap is that of others.
use Rattle.std.proofs.Common.{◌≡◌, ◌⊎◌, inl, inr, ⊎_elim, ℕ, ◌+◌, ◌*◌, ◌/◌, ◌%◌, ◌<◌, ◌≤◌, Bool, true, false, cond, not, leb, ltb, ◌&&◌, List, refl, ◌∙◌, ap, arith}
use Rattle.std.proofs.lemmas.Bool.{cases_lt, le-leb, lt-ltb, le-ltb, lt-leb}
use Rattle.hfs_space.specs.Bitmap.{bitmap_len, is_used, is_marked, clear_count}
use Rattle.hfs_space.specs.Owners.{owners}
use Rattle.hfs_space.proofs.CountingLemmas.{count_below-same}
use Rattle.hfs_record_edits.specs.Released.{AreAlone, HasReleased}
use Rattle.hfs_space.specs.Claimed.{AreFree, HasClaimed}
use Rattle.hfs_check.specs.Parts.{Blocks}

module _ (start total : ℕ) (old b0 b1 : Blocks) (same : (k : ℕ) → start ≤ k → k < start + bitmap_len total → b0 k ≡ old k) where
  abbrev is_bitmap : ℕ → Bool
  is_bitmap k = leb start k && ltb k (start + bitmap_len total)

  -- the others with this bitmap
  abbrev pub bits : Blocks
  bits k = cond (is_bitmap k) (b1 k) (old k)

  within : (k : ℕ) → start ≤ k → k < start + bitmap_len total → is_bitmap k ≡ true
  within k from to = λ i. le-leb start k from i && lt-ltb k (start + bitmap_len total) to i

  outside : (k : ℕ) → (k < start) ⊎ (start + bitmap_len total ≤ k) → is_bitmap k ≡ false
  outside k (inl before) = ap (λ (b : Bool). b && ltb k (start + bitmap_len total)) (lt-leb start k before)
  outside k (inr behind) = ap (λ (b : Bool). leb start k && b) (le-ltb k (start + bitmap_len total) behind) ∙ and_false (leb start k)
    where
      and_false : (b : Bool) → (b && false) ≡ false
      and_false true = refl
      and_false false = refl

  pub bits_in : (k : ℕ) → start ≤ k → k < start + bitmap_len total → bits k ≡ b1 k
  bits_in k from to = ap (λ (b : Bool). cond b (b1 k) (old k)) (within k from to)

  bits_out : (k : ℕ) → (k < start) ⊎ (start + bitmap_len total ≤ k) → bits k ≡ old k
  bits_out k out = ap (λ (b : Bool). cond b (b1 k) (old k)) (outside k out)

  used_in : (b : ℕ) → b < 4096 * bitmap_len total → is_used bits start b ≡ is_used b1 start b
  used_in b low = let k : ℕ = start + b / 4096 in ap (λ (bytes : List ℕ). is_marked bytes (b % 4096)) (bits_in k (omega arith) (omega (arith, low)))

  used_old : (b : ℕ) → b < 4096 * bitmap_len total → is_used b0 start b ≡ is_used old start b
  used_old b low = let k : ℕ = start + b / 4096 in ap (λ (bytes : List ℕ). is_marked bytes (b % 4096)) (same k (omega arith) (omega (arith, low)))

  used_out : (b : ℕ) → 4096 * bitmap_len total ≤ b → is_used bits start b ≡ is_used old start b
  used_out b high = let k : ℕ = start + b / 4096 in ap (λ (bytes : List ℕ). is_marked bytes (b % 4096)) (bits_out k (inr (omega (arith, high))))

  low : (b : ℕ) → b < total → b < 4096 * bitmap_len total
  low b lt = omega (arith, lt)

  now : clear_count bits start total ≡ clear_count b1 start total
  now = count_below-same (λ b. not (is_used bits start b)) (λ b. not (is_used b1 start b)) total (λ b lt. ap not (used_in b (low b lt)))

  was : clear_count b0 start total ≡ clear_count old start total
  was = count_below-same (λ b. not (is_used b0 start b)) (λ b. not (is_used old start b)) total (λ b lt. ap not (used_old b (low b lt)))

  stays : (b : ℕ) → is_used b1 start b ≡ is_used b0 start b → is_used bits start b ≡ is_used old start b
  stays b e = ⊎_elim
      (λ (lt : b < 4096 * bitmap_len total). used_in b lt ∙ e ∙ used_old b lt)
      (λ (high : 4096 * bitmap_len total ≤ b). used_out b high)
      (cases_lt b (4096 * bitmap_len total))

  module _ (moved : List ℕ) (inside : (b : ℕ) → 0 < owners moved b → b < total) where
    pub claimed_old : HasClaimed start total moved b0 b1 → HasClaimed start total moved old bits
    claimed_old h = record {
      set = λ b some. used_in b (low b (inside b some)) ∙ h.set b some;
      others = λ b none. stays b (h.others b none);
      beside = bits_out;
      counted = λ free.
          let free0 : AreFree b0 start moved = record { once = free.once; free = λ b some. used_old b (low b (inside b some)) ∙ free.free b some } in
          let counts = h.counted free0 in
          omega (arith, now, was, counts);
    }

    pub released_old : HasReleased start total moved b0 b1 → HasReleased start total moved old bits
    released_old h = record {
      clear = λ b some. used_in b (low b (inside b some)) ∙ h.clear b some;
      others = λ b none. stays b (h.others b none);
      beside = bits_out;
      counted = λ alone.
          let alone0 : AreAlone b0 start moved = record { once = alone.once; used = λ b some. used_old b (low b (inside b some)) ∙ alone.used b some } in
          let counts = h.counted alone0 in
          omega (arith, now, was, counts);
    }
