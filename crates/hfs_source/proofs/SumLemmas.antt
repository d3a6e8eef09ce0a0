-- The sum of bytes that are read in pieces.
use Rattle.std.proofs.Common.{◌≡◌, ◌∙◌, ℕ, zero, suc, ◌+◌, ◌-◌, ◌*◌, ◌<◌, ◌≤◌, ◌⊎◌, inl, inr, min, Bool, true, false, leb, List, [], ◌∷◌, ◌++◌, length, take, drop, get_or, refl, ap, sym, arith}
use Rattle.std.proofs.lemmas.List.{take_all, drop_all, drop-drop, drop_more, length-take, length-drop, append-nil}
use Rattle.std.proofs.lemmas.Bool.{leb-true, leb-false}
use Rattle.std.proofs.Math.Seq.{take-add}
use Rattle.hfs_fields.specs.Mdb.{bytes_at}
use Rattle.hfs_source.specs.declared.ranges.ByteRange.{ByteRange}
use Rattle.hfs_source.specs.Ranges.{bytes_in}
use Rattle.hfs_source.specs.Sums.{sum_from, sum_of, with_word}

-- one word more
pub sum-word : (sum : ℕ) (bytes : List ℕ) (n : ℕ) → 2 * n + 1 < length bytes
    → sum_from sum (drop (2 * n) bytes) ≡ sum_from (with_word sum (get_or bytes (2 * n) 0 * 256 + get_or bytes (2 * n + 1) 0)) (drop (2 * (n + 1)) bytes)
unfolding sum_from
sum-word sum bytes n lt =
    let one : drop (2 * n) bytes ≡ get_or bytes (2 * n) 0 ∷ drop (2 * n + 1) bytes = drop_more bytes (2 * n) 0 (omega (arith, lt)) in
    let two : drop (2 * n + 1) bytes ≡ get_or bytes (2 * n + 1) 0 ∷ drop (2 * n + 1 + 1) bytes = drop_more bytes (2 * n + 1) 0 lt in
    let place : 2 * n + 1 + 1 ≡ 2 * (n + 1) = omega arith in
    ap (sum_from sum) (one ∙ ap (λ l. get_or bytes (2 * n) 0 ∷ l) two)
    ∙ ap (λ k. sum_from (with_word sum (get_or bytes (2 * n) 0 * 256 + get_or bytes (2 * n + 1) 0)) (drop k bytes)) place

short-sum : (sum : ℕ) (bytes : List ℕ) → length bytes < 2 → sum_from sum bytes ≡ sum
unfolding sum_from
short-sum sum [] lt = refl
short-sum sum (byte ∷ []) lt = refl
short-sum sum (high ∷ low ∷ bytes) lt = absurd (omega (arith, lt))

-- no word is left
pub sum-end : (sum : ℕ) (bytes : List ℕ) (n : ℕ) → length bytes < 2 * n + 2 → sum_from sum (drop (2 * n) bytes) ≡ sum
sum-end sum bytes n end = short-sum sum (drop (2 * n) bytes) (omega (arith, length-drop (2 * n) bytes, end))

-- bytes behind words
pub sum-append : (k sum : ℕ) (front back : List ℕ) → length front ≡ 2 * k → sum_from sum (front ++ back) ≡ sum_from (sum_from sum front) back
unfolding sum_from
sum-append zero sum [] back e = refl
sum-append zero sum (x ∷ front) back e = absurd (omega (arith, e))
sum-append (suc k) sum [] back e = absurd (omega (arith, e))
sum-append (suc k) sum (x ∷ []) back e = absurd (omega (arith, e))
sum-append (suc k) sum (high ∷ low ∷ front) back e = sum-append k (with_word sum (high * 256 + low)) front back (omega (arith, e))

two-pieces : (sum n m : ℕ) (bytes : List ℕ) → n ≡ 16384 → sum_from (sum_from sum (take n bytes)) (take m (drop n bytes)) ≡ sum_from sum (take (n + m) bytes)
unfolding sum_from
two-pieces sum n m bytes full = by (leb n (length bytes)) refl
  where
    parts : take (n + m) bytes ≡ take n bytes ++ take m (drop n bytes)
    parts = take-add n m bytes

    by : (t : Bool) → leb n (length bytes) ≡ t → sum_from (sum_from sum (take n bytes)) (take m (drop n bytes)) ≡ sum_from sum (take (n + m) bytes)
    by true e =
        let whole : length (take n bytes) ≡ 2 * 8192 = omega (arith, length-take n bytes, leb-true n (length bytes) e, full) in
        sym (sum-append 8192 sum (take n bytes) (take m (drop n bytes)) whole) ∙ ap (sum_from sum) (sym parts)
    by false e =
        let end : drop n bytes ≡ [] = drop_all n bytes (omega (arith, leb-false n (length bytes) e)) in
        let none : take m (drop n bytes) ≡ [] = ap (take m) end ∙ take_all m [] (omega arith) in
        ap (sum_from (sum_from sum (take n bytes))) none
        ∙ ap (sum_from sum) (sym (parts ∙ ap (λ l. take n bytes ++ l) none ∙ append-nil (take n bytes)))

-- a piece, and the bytes behind it
pub sum-pieces : (sum place n m : ℕ) (file : List ℕ) → (m ≡ 0) ⊎ (n ≡ 16384)
    → sum_from (sum_from sum (bytes_at place n file)) (bytes_at (place + n) m file) ≡ sum_from sum (bytes_at place (n + m) file)
unfolding sum_from
sum-pieces sum place n m file (inl none) =
    let same : n + m ≡ n = omega (arith, none) in
    ap (λ k. sum_from (sum_from sum (bytes_at place n file)) (bytes_at (place + n) k file)) none
    ∙ ap (λ k. sum_from sum (bytes_at place k file)) (sym same)
sum-pieces sum place n m file (inr full) =
    ap (λ l. sum_from (sum_from sum (bytes_at place n file)) (take m l)) (sym (drop-drop n place file)) ∙ two-pieces sum n m (drop place file) full

module _ (range : ByteRange) (file : List ℕ) where
  -- the sum so far, and the bytes that are still to come, make the sum of the range
  abbrev pub GoesOn : ℕ → ℕ → Type 0
  GoesOn sum done = sum_from sum (bytes_at (range.start + done) (range.len - done) file) ≡ sum_of (bytes_in range file)

  -- with a piece more
  pub goes_on : (sum more done count place : ℕ) → place ≡ range.start + done → done < range.len → count ≡ min (range.len - done) 16384 → more ≡ sum_from sum (bytes_at place count file)
      → GoesOn sum done → GoesOn more (done + count)
  goes_on sum more done count place at lt size own all =
      let left : ℕ = range.len - (done + count) in
      let cases : (left ≡ 0) ⊎ (count ≡ 16384) = ends (range.len - done) count left size (omega (arith, lt, size)) in
      let total : count + left ≡ range.len - done = omega (arith, lt, size) in
      let next : range.start + (done + count) ≡ range.start + done + count = omega arith in
      ap (λ s. sum_from s (bytes_at (range.start + (done + count)) left file)) (own ∙ ap (λ k. sum_from sum (bytes_at k count file)) at)
      ∙ ap (λ k. sum_from (sum_from sum (bytes_at (range.start + done) count file)) (bytes_at k left file)) next
      ∙ sum-pieces sum (range.start + done) count left file cases
      ∙ ap (λ k. sum_from sum (bytes_at (range.start + done) k file)) total
      ∙ all
    where
      ends : (room n left : ℕ) → n ≡ min room 16384 → n + left ≡ room → (left ≡ 0) ⊎ (n ≡ 16384)
      ends room n left e f = by (leb room 16384) refl
        where
          by : (t : Bool) → leb room 16384 ≡ t → (left ≡ 0) ⊎ (n ≡ 16384)
          by true g = inl (omega (arith, leb-true room 16384 g, e, f))
          by false g = inr (omega (arith, leb-false room 16384 g, e, f))

  -- with all of them
  pub goes_whole : (sum done : ℕ) → range.len ≤ done → GoesOn sum done → sum ≡ sum_of (bytes_in range file)
  unfolding sum_from
  goes_whole sum done end all =
      let none : range.len - done ≡ 0 = omega (arith, end) in
      ap (λ k. sum_from sum (bytes_at (range.start + done) k file)) (sym none) ∙ all
