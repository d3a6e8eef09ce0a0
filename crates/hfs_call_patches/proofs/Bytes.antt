-- What zeros and bytes over a fork's blocks make of the fork's bytes.
use Rattle.std.proofs.Common.{◌≡◌, inl, inr, ◌⊎◌, ℕ, suc, ◌+◌, ◌-◌, ◌*◌, ◌<◌, ◌≤◌, Bool, false, cond, ltb, List, [], ◌∷◌, ◌++◌, length, get_or, take, drop, replicate, sym, ◌∙◌, ap, arith}
use Rattle.std.specs.Prelude.{max}
use Rattle.std.proofs.lemmas.Bool.{cases_lt, cases_Bool, ltb-true, lt-ltb}
use Rattle.std.proofs.lemmas.List.{length-append, length-take, length-take-le, length-replicate, take-append-le, take-replicate, take_all, take-take, append_assoc, append-nil, drop-take, drop_all}
use Rattle.std.proofs.Math.Nat.{mul-le-mul_right, suc-mul}
use Rattle.hfs_model.specs.Forks.{resized, laid_over, written}
use Rattle.hfs_model.proofs.ForkLemmas.{length-resized, resized-same}
use Rattle.hfs_space.specs.Parts.{with_part, zeros}
use Rattle.hfs_space.proofs.PartLemmas.{length-with_part, with_part-before, with_part-inside, with_part-after}
use Rattle.hfs_space.proofs.ForkLemmas.{with_part-nothing}
use Rattle.hfs_space.proofs.CoverLemmas.{length-cleared, cleared-in, cleared-out}
use Rattle.hfs_call_patches.specs.Laid.{AreZeros, AreLaid}

take_past : (xs ys : List ℕ) (k : ℕ) → take (length xs + k) (xs ++ ys) ≡ xs ++ take k ys
take_past [] ys k = ap (λ (n : ℕ). take n ys) (let e : 0 + k ≡ k = omega arith in e)
take_past (x ∷ xs) ys k = ap (λ (n : ℕ). take n (x ∷ xs ++ ys)) (let e : length (x ∷ xs) + k ≡ suc (length xs + k) = omega arith in e) ∙ (λ i. x ∷ take_past xs ys k i)

-- zeros from where the fork ended make it longer
pub zeros_lengthen : (all : List ℕ) (len n k : ℕ) → len ≤ length all → len ≤ n → n ≤ len + k → take n (take len all ++ replicate k 0 ++ drop (len + length (replicate {A = ℕ} k 0)) all) ≡ resized n (take len all)
unfolding resized
zeros_lengthen all len n k whole more enough =
    let zeros : List ℕ = replicate k 0 in
    let old : List ℕ = take len all in
    let front : length old ≡ len = length-take-le len all whole in
    let zeros_long : length (replicate {A = ℕ} k 0) ≡ k = length-replicate {A = ℕ} k 0 in
    let both = length-append old zeros in
    let split : n ≡ length old + (n - len) = omega (arith, front, more) in
    take-append-le n (old ++ zeros) (drop (len + length (replicate {A = ℕ} k 0)) all) (omega (arith, both, front, zeros_long, enough))
    ∙ ap (λ (j : ℕ). take j (old ++ zeros)) split
    ∙ take_past old zeros (n - len)
    ∙ ap (λ (l : List ℕ). old ++ l) (take-replicate (n - len) k 0 (omega (arith, enough)))
    ∙ (λ i. sym (take_all n old (omega (arith, front, more))) i ++ replicate (n - sym front i) 0)

-- fewer bytes are the first of those that there were
pub shortened : (all : List ℕ) (len n : ℕ) → len ≤ length all → n ≤ len → take n all ≡ resized n (take len all)
unfolding resized
shortened all len n whole fewer =
    let front : length (take len all) ≡ len = length-take-le len all whole in
    let none : n - length (take len all) ≡ 0 = omega (arith, front, fewer) in
    sym (ap (λ (l : List ℕ). l ++ replicate (n - length (take len all)) 0) (take_shorter all len n fewer) ∙ ap (λ (k : ℕ). take n all ++ replicate k 0) none ∙ append-nil (take n all))
  where
    take_shorter : (all : List ℕ) (len n : ℕ) → n ≤ len → take n (take len all) ≡ take n all
    take_shorter all len n fewer = take-take n len all fewer

-- bytes that are laid over the blocks are laid over the fork's bytes
pub laid : (all part : List ℕ) (offset n : ℕ) → offset + length part ≤ n → n ≤ length all → take n (take offset all ++ part ++ drop (offset + length part) all) ≡ laid_over offset part (take n all)
laid all part offset n within whole =
    let end : ℕ = offset + length part in
    let front : length (take offset all) ≡ offset = length-take-le offset all (omega (arith, within, whole)) in
    let both = length-append (take offset all) part in
    let split : n ≡ length (take offset all ++ part) + (n - end) = omega (arith, both, front, within) in
    let back : n ≡ end + (n - end) = omega (arith, within) in
    ap (λ (j : ℕ). take j (take offset all ++ part ++ drop end all)) split
    ∙ take_past (take offset all ++ part) (drop end all) (n - end)
    ∙ append_assoc (take offset all) part (take (n - end) (drop end all))
    ∙ (λ i. sym (take-take offset n all (omega (arith, within))) i ++ (part ++ (sym (drop-take end (n - end) all) ∙ ap (λ (j : ℕ). drop end (take j all)) (sym back)) i))

-- bytes before a part are those of before
with_part-front : (j from : ℕ) (part all : List ℕ) → j ≤ from → j ≤ length all → take j (with_part from part all) ≡ take j all
with_part-front j from part all before within =
    let front = length-take from all in
    let both = length-append (take from all) part in
    take-append-le j (take from all ++ part) (drop (from + length part) all) (omega (arith, front, both, before, within))
    ∙ take-append-le j (take from all) part (omega (arith, front, before, within))
    ∙ take-take j from all before

-- ---- the bytes of the blocks that a fork had, and those of the blocks that it has, begin with the same ones

module _ (had has : List ℕ) (same : ℕ) (front : take same had ≡ take same has) where
  first_same : (k : ℕ) → k ≤ same → take k had ≡ take k has
  first_same k le = sym (take-take k same had le) ∙ ap (take k) front ∙ take-take k same has le

  -- zeros from where the fork ended make it as long as it is to be
  pub zeros_resize : (was len k : ℕ) → was ≤ length had → len ≤ length has → (was ≤ same) ⊎ (len ≤ same) → len ≤ was + k → take len (with_part was (zeros k) has) ≡ resized len (take was had)
  zeros_resize was len k whole room either enough = elim (cases_lt was len) [
    | inl longer ↦
        let low : was ≤ same = elim either [ inl w ↦ w | inr l ↦ omega (arith, l, longer) ] in
        zeros_lengthen has was len k (omega (arith, longer, room)) (omega (arith, longer)) enough ∙ ap (resized len) (sym (first_same was low))
    | inr shorter ↦
        let low : len ≤ same = elim either [ inl w ↦ omega (arith, w, shorter) | inr l ↦ l ] in
        with_part-front len was (zeros k) has shorter room ∙ sym (first_same len low) ∙ shortened had was len whole shorter
  ]

  -- bytes that are laid over from before its end on, and zeros that stand behind that, make it what WriteFork makes
  pub laid_write : (was offset from k : ℕ) (part : List ℕ) → was ≤ length had → was ≤ same → offset ≤ was → was ≤ from → from + k ≤ length has → max was (offset + length part) ≤ length has
      → take (max was (offset + length part)) (with_part offset part (with_part from (zeros k) has)) ≡ written offset part (take was had)
  unfolding written resized
  laid_write was offset from k part whole low starts behind fits room =
      let cleared : List ℕ = with_part from (zeros k) has in
      let end : ℕ = offset + length part in
      let len : ℕ = max was end in
      let old : List ℕ = take was had in
      let long : length old ≡ was = length-take-le was had whole in
      let size : ℕ = max (length old) end in
      let sizes : size ≡ len = ap (λ (n : ℕ). max n end) long in
      let full : length cleared ≡ length has = length-cleared from k has fits in
      let before : take offset (take len cleared) ≡ take offset (resized size old) =
      take-take offset len cleared (omega (arith, starts)) ∙ with_part-front offset from (zeros k) has (omega (arith, starts, behind)) (omega (arith, starts, room)) ∙ sym (first_same offset (omega (arith, starts, low)))
      ∙ sym (take-append-le offset (take size old) (replicate (size - length old) 0) (omega (arith, length-take size old, long, starts)) ∙ take-take offset size old (omega (arith, long, starts)) ∙ take-take offset was had starts) in
      let after : drop end (take len cleared) ≡ drop end (resized size old) = elim (cases_lt end was) [
        | inl inside ↦
            let is : len ≡ was = omega (arith, inside) in
            let none : size ≡ length old = omega (arith, inside, long) in
            ap (λ (n : ℕ). drop end (take n cleared)) is
            ∙ ap (drop end) (with_part-front was from (zeros k) has behind (omega (arith, room)) ∙ sym (first_same was low))
            ∙ sym (ap (λ (n : ℕ). drop end (resized n old)) none ∙ ap (drop end) (resized-same old))
        | inr past ↦
            let cut = length-take len cleared in
            let made = length-resized size old in
            drop_all end (take len cleared) (omega (arith, cut, past)) ∙ sym (drop_all end (resized size old) (omega (arith, made, past, long)))
      ] in
      laid cleared part offset len (omega arith) (omega (arith, full, room))
      ∙ (λ i. before i ++ (part ++ after i))

-- ---- which zeros

module _ (size was had len n offset given from count : ℕ) (z : AreZeros size was had len n offset given from count) (room : len ≤ n * size) where
  ends : ((had < n) × (from + count ≡ n * size)) ⊎ ((n ≤ had) × (from + count ≡ max from len))
  ends = elim (cases_lt had n) [
    | inl more ↦ inl (more, z.ends ∙ ap (λ (b : Bool). cond b (n * size) (max from len)) (lt-ltb had n more))
    | inr fewer ↦ inr (fewer, z.ends ∙ ap (λ (b : Bool). cond b (n * size) (max from len)) (not_below had n fewer))
  ]
    where
      not_below : (a b : ℕ) → b ≤ a → ltb a b ≡ false
      not_below a b le = elim (cases_Bool (ltb a b)) [ inl is ↦ absurd (let lt = ltb-true a b is in omega (arith, lt, le)) | inr off ↦ off ]

  -- they go as far as the fork does
  pub zeros_reach : len ≤ from + count
  zeros_reach = elim ends [ inl all ↦ let e = all.1 in omega (arith, e, room) | inr some ↦ let e = some.1 in omega (arith, e) ]

  -- and no farther than its blocks, where they begin within it
  pub zeros_fit : from ≤ len → from + count ≤ n * size
  zeros_fit within = elim ends [ inl all ↦ let e = all.1 in omega (arith, e) | inr some ↦ let e = some.1 in omega (arith, e, within, room) ]

  -- there are none, or they fit
  pub none_or_fit : (count ≡ 0) ⊎ (from + count ≤ n * size)
  none_or_fit = elim (cases_lt len from) [
    | inl past ↦ elim ends [ inl all ↦ inr (let e = all.1 in omega (arith, e)) | inr some ↦ inl (let e = some.1 in omega (arith, e, past)) ]
    | inr within ↦ inr (zeros_fit within)
  ]

-- ---- byte by byte

module _ (size was had len n offset from count : ℕ) (part all : List ℕ) (z : AreZeros size was had len n offset (length part) from count) (room : len ≤ n * size) (least : n * size < len + size)
    (held : was ≤ had * size) (long : length all ≡ n * size) (starts : offset ≤ was) (fits : offset + length part ≤ len) where
  abbrev cleared : List ℕ
  cleared = with_part from (zeros count) all

  full : length cleared ≡ length all
  full = elim (none_or_fit size was had len n offset (length part) from count z room) [
    | inl none ↦ ap (λ (k : ℕ). length (with_part from (zeros k) all)) none ∙ ap (λ (l : List ℕ). length l) (with_part-nothing from all)
    | inr within ↦ length-cleared from count all (omega (arith, within, long))
  ]

  inside : offset + length part ≤ length cleared
  inside = let e = full in omega (arith, e, fits, room, long)

  zero_at : (j : ℕ) → from ≤ j → j < from + count → get_or cleared j 0 ≡ 0
  zero_at j low high = elim (none_or_fit size was had len n offset (length part) from count z room) [
    | inl none ↦ absurd (omega (arith, none, low, high))
    | inr within ↦ cleared-in from count all (omega (arith, within, long)) j low high
  ]

  same_at : (j : ℕ) → (j < from) ⊎ (from + count ≤ j) → get_or cleared j 0 ≡ get_or all j 0
  same_at j apart = elim (none_or_fit size was had len n offset (length part) from count z room) [
    | inl none ↦ ap (λ (k : ℕ). get_or (with_part from (zeros k) all) j 0) none ∙ ap (λ (l : List ℕ). get_or l j 0) (with_part-nothing from all)
    | inr within ↦ cleared-out from count all (omega (arith, within, long)) j apart
  ]

  beside_part : (j : ℕ) → (j < offset) ⊎ (offset + length part ≤ j) → get_or (with_part offset part cleared) j 0 ≡ get_or cleared j 0
  beside_part j (inl low) = with_part-before offset part cleared inside j 0 low
  beside_part j (inr high) = with_part-after offset part cleared inside j 0 high

  -- more blocks than the fork had reach past it
  more_long : had < n → had * size < len
  more_long more =
      let least_more : suc had ≤ n = omega (arith, more) in
      let next : suc had * size ≤ n * size = mul-le-mul_right size least_more in
      let step : suc had * size ≡ had * size + size = suc-mul had size in
      omega (arith, next, step, least)

  few_long : n ≤ had → n * size ≤ had * size
  few_long fewer = mul-le-mul_right size fewer

  pub bytes_laid : AreLaid was (had * size) len offset part all (with_part offset part cleared)
  bytes_laid = record {
    given = λ j lt.
        with_part-inside offset part cleared inside (offset + j) 0 (omega arith) (omega (arith, lt))
        ∙ ap (λ (k : ℕ). get_or part k 0) (let e : offset + j - offset ≡ j = omega arith in e);
    zeros = λ j lt apart either.
        let behind : was ≤ j = elim either [ inl past ↦ omega (arith, past, held) | inr between ↦ between.0 ] in
        let end : offset + length part ≤ j = elim apart [ inl low ↦ absurd (omega (arith, low, starts, behind)) | inr high ↦ high ] in
        let whole = length-with_part offset part cleared inside in
        let all_long = full in
        let begins = z.begins in
        beside_part j apart ∙ zero_at j (omega (arith, begins, behind, end)) (elim (ends size was had len n offset (length part) from count z room) [
          | inl all ↦ (let e = all.1 in omega (arith, e, lt, whole, all_long, long))
          | inr some ↦
              let e = some.1 in
              let fewer = few_long some.0 in
              elim either [ inl past ↦ absurd (omega (arith, past, lt, whole, all_long, long, fewer)) | inr between ↦ (let low = between.1 in omega (arith, e, low)) ]
        ]);
    others = λ j low apart either.
        beside_part j apart ∙ same_at j (elim either [
          | inl before ↦ inl (let b = z.behind in omega (arith, before, b))
          | inr past ↦ elim (ends size was had len n offset (length part) from count z room) [
            | inl all ↦ absurd (let more = more_long all.0 in omega (arith, more, past, low))
            | inr some ↦ elim (cases_lt j from) [ inl lt ↦ inl lt | inr ge ↦ inr (let e = some.1 in omega (arith, e, past, ge)) ]
          ]
        ]);
  }
