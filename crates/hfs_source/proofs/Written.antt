-- The bytes of blocks that were written, and of those that are still to come.
use Rattle.std.proofs.Common.{◌≡◌, ℕ, zero, suc, ◌+◌, ◌-◌, ◌*◌, ◌<◌, ◌≤◌, ◌⊎◌, inl, inr, ⊎_elim, min, List, [], ◌∷◌, ◌++◌, length, get_or, take, drop, Option, Some, None, Result, Ok, Err, OnErr, refl, sym, ap, subst, ◌∙◌, arith, append-nil, take_all, length-append, length-take}
use Rattle.std.specs.Prelude.{IfSome}
use Rattle.std.specs.List.{flat_map, range_with_len}
use Rattle.std.specs.Io.KnownBytes.{Appends}
use Rattle.std.proofs.KnownBytes.{Appends-nil, Appends-trans}
use Rattle.std.proofs.lemmas.List.Concat.{flat_map-append}
use Rattle.std.proofs.lemmas.List.{take_min, drop_more, drop_all}
use Rattle.std.proofs.lemmas.List.FromFn.{length-range_with_len}
use Rattle.std.proofs.lemmas.Bool.{cases_lt}
use Rattle.hfs_texts.proofs.FrontLemmas.{front_first}
use Rattle.hfs_texts.specs.Writing.{AppendsFront}
use Rattle.hfs_blocks.specs.declared.run.Run.{Run}
use Rattle.hfs_blocks.specs.Blocks.{block_at, run_of}
use Rattle.hfs_source.specs.Sparse.{HoldsFrom}
use Rattle.hfs_source.specs.Writing.{blocks_of, WritesBlocks, WritesRuns, WritesSome}
use Rattle.hfs_source.proofs.Copied.{flat-range}

-- ---- parts of bytes

pub take-append : (n : ℕ) (xs ys : List ℕ) → take n (xs ++ ys) ≡ take n xs ++ take (n - length xs) ys
take-append zero [] ys = ap (λ m. take m ys) (let e : 0 ≡ 0 - 0 = omega arith in e)
take-append zero (x ∷ xs) ys = (λ i. take (let e : zero ≡ zero - suc (length xs) = omega arith in e i) ys)
take-append (suc n) [] ys = ap (λ m. take m ys) (let e : suc n ≡ suc n - 0 = omega arith in e)
take-append (suc n) (x ∷ xs) ys =
    let less : n - length xs ≡ suc n - suc (length xs) = omega arith in
    ap (λ l. x ∷ l) (take-append n xs ys ∙ ap (λ m. take n xs ++ take m ys) less)

cases_le : (a b : ℕ) → (a ≤ b) ⊎ (b < a)
cases_le a b = ⊎_elim
    (λ (lt : b < a). inr lt)
    (λ (le : a ≤ b). inl le)
    (cases_lt b a)

-- ---- what was written goes on to the whole

pub record GoesOn (old now : Option (List ℕ)) (rest whole : List ℕ) : Type 0 where
  pub all : (end : Option (List ℕ)) → Appends now end rest → Appends old end whole
  pub part : (end : Option (List ℕ)) → AppendsFront now end rest → AppendsFront old end whole

pub goes-on-first : (old : Option (List ℕ)) (whole : List ℕ) → GoesOn old old whole whole
goes-on-first old whole = record { all = λ end h. h; part = λ end h. h }

pub goes-on-next : (old now next : Option (List ℕ)) (here rest whole : List ℕ) → GoesOn old now (here ++ rest) whole → Appends now next here → GoesOn old next rest whole
goes-on-next old now next here rest whole on own = record {
  all = λ end h. on.all end (Appends-trans now next end here rest own h);
  part = λ end h. on.part end (
    length here + h.0,
    subst (Appends now end) (sym (take-append (length here + h.0) here rest
        ∙ (λ i. take_all (length here + h.0) here (let le : length here ≤ length here + h.0 = omega arith in le) i
        ++ take (let e : length here + h.0 - length here ≡ h.0 = omega arith in e i) rest)))
        (Appends-trans now next end here (take h.0 rest) own h.1),
  );
}

pub goes-on-end : (old now : Option (List ℕ)) (whole : List ℕ) → GoesOn old now [] whole → Appends old now whole
goes-on-end old now whole on = on.all now (Appends-nil now)

-- ---- of blocks of an image that may be known

-- behind what was written, so many bytes of these blocks make the whole
abbrev pub GoesOnWith : Option (List ℕ) → Option (List ℕ) → Option (List ℕ) → List ℕ → ℕ → (List ℕ → List ℕ) → Type 0
GoesOnWith known old now numbers left whole = IfSome known (λ image. GoesOn old now (take left (blocks_of image numbers)) (whole image))

split : (image here rest : List ℕ) (left : ℕ)
    → take left (blocks_of image (here ++ rest)) ≡ take left (blocks_of image here) ++ take (left - length (blocks_of image here)) (blocks_of image rest)
split image here rest left =
    ap (take left) (flat_map-append (block_at image) here rest) ∙ take-append left (blocks_of image here) (blocks_of image rest)

pub with-next : (known now-known : Option (List ℕ)) → now-known ≡ known → (old now next : Option (List ℕ)) (here rest : List ℕ) (left after : ℕ) (whole : List ℕ → List ℕ)
    → after ≡ left - 512 * length here → GoesOnWith known old now (here ++ rest) left whole → WritesBlocks now-known now next here left
    → GoesOnWith known old next rest after whole
with-next None now-known same old now next here rest left after whole e on own = tt
with-next (Some image) now-known same old now next here rest left after whole e on own =
    let own' : (length (blocks_of image here) ≡ 512 * length here) × Appends now next (take left (blocks_of image here)) =
    subst (λ o. WritesBlocks o now next here left) same own in
    let fewer : left - length (blocks_of image here) ≡ after = omega (arith, e, own'.0) in
    subst (λ m. GoesOn old next (take m (blocks_of image rest)) (whole image)) fewer
    (goes-on-next old now next (take left (blocks_of image here)) (take (left - length (blocks_of image here)) (blocks_of image rest)) (whole image)
    (subst (λ l. GoesOn old now l (whole image)) (split image here rest left) on) own'.1)

pub with-part : (known now-known : Option (List ℕ)) → now-known ≡ known → (old now end : Option (List ℕ)) (here rest : List ℕ) (left : ℕ) (whole : List ℕ → List ℕ)
    → GoesOnWith known old now (here ++ rest) left whole → WritesSome now-known now end here left → IfSome known (λ image. AppendsFront old end (whole image))
with-part None now-known same old now end here rest left whole on own = tt
with-part (Some image) now-known same old now end here rest left whole on own =
    on.part end (subst (AppendsFront now end) (sym (split image here rest left))
    (front_first now end (take left (blocks_of image here)) (take (left - length (blocks_of image here)) (blocks_of image rest))
    (subst (λ o. WritesSome o now end here left) same own)))

-- ---- one piece

pub piece-some-none : (known : Option (List ℕ)) (a : Option (List ℕ)) (numbers : List ℕ) (left : ℕ) → WritesSome known a a numbers left
piece-some-none None a numbers left = tt
piece-some-none (Some image) a numbers left = (0, Appends-nil a)

module _ (first count left most : ℕ) (into part : List ℕ) (fits : length into ≡ count * 512) (cut : part ≡ take most into) (least : most ≡ min (count * 512) left) where
  part-is : (image : List ℕ) → into ≡ take (length into) (drop (512 * first) image) → part ≡ take left (blocks_of image (range_with_len first count))
  part-is image held = cut ∙ ap (take most) whole ∙ by-least (blocks_of image (range_with_len first count)) (ap length (sym whole) ∙ fits)
    where
      whole : into ≡ blocks_of image (range_with_len first count)
      whole = held ∙ ap (λ m. take m (drop (512 * first) image)) fits ∙ sym (flat-range image first count)

      by-least : (xs : List ℕ) → length xs ≡ count * 512 → take most xs ≡ take left xs
      by-least xs long = ⊎_elim
          (λ (le : left ≤ count * 512). ap (λ m. take m xs) (let e : most ≡ left = omega (arith, le, least) in e))
          (λ (lt : count * 512 < left). take_all most xs (omega (arith, lt, least, long)) ∙ sym (take_all left xs (omega (arith, lt, long))))
          (cases_le left (count * 512))

  pub piece-written : (known : Option (List ℕ)) (a b : Option (List ℕ)) → HoldsFrom known (512 * first) into → Appends a b part
      → WritesBlocks known a b (range_with_len first count) left
  piece-written None a b held own = tt
  piece-written (Some image) a b held own = (
    (let long : length (blocks_of image (range_with_len first count)) ≡ 512 * length (range_with_len first count) =
        omega (
          arith,
          fits,
          length-range_with_len first count,
          ap length (held ∙ ap (λ m. take m (drop (512 * first) image)) fits ∙ sym (flat-range image first count)),
        ) in long),
    subst (Appends a b) (part-is image held) own,
  )

  pub piece-part : (known : Option (List ℕ)) (a b : Option (List ℕ)) → HoldsFrom known (512 * first) into → AppendsFront a b part
      → WritesSome known a b (range_with_len first count) left
  piece-part None a b held own = tt
  piece-part (Some image) a b held own = subst (AppendsFront a b) (part-is image held) own

-- ---- the pieces of a run

-- where the image's bytes are known, so many blocks from a number on are whole
abbrev pub AreWholeSoFar : Option (List ℕ) → ℕ → ℕ → Type 0
AreWholeSoFar known first count = IfSome known (λ image. length (blocks_of image (range_with_len first count)) ≡ 512 * count)

pub none-whole : (known : Option (List ℕ)) (first n : ℕ) → n ≡ 0 → AreWholeSoFar known first n
none-whole None first n e = tt
none-whole (Some image) first n e =
    subst (λ m. length (blocks_of image (range_with_len first m)) ≡ 512 * m) (sym e) (let zeros : 0 ≡ 512 * 0 = omega arith in zeros)

range-add : (first m n : ℕ) → range_with_len first (m + n) ≡ range_with_len first m ++ range_with_len (first + m) n
range-add first zero n = λ i. range_with_len (let e : first ≡ first + 0 = omega arith in e i) (let e : 0 + n ≡ n = omega arith in e i)
range-add first (suc m) n =
    let more : suc m + n ≡ suc (m + n) = omega arith in
    let place : first + 1 + m ≡ first + suc m = omega arith in
    ap (range_with_len first) more ∙ ap (λ l. first ∷ l) (range-add (first + 1) m n ∙ ap (λ k. range_with_len (first + 1) m ++ range_with_len k n) place)

pub more-whole : (known now-known : Option (List ℕ)) → now-known ≡ known → (first done step place next : ℕ) → place ≡ first + done → next ≡ done + step
    → (old new : Option (List ℕ)) (left : ℕ) → AreWholeSoFar known first done → WritesBlocks now-known old new (range_with_len place step) left
    → AreWholeSoFar known first next
more-whole None now-known same first done step place next at e old new left whole own = tt
more-whole (Some image) now-known same first done step place next at e old new left whole own =
    let here : length (blocks_of image (range_with_len place step)) ≡ 512 * length (range_with_len place step) =
    (subst (λ o. WritesBlocks o old new (range_with_len place step) left) same own).0 in
    let both : blocks_of image (range_with_len first next) ≡ blocks_of image (range_with_len first done) ++ blocks_of image (range_with_len place step) =
    ap (λ m. blocks_of image (range_with_len first m)) e ∙ ap (blocks_of image) (range-add first done step)
    ∙ flat_map-append (block_at image) (range_with_len first done) (range_with_len (first + done) step)
    ∙ ap (λ k. blocks_of image (range_with_len first done) ++ blocks_of image (range_with_len k step)) (sym at) in
    omega (
      arith,
      ap length both,
      length-append (blocks_of image (range_with_len first done)) (blocks_of image (range_with_len place step)),
      whole,
      here,
      e,
      length-range_with_len place step,
    )

-- the blocks that are behind are those of a piece and those behind it
pub split-behind : (first count behind step : ℕ) → behind ≤ count → step ≤ behind
    → range_with_len (first + (count - behind)) behind ≡ range_with_len (first + (count - behind)) step ++ range_with_len (first + (count - (behind - step))) (behind - step)
split-behind first count behind step le few =
    let all : behind ≡ step + (behind - step) = omega (arith, few) in
    let place : first + (count - behind) + step ≡ first + (count - (behind - step)) = omega (arith, le, few) in
    ap (range_with_len (first + (count - behind))) all ∙ range-add (first + (count - behind)) step (behind - step)
    ∙ ap (λ k. range_with_len (first + (count - behind)) step ++ range_with_len k (behind - step)) place

take-nil : (n : ℕ) → take {A = ℕ} n [] ≡ []
take-nil zero = refl
take-nil (suc n) = refl

-- at the end nothing is still to come
pub run-written : (known : Option (List ℕ)) (old now : Option (List ℕ)) (first count behind left rest : ℕ) → behind ≡ 0
    → AreWholeSoFar known first (count - behind)
    → GoesOnWith known old now (range_with_len (first + (count - behind)) behind) rest (λ image. take left (blocks_of image (range_with_len first count)))
    → WritesBlocks known old now (range_with_len first count) left
run-written None old now first count behind left rest e whole on = tt
run-written (Some image) old now first count behind left rest e whole on =
    let all : count - behind ≡ count = omega (arith, e) in
    let none : take rest (blocks_of image (range_with_len (first + (count - behind)) behind)) ≡ [] =
    ap (λ m. take rest (blocks_of image (range_with_len (first + (count - behind)) m))) e ∙ take-nil rest in (
      (let long : length (blocks_of image (range_with_len first count)) ≡ 512 * length (range_with_len first count) =
          omega (arith, subst (λ m. length (blocks_of image (range_with_len first m)) ≡ 512 * m) all whole, length-range_with_len first count) in long),
      goes-on-end old now (take left (blocks_of image (range_with_len first count)))
          (subst (λ l. GoesOn old now l (take left (blocks_of image (range_with_len first count)))) none on),
    )

-- ---- the runs

-- the blocks of the runs from one on are its own and those of the runs behind it
pub split-runs : (runs : List Run) (i : ℕ) (none : Run) → i < length runs
    → flat_map run_of (drop i runs) ≡ run_of (get_or runs i none) ++ flat_map run_of (drop (i + 1) runs)
split-runs runs i none lt = ap (flat_map run_of) (drop_more runs i none lt)

pub runs-written : (known : Option (List ℕ)) (old now : Option (List ℕ)) (runs : List Run) (i left size : ℕ) → length runs ≤ i
    → GoesOnWith known old now (flat_map run_of (drop i runs)) left (λ image. take size (blocks_of image (flat_map run_of runs)))
    → WritesRuns known old now runs size
runs-written None old now runs i left size le on = tt
runs-written (Some image) old now runs i left size le on =
    goes-on-end old now (take size (blocks_of image (flat_map run_of runs)))
    (subst (λ l. GoesOn old now l (take size (blocks_of image (flat_map run_of runs))))
    (ap (λ l. take left (blocks_of image (flat_map run_of l))) (drop_all i runs le) ∙ take-nil left) on)

-- room that was filled is as large as it was
pub filled-room : (least len : ℕ) (items new : List ℕ) → len ≡ length items → length new ≡ length items → least ≤ length items
    → least ≤ length (take len (new ++ drop (length new) items))
filled-room least len items new same fits le =
    omega (arith, same, fits, le, length-take len (new ++ drop (length new) items), length-append new (drop (length new) items))
