-- Bytes with zeros behind their end.
use Rattle.std.proofs.Common.{◌≡◌, ◌∙◌, ℕ, ◌+◌, ◌-◌, ◌<◌, ◌≤◌, List, [], ◌++◌, length, take, drop, replicate, Option, ap, sym, min, inl, inr, arith}
use Rattle.std.proofs.lemmas.Bool.{cases_lt}
use Rattle.std.proofs.lemmas.List.{append-nil, append_assoc, length-take, length-drop, length-append, length-replicate, take-append-le, drop-append-le, drop-drop, drop-take, take-take, take_all, drop_all, drop_at, take-replicate, drop-replicate, replicate-append-replicate}
use Rattle.std.specs.Prelude.{slice_get}
use Rattle.std.proofs.lemmas.Slice.{take-put_mid}
use Rattle.std.proofs.Math.Seq.{drop-append-add, take-add, take-append-add}
use borrow.Rule.Slice.PartMut.{put_mid}
use Rattle.hfs_source.specs.Images.{HasAt}
use Rattle.hfs_put_sources.specs.Items.{PlannedItem}
use Rattle.hfs_put_sources.specs.Trees.{Tree}
use Rattle.hfs_put_sources.specs.declared.fork_run.ForkRun.{ForkRun}
use Rattle.hfs_put.specs.Laid.{bytes_of, filled, run_bytes}
use Rattle.hfs_put.proofs.LaidLemmas.{length-filled}

-- more zeros change nothing
more-zeros : (n m : ℕ) (xs : List ℕ) → n ≤ m → take n (xs ++ replicate m 0) ≡ filled n xs
more-zeros n m xs le =
    let parts : replicate {A = ℕ} n 0 ++ replicate (m - n) 0 ≡ replicate m 0 =
    replicate-append-replicate n (m - n) 0 ∙ ap (λ k. replicate k 0) (let e : n + (m - n) ≡ m = omega (arith, le) in e) in
    ap (λ zs. take n (xs ++ zs)) (sym parts)
    ∙ ap (take n) (sym (append_assoc xs (replicate n 0) (replicate (m - n) 0)))
    ∙ take-append-le n (xs ++ replicate n 0) (replicate (m - n) 0) (omega (arith, length-append xs (replicate n 0), length-replicate {A = ℕ} n 0))

-- the bytes that there are, and zeros
pub filled-is : (n k : ℕ) (xs : List ℕ) → k ≤ n → k ≤ length xs → (k < n → length xs ≤ k) → take k xs ++ replicate (n - k) 0 ≡ filled n xs
filled-is n k xs few there ends = elim (cases_lt k n) [
  | inr all ↦
      let same : k ≡ n = omega (arith, few, all) in
      let none : n - k ≡ 0 = omega (arith, all) in
      (λ i. take k xs ++ replicate (none i) 0)
      ∙ append-nil (take k xs)
      ∙ ap (λ j. take j xs) same
      ∙ sym (take-append-le n xs (replicate n 0) (omega (arith, there, all)))
  | inl less ↦
      let whole : length xs ≡ k = (let e = ends less in omega (arith, e, there)) in
      let room : length xs + (n - k) ≡ n = omega (arith, whole, few) in
      (λ i. take_all k xs (omega (arith, whole)) i ++ sym (take-replicate (n - k) n 0 (omega arith)) i)
      ∙ sym (take-append-add xs (replicate n 0) (n - k))
      ∙ ap (λ j. take j (xs ++ replicate n 0)) room
]

-- a part of them
pub filled-part : (from n len : ℕ) (xs : List ℕ) → from + n ≤ len → take n (drop from (filled len xs)) ≡ filled n (drop from xs)
filled-part from n len xs within =
    let room : from + (len - from) ≡ len = omega (arith, within) in
    ap (λ k. take n (drop from (take k (xs ++ replicate len 0)))) (sym room)
    ∙ ap (take n) (drop-take from (len - from) (xs ++ replicate len 0))
    ∙ take-take n (len - from) (drop from (xs ++ replicate len 0)) (omega (arith, within))
    ∙ elim (cases_lt (length xs) from) [
      | inr inside ↦ ap (take n) (drop-append-le from xs (replicate len 0) inside) ∙ more-zeros n len (drop from xs) (omega (arith, within))
      | inl past ↦
          let e = from - length xs in
          let there : from ≡ length xs + e = omega (arith, past) in
          let none : drop from xs ≡ [] = drop_all from xs (omega (arith, past)) in
          ap (λ k. take n (drop k (xs ++ replicate len 0))) there
          ∙ ap (take n) (drop-append-add xs (replicate len 0) e ∙ drop-replicate e len 0)
          ∙ take-replicate n (len - e) 0 (omega (arith, within))
          ∙ sym (take-replicate n n 0 (omega arith))
          ∙ ap (λ l. filled n l) (sym none)
    ]

-- where there are none
pub filled-nil : (n from : ℕ) → replicate n 0 ≡ filled n (drop from [])
filled-nil n from = sym (take-replicate n n 0 (omega arith)) ∙ ap (λ l. filled n l) (sym (drop_all from [] (omega arith)))

span-part : (start at k len : ℕ) (bytes : List ℕ) → k ≤ len - at → take k (drop at (take len (drop start bytes))) ≡ take k (drop (start + at) bytes)
span-part start at k len bytes within = elim (cases_lt len at) [
  | inl past ↦
      let none : k ≡ 0 = omega (arith, within, past) in
      ap (λ j. take j (drop at (take len (drop start bytes)))) none ∙ sym (ap (λ j. take j (drop (start + at) bytes)) none)
  | inr inside ↦
      let room : at + (len - at) ≡ len = omega (arith, inside) in
      ap (λ j. take k (drop at (take j (drop start bytes)))) (sym room)
      ∙ ap (take k) (drop-take at (len - at) (drop start bytes))
      ∙ take-take k (len - at) (drop at (drop start bytes)) within
      ∙ ap (take k) (drop-drop at start bytes)
]

-- what was read of a span of a file, and zeros behind it
pub span-filled : (n k start len at : ℕ) (bytes piece : List ℕ) → k ≡ min n (len - at) → length piece ≡ k → HasAt (start + at) piece bytes
    → piece ++ replicate (n - k) 0 ≡ filled n (drop at (take len (drop start bytes)))
span-filled n k start len at bytes piece is long has =
    let span : List ℕ = take len (drop start bytes) in
    let there : k ≤ length (drop (start + at) bytes) =
    (let e = ap length has in omega (arith, e, long, length-take (length piece) (drop (start + at) bytes))) in
    let size : length (drop at span) ≡ min len (length bytes - start) - at = omega (arith, length-drop at span, length-take len (drop start bytes), length-drop start bytes) in
    let held : k ≤ length (drop at span) = omega (arith, size, there, is, length-drop (start + at) bytes) in
    let same : piece ≡ take k (drop at span) = has ∙ ap (λ j. take j (drop (start + at) bytes)) long ∙ sym (span-part start at k len bytes (omega (arith, is))) in
    (λ i. same i ++ replicate (n - k) 0) ∙ filled-is n k (drop at span) (omega (arith, is)) held (λ less. omega (arith, less, is, size))

-- the zeros behind a front that is written later
pub zeros-behind : (count n : ℕ) (old zeros : List ℕ) → length old ≡ n → count ≤ n → zeros ≡ replicate (n - count) 0
    → drop count (put_mid count (n - count) old zeros) ≡ replicate (n - count) 0
zeros-behind count n old zeros long le is =
    drop_at (take count old) (zeros ++ drop (n - count) (drop count old)) count (omega (arith, length-take count old, long, le))
    ∙ ap (λ l. zeros ++ l) (drop_all (n - count) (drop count old) (omega (arith, length-drop count old, long)))
    ∙ append-nil zeros
    ∙ is

-- a part of what stands in a run
pub run-part : (host : Tree) (items : List PlannedItem) (run : ForkRun) (item : Option PlannedItem) (from n : ℕ) (into : List ℕ) → slice_get items run.item ≡ item
    → from + n ≤ run.len → into ≡ filled n (drop (run.offset + from) (bytes_of host item run.fork)) → HasAt from into (run_bytes host items run)
run-part host items run item from n into found within is =
    let fork : List ℕ = bytes_of host item run.fork in
    let long : length into ≡ n = ap length is ∙ length-filled n (drop (run.offset + from) fork) in
    is ∙ ap (filled n) (sym (drop-drop from run.offset fork)) ∙ sym (filled-part from n run.len (drop run.offset fork) within)
    ∙ ap (λ k. take k (drop from (filled run.len (drop run.offset fork)))) (sym long)
    ∙ ap (λ (o : Option PlannedItem). take (length into) (drop from (filled run.len (drop run.offset (bytes_of host o run.fork))))) (sym found)

-- one part more is read
pub read-more : (place done count room : ℕ) (old part image : List ℕ) → HasAt (place + done) part image → length part ≡ count → done ≤ length old
    → take done old ≡ take done (drop place image) → take (done + count) (put_mid done room old part) ≡ take (done + count) (drop place image)
read-more place done count room old part image has long few before =
    let here : part ≡ take count (drop done (drop place image)) =
    has ∙ ap (λ k. take k (drop (place + done) image)) long ∙ ap (take count) (sym (drop-drop done place image)) in
    take-put_mid done room old part (done + count) (omega (arith, long)) few
    ∙ (λ i. before i ++ here i) ∙ sym (take-add done count (drop place image))
