-- Bytes with a part in the place of others, byte by byte.
use Rattle.std.proofs.Common.{◌≡◌, ℕ, ◌+◌, ◌-◌, ◌<◌, ◌≤◌, List, ◌++◌, length, get_or, take, drop, sym, ap, ◌∙◌, arith}
use Rattle.std.proofs.lemmas.List.{length-append, length-take-le, length-drop, get_or_append_left, get_or-append_right, get_or-take, get_or-drop, append_assoc, drop-drop}
use Rattle.hfs_space.specs.Parts.{with_part}

module _ (from : ℕ) (part bytes : List ℕ) (fits : from + length part ≤ length bytes) where
  front : length (take from bytes) ≡ from
  front = length-take-le from bytes (omega (arith, fits))

  middle : length (take from bytes ++ part) ≡ from + length part
  middle = let all = length-append (take from bytes) part in omega (arith, all, front)

  pub length-with_part : length (with_part from part bytes) ≡ length bytes
  length-with_part =
      let all = length-append (take from bytes ++ part) (drop (from + length part) bytes) in
      let rest = length-drop (from + length part) bytes in
      omega (arith, all, middle, rest, fits)

  pub with_part-before : (j d : ℕ) → j < from → get_or (with_part from part bytes) j d ≡ get_or bytes j d
  with_part-before j d lt =
      get_or_append_left (take from bytes ++ part) (drop (from + length part) bytes) d j (omega (arith, middle, lt))
      ∙ get_or_append_left (take from bytes) part d j (omega (arith, front, lt)) ∙ get_or-take from bytes j d lt

  pub with_part-inside : (j d : ℕ) → from ≤ j → j < from + length part → get_or (with_part from part bytes) j d ≡ get_or part (j - from) d
  with_part-inside j d ge lt =
      get_or_append_left (take from bytes ++ part) (drop (from + length part) bytes) d j (omega (arith, middle, lt))
      ∙ get_or-append_right (take from bytes) part from j d front ge

  pub with_part-after : (j d : ℕ) → from + length part ≤ j → get_or (with_part from part bytes) j d ≡ get_or bytes j d
  with_part-after j d ge =
      get_or-append_right (take from bytes ++ part) (drop (from + length part) bytes) (from + length part) j d middle ge
      ∙ get_or-drop (from + length part) bytes (j - (from + length part)) d ∙ ap (λ k. get_or bytes k d) (let e : from + length part + (j - (from + length part)) ≡ j = omega (arith, ge) in e)

-- as it is written through a slice
pub with_part-written : (from k : ℕ) (part bytes : List ℕ) → k ≡ length part → take from bytes ++ (part ++ drop k (drop from bytes)) ≡ with_part from part bytes
with_part-written from k part bytes e =
    ap (λ l. take from bytes ++ (part ++ l)) (drop-drop k from bytes ∙ ap (λ n. drop n bytes) (let s : from + k ≡ from + length part = omega (arith, e) in s))
    ∙ sym (append_assoc (take from bytes) part (drop (from + length part) bytes))
