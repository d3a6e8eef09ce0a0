-- The bytes of a file's blocks, joined.
use Rattle.std.proofs.Common.{◌≡◌, ℕ, suc, ◌+◌, ◌-◌, ◌*◌, ◌/◌, ◌%◌, ◌<◌, ◌≤◌, inl, inr, List, [], ◌∷◌, length, get_or, refl, sym, ap, ◌∙◌, arith}
use Rattle.std.specs.Prelude.{map}
use Rattle.std.proofs.lemmas.Bool.{cases_lt}
use Rattle.std.proofs.lemmas.List.{length-append, get_or_append_left, get_or-append_right, same_lists, get_or_default}
use Rattle.hfs_space.specs.Forks.{joined}
use Rattle.hfs_space.specs.Parts.{with_part}
use Rattle.hfs_space.specs.Written.{byte_of, HasPart}
use Rattle.hfs_space.proofs.PartLemmas.{with_part-before, with_part-inside, with_part-after, length-with_part}

-- each of these blocks has 512 bytes
abbrev pub AreFull : (ℕ → List ℕ) → List ℕ → Type 0
AreFull blocks ns = (i : ℕ) → i < length ns → length (blocks (get_or ns i 0)) ≡ 512

rest-full : (blocks : ℕ → List ℕ) (n : ℕ) (ns : List ℕ) → AreFull blocks (n ∷ ns) → AreFull blocks ns
rest-full blocks n ns full i lt = full (suc i) (omega (arith, lt))

pub length-joined : (blocks : ℕ → List ℕ) (ns : List ℕ) → AreFull blocks ns → length (joined (map blocks ns)) ≡ 512 * length ns
length-joined blocks [] full = refl
length-joined blocks (n ∷ ns) full =
    let all = length-append (blocks n) (joined (map blocks ns)) in
    let first = full 0 (omega arith) in
    let rest = length-joined blocks ns (rest-full blocks n ns full) in
    omega (arith, all, first, rest)

pub byte-joined : (blocks : ℕ → List ℕ) (ns : List ℕ) (j : ℕ) → AreFull blocks ns → j < 512 * length ns → get_or (joined (map blocks ns)) j 0 ≡ byte_of blocks ns j
byte-joined blocks [] j full lt = absurd (omega (arith, lt))
byte-joined blocks (n ∷ ns) j full lt =
    let first : length (blocks n) ≡ 512 = full 0 (omega arith) in
    elim (cases_lt j 512) [
      | inl low ↦
          get_or_append_left (blocks n) (joined (map blocks ns)) 0 j (omega (arith, first, low))
          ∙ (λ t. get_or (blocks (get_or (n ∷ ns) (let e : 0 ≡ j / 512 = omega (arith, low) in e t) 0)) (let e : j ≡ j % 512 = omega (arith, low) in e t) 0)
      | inr high ↦
          get_or-append_right (blocks n) (joined (map blocks ns)) 512 j 0 first high
          ∙ byte-joined blocks ns (j - 512) (rest-full blocks n ns full) (omega (arith, lt, high))
          ∙ (λ t. get_or (blocks (get_or (n ∷ ns) (let e : suc ((j - 512) / 512) ≡ j / 512 = omega (arith, high) in e t) 0)) (let e : (j - 512) % 512 ≡ j % 512 = omega (arith, high) in e t) 0)
    ]

-- a part that stands in the blocks stands in their bytes
pub joined-with_part : (ns : List ℕ) (offset : ℕ) (part : List ℕ) (old new : ℕ → List ℕ) → AreFull old ns → AreFull new ns → offset + length part ≤ 512 * length ns → HasPart ns offset part old new
    → joined (map new ns) ≡ with_part offset part (joined (map old ns))
joined-with_part ns offset part old new full full' within has =
    let old_length = length-joined old ns full in
    let new_length = length-joined new ns full' in
    let fits : offset + length part ≤ length (joined (map old ns)) = omega (arith, within, old_length) in
    let whole = length-with_part offset part (joined (map old ns)) fits in
    same_lists (joined (map new ns)) (with_part offset part (joined (map old ns))) (omega (arith, old_length, new_length, whole)) (λ j d lt.
    let lt' : j < 512 * length ns = omega (arith, lt, new_length) in
    let at_zero = get_or_default (joined (map new ns)) j d 0 lt ∙ byte-joined new ns j full' lt' in
    let to_d = get_or_default (with_part offset part (joined (map old ns))) j 0 d (omega (arith, lt', whole, old_length)) in
    at_zero ∙ by_place j lt' fits ∙ to_d)
  where
    by_place : (j : ℕ) → j < 512 * length ns → offset + length part ≤ length (joined (map old ns)) → byte_of new ns j ≡ get_or (with_part offset part (joined (map old ns))) j 0
    by_place j lt fits = elim (cases_lt j offset) [
      | inl before ↦ has.others j lt (inl before) ∙ sym (byte-joined old ns j full lt) ∙ sym (with_part-before offset part (joined (map old ns)) fits j 0 before)
      | inr from ↦ elim (cases_lt j (offset + length part)) [
        | inl inside ↦
            ap (byte_of new ns) (let e : j ≡ offset + (j - offset) = omega (arith, from) in e) ∙ has.given (j - offset) (omega (arith, inside, from))
            ∙ sym (with_part-inside offset part (joined (map old ns)) fits j 0 from inside)
        | inr after ↦ has.others j lt (inr after) ∙ sym (byte-joined old ns j full lt) ∙ sym (with_part-after offset part (joined (map old ns)) fits j 0 after)
      ]
    ]
