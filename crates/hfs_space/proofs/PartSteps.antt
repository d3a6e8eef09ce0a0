-- Parts that are written one after the other.
use Rattle.std.proofs.Common.{◌≡◌, ◌≢◌, ℕ, zero, suc, ◌+◌, ◌-◌, ◌*◌, ◌/◌, ◌%◌, ◌<◌, ◌≤◌, ◌⊎◌, inl, inr, ⊎_elim, List, ◌++◌, length, get_or, take, drop, sym, ap, ◌∙◌, subst, arith, refl}
use Rattle.std.proofs.lemmas.Bool.{cases_lt, cases_eq, cases_order}
use Rattle.std.proofs.Math.Seq.{take-add}
use Rattle.std.proofs.lemmas.List.{length-append, length-take, length-take-le, length-replicate, take-replicate, replicate-append-replicate, get_or_append_left, get_or-append_right, get_or-take}
use Rattle.hfs_space.specs.Parts.{with_part, zeros}
use Rattle.hfs_blocks.specs.Layers.{Numbered, changes, AreWhole}
use Rattle.hfs_space.specs.Written.{byte_of, KeepsBeside, HasPart, AreDifferent, AreBothWhole}
use Rattle.hfs_space.proofs.PartLemmas.{with_part-before, with_part-inside, with_part-after}

pub different-apart : (ns : List ℕ) → AreDifferent ns → (i j : ℕ) → i < length ns → j < length ns → (i ≡ j → ⊥) → get_or ns i 0 ≢ get_or ns j 0
different-apart ns different i j lt lt' ne same = elim (cases_order i j) [
  | inl e ↦ ne e
  | inr other ↦ elim other [ inl less ↦ different i j less lt' same | inr more ↦ different j i more lt (sym same) ]
]

-- ---- a part of one block

module _ (ns : List ℕ) (at n : ℕ) (part : List ℕ) (old new : ℕ → List ℕ) (different : AreDifferent ns) (inside : at / 512 < length ns) (is : n ≡ get_or ns (at / 512) 0)
    (whole : length (old n) ≡ 512) (one : at % 512 + length part ≤ 512) (put : new n ≡ with_part (at % 512) part (old n)) (others : (k : ℕ) → k ≢ n → new k ≡ old k) where
  fits : at % 512 + length part ≤ length (old n)
  fits = omega (arith, whole, one)

  -- a byte of this block
  here : (j : ℕ) → j / 512 ≡ at / 512 → byte_of new ns j ≡ get_or (with_part (at % 512) part (old n)) (j % 512) 0
  here j same = ap (λ i. get_or (new (get_or ns i 0)) (j % 512) 0) same ∙ ap (λ k. get_or (new k) (j % 512) 0) (sym is) ∙ ap (λ b. get_or b (j % 512) 0) put

  back : (j : ℕ) → j / 512 ≡ at / 512 → get_or (old n) (j % 512) 0 ≡ byte_of old ns j
  back j same = ap (λ k. get_or (old k) (j % 512) 0) is ∙ ap (λ i. get_or (old (get_or ns i 0)) (j % 512) 0) (sym same)

  given-one : (j : ℕ) → j < length part → byte_of new ns (at + j) ≡ get_or part j 0
  given-one j lt =
      let same : (at + j) / 512 ≡ at / 512 = omega (arith, one, lt) in
      let place : (at + j) % 512 ≡ at % 512 + j = omega (arith, one, lt) in
      here (at + j) same ∙ with_part-inside (at % 512) part (old n) fits ((at + j) % 512) 0 (omega (arith, place)) (omega (arith, place, lt))
      ∙ ap (λ k. get_or part k 0) (let e : (at + j) % 512 - at % 512 ≡ j = omega (arith, place) in e)

  others-one : (j : ℕ) → j < 512 * length ns → (j < at) ⊎ (at + length part ≤ j) → byte_of new ns j ≡ byte_of old ns j
  others-one j within apart = ⊎_elim
      (λ (same : j / 512 ≡ at / 512). elim apart [
        | inl low ↦ here j same ∙ with_part-before (at % 512) part (old n) fits (j % 512) 0 (omega (arith, same, low)) ∙ back j same
        | inr high ↦ here j same ∙ with_part-after (at % 512) part (old n) fits (j % 512) 0 (omega (arith, same, high)) ∙ back j same
      ])
      (λ (ne : j / 512 ≡ at / 512 → ⊥).
      ap (λ b. get_or b (j % 512) 0)
      (others (get_or ns (j / 512) 0) (λ (e : get_or ns (j / 512) 0 ≡ n). different-apart ns different (j / 512) (at / 512) (omega (arith, within)) inside ne (e ∙ is))))
      (cases_eq (j / 512) (at / 512))

  pub HasPart-one : HasPart ns at part old new
  HasPart-one = record { given = given-one; others = others-one }

  pub KeepsBeside-one : 0 < length part → KeepsBeside ns at (length part) old new
  KeepsBeside-one some k none =
      others k (λ (e : k ≡ n). none (at / 512) (record { some = some; starts = omega arith; ends = omega (arith, some) }) inside (sym is ∙ sym e))

pub KeepsBeside-same : (ns : List ℕ) (offset count : ℕ) (old : ℕ → List ℕ) → KeepsBeside ns offset count old old
KeepsBeside-same ns offset count old k none = refl

-- ---- a part and then the next

module _ (ns : List ℕ) (offset : ℕ) (xs ys : List ℕ) (old mid new : ℕ → List ℕ) where
  pub HasPart-append : offset + length (xs ++ ys) ≤ 512 * length ns → HasPart ns offset xs old mid → HasPart ns (offset + length xs) ys mid new → HasPart ns offset (xs ++ ys) old new
  HasPart-append fits first next = record {
    given = λ j lt. elim (cases_lt j (length xs)) [
      | inl low ↦ next.others (offset + j) (omega (arith, fits, lt)) (inl (omega (arith, low))) ∙ first.given j low ∙ sym (get_or_append_left xs ys 0 j low)
      | inr high ↦
          let sums = length-append xs ys in
          ap (byte_of new ns) (let e : offset + j ≡ offset + length xs + (j - length xs) = omega (arith, high) in e) ∙ next.given (j - length xs) (omega (arith, lt, high, sums))
          ∙ sym (get_or-append_right xs ys (length xs) j 0 refl high)
    ];
    others = λ j within apart.
        let sums = length-append xs ys in
        next.others j within (elim apart [ inl low ↦ inl (omega (arith, low)) | inr high ↦ inr (omega (arith, high, sums)) ])
        ∙ first.others j within (elim apart [ inl low ↦ inl low | inr high ↦ inr (omega (arith, high, sums)) ]);
  }

-- no more blocks than those of both parts
pub KeepsBeside-more : (ns : List ℕ) (offset done more count : ℕ) (old mid new : ℕ → List ℕ) → done + more ≤ count → KeepsBeside ns offset count old mid → KeepsBeside ns (offset + done) more mid new → KeepsBeside ns offset count old new
KeepsBeside-more ns offset done more count old mid new le first next k none =
    next k (λ i has lt. none i (record { some = (let s = has.some in omega (arith, s, le)); starts = (let s = has.starts in omega (arith, s)); ends = (let e = has.ends in omega (arith, e, le)) }) lt) ∙ first k none

-- ---- a file that goes on

module _ (ns : List ℕ) (m offset : ℕ) (part : List ℕ) (old new : ℕ → List ℕ) where
  same-number : (i : ℕ) → i < length (take m ns) → get_or (take m ns) i 0 ≡ get_or ns i 0
  same-number i lt = get_or-take m ns i 0 (let e = length-take m ns in omega (arith, lt, e))

  pub KeepsBeside-longer : (count : ℕ) → KeepsBeside (take m ns) offset count old new → KeepsBeside ns offset count old new
  KeepsBeside-longer count keeps k none =
      keeps k (λ i has lt same. none i has (let e = length-take m ns in omega (arith, lt, e)) (sym (same-number i lt) ∙ same))

  pub HasPart-longer : AreDifferent ns → offset + length part ≤ 512 * length (take m ns) → KeepsBeside (take m ns) offset (length part) old new → HasPart (take m ns) offset part old new → HasPart ns offset part old new
  HasPart-longer different fits keeps has = record {
    given = λ j lt.
        ap (λ k. get_or (new k) ((offset + j) % 512) 0) (sym (same-number ((offset + j) / 512) (omega (arith, fits, lt)))) ∙ has.given j lt;
    others = λ j within apart. elim (cases_lt (j / 512) (length (take m ns))) [
      | inl low ↦
          let same = same-number (j / 512) low in
          ap (λ k. get_or (new k) (j % 512) 0) (sym same) ∙ has.others j (omega (arith, low)) apart ∙ ap (λ k. get_or (old k) (j % 512) 0) same
      | inr high ↦
          let shorter = length-take m ns in
          ap (λ b. get_or b (j % 512) 0)
          (keeps (get_or ns (j / 512) 0) (λ i here lt same. different i (j / 512) (omega (arith, lt, high)) (omega (arith, within)) (sym (same-number i lt) ∙ same)))
    ];
  }

-- ---- the bytes so far, and then the next of them

take-next : (bytes : List ℕ) (done more : ℕ) → take done bytes ++ take (done + more - done) (drop done bytes) ≡ take (done + more) bytes
take-next bytes done more =
    ap (λ n. take done bytes ++ take n (drop done bytes)) (let e : done + more - done ≡ more = omega arith in e) ∙ sym (take-add done more bytes)

pub slice-fits : (bytes : List ℕ) (done more : ℕ) → done + more ≤ length bytes → done + length (take (done + more - done) (drop done bytes)) ≤ length bytes
slice-fits bytes done more fits =
    let most = length-take (done + more - done) (drop done bytes) in
    omega (arith, most, fits)

pub HasPart-next : (ns : List ℕ) (offset : ℕ) (bytes : List ℕ) (done more : ℕ) (old mid new : ℕ → List ℕ) → done + more ≤ length bytes → offset + length bytes ≤ 512 * length ns
    → HasPart ns offset (take done bytes) old mid → HasPart ns (offset + done) (take (done + more - done) (drop done bytes)) mid new → HasPart ns offset (take (done + more) bytes) old new
HasPart-next ns offset bytes done more old mid new le fits first next =
    let whole = take-next bytes done more in
    let long : length (take done bytes) ≡ done = length-take-le done bytes (omega (arith, le)) in
    let all : length (take (done + more) bytes) ≡ done + more = length-take-le (done + more) bytes le in
    let sum = ap (λ (l : List ℕ). length l) whole in
    subst (λ (l : List ℕ). HasPart ns offset l old new) whole
    (HasPart-append ns offset (take done bytes) (take (done + more - done) (drop done bytes)) old mid new (omega (arith, fits, le, all, sum)) first
    (subst (λ (n : ℕ). HasPart ns (offset + n) (take (done + more - done) (drop done bytes)) mid new) (sym long) next))

pub zeros-fit : (done more count : ℕ) → done + more ≤ count → more ≤ 512 → done + length (take more (zeros 512)) ≤ count
zeros-fit done more count fits one =
    let most = length-take more (zeros 512) in
    omega (arith, most, fits)

pub HasPart-zeros : (ns : List ℕ) (offset count done more : ℕ) (old mid new : ℕ → List ℕ) → done + more ≤ count → more ≤ 512 → offset + count ≤ 512 * length ns
    → HasPart ns offset (zeros done) old mid → HasPart ns (offset + done) (take more (zeros 512)) mid new → HasPart ns offset (zeros (done + more)) old new
HasPart-zeros ns offset count done more old mid new le one reach first next =
    let zero_byte : ℕ = 0 in
    let long = length-replicate done zero_byte in
    let all = length-replicate (done + more) zero_byte in
    let whole = replicate-append-replicate done more zero_byte in
    let sum = ap (λ (l : List ℕ). length l) whole in
    subst (λ (l : List ℕ). HasPart ns offset l old new) whole
    (HasPart-append ns offset (zeros done) (zeros more) old mid new (omega (arith, reach, le, all, sum)) first
    (subst (λ (n : ℕ). HasPart ns (offset + n) (zeros more) mid new) (sym long)
    (subst (λ (l : List ℕ). HasPart ns (offset + done) l mid new) (take-replicate more 512 zero_byte one) next)))

-- a patch is the one with which it began as long as nothing is done; then each step shows that its blocks are whole
pub whole-next : (old mid new : Numbered) (done : ℕ) → (done ≡ 0 → mid ≡ old) → (0 < done → AreBothWhole old mid) → AreBothWhole mid new → AreBothWhole old new
whole-next old mid new zero begins so_far next = (subst (λ (p : Numbered). AreWhole (changes p)) (begins refl) next.0, next.1)
whole-next old mid new (suc done) begins so_far next = ((so_far (omega arith)).0, next.1)
