-- The bits of one more extent are set.
use Rattle.std.proofs.Common.{◌≡◌, inl, inr, ⊎_elim, ℕ, ◌+◌, ◌<◌, ◌≤◌, List, [], ◌∷◌, ◌++◌, length, take, get_or, refl, sym, ◌∙◌, ap, subst, arith, false}
use Rattle.std.specs.List.{range_with_len}
use Rattle.std.proofs.lemmas.List.{take_more}
use Rattle.hfs_fields.specs.declared.extent.Extent.{Extent}
use Rattle.hfs_space.proofs.NumberLemmas.{outside, inside}
use Rattle.hfs_space.specs.Bitmap.{is_used, clear_count, KeepsOthers}
use Rattle.hfs_space.specs.Extents.{extent_blocks}
use Rattle.hfs_space.specs.Owners.{owners}
use Rattle.hfs_space.specs.Claimed.{HasClaimed, AreFree, AreSet}
use Rattle.hfs_space.proofs.Counted.{clear_count-claimed}
use Rattle.hfs_space.proofs.OwnedLemmas.{sides, blocks-append, blocks-one, length-blocks}
use Rattle.std.proofs.lemmas.List.Sums.{sum_by_push}

pub blocks-more : (es : List Extent) (e : Extent) (b : ℕ) → owners (extent_blocks (es ++ e ∷ [])) b ≡ owners (extent_blocks es) b + owners (range_with_len e.first e.count) b
blocks-more es e b = let all = blocks-append es (e ∷ []) b in let one = blocks-one e b in omega (arith, all, one)

pub length-more : (es : List Extent) (e : Extent) → length (extent_blocks (es ++ e ∷ [])) ≡ length (extent_blocks es) + e.count
length-more es e =
    let all = length-blocks (es ++ e ∷ []) in
    let front = length-blocks es in
    let sums = sum_by_push (λ (x : Extent). x.count) es e in
    omega (arith, all, front, sums)

pub claimed-none : (start total : ℕ) (blocks : ℕ → List ℕ) → HasClaimed start total [] blocks blocks
claimed-none start total blocks = record {
  set = λ b some. absurd (let no : 0 < 0 = some in omega (arith, no));
  others = λ b none. refl;
  beside = λ k apart. refl;
  counted = λ h. (let e : clear_count blocks start total + 0 ≡ clear_count blocks start total = omega arith in e);
}

-- the blocks of an extent more, and what is counted of them
module _ (start total : ℕ) (es : List Extent) (e : Extent) (old mid new : ℕ → List ℕ) (claimed : HasClaimed start total (extent_blocks es) old mid)
    (sets : AreSet new start e.first e.count) (keeps : KeepsOthers mid new start e.first e.count) (within : e.first + e.count ≤ total) where
  abbrev all : List Extent
  all = es ++ e ∷ []

  less-free : AreFree old start (extent_blocks all) → AreFree old start (extent_blocks es)
  less-free h = record {
    once = λ b. (let parts = blocks-more es e b in let most = h.once b in omega (arith, parts, most));
    free = λ b some. h.free b (let parts = blocks-more es e b in omega (arith, parts, some));
  }

  still-free : AreFree old start (extent_blocks all) → ((n : ℕ) → e.first ≤ n → n < e.first + e.count → is_used mid start n ≡ false)
  still-free h b low high =
      let parts = blocks-more es e b in
      let one = inside e.first e.count b low high in
      let most = h.once b in
      claimed.others b (omega (arith, parts, one, most)) ∙ h.free b (omega (arith, parts, one))

  counted-more : AreFree old start (extent_blocks all) → clear_count new start total + length (extent_blocks all) ≡ clear_count old start total
  counted-more h =
      let before = claimed.counted (less-free h) in
      let here = clear_count-claimed mid new start e.first e.count total (still-free h) sets keeps within in
      let sums = length-more es e in
      omega (arith, before, here, sums)

  pub claimed-more : HasClaimed start total (extent_blocks all) old new
  claimed-more = record {
    set = λ b some. ⊎_elim
        (λ apart. keeps.bits b apart ∙ claimed.set b (let parts = blocks-more es e b in let none = outside e.first e.count b apart in omega (arith, some, parts, none)))
        (λ both. sets b both.0 both.1)
        (sides e.first e.count b);
    others = λ b none. ⊎_elim
        (λ apart. keeps.bits b apart ∙ claimed.others b (let parts = blocks-more es e b in omega (arith, none, parts)))
        (λ both. absurd (let parts = blocks-more es e b in let one = inside e.first e.count b both.0 both.1 in omega (arith, none, parts, one)))
        (sides e.first e.count b);
    beside = λ k apart.
        keeps.blocks k (elim apart [ inl low ↦ inl (omega (arith, low)) | inr high ↦ inr (omega (arith, high, within)) ]) ∙ claimed.beside k apart;
    counted = counted-more;
  }

-- an extent without blocks
module _ (start total : ℕ) (es : List Extent) (e : Extent) (old new : ℕ → List ℕ) (empty : e.count ≡ 0) where
  abbrev more : List Extent
  more = es ++ e ∷ []

  same_owners : (b : ℕ) → owners (extent_blocks more) b ≡ owners (extent_blocks es) b
  same_owners b =
      let parts = blocks-more es e b in
      let none : owners (range_with_len e.first e.count) b ≡ 0 = ap (λ (n : ℕ). owners (range_with_len e.first n) b) empty in
      omega (arith, parts, none)

  same_free : AreFree old start (extent_blocks more) → AreFree old start (extent_blocks es)
  same_free h = record {
    once = λ b. (let same = same_owners b in let most = h.once b in omega (arith, same, most));
    free = λ b some. h.free b (let same = same_owners b in omega (arith, same, some));
  }

  pub claimed-empty : HasClaimed start total (extent_blocks es) old new → HasClaimed start total (extent_blocks more) old new
  claimed-empty h = record {
    set = λ b some. h.set b (let same = same_owners b in omega (arith, same, some));
    others = λ b none. h.others b (let same = same_owners b in omega (arith, same, none));
    beside = h.beside;
    counted = λ h_free. (let before = h.counted (same_free h_free) in let sums = length-more es e in omega (arith, before, sums, empty));
  }

-- ---- one extent after the other

module _ (start total : ℕ) (es : List Extent) (i : ℕ) (low : i < length es) (old mid new : ℕ → List ℕ) (h : HasClaimed start total (extent_blocks (take i es)) old mid) where
  abbrev e : Extent
  e = get_or es i (record { first = 0; count = 0 })

  one_more : take (i + 1) es ≡ take i es ++ e ∷ []
  one_more = take_more es i (record { first = 0; count = 0 }) low

  pub next-claimed : AreSet new start e.first e.count → KeepsOthers mid new start e.first e.count → e.first + e.count ≤ total → HasClaimed start total (extent_blocks (take (i + 1) es)) old new
  next-claimed sets keeps within =
      subst (λ (l : List Extent). HasClaimed start total (extent_blocks l) old new) (sym one_more) (claimed-more start total (take i es) e old mid new h sets keeps within)

  pub next-empty : e.count ≡ 0 → HasClaimed start total (extent_blocks (take (i + 1) es)) old mid
  next-empty empty = subst (λ (l : List Extent). HasClaimed start total (extent_blocks l) old mid) (sym one_more) (claimed-empty start total (take i es) e old mid empty h)
