-- The bits of one more extent are clear.
use Rattle.std.proofs.Common.{◌≡◌, inl, inr, ⊎_elim, ◌⊎◌, ℕ, ◌+◌, ◌<◌, ◌≤◌, Bool, cond, List, [], ◌∷◌, ◌++◌, length, take, get_or, refl, sym, ◌∙◌, ap, subst, arith}
use Rattle.std.specs.List.{range_with_len}
use Rattle.std.proofs.lemmas.Bool.{cases_lt}
use Rattle.std.proofs.lemmas.List.{take_more}
use Rattle.hfs_fields.specs.declared.extent.Extent.{Extent}
use Rattle.hfs_space.specs.Bitmap.{clear_count, AreClear, KeepsOthers}
use Rattle.hfs_space.proofs.BitmapLawLemmas.{AreUsed, clear_count-released}
use Rattle.hfs_space.specs.Extents.{extent_blocks}
use Rattle.hfs_space.specs.Owners.{owners}
use Rattle.hfs_record_edits.specs.Released.{HasReleased, AreAlone}
use Rattle.hfs_space.proofs.NumberLemmas.{outside, inside}
use Rattle.hfs_space.proofs.ClaimedMore.{blocks-more, length-more}

one_if : Bool → ℕ
one_if b = cond b 1 0

-- ---- extents

pub released-none : (start total : ℕ) (blocks : ℕ → List ℕ) → HasReleased start total [] blocks blocks
released-none start total blocks = record {
  clear = λ b some. absurd (let no : 0 < 0 = some in omega (arith, no));
  others = λ b none. refl;
  beside = λ k apart. refl;
  counted = λ h. (let e : clear_count blocks start total ≡ clear_count blocks start total + 0 = omega arith in e);
}

-- the blocks of an extent more, and what is counted of them
module _ (start total : ℕ) (es : List Extent) (e : Extent) (old mid new : ℕ → List ℕ) (released : HasReleased start total (extent_blocks es) old mid)
    (clear : AreClear new start e.first e.count) (keeps : KeepsOthers mid new start e.first e.count) (within : e.first + e.count ≤ total) where
  abbrev all : List Extent
  all = es ++ e ∷ []

  sides : (b : ℕ) → ((b < e.first) ⊎ (e.first + e.count ≤ b)) ⊎ ((e.first ≤ b) × (b < e.first + e.count))
  sides b = elim (cases_lt b e.first) [
    | inl low ↦ inl (inl low)
    | inr from ↦ elim (cases_lt b (e.first + e.count)) [ inl high ↦ inr (from, high) | inr behind ↦ inl (inr behind) ]
  ]

  less-alone : AreAlone old start (extent_blocks all) → AreAlone old start (extent_blocks es)
  less-alone h = record {
    once = λ b. (let parts = blocks-more es e b in let most = h.once b in omega (arith, parts, most));
    used = λ b some. h.used b (let parts = blocks-more es e b in omega (arith, parts, some));
  }

  still-used : AreAlone old start (extent_blocks all) → AreUsed mid start e.first e.count
  still-used h b low high =
      let parts = blocks-more es e b in
      let one = inside e.first e.count b low high in
      let most = h.once b in
      released.others b (omega (arith, parts, one, most)) ∙ h.used b (omega (arith, parts, one))

  counted-more : AreAlone old start (extent_blocks all) → clear_count new start total ≡ clear_count old start total + length (extent_blocks all)
  counted-more h =
      let before = released.counted (less-alone h) in
      let here = clear_count-released mid new start e.first e.count total (still-used h) clear keeps within in
      let sums = length-more es e in
      omega (arith, before, here, sums)

  pub released-more : HasReleased start total (extent_blocks all) old new
  released-more = record {
    clear = λ b some. ⊎_elim
        (λ apart. keeps.bits b apart ∙ released.clear b (let parts = blocks-more es e b in let none = outside e.first e.count b apart in omega (arith, some, parts, none)))
        (λ both. clear b both.0 both.1)
        (sides b);
    others = λ b none. ⊎_elim
        (λ apart. keeps.bits b apart ∙ released.others b (let parts = blocks-more es e b in omega (arith, none, parts)))
        (λ both. absurd (let parts = blocks-more es e b in let one = inside e.first e.count b both.0 both.1 in omega (arith, none, parts, one)))
        (sides b);
    beside = λ k apart.
        keeps.blocks k (elim apart [ inl low ↦ inl (omega (arith, low)) | inr high ↦ inr (omega (arith, high, within)) ]) ∙ released.beside k apart;
    counted = counted-more;
  }

-- an extent without blocks
module _ (start total : ℕ) (es : List Extent) (e : Extent) (old new : ℕ → List ℕ) (empty : e.count ≡ 0) where
  abbrev more : List Extent
  more = es ++ e ∷ []

  same_owners : (b : ℕ) → owners (extent_blocks more) b ≡ owners (extent_blocks es) b
  same_owners b =
      let parts = blocks-more es e b in
      let none : owners (range_with_len e.first e.count) b ≡ 0 = ap (λ (n : ℕ). owners (range_with_len e.first n) b) empty in
      omega (arith, parts, none)

  same_alone : AreAlone old start (extent_blocks more) → AreAlone old start (extent_blocks es)
  same_alone h = record {
    once = λ b. (let same = same_owners b in let most = h.once b in omega (arith, same, most));
    used = λ b some. h.used b (let same = same_owners b in omega (arith, same, some));
  }

  pub released-empty : HasReleased start total (extent_blocks es) old new → HasReleased start total (extent_blocks more) old new
  released-empty h = record {
    clear = λ b some. h.clear b (let same = same_owners b in omega (arith, same, some));
    others = λ b none. h.others b (let same = same_owners b in omega (arith, same, none));
    beside = h.beside;
    counted = λ alone. (let before = h.counted (same_alone alone) in let sums = length-more es e in omega (arith, before, sums, empty));
  }

-- ---- one extent after the other

module _ (start total : ℕ) (es : List Extent) (i : ℕ) (low : i < length es) (old mid new : ℕ → List ℕ) (h : HasReleased start total (extent_blocks (take i es)) old mid) where
  abbrev e : Extent
  e = get_or es i (record { first = 0; count = 0 })

  one_more : take (i + 1) es ≡ take i es ++ e ∷ []
  one_more = take_more es i (record { first = 0; count = 0 }) low

  pub next-released : AreClear new start e.first e.count → KeepsOthers mid new start e.first e.count → e.first + e.count ≤ total → HasReleased start total (extent_blocks (take (i + 1) es)) old new
  next-released clear keeps within =
      subst (λ (l : List Extent). HasReleased start total (extent_blocks l) old new) (sym one_more) (released-more start total (take i es) e old mid new h clear keeps within)

  pub next-empty : e.count ≡ 0 → HasReleased start total (extent_blocks (take (i + 1) es)) old mid
  next-empty empty = subst (λ (l : List Extent). HasReleased start total (extent_blocks l) old mid) (sym one_more) (released-empty start total (take i es) e old mid empty h)
