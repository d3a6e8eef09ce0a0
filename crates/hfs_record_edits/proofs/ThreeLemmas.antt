-- Extents by threes, and how many blocks they have.
use Rattle.std.proofs.Common.{◌≡◌, ℕ, zero, suc, ◌+◌, ◌*◌, ◌<◌, ◌≤◌, Bool, cond, List, [], ◌∷◌, ◌++◌, length, take, drop, set, get_or, refl, sym, ap, ◌∙◌, subst, arith}
use Rattle.std.proofs.lemmas.Bool.{le-leb}
use Rattle.std.proofs.lemmas.List.{drop_more, length-append, length-drop, take-take, get_or-drop}
use Rattle.std.proofs.lemmas.List.Sums.{sum_by-cons, sum_by-append, sum_by-take-drop, sum_by-take-le, sum_by_more}
use Rattle.hfs_fields.specs.declared.extent.Extent.{Extent}
use Rattle.hfs_fields.specs.Mdb.{extents_at}
use Rattle.hfs_fields.specs.RecordForms.{extents_bytes}
use Rattle.hfs_fields.proofs.RecordFormLemmas.{length-extents_bytes}
use Rattle.hfs_space.specs.Extents.{block_total, extent_blocks, record_extents}
use Rattle.hfs_record_edits.specs.Lengthened.{none}
use Rattle.hfs_record_edits.specs.Threes.{AreThrees, AreLeft}
use Rattle.hfs_space.proofs.OwnedLemmas.{length-blocks}

-- ---- blocks

pub total-cons : (e : Extent) (es : List Extent) → block_total (e ∷ es) ≡ e.count + block_total es
total-cons e es = sum_by-cons (λ (x : Extent). x.count) e es

pub total-append : (xs ys : List Extent) → block_total (xs ++ ys) ≡ block_total xs + block_total ys
total-append xs ys = sum_by-append (λ (x : Extent). x.count) xs ys

pub total-parts : (es : List Extent) (i : ℕ) → block_total (take i es) + block_total (drop i es) ≡ block_total es
total-parts es i = sum_by-take-drop (λ (x : Extent). x.count) es i

pub total-front : (es : List Extent) (i : ℕ) → block_total (take i es) ≤ block_total es
total-front es i = sum_by-take-le (λ (x : Extent). x.count) es i

-- extents without blocks
pub none-blocks : (es : List Extent) → block_total es ≡ 0 → extent_blocks es ≡ []
none-blocks es none = by (extent_blocks es) (length-blocks es ∙ none)
  where
    by : (l : List ℕ) → length l ≡ 0 → l ≡ []
    by [] e = refl
    by (x ∷ l) e = absurd (omega (arith, e))

-- ---- three of them

-- a record's bytes that are read as these extents hold them
pub body-back : (bytes rest : List ℕ) (es : List Extent) → length es ≡ 3 → bytes ≡ extents_bytes es ++ rest → extents_at 0 bytes ≡ es → record_extents bytes ≡ es
body-back bytes rest es three is back =
    let long = length-extents_bytes es three in
    let parts = length-append (extents_bytes es) rest in
    let whole = ap (λ (l : List ℕ). length l) is in
    ap (λ (b : Bool). cond b (extents_at 0 bytes) []) (le-leb 12 (length bytes) (omega (arith, long, parts, whole))) ∙ back

-- those at one place
pub three-there : (es : List Extent) (at : ℕ) (d : Extent) → at + 3 ≤ length es → get_or es at d ∷ get_or es (at + 1) d ∷ get_or es (at + 2) d ∷ [] ≡ take 3 (drop at es)
three-there es at d within =
    sym (ap (take 3) (drop_more es at d (omega (arith, within)))
    ∙ ap (λ (l : List Extent). get_or es at d ∷ take 2 l) (drop_more es (at + 1) d (omega (arith, within)))
    ∙ ap (λ (k : ℕ). get_or es at d ∷ get_or es (at + 1) d ∷ take 1 (drop k es)) (let e : at + 1 + 1 ≡ at + 2 = omega arith in e)
    ∙ ap (λ (l : List Extent). get_or es at d ∷ get_or es (at + 1) d ∷ take 1 l) (drop_more es (at + 2) d (omega (arith, within))))

drop-nil : (n : ℕ) → drop {A = Extent} n [] ≡ []
drop-nil zero = refl
drop-nil (suc n) = refl

take-nil : (n : ℕ) → take {A = Extent} n [] ≡ []
take-nil zero = refl
take-nil (suc n) = refl

drop-past : (es : List Extent) (k m n : ℕ) → n ≡ k + m → drop m (drop k es) ≡ drop n es
drop-past es zero m n e = ap (λ (j : ℕ). drop j es) (let s : m ≡ n = omega (arith, e) in s)
drop-past [] (suc k) m n e = drop-nil m ∙ sym (drop-nil n)
drop-past (x ∷ es) (suc k) m zero e = absurd (omega (arith, e))
drop-past (x ∷ es) (suc k) m (suc n) e = drop-past es k m n (omega (arith, e))

pub drop-more : (es : List Extent) (k m : ℕ) → drop m (drop k es) ≡ drop (k + m) es
drop-more es k m = drop-past es k m (k + m) refl

take-past : (es : List Extent) (k m n : ℕ) → n ≡ k + m → take n es ≡ take k es ++ take m (drop k es)
take-past es zero m n e = ap (λ (j : ℕ). take j es) (let s : n ≡ m = omega (arith, e) in s)
take-past [] (suc k) m n e = take-nil n ∙ sym (take-nil m)
take-past (x ∷ es) (suc k) m zero e = absurd (omega (arith, e))
take-past (x ∷ es) (suc k) m (suc n) e = ap (λ (l : List Extent). x ∷ l) (take-past es k m n (omega (arith, e)))

pub take-more : (es : List Extent) (k m : ℕ) → take (k + m) es ≡ take k es ++ take m (drop k es)
take-more es k m = take-past es k m (k + m) refl

pub total-more : (es : List Extent) (k m : ℕ) → block_total (take (k + m) es) ≡ block_total (take k es) + block_total (take m (drop k es))
total-more es k m = ap block_total (take-more es k m) ∙ total-append (take k es) (take m (drop k es))

-- one more of them
pub part-more : (es : List Extent) (at count i : ℕ) (d : Extent) → i < count → at + count ≤ length es → block_total (take (i + 1) (drop at es)) ≡ block_total (take i (drop at es)) + (get_or es (at + i) d).count
part-more es at count i d lt within =
    let long = length-drop at es in
    let more = sum_by_more (λ (x : Extent). x.count) (drop at es) i d (omega (arith, long, lt, within)) in
    let same = ap (λ (x : Extent). x.count) (get_or-drop at es i d) in
    omega (arith, more, same)

pub part-most : (es : List Extent) (at count i : ℕ) → i < count → block_total (take (i + 1) (drop at es)) ≤ block_total (take count (drop at es))
part-most es at count i lt =
    let part = total-front (take count (drop at es)) (i + 1) in
    let same = ap block_total (take-take (i + 1) count (drop at es) (omega (arith, lt))) in
    omega (arith, part, same)

-- ---- threes that are passed

pub record HasThree (es : List Extent) : Type 0 where
  pub within : 3 ≤ length es
  pub some : 0 < block_total (take 3 es)
  pub rest : AreThrees (drop 3 es)

three-first : (es : List Extent) → AreThrees es → 0 < length es → HasThree es
three-first [] h some = absurd (omega (arith, some))
three-first (a ∷ []) h some = absurd h
three-first (a ∷ b ∷ []) h some = absurd h
three-first (a ∷ b ∷ c ∷ es) h some = record { within = omega arith; some = h.0; rest = h.1 }

pub record HasThreeAt (es : List Extent) (at : ℕ) : Type 0 where
  pub within : at + 3 ≤ length es
  pub some : 0 < block_total (take 3 (drop at es))
  pub rest : AreThrees (drop (at + 3) es)

pub three-at : (es : List Extent) (at : ℕ) → AreThrees (drop at es) → at < length es → HasThreeAt es at
three-at es at h lt =
    let long = length-drop at es in
    let three = three-first (drop at es) h (omega (arith, long, lt)) in
    let within = three.within in
    record {
      within = omega (arith, within, long, lt);
      some = three.some;
      rest = subst (λ (l : List Extent). AreThrees l) (drop-more es at 3) three.rest;
    }

-- no more threes than blocks
pub threes-few : (es : List Extent) → AreThrees es → length es ≤ 3 * block_total es
threes-few [] h = omega arith
threes-few (a ∷ []) h = absurd h
threes-few (a ∷ b ∷ []) h = absurd h
threes-few (a ∷ b ∷ c ∷ es) h =
    let rest = threes-few es h.1 in
    let here = h.0 in
    let sums = total-append (a ∷ b ∷ c ∷ []) es in
    omega (arith, rest, here, sums)

-- ---- extents that come

total-three : (a b c : Extent) → block_total (a ∷ b ∷ c ∷ []) ≡ a.count + (b.count + c.count)
total-three a b c =
    let one = total-cons a (b ∷ c ∷ []) in
    let two = total-cons b (c ∷ []) in
    let three : block_total (c ∷ []) ≡ c.count = (let last = total-cons c [] in let empty : block_total [] ≡ 0 = refl in omega (arith, last, empty)) in
    omega (arith, one, two, three)

pub threes-set : (es : List Extent) (i : ℕ) (y : Extent) → AreThrees es → 0 < y.count → AreThrees (set es i y)
threes-set [] zero y h some = tt
threes-set [] (suc i) y h some = tt
threes-set (a ∷ []) i y h some = absurd h
threes-set (a ∷ b ∷ []) i y h some = absurd h
threes-set (a ∷ b ∷ c ∷ es) zero y h some = (let t = total-three y b c in omega (arith, t, some), h.1)
threes-set (a ∷ b ∷ c ∷ es) (suc zero) y h some = (let t = total-three a y c in omega (arith, t, some), h.1)
threes-set (a ∷ b ∷ c ∷ es) (suc (suc zero)) y h some = (let t = total-three a b y in omega (arith, t, some), h.1)
threes-set (a ∷ b ∷ c ∷ es) (suc (suc (suc i))) y h some = (h.0, threes-set es i y h.1 some)

pub threes-set_behind : (es : List Extent) (k i : ℕ) (y : Extent) → AreThrees (drop k es) → 0 < y.count → AreThrees (drop k (set es i y))
threes-set_behind es zero i y h some = threes-set es i y h some
threes-set_behind [] (suc k) zero y h some = tt
threes-set_behind [] (suc k) (suc i) y h some = tt
threes-set_behind (e ∷ es) (suc k) zero y h some = h
threes-set_behind (e ∷ es) (suc k) (suc i) y h some = threes-set_behind es k i y h some

threes-put : (es : List Extent) (y : Extent) → AreThrees es → 0 < y.count → AreThrees (es ++ y ∷ none ∷ none ∷ [])
threes-put [] y h some = (let t = total-three y none none in omega (arith, t, some), tt)
threes-put (a ∷ []) y h some = absurd h
threes-put (a ∷ b ∷ []) y h some = absurd h
threes-put (a ∷ b ∷ c ∷ es) y h some = (h.0, threes-put es y h.1 some)

pub threes-put_behind : (es : List Extent) (k : ℕ) (y : Extent) → k ≤ length es → AreThrees (drop k es) → 0 < y.count → AreThrees (drop k (es ++ y ∷ none ∷ none ∷ []))
threes-put_behind es zero y le h some = threes-put es y h some
threes-put_behind [] (suc k) y le h some = absurd (omega (arith, le))
threes-put_behind (e ∷ es) (suc k) y le h some = threes-put_behind es k y (omega (arith, le)) h some

-- ---- those that begin before a block

pub record IsLeftTo (n : ℕ) (es : List Extent) (left blocks : ℕ) : Type 0 where
  pub within : 3 * left + 3 ≤ length es
  pub before : 0 < left → block_total (take (3 * left) es) < n
  pub counted : blocks ≡ block_total (take (3 * left + 3) es)
  pub threes : AreThrees (drop (3 * left + 3) es)

pub left-begin : (n : ℕ) (es : List Extent) (blocks : ℕ) → 3 ≤ length es → AreThrees (drop 3 es) → blocks ≡ block_total (take 3 (drop 0 es)) → IsLeftTo n es 0 blocks
left-begin n es blocks some threes counted = record { within = omega (arith, some); before = λ lt. absurd (omega (arith, lt)); counted = counted; threes = threes }

pub left-three : (n : ℕ) (es : List Extent) (left blocks : ℕ) → IsLeftTo n es left blocks → 3 * left + 3 < length es → 3 * left + 3 + 3 ≤ length es
left-three n es left blocks h lt = (three-at es (3 * left + 3) h.threes lt).within

pub left-few : (n : ℕ) (es : List Extent) (left blocks : ℕ) → IsLeftTo n es left blocks → block_total es < 4294967296 → blocks + block_total (take 3 (drop (3 * left + 3) es)) < 4294967296
left-few n es left blocks h few =
    let counted = h.counted in
    let more = total-more es (3 * left + 3) 3 in
    let most = total-front es (3 * left + 3 + 3) in
    omega (arith, counted, more, most, few)

pub left-next : (n : ℕ) (es : List Extent) (left blocks more : ℕ) → IsLeftTo n es left blocks → 3 * left + 3 < length es → blocks < n → more ≡ block_total (take 3 (drop (3 * left + 3) es)) → IsLeftTo n es (left + 1) (blocks + more)
left-next n es left blocks more h lt less is =
    let three = three-at es (3 * left + 3) h.threes lt in
    let within = three.within in
    let counted = h.counted in
    let sums = total-more es (3 * left + 3) 3 in
    let e : 3 * left + 3 + 3 ≡ 3 * (left + 1) + 3 = omega arith in
    let place : 3 * (left + 1) ≡ 3 * left + 3 = omega arith in
    let same = ap (λ (k : ℕ). block_total (take k es)) e in
    record {
      within = omega (arith, within);
      before = λ some. subst (λ (k : ℕ). block_total (take k es) < n) (sym place) (omega (arith, counted, less));
      counted = omega (arith, counted, is, sums, same);
      threes = subst (λ (k : ℕ). AreThrees (drop k es)) e three.rest;
    }

pub left-end : (n : ℕ) (es : List Extent) (left blocks : ℕ) → IsLeftTo n es left blocks → (3 * left + 3 < length es → n ≤ blocks) → AreLeft n es left
left-end n es left blocks h past =
    let counted = h.counted in
    record { within = h.within; before = h.before; behind = λ lt. (let le = past lt in omega (arith, counted, le)) }
