-- A byte that is put into its block, and the image over which that is laid.
use Rattle.std.proofs.Common.{◌≡◌, ◌≢◌, ℕ, suc, ◌+◌, ◌-◌, ◌*◌, ◌/◌, ◌<◌, ◌≤◌, Bool, cond, List, [], ◌∷◌, ◌++◌, length, drop, set, Some, IsSome, unwrap_or, refl, sym, ap, subst, ◌∙◌, arith, append_assoc, ⊎_elim}
use Rattle.std.specs.Prelude.{◌%◌}
use Rattle.std.proofs.lemmas.Bool.{cases_eq, eq-eqb, ne_eqb}
use Rattle.std.proofs.lemmas.List.{set-append_left, set-append_right}
use Rattle.hfs_blocks.specs.Blocks.{block_at, block_count}
use Rattle.hfs_blocks.specs.Layers.{Numbered, Changes, changes, AreWithin, with_change}
use Rattle.hfs_source.specs.Sparse.{HasGrown}
use Rattle.hfs_copy.proofs.ReadParts.{of-earlier}
use Rattle.hfs_volume.proofs.FlatBlocks.{blocks_from, flat-laid, length-blocks_from, blocks_from-add, blocks_from-same}
use Rattle.hfs_repair.specs.declared.byte_put.BytePut.{BytePut}
use Rattle.hfs_repair.specs.Puts.{put_all}
use Rattle.hfs_repair.proofs.Repairs.{put-append}
use Rattle.hfs_source.proofs.SparseLemmas.{each-of}
use Rattle.hfs_volume.specs.Image.{patched}
use Rattle.hfs_volume.specs.Laid.{laid}
use Rattle.hfs_volume.proofs.Laid.{AreBlocks-within}
use Rattle.hfs_copy.specs.Mended.{PutsBytes, laid_over_read, laid_over_image}

module _ (f g : ℕ → List ℕ) (image : List ℕ) (n at v : ℕ) (lt : n < block_count image) (low : 512 * n ≤ at) (high : at < 512 * n + 512)
    (whole : (k : ℕ) → k < block_count image → length (f k) ≡ 512) (others : (k : ℕ) → k ≢ n → g k ≡ f k) (here : g n ≡ set (f n) (at - 512 * n) v) where
  -- how many blocks come behind it
  abbrev c : ℕ
  c = block_count image - n - 1

  abbrev tail : List ℕ
  tail = drop (512 * block_count image) image

  split : block_count image ≡ n + suc c
  split = omega (arith, lt)

  flat : (h : ℕ → List ℕ) → laid h image ≡ blocks_from h 0 n ++ (h n ++ (blocks_from h (n + 1) c ++ tail))
  flat h =
      let same : 0 + n ≡ n = omega arith in
      flat-laid h image ∙ ap (λ l. l ++ tail) (ap (blocks_from h 0) split ∙ blocks_from-add h 0 n (suc c) ∙ ap (λ k. blocks_from h 0 n ++ blocks_from h k (suc c)) same)
      ∙ append_assoc (blocks_from h 0 n) (h n ++ blocks_from h (n + 1) c) tail ∙ ap (λ l. blocks_from h 0 n ++ l) (append_assoc (h n) (blocks_from h (n + 1) c) tail)

  before : blocks_from g 0 n ≡ blocks_from f 0 n
  before = blocks_from-same g f 0 0 n (λ k less.
      let same : 0 + k ≡ k = omega arith in
      ap g same ∙ others k (λ e. absurd (omega (arith, less, e))) ∙ ap f (sym same))

  behind : blocks_from g (n + 1) c ≡ blocks_from f (n + 1) c
  behind = blocks_from-same g f (n + 1) (n + 1) c (λ k less. others (n + 1 + k) (λ e. absurd (omega (arith, e))))

  long : length (blocks_from f 0 n) ≡ 512 * n
  long = length-blocks_from f 0 n (λ k less. whole (0 + k) (omega (arith, less, lt)))

  pub set-laid : laid g image ≡ set (laid f image) at v
  set-laid =
      let rest = blocks_from f (n + 1) c ++ tail in
      let inside : at - 512 * n < length (f n) = omega (arith, whole n lt, low, high) in
      flat g ∙ (λ i. before i ++ (here i ++ (behind i ++ tail)))
      ∙ ap (λ l. blocks_from f 0 n ++ l) (sym (set-append_left (f n) rest (at - 512 * n) v inside))
      ∙ sym (set-append_right (blocks_from f 0 n) (f n ++ rest) (512 * n) at v long low)
      ∙ ap (λ l. set l at v) (sym (flat f))

-- the changed blocks with one more, which has a byte more
module _ (old new : Numbered) (n at v : ℕ) (image block : List ℕ) (is : n ≡ at / 512) (lt : n < block_count image) (within : AreWithin (changes old) (block_count image))
    (put : changes new ≡ with_change (changes old) n block) (byte : block ≡ set (laid_over_image old image n) (at % 512) v) where
  abbrev f : ℕ → List ℕ
  f = laid_over_image old image

  abbrev g : ℕ → List ℕ
  g = laid_over_image new image

  at-here : g n ≡ set (f n) (at - 512 * n) v
  at-here =
      let place : at % 512 ≡ at - 512 * n = omega (arith, is) in
      ap (λ (h : Changes). unwrap_or (h n) (block_at image n)) put
      ∙ ap (λ (t : Bool). unwrap_or (cond t (Some block) (changes old n)) (block_at image n)) (eq-eqb n n refl)
      ∙ byte ∙ ap (λ m. set (f n) m v) place

  elsewhere : (k : ℕ) → k ≢ n → g k ≡ f k
  elsewhere k other =
      ap (λ (h : Changes). unwrap_or (h k) (block_at image k)) put
      ∙ ap (λ (t : Bool). unwrap_or (cond t (Some block) (changes old k)) (block_at image k)) (ne_eqb n k (λ e. other (sym e)))

  pub put-one : patched new image ≡ set (patched old image) at v
  put-one = set-laid f g image n at v lt (omega (arith, is)) (omega (arith, is)) (AreBlocks-within (changes old) image within) elsewhere at-here

-- a byte that was put into a block that was read
pub puts-byte : (total : ℕ) (old new read : Numbered) (n : ℕ) (put : BytePut) (block : List ℕ)
    → IsSome (changes read n) → n ≡ put.at / 512 → n < total → changes new ≡ with_change (changes old) n block
    → block ≡ set (laid_over_read old read n) (put.at % 512) put.byte → PutsBytes read total (put ∷ []) old new
puts-byte total old new read n put block has is lt changed byte = λ image of many within.
    let same : laid_over_read old read n ≡ laid_over_image old image n =
    ap (unwrap_or (changes old n)) (sym (each-of image read of (n ∷ []) (has, tt)).0) in
    put-one old new n put.at put.byte image block is (omega (arith, lt, many)) (subst (λ m. AreWithin (changes old) m) (sym many) within) changed
    (byte ∙ ap (λ b. set b (put.at % 512) put.byte) same)

-- ---- one behind the other

pub puts-more : (read later : Numbered) (total : ℕ) (ps qs : List BytePut) (old middle new : Numbered) → HasGrown read later
    → (AreWithin (changes old) total → AreWithin (changes middle) total) → PutsBytes read total ps old middle → PutsBytes later total qs middle new
    → PutsBytes later total (ps ++ qs) old new
puts-more read later total ps qs old middle new grown keeps p q = λ image of many within.
    q image of many (keeps within) ∙ ap (put_all qs) (p image (of-earlier image read later grown of) many within) ∙ sym (put-append ps qs (patched old image))

pub puts-none : (read : Numbered) (total : ℕ) (patch : Numbered) → PutsBytes read total [] patch patch
puts-none read total patch = λ image of many within. refl

-- with one more whole block among them
pub within-put : (old new : Numbered) (n total : ℕ) (block : List ℕ) → changes new ≡ with_change (changes old) n block → n < total → length block ≡ 512
    → AreWithin (changes old) total → AreWithin (changes new) total
within-put old new n total block put lt long within k b e = ⊎_elim
    (λ (same : n ≡ k).
    let own : Some block ≡ Some b =
    sym (ap (λ (h : Changes). h k) put ∙ ap (λ (t : Bool). cond t (Some block) (changes old k)) (eq-eqb n k same)) ∙ e in
    let is : block ≡ b = cc in
    (subst (λ m. m < total) same lt, sym (ap (λ (l : List ℕ). length l) is) ∙ long))
    (λ (other : n ≡ k → ⊥).
    within k b (sym (ap (λ (h : Changes). h k) put ∙ ap (λ (t : Bool). cond t (Some block) (changes old k)) (ne_eqb n k other)) ∙ e))
    (cases_eq n k)

pub within-same : (old new : Numbered) (total : ℕ) → new ≡ old → AreWithin (changes old) total → AreWithin (changes new) total
within-same old new total e within = subst (λ (ns : Numbered). AreWithin (changes ns) total) (sym e) within
