-- Pieces of an image, with changed blocks laid over them.
use Rattle.std.proofs.Common.{◌≡◌, ℕ, ◌+◌, ◌-◌, ◌*◌, ◌/◌, ◌<◌, ◌≤◌, List, [], ◌++◌, length, take, drop, unwrap_or, refl, sym, ap, subst, ◌∙◌, arith, ⊎_elim, append-nil, append_assoc, length-append, length-take, length-drop}
use Rattle.std.proofs.lemmas.List.{take_all, take_at, drop_all, drop_at, drop-drop}
use Rattle.std.proofs.lemmas.Bool.{cases_lt}
use borrow.Rule.Slice.PartMut.{put_mid}
use Rattle.hfs_blocks.specs.Blocks.{block_at, block_count}
use Rattle.hfs_blocks.specs.Layers.{Numbered, changes, AreWithin, over}
use Rattle.hfs_source.proofs.BlockBytes.{from-block}
use Rattle.hfs_source.specs.Images.{HasAt, OfEach}
use Rattle.hfs_volume.specs.Image.{patched}
use Rattle.hfs_volume.specs.Laid.{laid_from, laid}
use Rattle.hfs_volume.proofs.Laid.{AreBlocks-within, drop-laid}
use Rattle.hfs_volume.specs.Patched.{patched_from, piece_of, IsPiece, OfPiece}
use Rattle.hfs_volume.proofs.FlatBlocks.{blocks_from, AreWholeFrom, flat-laid_from, flat-laid, length-blocks_from, blocks_from-add, blocks_from-same}

-- ---- laying block by block

-- the first blocks are those of f, and behind them stand the bytes' own
pub record AreLaid (f : ℕ → List ℕ) (bytes : List ℕ) (k : ℕ) (now : List ℕ) : Type 0 where
  pub laid : now ≡ blocks_from f 0 k ++ drop (512 * k) bytes
  pub whole : length (blocks_from f 0 k) ≡ 512 * k
  pub long : length now ≡ length bytes

pub laid-first : (f : ℕ → List ℕ) (bytes : List ℕ) → AreLaid f bytes 0 bytes
laid-first f bytes = record { laid = refl; whole = refl; long = refl }

module _ (f : ℕ → List ℕ) (bytes now block : List ℕ) (k from room : ℕ) (laid : AreLaid f bytes k now) (fits : 512 * (k + 1) ≤ length bytes)
    (at : from ≡ k * 512) (wide : room ≡ 512) (is : block ≡ f k) (long : length block ≡ 512) where
  before : take from now ≡ blocks_from f 0 k
  before = ap (take from) laid.laid ∙ take_at (blocks_from f 0 k) (drop (512 * k) bytes) from (omega (arith, laid.whole, at))

  behind : drop room (drop from now) ≡ drop (512 * (k + 1)) bytes
  behind =
      let all : 512 * k + room ≡ 512 * (k + 1) = omega (arith, wide) in
      ap (λ l. drop room (drop from l)) laid.laid
      ∙ ap (drop room) (drop_at (blocks_from f 0 k) (drop (512 * k) bytes) from (omega (arith, laid.whole, at)))
      ∙ drop-drop room (512 * k) bytes ∙ ap (λ m. drop m bytes) all

  last : blocks_from f 0 (k + 1) ≡ blocks_from f 0 k ++ block
  last =
      let here : 0 + k ≡ k = omega arith in
      blocks_from-add f 0 k 1 ∙ ap (λ l. blocks_from f 0 k ++ l) (append-nil (f (0 + k)) ∙ ap f here ∙ sym is)

  pub laid-next : AreLaid f bytes (k + 1) (put_mid from room now block)
  laid-next =
      let parts : put_mid from room now block ≡ blocks_from f 0 (k + 1) ++ drop (512 * (k + 1)) bytes =
      (λ i. before i ++ (block ++ behind i)) ∙ sym (append_assoc (blocks_from f 0 k) block (drop (512 * (k + 1)) bytes))
      ∙ ap (λ l. l ++ drop (512 * (k + 1)) bytes) (sym last) in
      let whole : length (blocks_from f 0 (k + 1)) ≡ 512 * (k + 1) =
      omega (arith, ap length last, length-append (blocks_from f 0 k) block, laid.whole, long) in
      record {
        laid = parts;
        whole = whole;
        long = ap length parts
            ∙ (let sum : length (blocks_from f 0 (k + 1) ++ drop (512 * (k + 1)) bytes) ≡ length bytes =
            omega (arith, length-append (blocks_from f 0 (k + 1)) (drop (512 * (k + 1)) bytes), whole, fits, length-drop (512 * (k + 1)) bytes) in sum);
      }

-- a block of the bytes as it is, before it is laid
pub next-own : (f : ℕ → List ℕ) (bytes now : List ℕ) (k from : ℕ) → AreLaid f bytes k now → from ≡ k * 512
    → take (from + 512 - from) (drop from now) ≡ block_at bytes k
next-own f bytes now k from laid at =
    let wide : from + 512 - from ≡ 512 = omega arith in
    ap (λ m. take m (drop from now)) wide
    ∙ ap (λ l. take 512 (drop from l)) laid.laid
    ∙ ap (take 512) (drop_at (blocks_from f 0 k) (drop (512 * k) bytes) from (omega (arith, laid.whole, at)))

-- when all whole blocks were laid
pub laid-all : (first : ℕ) (changed : Numbered) (bytes now : List ℕ) (count : ℕ) → count ≡ block_count bytes
    → AreLaid (over (λ k. changes changed (first + k)) (block_at bytes)) bytes count now → now ≡ patched_from first changed bytes
laid-all first changed bytes now count all laid =
    let f = over (λ k. changes changed (first + k)) (block_at bytes) in
    laid.laid ∙ ap (λ c. blocks_from f 0 c ++ drop (512 * c) bytes) all ∙ sym (flat-laid f bytes)

-- ---- the pieces of an image

module _ (changed : Numbered) (image : List ℕ) (first count : ℕ) (within : AreWithin (changes changed) (block_count image)) (piece : IsPiece image first count) where
  abbrev f : ℕ → List ℕ
  f = over (changes changed) (block_at image)

  abbrev rest : List ℕ
  rest = drop (512 * first) image

  abbrev own : List ℕ
  own = piece_of first count image

  abbrev g : ℕ → List ℕ
  g = over (λ k. changes changed (first + k)) (block_at own)

  -- how many whole blocks it has
  abbrev m : ℕ
  m = count / 512

  length-rest : length rest ≡ length image - 512 * first
  length-rest = length-drop (512 * first) image

  length-own : length own ≡ count
  length-own = omega (arith, length-take count rest, length-rest, piece.within)

  own-blocks : (k : ℕ) → k < m → block_at own k ≡ block_at image (first + k)
  own-blocks k lt = from-block image own first k (ap (λ n. take n rest) (sym length-own)) (omega (arith, lt, length-own))

  same-blocks : blocks_from g 0 m ≡ blocks_from f first m
  same-blocks = blocks_from-same g f 0 first m (λ k lt.
      let here : 0 + k ≡ k = omega arith in
      ap g here ∙ ap (unwrap_or (changes changed (first + k))) (own-blocks k lt))

  whole-blocks : AreWholeFrom f first m
  whole-blocks k lt = AreBlocks-within (changes changed) image within (first + k) (omega (arith, lt, piece.within))

  length-blocks : length (blocks_from f first m) ≡ 512 * m
  length-blocks = length-blocks_from f first m whole-blocks

  -- the piece with the changed blocks laid over it
  left : patched_from first changed own ≡ blocks_from f first m ++ drop (512 * m) own
  left =
      let blocks : block_count own ≡ m = ap (λ n. n / 512) length-own in
      flat-laid g own ∙ ap (λ c. blocks_from g 0 c ++ drop (512 * c) own) blocks ∙ ap (λ l. l ++ drop (512 * m) own) same-blocks

  -- what the image with the changed blocks laid over it has from the piece on
  behind_first : drop (512 * first) (patched changed image) ≡ laid_from f (block_count image - first) first rest
  behind_first = drop-laid f first image (AreBlocks-within (changes changed) image within) (omega (arith, piece.within))

  -- a piece of whole blocks
  inner : 512 * first + count < length image → patched_from first changed own ≡ piece_of first count (patched changed image)
  inner lt =
      let all : count ≡ 512 * m = omega (arith, piece.whole lt) in
      let c = block_count image - first - m in
      let split : block_count image - first ≡ m + c = omega (arith, lt, all) in
      let none : drop (512 * m) own ≡ [] = drop_all (512 * m) own (omega (arith, length-own, all)) in
      let tail = drop (512 * (m + c)) rest in
      left ∙ ap (λ l. blocks_from f first m ++ l) none ∙ append-nil (blocks_from f first m)
      ∙ sym (ap (take count) (behind_first ∙ ap (λ n. laid_from f n first rest) split ∙ flat-laid_from f (m + c) first rest
      ∙ ap (λ l. l ++ tail) (blocks_from-add f first m c) ∙ append_assoc (blocks_from f first m) (blocks_from f (first + m) c) tail)
      ∙ take_at (blocks_from f first m) (blocks_from f (first + m) c ++ tail) count (omega (arith, length-blocks, all)))

  -- the last piece
  outer : 512 * first + count ≡ length image → patched_from first changed own ≡ piece_of first count (patched changed image)
  outer e =
      let split : block_count image - first ≡ m = omega (arith, e) in
      let whole : own ≡ rest = take_all count rest (omega (arith, e, length-rest)) in
      let fits : length (blocks_from f first m ++ drop (512 * m) rest) ≤ count =
      omega (arith, e, length-rest, length-blocks, length-append (blocks_from f first m) (drop (512 * m) rest), length-drop (512 * m) rest) in
      left ∙ ap (λ l. blocks_from f first m ++ drop (512 * m) l) whole
      ∙ sym (ap (take count) (behind_first ∙ ap (λ n. laid_from f n first rest) split ∙ flat-laid_from f m first rest)
      ∙ take_all count (blocks_from f first m ++ drop (512 * m) rest) fits)

  pub piece-patched : patched_from first changed own ≡ piece_of first count (patched changed image)
  piece-patched = ⊎_elim inner (λ (ge : length image ≤ 512 * first + count).
      let e : 512 * first + count ≡ length image = omega (arith, ge, piece.within) in outer e)
      (cases_lt (512 * first + count) (length image))

-- ---- of each image that has the bytes which were read

-- what holds of a piece that was read, and over which the changed blocks were laid
pub of-piece : (Holds : List ℕ → Type 0) (changed : Numbered) (first count : ℕ) (into laid : List ℕ) (Fact : List ℕ → Type 0) → length into ≡ count
    → laid ≡ patched_from first changed into → OfEach Holds (HasAt (512 * first) into) → Fact laid → OfPiece Holds changed first count Fact
of-piece Holds changed first count into laid Fact fits is own fact = λ image held within piece.
    let read : into ≡ piece_of first count image = own image held ∙ ap (λ n. take n (drop (512 * first) image)) fits in
    subst Fact (is ∙ ap (patched_from first changed) read ∙ piece-patched changed image first count within piece) fact
