-- A fork's bytes that were written, and those that are still to come.
use Rattle.std.proofs.Common.{◌≡◌, ◌∙◌, refl, sym, subst, ap, arith, ℕ, ◌+◌, ◌<◌, ◌≤◌, Bool, true, false, List, [], ◌++◌, length, take, min, Option}
use Rattle.std.specs.Io.KnownBytes.{Appends}
use Rattle.std.proofs.KnownBytes.{Appends-nil, Appends-trans}
use Rattle.std.proofs.lemmas.Bool.{true≢false}
use Rattle.std.proofs.lemmas.List.{drop_at, take_at, take-append-le, take_min}
use Rattle.std.proofs.Math.Seq.{take-add}
use Rattle.hfs_texts.proofs.FrontLemmas.{front-left, front_first}
use Rattle.hfs_source.specs.Images.{OfEach}
use Rattle.hfs_texts.specs.Writing.{AppendsFront}
use Rattle.hfs_source.proofs.Written.{GoesOn, goes-on-end, goes-on-first, goes-on-next}
use Rattle.hfs_fields.specs.declared.mdb.Mdb.{Mdb}
use Rattle.hfs_remains.specs.TreeFiles.{FileBlocks}
use Rattle.hfs_remains_forks.specs.ForkBytes.{fork_bytes}
use Rattle.hfs_bag.specs.declared.fork_reading.ForkReading.{ForkReading}
use Rattle.hfs_bag.specs.Forks.{ReadsOn, fork_rest}
use Rattle.hfs_rescue_items.specs.Writing.{MovesPiece, WritesFrontOf, WritesOf}

-- ---- parts of bytes

front-right : (n : ℕ) (xs ys : List ℕ) → xs ++ take n ys ≡ take (length xs + n) (xs ++ ys)
front-right n xs ys = (λ i. sym (take_at xs ys (length xs) refl) i ++ take n (sym (drop_at xs ys (length xs) refl) i)) ∙ sym (take-add (length xs) n (xs ++ ys))

-- ---- a piece

-- nothing is left
pub none_moved : (now : Option (List ℕ)) (piece before after : List ℕ) → ReadsOn piece before after → piece ≡ [] → MovesPiece false now now before after
none_moved now piece before after reads none = record {
  out = [];
  written = Appends-nil now;
  bytes = reads.bytes ∙ ap (λ (l : List ℕ). l ++ after) none;
  last = λ is. reads.none none;
}

-- a piece was written
pub piece_moved : (old new : Option (List ℕ)) (piece before after : List ℕ) → ReadsOn piece before after → Appends old new piece → MovesPiece true old new before after
piece_moved old new piece before after reads written = record {
  out = piece;
  written = written;
  bytes = reads.bytes;
  last = λ is. absurd (true≢false is);
}

pub no_more : (before after : ℕ) → false ≡ true → after < before
no_more before after is = absurd (true≢false (sym is))

-- and fewer are left
pub piece_fewer : (piece : List ℕ) (before after : ℕ) → before ≡ length piece + after → 0 < length piece → after < before
piece_fewer piece before after fewer some = omega (arith, fewer, some)

-- a part of a piece was written
pub piece_front : (old new : Option (List ℕ)) (piece before after : List ℕ) → ReadsOn piece before after → AppendsFront old new piece → AppendsFront old new before
piece_front old new piece before after reads front = subst (AppendsFront old new) (sym reads.bytes) (front_first old new piece after front)

-- ---- the whole

module _ (mdb : Mdb) (len : ℕ) (places : FileBlocks) where
  -- of each of these images what is left to read makes the fork, behind what was written
  abbrev pub GoesOnOf : (List ℕ → Type 0) → Option (List ℕ) → Option (List ℕ) → ForkReading → Type 0
  GoesOnOf Holds old now reading = OfEach Holds (λ image. GoesOn old now (fork_rest true image reading) (fork_bytes image mdb len places))

  pub begun : (Holds : List ℕ → Type 0) (old : Option (List ℕ)) (reading : ForkReading) → ((image : List ℕ) → fork_rest true image reading ≡ fork_bytes image mdb len places) → GoesOnOf Holds old old reading
  begun Holds old reading is = λ image h.
      subst (λ (r : List ℕ). GoesOn old old r (fork_bytes image mdb len places)) (sym (is image)) (goes-on-first old (fork_bytes image mdb len places))

  -- of two readings one behind the other, each image that holds behind the second held before
  module _ (Before After : List ℕ → Type 0) (held : OfEach After Before) (old now next : Option (List ℕ)) (before after : ForkReading) (on : GoesOnOf Before old now before) where
    -- a piece more was written
    pub goes_on : (more : Bool) → OfEach After (λ image. MovesPiece more now next (fork_rest true image before) (fork_rest true image after)) → GoesOnOf After old next after
    goes_on more moved = λ image h.
        let own = moved image h in
        goes-on-next old now next own.out (fork_rest true image after) (fork_bytes image mdb len places)
        (subst (λ (r : List ℕ). GoesOn old now r (fork_bytes image mdb len places)) own.bytes (on image (held image h))) own.written

    -- writing ended in what was left
    pub ended_front : WritesFrontOf After now next (λ image. fork_rest true image before) → WritesFrontOf After old next (λ image. fork_bytes image mdb len places)
    ended_front front = λ image h. (on image (held image h)).part next (front image h)

    -- nothing is left
    pub all_written : OfEach After (λ image. MovesPiece false now next (fork_rest true image before) (fork_rest true image after)) → WritesOf After old next (λ image. fork_bytes image mdb len places)
    all_written moved = λ image h.
        goes-on-end old next (fork_bytes image mdb len places)
        (subst (λ (r : List ℕ). GoesOn old next r (fork_bytes image mdb len places)) ((moved image h).last refl) (goes_on false moved image h))

-- nothing was written yet
pub nothing_written : (old : Option (List ℕ)) (bytes : List ℕ) → AppendsFront old old bytes
nothing_written old bytes = (0, Appends-nil old)
