-- What is read of a fork at a place.
use Rattle.std.proofs.Common.{◌≡◌, ℕ, ◌+◌, ◌-◌, ◌<◌, ◌≤◌, inl, inr, suc, true, List, ◌∷◌, length, take, drop, get_or, sym, ap, ◌∙◌, subst, arith}
use Rattle.std.specs.Prelude.{min}
use Rattle.std.proofs.lemmas.Bool.{cases_lt}
use Rattle.std.proofs.lemmas.List.{take_all}
use Rattle.hfs_viewers.specs.declared.piece.Piece.{Piece}
use Rattle.hfs_viewers.specs.declared.fork.ForkPieces.{ForkPieces}
use Rattle.hfs_viewers.specs.declared.reading.Stretch.{Stretch}
use Rattle.hfs_viewers.specs.Pieces.{source_bytes, skipped, end_of, IsPiece, ArePieces, fork_length}
use Rattle.hfs_viewers.specs.PieceEdits.{EndsBehind, HaveEnded}
use Rattle.hfs_viewers.specs.Stretches.{stretch_length, MayRead, IsReadWhere, IsPart, IsStretch}
use Rattle.hfs_viewers.proofs.Placed.{drop-first, may-read, read-in-base, piece-at, ends-within, stretch-shows}
use Rattle.hfs_viewers.proofs.EditedPieces.{shown-touched, length-touched}

module _ (fork : ForkPieces) (slice : List Piece) (same : slice ≡ fork.pieces) (h : ArePieces fork) (touched : fork.touched ≡ true) (n place : ℕ) (ended : HaveEnded slice place n) (inside : place < fork_length fork) (start : ℕ) (start_is : start ≡ end_of 0 (take n slice)) (count most : ℕ) (piece : Piece) (piece_is : piece ≡ get_or slice n piece) (count_is : count ≡ min most (piece.end - place)) where
  here : HaveEnded fork.pieces place n
  here = subst (λ (l : List Piece). HaveEnded l place n) same ended

  below : place < end_of 0 fork.pieces
  below = subst (λ (k : ℕ). place < k) (length-touched fork touched) inside

  -- there is a piece that has not ended
  some : n < length fork.pieces
  some = elim (cases_lt n (length fork.pieces)) [ inl lt ↦ lt | inr all ↦ absurd (past all) ]
    where
      past : length fork.pieces ≤ n → ⊥
      past all = let whole : end_of 0 (take n fork.pieces) ≡ end_of 0 fork.pieces = ap (λ (l : List Piece). end_of 0 l) (take_all n fork.pieces all) in let before = here.before in omega (arith, whole, before, below)

  at : get_or fork.pieces n piece ≡ piece
  at = sym (piece_is ∙ ap (λ (l : List Piece). get_or l n piece) same)

  begins : start ≡ end_of 0 (take n fork.pieces)
  begins = start_is ∙ ap (λ (l : List Piece). end_of 0 (take n l)) same

  is : IsPiece fork.base_len (end_of 0 (take n fork.pieces)) piece
  is = subst (λ (p : Piece). IsPiece fork.base_len (end_of 0 (take n fork.pieces)) p) at (piece-at fork.base_len fork.pieces n piece h.row some)

  later : place < piece.end
  later = subst (λ (p : Piece). place < p.end) at (first (drop n fork.pieces) (drop-first n fork.pieces piece some) here.behind)
    where
      first : (rest : List Piece) → rest ≡ get_or fork.pieces n piece ∷ drop (suc n) fork.pieces → EndsBehind place rest → place < (get_or fork.pieces n piece).end
      first rest e behind = subst (λ (l : List Piece). EndsBehind place l) e behind

  pub may-read-there : MayRead (place - start) count piece.source
  may-read-there = subst (λ (s : ℕ). MayRead (place - s) count piece.source) (sym begins) (may-read fork.base_len (end_of 0 (take n fork.pieces)) place count piece is here.before (omega (arith, count_is, later)))

  pub is-stretch : 0 < most → (s : Stretch) → IsPart (place - start) count piece.source s → IsStretch fork place most s
  is-stretch some_asked s part =
      let long = part.length_is in
      let fits : place + count ≤ piece.end = omega (arith, count_is, later) in
      let ends : piece.end ≤ end_of 0 fork.pieces = subst (λ (p : Piece). p.end ≤ end_of 0 fork.pieces) at (ends-within fork.base_len fork.pieces n piece h.row some) in
      record {
        some = omega (arith, long, count_is, later, some_asked);
        few = omega (arith, long, count_is);
        within = subst (λ (k : ℕ). place + stretch_length s ≤ k) (sym (length-touched fork touched)) (omega (arith, long, fits, ends));
        in_base = read-in-base fork.base_len (end_of 0 (take n fork.pieces)) place count piece s is here.before fits (subst (λ (k : ℕ). IsReadWhere fork.base_len (place - k) count piece.source s) begins (part.in_base fork.base_len));
        shows = λ base base_len.
            part.shows base
            ∙ (λ i. source_bytes base count (skipped (place - begins i) (sym at i).source))
            ∙ stretch-shows fork.base_len base fork.pieces n place count piece h.row base_len some here.before (subst (λ (p : Piece). place + count ≤ p.end) (sym at) fits)
            ∙ (λ i. take (sym long i) (drop place (sym (shown-touched fork base touched) i)));
      }
