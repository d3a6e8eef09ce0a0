-- Forks that were cut, lengthened or written.
use Rattle.std.proofs.Common.{◌≡◌, ℕ, ◌+◌, ◌-◌, ◌<◌, ◌≤◌, ◌^◌, inl, inr, Bool, true, false, cond, List, [], ◌∷◌, ◌++◌, length, take, drop, replicate, refl, sym, ap, ◌∙◌, subst, arith, append-nil, length-append}
use Rattle.std.specs.Prelude.{max, min}
use Rattle.std.specs.List.{splice}
use Rattle.std.proofs.lemmas.Bool.{cases_lt, true≢false}
use Rattle.std.proofs.lemmas.List.{append_assoc, drop-drop, drop_all, take_all, take-append-le, take-append-drop, length-replicate}
use Rattle.hfs_model.specs.Forks.{resized, laid_over, written}
use Rattle.hfs_viewers.specs.declared.piece.Source.TheVariants.{Base, Zeros, Given}
use Rattle.hfs_viewers.specs.declared.piece.Piece.{Piece}
use Rattle.hfs_viewers.specs.declared.fork.ForkPieces.{ForkPieces}
use Rattle.hfs_viewers.specs.Pieces.{source_bytes, end_of, bytes_from, AreRow, ArePieces, fork_length, fork_shown}
use Rattle.hfs_viewers.specs.PieceEdits.{HaveEnded, front_of, back_of, come_of, Makes, Keeps, IsTouched}
use Rattle.hfs_viewers.proofs.PieceLemmas.{bytes-append, end-append, row-append, row-take, row-drop, length-row, front-bytes, front-end, front-row, back-bytes, back-row, take-parted, drop-parted}

-- ---- bytes

-- resized to fewer bytes
pub resized-fewer : (n : ℕ) (bytes : List ℕ) → n ≤ length bytes → resized n bytes ≡ take n bytes
unfolding resized
resized-fewer n bytes le = let none : n - length bytes ≡ 0 = omega (arith, le) in ap (λ (k : ℕ). take n bytes ++ replicate k 0) none ∙ append-nil (take n bytes)

-- resized to more
pub resized-more : (n : ℕ) (bytes : List ℕ) → length bytes ≤ n → resized n bytes ≡ bytes ++ replicate (n - length bytes) 0
unfolding resized
resized-more n bytes le = ap (λ (l : List ℕ). l ++ replicate (n - length bytes) 0) (take_all n bytes le)

-- what is written is what stands before it, the new bytes, and what stands behind them
pub written-parts : (offset : ℕ) (new bytes : List ℕ) → offset ≤ length bytes → written offset new bytes ≡ take offset bytes ++ (new ++ drop (offset + length new) bytes)
unfolding written
written-parts offset new bytes le =
    let m : ℕ = max (length bytes) (offset + length new) in
    let zeros : List ℕ = replicate (m - length bytes) 0 in
    let whole : resized m bytes ≡ bytes ++ zeros = resized-more m bytes (omega arith) in
    ap (λ (l : List ℕ). laid_over offset new l) whole
    ∙ ap (λ (l : List ℕ). l ++ (new ++ drop (offset + length new) (bytes ++ zeros))) (take-append-le offset bytes zeros le)
    ∙ ap (λ (l : List ℕ). take offset bytes ++ (new ++ l)) (behind-zeros (offset + length new) bytes)
  where
    behind-zeros : (stop : ℕ) (bytes : List ℕ) → drop stop (bytes ++ replicate (max (length bytes) stop - length bytes) 0) ≡ drop stop bytes
    behind-zeros stop bytes = elim (cases_lt (length bytes) stop) [
      | inl past ↦
          let zero_byte : ℕ = 0 in
          let long = length-append bytes (replicate (max (length bytes) stop - length bytes) 0) in
          let zeros = length-replicate (max (length bytes) stop - length bytes) zero_byte in
          drop_all stop (bytes ++ replicate (max (length bytes) stop - length bytes) 0) (omega (arith, long, zeros, past)) ∙ sym (drop_all stop bytes (omega (arith, past)))
      | inr within ↦
          let none : max (length bytes) stop - length bytes ≡ 0 = omega (arith, within) in
          ap (λ (n : ℕ). drop stop (bytes ++ replicate n 0)) none ∙ ap (λ (l : List ℕ). drop stop l) (append-nil bytes)
    ]

-- ---- forks

pub shown-touched : (fork : ForkPieces) (base : List ℕ) → fork.touched ≡ true → fork_shown base fork ≡ bytes_from base 0 fork.pieces
shown-touched fork base e = ap (λ (t : Bool). cond t (bytes_from base 0 fork.pieces) base) e

pub length-touched : (fork : ForkPieces) → fork.touched ≡ true → fork_length fork ≡ end_of 0 fork.pieces
length-touched fork e = ap (λ (t : Bool). cond t (end_of 0 fork.pieces) fork.base_len) e

-- a fork shows as many bytes as it has
pub length-shown : (fork : ForkPieces) (base : List ℕ) → ArePieces fork → length base ≡ fork.base_len → length (fork_shown base fork) ≡ fork_length fork
length-shown fork base h is =
    elim fork.touched as (λ (t : Bool). length (cond t (bytes_from base 0 fork.pieces) base) ≡ cond t (end_of 0 fork.pieces) fork.base_len) [
      | true ↦ let long = length-row fork.base_len base 0 fork.pieces h.row is in omega (arith, long)
      | false ↦ is
    ]

pub makes : (f : List ℕ → List ℕ) (old new : ForkPieces) (qs : List Piece) → old.base_len < 2 ^ 32 → old.touched ≡ true → new.touched ≡ true → new.base_len ≡ old.base_len → new.pieces ≡ qs → AreRow old.base_len 0 qs → ((base : List ℕ) → length base ≡ old.base_len → bytes_from base 0 qs ≡ f (bytes_from base 0 old.pieces)) → Makes f old new
makes f old new qs few was touched base_len pieces row shows = record {
  pieces = record {
    row = subst (λ (l : ℕ). AreRow l 0 new.pieces) (sym base_len) (subst (λ (ps : List Piece). AreRow old.base_len 0 ps) (sym pieces) row);
    none = λ e. absurd (true≢false (sym touched ∙ e));
    small = omega (arith, few, base_len);
  };
  base_len = base_len;
  shows = λ base is. shown-touched new base touched ∙ ap (λ (ps : List Piece). bytes_from base 0 ps) pieces ∙ shows base is ∙ ap f (sym (shown-touched old base was));
}

-- first a fork keeps its bytes, and then it is changed
pub then-makes : (f : List ℕ → List ℕ) (old mid new : ForkPieces) → Keeps old mid → Makes f mid new → Makes f old new
then-makes f old mid new keeps made = record {
  pieces = made.pieces;
  base_len = made.base_len ∙ keeps.base_len;
  shows = λ base is. made.shows base (is ∙ sym keeps.base_len) ∙ ap f (keeps.shows base is);
}

-- what is made of bytes of that length is the same
pub makes-alike : (f g : List ℕ → List ℕ) (old new : ForkPieces) → ((bytes : List ℕ) → length bytes ≡ fork_length old → f bytes ≡ g bytes) → ArePieces old → Makes f old new → Makes g old new
makes-alike f g old new alike h made = record {
  pieces = made.pieces;
  base_len = made.base_len;
  shows = λ base is. made.shows base is ∙ alike (fork_shown base old) (length-shown old base h is);
}

-- ---- a fork that gets its first piece

pub first-piece : (old new : ForkPieces) → ArePieces old → old.touched ≡ false → new.touched ≡ true → new.base_len ≡ old.base_len → new.pieces ≡ old.pieces ++ (record { end = old.base_len; source = Base 0 }) ∷ [] → IsTouched old new
first-piece old new h was touched base_len pieces =
    let small : 0 + (old.base_len - 0) < 2 ^ 32 = omega (arith, h.small) in
    let only : new.pieces ≡ (record { end = old.base_len; source = Base 0 }) ∷ [] = pieces ∙ ap (λ (ps : List Piece). ps ++ (record { end = old.base_len; source = Base 0 }) ∷ []) (h.none was) in
    record {
      keeps = record {
        pieces = record {
          row = subst (λ (ps : List Piece). AreRow new.base_len 0 ps) (sym only) (record { rises = omega arith; has = (omega (arith, base_len), small) }, tt);
          none = λ e. absurd (true≢false (sym touched ∙ e));
          small = omega (arith, h.small, base_len);
        };
        base_len = base_len;
        shows = λ base is.
            let whole : bytes_from base 0 ((record { end = old.base_len; source = Base 0 }) ∷ []) ≡ base = append-nil (take (old.base_len - 0) base) ∙ take_all (old.base_len - 0) base (omega (arith, is)) in
            let before : base ≡ fork_shown base old = sym (ap (λ (t : Bool). cond t (bytes_from base 0 old.pieces) base) was) in
            shown-touched new base touched ∙ ap (λ (ps : List Piece). bytes_from base 0 ps) only ∙ whole ∙ before;
      };
      touched = touched;
      length_is = length-touched new touched ∙ ap (λ (ps : List Piece). end_of 0 ps) only ∙ sym (ap (λ (t : Bool). cond t (end_of 0 old.pieces) old.base_len) was);
    }

-- ---- rows that were cut

-- where the pieces end does not depend on where they are parted
end-parted : (n : ℕ) (ps : List Piece) → end_of (end_of 0 (take n ps)) (drop n ps) ≡ end_of 0 ps
end-parted n ps = sym (end-append 0 (take n ps) (drop n ps)) ∙ ap (λ (l : List Piece). end_of 0 l) (take-append-drop n ps)

module _ (l : ℕ) (ps : List Piece) (h : AreRow l 0 ps) (n place : ℕ) (ended : HaveEnded ps place n) (within : place ≤ end_of 0 ps) where
  abbrev start : ℕ
  start = end_of 0 (take n ps)

  abbrev front : List Piece
  front = front_of (end_of 0 (take n ps)) place (drop n ps)

  pub cut-end : end_of 0 (take n ps ++ front_of (end_of 0 (take n ps)) place (drop n ps)) ≡ place
  cut-end = end-append 0 (take n ps) front ∙ front-end start place (drop n ps) ended.before (subst (λ (k : ℕ). place ≤ k) (sym (end-parted n ps)) within)

  pub cut-row : AreRow l 0 (take n ps ++ front_of (end_of 0 (take n ps)) place (drop n ps))
  cut-row = row-append l 0 (take n ps) front (row-take l 0 n ps h) (front-row l start place (drop n ps) (row-drop l 0 n ps h) ended.behind ended.before)

  pub cut-bytes : (base : List ℕ) → length base ≡ l → bytes_from base 0 (take n ps ++ front_of (end_of 0 (take n ps)) place (drop n ps)) ≡ take place (bytes_from base 0 ps)
  cut-bytes base is =
      bytes-append base 0 (take n ps) front
      ∙ ap (λ (b : List ℕ). bytes_from base 0 (take n ps) ++ b) (front-bytes l base start place (drop n ps) (row-drop l 0 n ps h) is ended.behind ended.before)
      ∙ sym (take-parted l base ps n h is place ended.before)

-- all that follows goes
pub all-behind : (n : ℕ) (ps come : List Piece) → splice ps n (length ps) come ≡ take n ps ++ come
all-behind n ps come = ap (λ (l : List Piece). take n ps ++ (come ++ l)) (drop_all (length ps) ps (omega arith)) ∙ ap (λ (l : List Piece). take n ps ++ l) (append-nil come)

-- ---- zeros behind the end

module _ (l : ℕ) (ps : List Piece) (h : AreRow l 0 ps) (count : ℕ) (more : end_of 0 ps ≤ count) where
  abbrev zeros : List Piece
  zeros = (record { end = count; source = Zeros }) ∷ []

  pub zeros-row : AreRow l 0 (ps ++ (record { end = count; source = Zeros }) ∷ [])
  zeros-row = row-append l 0 ps zeros h (record { rises = more; has = tt }, tt)

  pub zeros-bytes : (base : List ℕ) → length base ≡ l → bytes_from base 0 (ps ++ (record { end = count; source = Zeros }) ∷ []) ≡ resized count (bytes_from base 0 ps)
  zeros-bytes base is =
      let long = length-row l base 0 ps h is in
      let same : count - end_of 0 ps ≡ count - length (bytes_from base 0 ps) = omega (arith, long) in
      bytes-append base 0 ps zeros
      ∙ ap (λ (b : List ℕ). bytes_from base 0 ps ++ b) (append-nil (replicate (count - end_of 0 ps) 0) ∙ ap (λ (k : ℕ). replicate k 0) same)
      ∙ sym (resized-more count (bytes_from base 0 ps) (omega (arith, long, more)))

-- ---- bytes that are written

-- the pieces before a number are left, and so are those from one behind another on
behind-to : (j : ℕ) (ps : List Piece) → drop (min (length ps) (j + 1)) ps ≡ drop 1 (drop j ps)
behind-to j ps = elim (cases_lt (length ps) (j + 1)) [
  | inl past ↦ drop_all (min (length ps) (j + 1)) ps (omega (arith, past)) ∙ sym (drop_all (j + 1) ps (omega (arith, past))) ∙ sym (drop-drop 1 j ps)
  | inr within ↦ let same : min (length ps) (j + 1) ≡ j + 1 = omega (arith, within) in ap (λ (n : ℕ). drop n ps) same ∙ sym (drop-drop 1 j ps)
]

module _ (l : ℕ) (ps : List Piece) (h : AreRow l 0 ps) (i j offset : ℕ) (bytes : List ℕ) (stop : ℕ) (first : HaveEnded ps offset i) (last : HaveEnded ps stop j) (within : offset ≤ end_of 0 ps) (stop_is : stop ≡ offset + length bytes) (small : stop < 2 ^ 32) where
  abbrev given : Piece
  given = record { end = stop; source = Given bytes 0 }

  abbrev before : List Piece
  before = take i ps ++ front_of (end_of 0 (take i ps)) offset (drop i ps)

  abbrev back : List Piece
  back = back_of (end_of 0 (take j ps)) stop (drop j ps)

  abbrev behind : List Piece
  behind = back ++ drop 1 (drop j ps)

  abbrev pub written_pieces : List Piece
  written_pieces = before ++ (given ∷ behind)

  pub write-splice : splice ps i (min (length ps) (j + 1)) (come_of ps i j offset bytes stop) ≡ written_pieces
  write-splice =
      let front : List Piece = front_of (end_of 0 (take i ps)) offset (drop i ps) in
      ap (λ (d : List Piece). take i ps ++ (come_of ps i j offset bytes stop ++ d)) (behind-to j ps)
      ∙ ap (λ (d : List Piece). take i ps ++ d) (append_assoc (front ++ given ∷ []) back (drop 1 (drop j ps)) ∙ append_assoc front (given ∷ []) behind)
      ∙ sym (append_assoc (take i ps) front (given ∷ behind))

  pub write-row : AreRow l 0 written_pieces
  write-row =
      let at : end_of 0 before ≡ offset = cut-end l ps h i offset first within in
      let rest : AreRow l stop behind = back-row l (end_of 0 (take j ps)) stop (drop j ps) (row-drop l 0 j ps h) last.behind last.before in
      row-append l 0 before (given ∷ behind) (cut-row l ps h i offset first within)
      (subst (λ (s : ℕ). AreRow l s (given ∷ behind)) (sym at) (record { rises = omega (arith, stop_is); has = (omega (arith, stop_is), omega (arith, stop_is, small)) }, rest))

  given-bytes : (base : List ℕ) → source_bytes base (stop - offset) (Given bytes 0) ≡ bytes
  given-bytes base = take_all (stop - offset) bytes (omega (arith, stop_is))

  pub write-bytes : (base : List ℕ) → length base ≡ l → bytes_from base 0 written_pieces ≡ written offset bytes (bytes_from base 0 ps)
  write-bytes base is =
      let all : List ℕ = bytes_from base 0 ps in
      let long = length-row l base 0 ps h is in
      let at : end_of 0 before ≡ offset = cut-end l ps h i offset first within in
      let end : bytes_from base stop behind ≡ drop stop all = back-bytes l base (end_of 0 (take j ps)) stop (drop j ps) (row-drop l 0 j ps h) is last.behind last.before ∙ sym (drop-parted l base ps j h is stop last.before) in
      bytes-append base 0 before (given ∷ behind)
      ∙ ap (λ (b : List ℕ). b ++ bytes_from base (end_of 0 before) (given ∷ behind)) (cut-bytes l ps h i offset first within base is)
      ∙ ap (λ (s : ℕ). take offset all ++ bytes_from base s (given ∷ behind)) at
      ∙ ap (λ (b : List ℕ). take offset all ++ (b ++ bytes_from base stop behind)) (given-bytes base)
      ∙ ap (λ (b : List ℕ). take offset all ++ (bytes ++ b)) (end ∙ ap (λ (s : ℕ). drop s all) stop_is)
      ∙ sym (written-parts offset bytes all (omega (arith, long, within)))

-- ---- what the functions leave

pub cut-made : (old : ForkPieces) (slice : List Piece) (none front qs : List Piece) → ArePieces old → old.touched ≡ true → slice ≡ old.pieces → (n place : ℕ) → HaveEnded slice place n → place ≤ fork_length old
    → none ≡ [] → front ≡ none ++ front_of (end_of 0 (take n slice)) place (drop n slice) → qs ≡ splice old.pieces n (length slice) front → Makes (λ bytes. take place bytes) old (record old { pieces = qs })
cut-made old slice none front qs h touched same n place ended within none_is front_is is =
    let here : HaveEnded old.pieces place n = subst (λ (l : List Piece). HaveEnded l place n) same ended in
    let inside : place ≤ end_of 0 old.pieces = subst (λ (k : ℕ). place ≤ k) (length-touched old touched) within in
    let front_as : front ≡ front_of (end_of 0 (take n old.pieces)) place (drop n old.pieces) = front_is ∙ (λ i. none_is i ++ front_of (end_of 0 (take n (same i))) place (drop n (same i))) in
    let pieces : qs ≡ take n old.pieces ++ front_of (end_of 0 (take n old.pieces)) place (drop n old.pieces) =
    is ∙ (λ i. splice old.pieces n (length (same i)) (front_as i)) ∙ all-behind n old.pieces (front_of (end_of 0 (take n old.pieces)) place (drop n old.pieces)) in
    makes (λ bytes. take place bytes) old (record old { pieces = qs }) (take n old.pieces ++ front_of (end_of 0 (take n old.pieces)) place (drop n old.pieces)) h.small touched touched refl pieces
    (cut-row old.base_len old.pieces h.row n place here inside) (cut-bytes old.base_len old.pieces h.row n place here inside)

pub cut-resized : (old mid new : ForkPieces) (count : ℕ) → IsTouched old mid → count ≤ fork_length mid → Makes (λ bytes. take count bytes) mid new → Makes (resized count) old new
cut-resized old mid new count touched le made =
    then-makes (resized count) old mid new touched.keeps
    (makes-alike (λ bytes. take count bytes) (resized count) mid new (λ bytes long. sym (resized-fewer count bytes (omega (arith, long, le)))) touched.keeps.pieces made)

pub zeros-resized : (old mid : ForkPieces) (qs : List Piece) (count : ℕ) → IsTouched old mid → fork_length mid ≤ count → qs ≡ mid.pieces ++ (record { end = count; source = Zeros }) ∷ [] → Makes (resized count) old (record mid { pieces = qs })
zeros-resized old mid qs count touched le is =
    let more : end_of 0 mid.pieces ≤ count = subst (λ (k : ℕ). k ≤ count) (length-touched mid touched.touched) le in
    then-makes (resized count) old mid (record mid { pieces = qs }) touched.keeps
    (makes (resized count) mid (record mid { pieces = qs }) (mid.pieces ++ (record { end = count; source = Zeros }) ∷ []) touched.keeps.pieces.small touched.touched touched.touched refl is
    (zeros-row mid.base_len mid.pieces touched.keeps.pieces.row count more) (zeros-bytes mid.base_len mid.pieces touched.keeps.pieces.row count more))

pub write-made : (old mid : ForkPieces) (slice come qs : List Piece) → IsTouched old mid → slice ≡ mid.pieces → (i j offset : ℕ) (bytes : List ℕ) (stop to : ℕ) → HaveEnded slice offset i → HaveEnded slice stop j → offset ≤ fork_length old
    → stop ≡ offset + length bytes → stop < 2 ^ 32 → to ≡ min (length slice) (j + 1) → come ≡ come_of slice i j offset bytes stop → qs ≡ splice mid.pieces i to come → Makes (written offset bytes) old (record mid { pieces = qs })
write-made old mid slice come qs touched same i j offset bytes stop to first last within stop_is small to_is come_is is =
    let first_here : HaveEnded mid.pieces offset i = subst (λ (l : List Piece). HaveEnded l offset i) same first in
    let last_here : HaveEnded mid.pieces stop j = subst (λ (l : List Piece). HaveEnded l stop j) same last in
    let inside : offset ≤ end_of 0 mid.pieces = subst (λ (k : ℕ). offset ≤ k) (sym touched.length_is ∙ length-touched mid touched.touched) within in
    let row = touched.keeps.pieces.row in
    let as_here : splice mid.pieces i to come ≡ splice mid.pieces i (min (length mid.pieces) (j + 1)) (come_of mid.pieces i j offset bytes stop) =
    (λ k. splice mid.pieces i ((to_is ∙ ap (λ (l : List Piece). min (length l) (j + 1)) same) k) ((come_is ∙ ap (λ (l : List Piece). come_of l i j offset bytes stop) same) k)) in
    then-makes (written offset bytes) old mid (record mid { pieces = qs }) touched.keeps
    (makes (written offset bytes) mid (record mid { pieces = qs }) (written_pieces mid.base_len mid.pieces row i j offset bytes stop first_here last_here inside stop_is small) touched.keeps.pieces.small touched.touched touched.touched refl
    (is ∙ as_here ∙ write-splice mid.base_len mid.pieces row i j offset bytes stop first_here last_here inside stop_is small)
    (write-row mid.base_len mid.pieces row i j offset bytes stop first_here last_here inside stop_is small)
    (write-bytes mid.base_len mid.pieces row i j offset bytes stop first_here last_here inside stop_is small))
