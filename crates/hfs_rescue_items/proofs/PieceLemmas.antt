-- The bytes of a fork in pieces.
use Rattle.std.proofs.Common.{◌≡◌, ◌⊎◌, inl, inr, true, ℕ, zero, suc, ◌+◌, ◌-◌, ◌*◌, ◌≤◌, List, [], ◌∷◌, ◌++◌, take, drop, min, Option, Some, None, refl, sym, ap, ◌∙◌, arith, append-nil, append_assoc, length-drop}
use Rattle.std.specs.Option.{option_map}
use Rattle.std.proofs.lemmas.List.{drop-drop, replicate-append-replicate, take-append-drop, take_all}
use Rattle.std.proofs.lemmas.List.Concat.{flat_map-append}
use Rattle.hfs_fields.specs.declared.mdb.Mdb.{Mdb}
use Rattle.hfs_remains.specs.Allocation.{start_of}
use Rattle.hfs_remains_forks.specs.ForkBytes.{filled, place_bytes}
use Rattle.hfs_remains_forks.proofs.ForkByteLemmas.{block_first, length-filled, missing_first, read-filled}
use Rattle.hfs_bag.specs.declared.piece.Piece.{Piece}
use Rattle.hfs_bag.specs.Forks.{first_bytes, piece_bytes, pieces_bytes}
use Rattle.hfs_rescue_items.specs.Bytes.{GoesOn}

-- ---- bytes that go on

filled-parted : (a b : ℕ) (bytes : List ℕ) → filled (a + b) bytes ≡ filled a bytes ++ filled b (drop a bytes)
filled-parted a b bytes =
    let all = filled (a + b) bytes in
    let behind : drop a all ≡ filled b (drop a bytes) =
    sym (take_all b (drop a all) (omega (arith, length-drop a all, length-filled (a + b) bytes))) ∙ read-filled b a (a + b) bytes (omega arith) in
    sym (take-append-drop a all) ∙ (λ i. read-filled a 0 (a + b) bytes (omega arith) i ++ behind i)

pub missing_goes_on : (count : ℕ) → GoesOn None count None
missing_goes_on count image more = sym (replicate-append-replicate count more 0)

-- those of the block behind so many come behind them
pub block_goes_on : (n m count : ℕ) → 512 * m ≡ 512 * n + count → GoesOn (Some n) count (Some m)
unfolding filled
block_goes_on n m count behind image more =
    filled-parted count more (drop (512 * n) image)
    ∙ ap (λ (bytes : List ℕ). filled count (drop (512 * n) image) ++ filled more bytes) (drop-drop count (512 * n) image ∙ ap (λ (k : ℕ). drop k image) (sym behind))

no-bytes : (image : List ℕ) (first : Option ℕ) → first_bytes true image first 0 ≡ []
no-bytes image None = refl
no-bytes image (Some n) = refl

-- ---- pieces that are put behind others

one-piece : (image : List ℕ) (pieces : List Piece) (part : Piece) → pieces_bytes true image (pieces ++ part ∷ []) ≡ pieces_bytes true image pieces ++ piece_bytes true image part
one-piece image pieces part =
    flat_map-append (piece_bytes true image) pieces (part ∷ []) ∙ ap (λ (bytes : List ℕ). pieces_bytes true image pieces ++ bytes) (append-nil (piece_bytes true image part))

-- a part came behind all pieces
pub first_pushed : (image : List ℕ) (old new : List Piece) (part : Piece) → new ≡ old ++ part ∷ [] → pieces_bytes true image new ≡ pieces_bytes true image old ++ piece_bytes true image part
first_pushed image old new part pushed = ap (pieces_bytes true image) pushed ∙ one-piece image old part

-- the last piece was joined with what comes behind it
pub last_joined : (image : List ℕ) (old front new : List Piece) (last both : Piece) (bytes : List ℕ) → old ≡ front ++ last ∷ [] → new ≡ front ++ both ∷ []
    → piece_bytes true image both ≡ piece_bytes true image last ++ bytes → pieces_bytes true image new ≡ pieces_bytes true image old ++ bytes
last_joined image old front new last both bytes was put joined =
    ap (pieces_bytes true image) put ∙ one-piece image front both
    ∙ ap (λ (l : List ℕ). pieces_bytes true image front ++ l) joined
    ∙ sym (append_assoc (pieces_bytes true image front) (piece_bytes true image last) bytes)
    ∙ ap (λ (l : List ℕ). l ++ bytes) (sym (one-piece image front last) ∙ ap (pieces_bytes true image) (sym was))

-- the last piece was put back, and a part behind it
pub last_kept : (image : List ℕ) (old front mid new : List Piece) (last part : Piece) → old ≡ front ++ last ∷ [] → mid ≡ front ++ last ∷ [] → new ≡ mid ++ part ∷ []
    → pieces_bytes true image new ≡ pieces_bytes true image old ++ piece_bytes true image part
last_kept image old front mid new last part was back pushed = first_pushed image old new part (pushed ∙ ap (λ (l : List Piece). l ++ part ∷ []) (back ∙ sym was))

-- ---- parts of a run

-- a part of what is left came: all of it, or so many bytes behind which it goes on
pub part_more : (image all old new : List ℕ) (first next : Option ℕ) (left len rest : ℕ) → old ++ first_bytes true image first left ≡ all → new ≡ old ++ first_bytes true image first len
    → len ≡ min left 65536 → rest ≡ left - len → (len ≡ 65536 → GoesOn first len next) → new ++ first_bytes true image next rest ≡ all
part_more image all old new first next left len rest so came few less goes_on = elim (by-len (left - 65536) refl) [
  | inl end ↦ whole end
  | inr more ↦ going more
]
  where
    by-len : (n : ℕ) → left - 65536 ≡ n → (rest ≡ 0) ⊎ (len ≡ 65536)
    by-len zero none = inl (omega (arith, few, less, none))
    by-len (suc n) some = inr (omega (arith, few, some))

    sum : len + rest ≡ left
    sum = omega (arith, few, less)

    behind : first_bytes true image first (len + rest) ≡ first_bytes true image first len ++ first_bytes true image next rest → new ++ first_bytes true image next rest ≡ all
    behind parted =
        ap (λ (l : List ℕ). l ++ first_bytes true image next rest) came
        ∙ append_assoc old (first_bytes true image first len) (first_bytes true image next rest)
        ∙ ap (λ (l : List ℕ). old ++ l) (sym parted ∙ ap (first_bytes true image first) sum)
        ∙ so

    going : len ≡ 65536 → new ++ first_bytes true image next rest ≡ all
    going is = behind (goes_on is image rest)

    whole : rest ≡ 0 → new ++ first_bytes true image next rest ≡ all
    whole none =
        ap (λ (l : List ℕ). new ++ l) (ap (first_bytes true image next) none ∙ no-bytes image next)
        ∙ append-nil new
        ∙ came
        ∙ ap (λ (n : ℕ). old ++ first_bytes true image first n) (let e : len ≡ left = omega (arith, few, less, none) in e)
        ∙ so

-- none is left
pub parts_whole : (image all bytes : List ℕ) (first : Option ℕ) (left : ℕ) → bytes ++ first_bytes true image first left ≡ all → left ≡ 0 → bytes ≡ all
parts_whole image all bytes first left so none =
    sym (append-nil bytes) ∙ ap (λ (l : List ℕ). bytes ++ l) (sym (no-bytes image first) ∙ ap (first_bytes true image first) (sym none)) ∙ so

-- ---- blocks of a fork

pub place_first : (image : List ℕ) (mdb : Mdb) (place : Option ℕ) (count : ℕ) → count ≤ mdb.allocation_block_size
    → first_bytes true image (option_map (start_of mdb) place) count ≡ take count (place_bytes image mdb place)
unfolding filled
place_first image mdb None count fits = sym (missing_first image mdb count fits)
place_first image mdb (Some b) count fits = sym (block_first image mdb b count fits)
