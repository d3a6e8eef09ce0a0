-- Lemmas about the definitions of specs/Laid.antt.
use Rattle.std.proofs.Common.{◌≡◌, ℕ, ◌+◌, ◌^◌, ◌<◌, List, [], ◌∷◌, ◌++◌, length, take, drop, refl, sym, ap, ◌∙◌}
use Rattle.std.proofs.lemmas.List.{append_assoc, take_at, drop_at, drop-drop}
use Rattle.byteorder.specs.Endian.{big_bytes, big_number}
use Rattle.byteorder.specs.Numbers.{big_number-reads_back}
use Rattle.hfs_fields.specs.Numbers.{number_at}
use Rattle.hfs_fields.specs.Mdb.{bytes_at}

-- what is behind a place further on
pub behind : (i k : ℕ) (w t : List ℕ) → drop i w ≡ t → drop (i + k) w ≡ drop k t
behind i k w t h = sym (drop-drop k i w) ∙ ap (λ (bytes : List ℕ). drop k bytes) h

-- a number that stands at a place is read there
pub number-read : (i n x : ℕ) (w rest : List ℕ) → drop i w ≡ big_bytes n x ++ rest → x < 256 ^ n → number_at i n w ≡ x
unfolding number_at
number-read i n x w rest h small = ap (λ (bytes : List ℕ). big_number n bytes) h ∙ big_number-reads_back n x rest small

-- bytes that stand at a place are read there
pub bytes-read : (i n : ℕ) (xs w rest : List ℕ) → drop i w ≡ xs ++ rest → length xs ≡ n → bytes_at i n w ≡ xs
bytes-read i n xs w rest h whole = ap (λ (bytes : List ℕ). take n bytes) h ∙ take_at xs rest n whole

-- what follows a piece that stands at a place
pub next : (i n : ℕ) (xs w rest : List ℕ) → drop i w ≡ xs ++ rest → length xs ≡ n → drop (i + n) w ≡ rest
next i n xs w rest h whole = behind i n w (xs ++ rest) h ∙ drop_at xs rest n whole

-- pieces laid one behind the other, from the first or from the last
unfoldable pub laid : List ℕ → List (List ℕ) → List ℕ
laid done [] = done
laid done (piece ∷ pieces) = laid (done ++ piece) pieces

unfoldable pub row : List (List ℕ) → List ℕ → List ℕ
row [] rest = rest
row (piece ∷ pieces) rest = piece ++ row pieces rest

pub laid-append : (done : List ℕ) (pieces : List (List ℕ)) (rest : List ℕ) → laid done pieces ++ rest ≡ done ++ row pieces rest
unfolding laid row
laid-append done [] rest = refl
laid-append done (piece ∷ pieces) rest = laid-append (done ++ piece) pieces rest ∙ append_assoc done piece (row pieces rest)
