-- The bytes of a range of an image.
use Rattle.std.proofs.Common.{◌≡◌, ◌∙◌, ℕ, ◌+◌, ◌-◌, ◌≤◌, List, length, take, drop, Result, Ok, Err, ap, sym, arith}
use Rattle.std.specs.Prelude.{OnOk}
use Rattle.std.proofs.lemmas.List.{take-take, drop-take, drop-drop}
use Rattle.hfs_source.specs.Images.{HasAt, IsRangeOf, OfEach}

piece : (start len place n : ℕ) (image : List ℕ) → place + n ≤ len → take n (drop (start + place) image) ≡ take n (drop place (take len (drop start image)))
piece start len place n image within =
    let room : place + (len - place) ≡ len = omega (arith, within) in
    let fits : n ≤ len - place = omega (arith, within) in
    let cut : drop place (take len (drop start image)) ≡ take (len - place) (drop (start + place) image) =
    ap (λ k. drop place (take k (drop start image))) (sym room) ∙ drop-take place (len - place) (drop start image)
    ∙ ap (take (len - place)) (drop-drop place start image) in
    sym (ap (take n) cut ∙ take-take n (len - place) (drop (start + place) image) fits)

-- what is read of an image at a place after the range's beginning is of the range
pub reads-within : {T E : Type 0} (r : Result T E) (Holds : List ℕ → Type 0) (start len place : ℕ) (bytes : List ℕ) → place + length bytes ≤ len
    → OnOk r (OfEach Holds (HasAt (start + place) bytes)) → OnOk r (OfEach (IsRangeOf Holds start len) (HasAt place bytes))
reads-within (Err e) Holds start len place bytes within own = tt
reads-within (Ok x) Holds start len place bytes within own = λ part held.
    own held.0 held.1 ∙ piece start len place (length bytes) held.0 within ∙ ap (λ l. take (length bytes) (drop place l)) (sym held.2.bytes)
