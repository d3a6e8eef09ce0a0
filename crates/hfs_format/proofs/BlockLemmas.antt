-- One more block of an image.
use Rattle.std.proofs.Common.{◌≡◌, ℕ, zero, suc, ◌+◌, List, [], ◌∷◌, ◌++◌, ap, append-nil, arith, ◌∙◌}
use Rattle.std.specs.List.{flat_map, range_with_len}
use Rattle.std.proofs.lemmas.Grind.{flat_map-append}

range-last : (a n j : ℕ) → a + n ≡ j → range_with_len a (suc n) ≡ range_with_len a n ++ j ∷ []
range-last a zero j e = let same : a ≡ j = omega arith in ap (λ (k : ℕ). k ∷ []) same
range-last a (suc n) j e = ap (λ (ks : List ℕ). a ∷ ks) (range-last (a + 1) n j (omega arith))

pub flat_map-range-last : (f : ℕ → List ℕ) (a k j : ℕ) → a + k ≡ j → flat_map f (range_with_len a (k + 1)) ≡ flat_map f (range_with_len a k) ++ f j
flat_map-range-last f a k j e =
    let next : k + 1 ≡ suc k = omega arith in
    ap (λ (n : ℕ). flat_map f (range_with_len a n)) next ∙ ap (flat_map f) (range-last a k j e) ∙ flat_map-append f (range_with_len a k) (j ∷ [])
    ∙ ap (λ (bytes : List ℕ). flat_map f (range_with_len a k) ++ bytes) (append-nil (f j))

pub flat_map-range-more : (f : ℕ → List ℕ) (k : ℕ) → flat_map f (range_with_len 0 (k + 1)) ≡ flat_map f (range_with_len 0 k) ++ f k
flat_map-range-more f k = flat_map-range-last f 0 k k (omega arith)
