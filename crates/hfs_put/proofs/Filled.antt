-- The first bytes of some, with zeros behind their end.
use Rattle.std.proofs.Common.{◌≡◌, ℕ, zero, suc, ◌+◌, ◌≤◌, List, [], ◌∷◌, ◌++◌, length, take, drop, replicate, refl, ap, ◌∙◌, arith}
use Rattle.std.proofs.Math.Seq.{drop-nil}
use Rattle.hfs_put.specs.LaidRuns.{filled}

-- the same by recursion
pub pad : ℕ → List ℕ → List ℕ
pad zero l = []
pad (suc n) [] = 0 ∷ pad n []
pad (suc n) (x ∷ xs) = x ∷ pad n xs

zeros-pad : (n m : ℕ) → n ≤ m → take n (replicate m 0) ≡ pad n []
unfolding pad
zeros-pad zero m le = refl
zeros-pad (suc n) zero le = absurd (omega (arith, le))
zeros-pad (suc n) (suc m) le = ap (λ (l : List ℕ). 0 ∷ l) (zeros-pad n m (omega (arith, le)))

take-pad : (n m : ℕ) (l : List ℕ) → n ≤ m → take n (l ++ replicate m 0) ≡ pad n l
unfolding pad
take-pad n m [] le = zeros-pad n m le
take-pad zero m (x ∷ xs) le = refl
take-pad (suc n) m (x ∷ xs) le = ap (λ (l : List ℕ). x ∷ l) (take-pad n m xs (omega (arith, le)))

pub filled-pad : (n : ℕ) (l : List ℕ) → filled n l ≡ pad n l
filled-pad n l = take-pad n n l (omega arith)

pub length-pad : (n : ℕ) (l : List ℕ) → length (pad n l) ≡ n
unfolding pad
length-pad zero l = refl
length-pad (suc n) [] = let rest = length-pad n [] in omega (arith, rest)
length-pad (suc n) (x ∷ xs) = let rest = length-pad n xs in omega (arith, rest)

pub pad-zero : (l : List ℕ) → pad 0 l ≡ []
unfolding pad
pad-zero l = refl

pub pad-parts : (a b c : ℕ) (l : List ℕ) → c ≡ a + b → pad c l ≡ pad a l ++ pad b (drop a l)
unfolding pad
pad-parts zero b c l e = ap (λ (n : ℕ). pad n l) (let same : c ≡ b = omega (arith, e) in same)
pad-parts (suc a) b zero l e = absurd (omega (arith, e))
pad-parts (suc a) b (suc c) [] e =
    ap (λ (r : List ℕ). 0 ∷ r) (pad-parts a b c [] (omega (arith, e)) ∙ ap (λ (r : List ℕ). pad a [] ++ pad b r) (drop-nil {A = ℕ} a))
pad-parts (suc a) b (suc c) (x ∷ xs) e = ap (λ (r : List ℕ). x ∷ r) (pad-parts a b c xs (omega (arith, e)))

pad-nil : (n : ℕ) → pad n [] ≡ replicate n 0
unfolding pad
pad-nil zero = refl
pad-nil (suc n) = ap (λ (l : List ℕ). 0 ∷ l) (pad-nil n)

-- where all bytes fit
pub pad-whole : (n z : ℕ) (l : List ℕ) → n ≡ length l + z → pad n l ≡ l ++ replicate z 0
unfolding pad
pad-whole n z [] e = pad-nil n ∙ ap (λ (k : ℕ). replicate k 0) (let same : n ≡ z = omega (arith, e) in same)
pad-whole zero z (x ∷ xs) e = absurd (omega (arith, e))
pad-whole (suc n) z (x ∷ xs) e = ap (λ (l : List ℕ). x ∷ l) (pad-whole n z xs (omega (arith, e)))
