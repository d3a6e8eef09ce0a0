-- Bytes that are written, step by step.
use Rattle.std.proofs.Common.{◌≡◌, ℕ, zero, suc, ◌<◌, ◌≤◌, List, [], ◌∷◌, ◌++◌, length, get_or, set, take, drop, refl, sym, ap, ◌∙◌, arith}
use Rattle.hfs_repair.specs.declared.byte_put.BytePut.{BytePut}
use Rattle.hfs_repair.specs.Puts.{put_all, put_back}

pub back-append : (xs : List BytePut) (p : BytePut) (image : List ℕ) → put_back (xs ++ p ∷ []) image ≡ put_back xs (set image p.at p.byte)
back-append [] p image = refl
back-append (x ∷ xs) p image = ap (λ (bytes : List ℕ). set bytes x.at x.byte) (back-append xs p image)

-- what stands from place i on, about its first element
pub drop-at : {X : Type 0} (xs : List X) (i : ℕ) (d : X) → i < length xs → drop i xs ≡ get_or xs i d ∷ drop (suc i) xs
drop-at [] i d lt = absurd (omega arith)
drop-at (x ∷ xs) zero d lt = refl
drop-at (x ∷ xs) (suc i) d lt = drop-at xs i d (omega arith)

pub take-at : {X : Type 0} (xs : List X) (i : ℕ) (d : X) → i < length xs → take (suc i) xs ≡ take i xs ++ get_or xs i d ∷ []
take-at [] i d lt = absurd (omega arith)
take-at (x ∷ xs) zero d lt = refl
take-at (x ∷ xs) (suc i) d lt = ap (λ (ys : List _). x ∷ ys) (take-at xs i d (omega arith))

pub drop-set : {X : Type 0} (xs : List X) (i : ℕ) (y : X) → drop (suc i) (set xs i y) ≡ drop (suc i) xs
drop-set [] i y = refl
drop-set (x ∷ xs) zero y = refl
drop-set (x ∷ xs) (suc i) y = drop-set xs i y

pub take-set : {X : Type 0} (xs : List X) (i : ℕ) (y : X) → i < length xs → take (suc i) (set xs i y) ≡ take i xs ++ y ∷ []
take-set [] i y lt = absurd (omega arith)
take-set (x ∷ xs) zero y lt = refl
take-set (x ∷ xs) (suc i) y lt = ap (λ (ys : List _). x ∷ ys) (take-set xs i y (omega arith))

pub all-of : {X : Type 0} (xs : List X) (i : ℕ) → length xs ≤ i → take i xs ≡ xs
all-of [] zero le = refl
all-of [] (suc i) le = refl
all-of (x ∷ xs) zero le = absurd (omega arith)
all-of (x ∷ xs) (suc i) le = ap (λ (ys : List _). x ∷ ys) (all-of xs i (omega arith))

pub none-of : {X : Type 0} (xs : List X) (i : ℕ) → length xs ≤ i → drop i xs ≡ []
none-of [] zero le = refl
none-of [] (suc i) le = refl
none-of (x ∷ xs) zero le = absurd (omega arith)
none-of (x ∷ xs) (suc i) le = none-of xs i (omega arith)

pub set-past : {X : Type 0} (xs : List X) (i : ℕ) (y : X) → length xs ≤ i → set xs i y ≡ xs
set-past [] i y le = refl
set-past (x ∷ xs) zero y le = absurd (omega arith)
set-past (x ∷ xs) (suc i) y le = ap (λ (ys : List _). x ∷ ys) (set-past xs i y (omega arith))

-- the last of so many bytes was written
pub back-step : (puts : List BytePut) (left less : ℕ) (d : BytePut) (image : List ℕ) → left ≡ suc less → left ≤ length puts
    → put_back (take less puts) (set image (get_or puts less d).at (get_or puts less d).byte) ≡ put_back (take left puts) image
back-step puts left less d image is within =
    sym (ap (λ (n : ℕ). put_back (take n puts) image) is ∙ ap (λ (ps : List BytePut). put_back ps image) (take-at puts less d (omega arith)) ∙ back-append (take less puts) (get_or puts less d) image)

-- byte i was exchanged
module _ (puts : List BytePut) (i : ℕ) (d p : BytePut) (old new : List ℕ) (lt : i < length puts) (is : new ≡ set old (get_or puts i d).at (get_or puts i d).byte) (back : set new p.at p.byte ≡ old) where
  pub ahead : put_all (drop (suc i) (set puts i p)) new ≡ put_all (drop i puts) old
  ahead =
      ap (λ (ps : List BytePut). put_all ps new) (drop-set puts i p)
      ∙ ap (put_all (drop (suc i) puts)) is
      ∙ sym (ap (λ (ps : List BytePut). put_all ps old) (drop-at puts i d lt))

  pub behind : put_back (take (suc i) (set puts i p)) new ≡ put_back (take i puts) old
  behind = ap (λ (ps : List BytePut). put_back ps new) (take-set puts i p lt) ∙ back-append (take i puts) p new ∙ ap (put_back (take i puts)) back
