-- What is told of each file that holds, and is handed on.
use Rattle.std.proofs.Common.{◌≡◌, ◌∙◌, ℕ, List, Result, Ok, Err, Vec, Global}
use Rattle.std.specs.Prelude.{IfOk, OnOk}
use Rattle.hfs_source.specs.Images.{OfEach}
use Rattle.hfs_source.specs.declared.ranges.FoundRange.{FoundRange}

pub handed : {T E : Type 0} (r : Result T E) (Holds : List ℕ → Type 0) (P Q : T → List ℕ → Type 0) → ((x : T) (file : List ℕ) → Holds file → P x file → Q x file)
    → IfOk r (λ x. OfEach Holds (P x)) → IfOk r (λ x. OfEach Holds (Q x))
handed (Err e) Holds P Q step told = tt
handed (Ok x) Holds P Q step told = λ file h. step x file h (told file h)

pub done : {T E : Type 0} (r : Result T E) (Holds : List ℕ → Type 0) (P Q : List ℕ → Type 0) → ((file : List ℕ) → Holds file → P file → Q file)
    → OnOk r (OfEach Holds P) → OnOk r (OfEach Holds Q)
done (Err e) Holds P Q step told = tt
done (Ok x) Holds P Q step told = λ file h. step file h (told file h)

-- ranges that are computed of what is told
pub each_told : {E : Type 0} (r : Result (Vec FoundRange Global) E) (Holds : List ℕ → Type 0) (made : List FoundRange) (value : List ℕ → List FoundRange) → OfEach Holds (λ file. made ≡ value file)
    → IfOk r (λ found. found.items ≡ made) → IfOk r (λ found. OfEach Holds (λ file. found.items ≡ value file))
each_told (Err e) Holds made value told is = tt
each_told (Ok found) Holds made value told is = λ file h. is ∙ told file h
