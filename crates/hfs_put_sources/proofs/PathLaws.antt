-- Paths in a bag, as its tag files and the walk make them.
use Rattle.std.proofs.Common.{◌≡◌, ◌∙◌, sym, ap, refl, ℕ, suc, ◌-◌, ◌<◌, Bool, ◌&&◌, true, false, ◌==◌, nat_le, if◌then◌else◌, IsFalse, slice_index, List, [], ◌∷◌, ◌++◌, codes, length, append_assoc, length-append, arith}
use Rattle.std.proofs.lemmas.Bool.{le-leb}
use Rattle.hfs_put_sources.specs.Paths.{ends_in_slash, entry_path}
use Rattle.hfs_put_sources.specs.BagLaws.{ArePathsOfWalk}

-- ---- the last byte

some-true : (n : ℕ) → nat_le 1 (suc n) ≡ true
some-true n = le-leb 1 (suc n) (omega arith)

ends-more : (x y : ℕ) (rest : List ℕ) → ends_in_slash (x ∷ y ∷ rest) ≡ ends_in_slash (y ∷ rest)
ends-more x y rest =
    let long : length (x ∷ y ∷ rest) - 1 ≡ suc (length rest) = omega arith in
    let short : length (y ∷ rest) - 1 ≡ length rest = omega arith in
    (λ t. some-true (suc (length rest)) t && (slice_index (x ∷ y ∷ rest) (long t) == 47))
    ∙ sym (λ t. some-true (length rest) t && (slice_index (y ∷ rest) (short t) == 47))

ends-by : (x : ℕ) (rest : List ℕ) → 0 < length rest → ends_in_slash (x ∷ rest) ≡ ends_in_slash rest
ends-by x [] some = absurd (omega (arith, some))
ends-by x (y ∷ rest) some = ends-more x y rest

ends-behind : (front back : List ℕ) → 0 < length back → ends_in_slash (front ++ back) ≡ ends_in_slash back
ends-behind [] back some = refl
ends-behind (x ∷ front) back some = ends-by x (front ++ back) (omega (arith, some, length-append front back)) ∙ ends-behind front back some

-- ---- paths

entry-append : (source front back : List ℕ) → entry_path source (front ++ back) ≡ entry_path source front ++ back
unfolding entry_path
entry-append source front back = by (ends_in_slash source)
  where
    by : (b : Bool) → (if b then source ++ (front ++ back) else source ++ (codes "/" ++ (front ++ back))) ≡ (if b then source ++ front else source ++ (codes "/" ++ front)) ++ back
    by true = sym (append_assoc source front back)
    by false = sym (append_assoc source (codes "/" ++ front) back)

path-unended : (path name : List ℕ) → ends_in_slash path ≡ false → entry_path path name ≡ path ++ (codes "/" ++ name)
unfolding entry_path
path-unended path name unended = ap (λ (b : Bool). if b then path ++ name else path ++ (codes "/" ++ name)) unended

payload-unended : (source : List ℕ) → ends_in_slash (entry_path source (codes "data")) ≡ false
payload-unended source =
    ap ends_in_slash (entry-append source [] (codes "data")) ∙ ends-behind (entry_path source []) (codes "data") (omega arith)

pub paths_of_walk : (source : List ℕ) → ArePathsOfWalk source
paths_of_walk source = record {
  at_top = λ name.
      path-unended (entry_path source (codes "data")) name (payload-unended source)
      ∙ sym (entry-append source (codes "data") (codes "/" ++ name))
      ∙ entry-append source (codes "data/") name;
  inside = λ path name some unended.
      path-unended (entry_path source (codes "data/") ++ path) name (ends-behind (entry_path source (codes "data/")) path some ∙ false-is (ends_in_slash path) unended)
      ∙ append_assoc (entry_path source (codes "data/")) path (codes "/" ++ name);
  in_manifest = λ path. sym (entry-append source [] (codes "data/" ++ path)) ∙ entry-append source (codes "data/") path;
}
  where
    false-is : (b : Bool) → IsFalse b → b ≡ false
    false-is b e = e
