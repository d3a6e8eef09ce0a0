-- The files of a catalog, record after record.
use Rattle.std.proofs.Common.{◌≡◌, ℕ, suc, ◌+◌, true, false, cond, [], ◌∷◌, ◌++◌, length, ap, ◌∙◌, arith}
use Rattle.hfs_fields.specs.declared.key.CatKey.{CatKey}
use Rattle.hfs_fields.specs.Records.{is_file, file_record_of}
use Rattle.hfs_btree.specs.Pairs.{Pairs}
use Rattle.hfs_space.specs.Runs.{files_in}

-- the files of some records, and then those of the records behind them
pub files_in-append : (n : ℕ) (xs ys : Pairs CatKey) → files_in n (xs ++ ys) ≡ files_in n xs ++ files_in (n + length xs) ys
files_in-append n [] ys = ap (λ m. files_in m ys) (let e : n ≡ n + 0 = omega arith in e)
files_in-append n (x ∷ xs) ys =
    let behind : n + 1 + length xs ≡ n + suc (length xs) = omega arith in
    let rest = files_in-append (n + 1) xs ys ∙ ap (λ m. files_in (n + 1) xs ++ files_in m ys) behind in
    elim (is_file x.1) as (λ t. cond t (record { number = n; file = file_record_of x.1 } ∷ files_in (n + 1) (xs ++ ys)) (files_in (n + 1) (xs ++ ys))
    ≡ cond t (record { number = n; file = file_record_of x.1 } ∷ files_in (n + 1) xs) (files_in (n + 1) xs) ++ files_in (n + suc (length xs)) ys) [
      | true ↦ ap (λ l. record { number = n; file = file_record_of x.1 } ∷ l) rest
      | false ↦ rest
    ]
