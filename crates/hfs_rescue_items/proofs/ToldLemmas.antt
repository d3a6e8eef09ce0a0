-- What the item at a place tells, and the name in a field.
use Rattle.std.proofs.Common.{◌≡◌, ℕ, zero, suc, ◌<◌, ◌≤◌, List, [], ◌∷◌, length, take, slice_index_or, Option, None, refl, sym, ap, ◌∙◌, arith}
use Rattle.std.specs.Option.{option_and_then}
use Rattle.std.proofs.lemmas.Option.{slice_get_past, slice_get_read}
use Rattle.hfs_model.specs.declared.reply.Info.{Info}
use Rattle.hfs_remains.specs.declared.catalog.FoundRecord.{FoundRecord}
use Rattle.hfs_rescue_items.specs.Found.{field_name, told, told_at}

pub told_past : (items : List FoundRecord) (i : ℕ) → length items ≤ i → None ≡ told_at items i
told_past items i past = ap (option_and_then told) (sym (slice_get_past items i past))

pub told_there : (items : List FoundRecord) (i : ℕ) (item : FoundRecord) (result : Option Info) → i < length items → item ≡ slice_index_or items i item → result ≡ told item
    → result ≡ told_at items i
told_there items i item result within is told_is = told_is ∙ ap (option_and_then told) (sym (slice_get_read items (length items) i item refl within is))

take-most : (n : ℕ) (xs : List ℕ) → length (take n xs) ≤ length xs
take-most zero [] = omega arith
take-most (suc n) [] = omega arith
take-most zero (x ∷ xs) = omega arith
take-most (suc n) (x ∷ xs) = omega (arith, take-most n xs)

-- the name in a volume's field is no longer than a name may be
pub field_short : (field : List ℕ) → length field ≡ 28 → length (field_name field) ≤ 31
field_short [] all = omega arith
field_short (len ∷ characters) all = omega (arith, all, take-most len characters)
