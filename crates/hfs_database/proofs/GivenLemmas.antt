-- What was given when a row was refused.
use Rattle.std.proofs.Common.{◌≡◌, ◌∙◌, inl, inr, List, [], ◌∷◌, ◌++◌, append-nil, append_assoc, ap, refl, subst, sym}
use Rattle.hfs_database.specs.declared.value.RowValue.{RowValue}
use Rattle.hfs_database.specs.declared.value.Table.{Table}
use Rattle.hfs_database.specs.Taken.{IsBeginning, MayEndWith, TakenRow, row_of}

-- nothing was given yet
pub begins_itself : (given more : List TakenRow) → IsBeginning given (given ++ more)
begins_itself given more = record { rest = more; all_is = refl }

-- a row was given, or refused, and more are to come
pub begins_before : (given front back : List TakenRow) → IsBeginning given front → IsBeginning given (front ++ back)
begins_before given front back begin = record {
  rest = begin.rest ++ back;
  all_is = sym (append_assoc given begin.rest back) ∙ ap (λ (all : List TakenRow). all ++ back) begin.all_is;
}

pub begins_more : (given old rows : List TakenRow) (row : TakenRow) → IsBeginning given (old ++ row ∷ []) → IsBeginning given (old ++ row ∷ rows)
begins_more given old rows row begin = subst (IsBeginning given) (append_assoc old (row ∷ []) rows) (begins_before given (old ++ row ∷ []) rows begin)

-- a row was refused
pub begins_with : (old given : List TakenRow) (table : Table) (values sent : List RowValue) → sent ≡ values → MayEndWith old table sent given → IsBeginning given (old ++ row_of table values ∷ [])
begins_with old given table values sent is (inl same) = record {
  rest = row_of table values ∷ [];
  all_is = ap (λ (front : List TakenRow). front ++ row_of table values ∷ []) same;
}
begins_with old given table values sent is (inr one) = record {
  rest = [];
  all_is = append-nil given ∙ one ∙ ap (λ (it : List RowValue). old ++ row_of table it ∷ []) is;
}
