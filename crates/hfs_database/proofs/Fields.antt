-- Fields of CSV.
use Rattle.std.proofs.Common.{◌≡◌, ◌∙◌, refl, sym, ap, subst, append_assoc, length, map, arith, Result, Ok, Err, OnOk, ℕ, List, [], ◌∷◌, ◌++◌, inl, inr, true, false, Bool}
use Rattle.std.specs.Prelude.{◌==◌, ◌||◌, flat_map, codes}
use Rattle.std.specs.List.{list_any}
use Rattle.std.proofs.lemmas.Bool.{cases_Bool, both_ways}
use Rattle.hfs_table.specs.Lines.{doubled}
use Rattle.hfs_database.specs.declared.value.RowValue.{RowValue}
use Rattle.hfs_database.specs.declared.column.Column.{Column}
use Rattle.hfs_database.specs.declared.keys.Keys.{Keys}
use Rattle.hfs_database.specs.Columns.{Named, told_column}
use Rattle.hfs_database.specs.Keys.{cell}
use Rattle.hfs_database.specs.RowLines.{csv_head, csv_line, field}
use Rattle.hfs_database.proofs.Names.{told_each}

pub doubled_mark : (c : ℕ) → (c == 34) ≡ true → doubled c ≡ 34 ∷ 34 ∷ []
unfolding doubled
doubled_mark c e = rw e refl

pub doubled_other : (c : ℕ) → (c == 34) ≡ false → doubled c ≡ c ∷ []
unfolding doubled
doubled_other c e = rw e refl

abbrev is_mark : ℕ → Bool
is_mark c = c == 34

later_only : (a b : Bool) → a ≡ false → (a || b) ≡ false → b ≡ false
later_only true b e f = absurd (both_ways true e refl)
later_only false b e f = f

mark_first : (a b : Bool) → a ≡ true → (a || b) ≡ false → {X : Type 0} → X
mark_first true b e f = absurd (both_ways true f refl)
mark_first false b e f = absurd (both_ways false refl e)

-- a text without quotation marks stays as it is
pub plain_text : (text : List ℕ) → list_any (λ c. c == 34) text ≡ false → flat_map doubled text ≡ text
plain_text [] e = refl
plain_text (c ∷ rest) e = elim (cases_Bool (c == 34)) [
  | inl mark ↦ mark_first (c == 34) (list_any is_mark rest) mark e
  | inr other ↦ ap (λ l. l ++ flat_map doubled rest) (doubled_other c other) ∙ ap (λ l. c ∷ l) (plain_text rest (later_only (c == 34) (list_any is_mark rest) other e))
]

-- ---- lines of columns

joined : (old one more end : List ℕ) → ((old ++ one) ++ more) ++ end ≡ old ++ ((one ++ more) ++ end)
joined old one more end = simp append_assoc

added : {E : Type 0} (r : Result (Unit {0}) E) (old a b c one more end : List ℕ) → a ≡ old ++ one → b ≡ a ++ more → OnOk r (c ≡ b ++ end)
    → OnOk r (c ≡ old ++ ((one ++ more) ++ end))
added (Ok x) old a b c one more end p q s = s ∙ ap (λ l. l ++ end) (q ∙ ap (λ l. l ++ more) p) ∙ joined old one more end
added (Err e) old a b c one more end p q s = tt

-- no column
pub head_of_none : (columns : List Column) → length columns ≡ 0 → csv_head (map told_column columns) ≡ codes "\r\n"
unfolding csv_head
head_of_none [] none = refl
head_of_none (first ∷ others) none = absurd (omega (arith, none))

pub line_of_none : (columns : List Column) (keys : Keys) (values : List RowValue) → length columns ≡ 0 → csv_line (map told_column columns) keys values ≡ codes "\r\n"
unfolding csv_line
line_of_none [] keys values none = refl
line_of_none (first ∷ others) keys values none = absurd (omega (arith, none))

-- a column and those behind it
head_is : (columns : List Column) (first : Column) (others : List Column) → columns ≡ first ∷ others
    → (first.name.now ++ flat_map (λ (column : Column). codes "," ++ column.name.now) others) ++ codes "\r\n" ≡ csv_head (map told_column columns)
unfolding csv_head
head_is columns first others split =
    ap (λ l. (first.name.now ++ l) ++ codes "\r\n") (sym (told_each told_column (λ (column : Named). codes "," ++ column.name) others))
    ∙ ap (λ (all : List Column). csv_head (map told_column all)) (sym split)

line_is : (columns : List Column) (first : Column) (others : List Column) (keys : Keys) (values : List RowValue) → columns ≡ first ∷ others
    → (field (cell keys values first.origin) ++ flat_map (λ (column : Column). codes "," ++ field (cell keys values column.origin)) others) ++ codes "\r\n"
    ≡ csv_line (map told_column columns) keys values
unfolding csv_line
line_is columns first others keys values split =
    ap (λ l. (field (cell keys values first.origin) ++ l) ++ codes "\r\n")
    (sym (told_each told_column (λ (column : Named). codes "," ++ field (cell keys values column.origin)) others))
    ∙ ap (λ (all : List Column). csv_line (map told_column all) keys values) (sym split)

pub head_of_some : {E : Type 0} (r : Result (Unit {0}) E) (columns : List Column) (first : Column) (others : List Column) (old a b c : List ℕ) → columns ≡ first ∷ others
    → a ≡ old ++ first.name.now → b ≡ a ++ flat_map (λ (column : Column). codes "," ++ column.name.now) others → OnOk r (c ≡ b ++ codes "\r\n")
    → OnOk r (c ≡ old ++ csv_head (map told_column columns))
head_of_some r columns first others old a b c split p q s =
    subst (λ (l : List ℕ). OnOk r (c ≡ old ++ l)) (head_is columns first others split)
    (added r old a b c first.name.now (flat_map (λ (column : Column). codes "," ++ column.name.now) others) (codes "\r\n") p q s)

pub line_of_some : {E : Type 0} (r : Result (Unit {0}) E) (columns : List Column) (first : Column) (others : List Column) (keys : Keys) (values : List RowValue) (old a b c : List ℕ)
    → columns ≡ first ∷ others → a ≡ old ++ field (cell keys values first.origin)
    → b ≡ a ++ flat_map (λ (column : Column). codes "," ++ field (cell keys values column.origin)) others → OnOk r (c ≡ b ++ codes "\r\n")
    → OnOk r (c ≡ old ++ csv_line (map told_column columns) keys values)
line_of_some r columns first others keys values old a b c split p q s =
    subst (λ (l : List ℕ). OnOk r (c ≡ old ++ l)) (line_is columns first others keys values split)
    (added r old a b c (field (cell keys values first.origin)) (flat_map (λ (column : Column). codes "," ++ field (cell keys values column.origin)) others)
    (codes "\r\n") p q s)
