-- An object's tokens, put one part after the other.
use Rattle.std.proofs.Common.{◌≡◌, ◌∙◌, ap, sym, List, [], ◌∷◌, ◌++◌, append_assoc, map}
use Rattle.std.specs.Prelude.{Option, flat_map}
use Rattle.json.specs.Token.{Token, begin_object, end_object}
use Rattle.hfs_database.specs.declared.value.RowValue.{RowValue}
use Rattle.hfs_database.specs.declared.column.Column.{Column}
use Rattle.hfs_database.specs.declared.column.Label.{Label}
use Rattle.hfs_database.specs.declared.keys.Keys.{Keys}
use Rattle.hfs_database.specs.Columns.{told_column}
use Rattle.hfs_database.specs.RowLines.{member, object, table_member}
use Rattle.hfs_database.proofs.Names.{told_each}

regrouped : (t : Token) (o x y z : List Token) → (((o ++ t ∷ []) ++ x) ++ y) ++ z ≡ o ++ (t ∷ x ++ y ++ z)
regrouped t o x y z = simp append_assoc

parts : (t : Token) (o a b c d x y z : List Token) → a ≡ o ++ t ∷ [] → b ≡ a ++ x → c ≡ b ++ y → d ≡ c ++ z → d ≡ o ++ (t ∷ x ++ y ++ z)
parts t o a b c d x y z p q r s = s ∙ ap (λ l. l ++ z) (r ∙ ap (λ l. l ++ y) (q ∙ ap (λ l. l ++ x) p)) ∙ regrouped t o x y z

pub object_put : (label : Option Label) (columns : List Column) (keys : Keys) (values : List RowValue) (o a b c d : List Token)
    → a ≡ o ++ begin_object ∷ [] → b ≡ a ++ table_member label → c ≡ b ++ flat_map (λ column. member keys values (told_column column)) columns
    → d ≡ c ++ end_object ∷ [] → d ≡ o ++ object label (map told_column columns) keys values
unfolding object
object_put label columns keys values o a b c d begun named put ended =
    parts begin_object o a b c d (table_member label) (flat_map (member keys values) (map told_column columns)) (end_object ∷ []) begun named
    (put ∙ ap (λ l. b ++ l) (sym (told_each told_column (member keys values) columns))) ended
