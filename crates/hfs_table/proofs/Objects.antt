-- An object's tokens, put one part after the other.
use Rattle.std.proofs.Common.{◌≡◌, ◌∙◌, ap, List, [], ◌∷◌, ◌++◌, append_assoc, Result, Ok, Err}
use Rattle.std.specs.Prelude.{flat_map}
use Rattle.json.specs.Token.{Token, begin_object, end_object}
use Rattle.json.specs.Written.{Written, Writes}
use Rattle.hfs_model.specs.declared.reply.Info.{Info}
use Rattle.hfs_table.specs.declared.column.Column.TheVariants.{Path}
use Rattle.hfs_table.specs.declared.column.TheConstants.{BEHIND_PATH}
use Rattle.hfs_table.specs.Adds.{Adds}
use Rattle.hfs_table.specs.Columns.{columns}
use Rattle.hfs_table.specs.Lines.{member, object}
use Rattle.std.proofs.Common.{ℕ}

regrouped : (o x y z w : List Token) → (((o ++ x) ++ y) ++ z) ++ w ≡ o ++ ((x ++ (y ++ z)) ++ w)
regrouped o x y z w = simp append_assoc

parts : (o a b c d x y z w : List Token) → a ≡ o ++ x → b ≡ a ++ y → c ≡ b ++ z → d ≡ c ++ w → d ≡ o ++ ((x ++ (y ++ z)) ++ w)
parts o a b c d x y z w p q r s =
    s ∙ ap (λ t. t ++ w) (r ∙ ap (λ t. t ++ z) (q ∙ ap (λ t. t ++ y) p)) ∙ regrouped o x y z w

pub object-put : {E : Type 0} (names : List (List ℕ)) (info : Info) (old a b c d : Written) (result : Result (Unit {0}) E)
    → a.before ≡ old.before → a.tokens ≡ old.tokens ++ begin_object ∷ [] → b.before ≡ a.before → b.tokens ≡ a.tokens ++ member names info Path
    → c.before ≡ b.before → c.tokens ≡ b.tokens ++ flat_map (member names info) BEHIND_PATH → Writes result c d end_object
    → Adds result old d (object names info)
unfolding object columns
object-put names info old a b c d (Ok x) before begun path-before with-path others-before with-others ended = (
  ended.room.0 ∙ others-before ∙ path-before ∙ before,
  parts old.tokens a.tokens b.tokens c.tokens d.tokens (begin_object ∷ []) (member names info Path) (flat_map (member names info) BEHIND_PATH) (end_object ∷ [])
      begun with-path with-others ended.ok,
)
object-put names info old a b c d (Err e) before begun path-before with-path others-before with-others ended = tt
