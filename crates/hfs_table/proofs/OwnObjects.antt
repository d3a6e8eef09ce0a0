-- An item's object by its own record, put one part after the other.
use Rattle.std.proofs.Common.{◌≡◌, ◌∙◌, ap, List, [], ◌∷◌, ◌++◌, append_assoc, Result, Ok, Err, ℕ}
use Rattle.json.specs.Token.{Token, begin_object, end_object}
use Rattle.json.specs.Written.{Written, Writes}
use Rattle.hfs_model.specs.declared.reply.Info.{Info}
use Rattle.hfs_table.specs.Adds.{Adds}
use Rattle.hfs_table.specs.OwnLines.{own_members, own_object, path_member}

regrouped : (o x y z w : List Token) → (((o ++ x) ++ y) ++ z) ++ w ≡ o ++ (x ++ ((y ++ z) ++ w))
regrouped o x y z w = simp append_assoc

parts : (o a b c d x y z w : List Token) → a ≡ o ++ x → b ≡ a ++ y → c ≡ b ++ z → d ≡ c ++ w → d ≡ o ++ (x ++ ((y ++ z) ++ w))
parts o a b c d x y z w p q r s =
    s ∙ ap (λ t. t ++ w) (r ∙ ap (λ t. t ++ z) (q ∙ ap (λ t. t ++ y) p)) ∙ regrouped o x y z w

pub own_object_put : {E : Type 0} (names : List (List ℕ)) (info : Info) (old a b c d : Written) (result : Result (Unit {0}) E)
    → a.before ≡ old.before → a.tokens ≡ old.tokens ++ begin_object ∷ [] → b.before ≡ a.before → b.tokens ≡ a.tokens ++ path_member names
    → c.before ≡ b.before → c.tokens ≡ b.tokens ++ own_members names info → Writes result c d end_object
    → Adds result old d (own_object names info)
unfolding own_object
own_object_put names info old a b c d (Ok x) before begun path-before with-path others-before with-others ended = (
  ended.room.0 ∙ others-before ∙ path-before ∙ before,
  parts old.tokens a.tokens b.tokens c.tokens d.tokens (begin_object ∷ []) (path_member names) (own_members names info) (end_object ∷ [])
      begun with-path with-others ended.ok,
)
own_object_put names info old a b c d (Err e) before begun path-before with-path others-before with-others ended = tt
