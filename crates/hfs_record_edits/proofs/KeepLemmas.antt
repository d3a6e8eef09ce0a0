-- Lemmas about the definitions of specs/Keeps.antt.
use Rattle.std.proofs.Common.{◌≡◌, ◌⊎◌, inl, inr, ⊎_elim, List, [], ◌∷◌, ◌++◌, refl, sym, ◌∙◌, arith}
use Rattle.hfs_fields.specs.declared.key.CatKey.{CatKey}
use Rattle.hfs_fields.specs.Each.{Each}
use Rattle.hfs_fields.specs.Members.{In}
use Rattle.hfs_fields.proofs.MemberLemmas.{each_in, in-left, in-right}
use Rattle.hfs_btree.specs.Tree.{Store}
use Rattle.hfs_btree_edits.specs.Edits.{KeepsTree}
use Rattle.hfs_btree_edits.proofs.BehindLemmas.{node-behind}
use Rattle.hfs_btree_edits.specs.KeptKeys.{tree_keys, EachKey, IsKeyOr}
use Rattle.hfs_btree_edits.proofs.KeptKeyLemmas.{own-keys, key-holds, each-key-mono}
use Rattle.hfs_catalog.specs.Tree.{cat_keys, IsCatalogTree}
use Rattle.hfs_record_edits.specs.Keeps.{KeepsCatalog}
use Rattle.hfs_fields.proofs.PartLemmas.{in_parts}

-- ---- elements of lists laid together

three_parts : {A : Type 0} (x : A) (xs ys zs : List A) → In x (xs ++ (ys ++ zs)) → In x ((xs ++ ys) ++ zs)
three_parts x [] ys zs there = there
three_parts x (y ∷ xs) ys zs there = ⊎_elim (λ (e : y ≡ x). inl e) (λ (later : In x (xs ++ (ys ++ zs))). inr (three_parts x xs ys zs later)) there

-- ---- what keys are

-- what holds of the keys that were given, and of each key of the old tree, holds of each key of the new one
pub given_keys_hold : (given : List CatKey) (old new : Store) → KeepsCatalog given old new → (P : CatKey → Type 0) → Each P given → EachKey cat_keys P old → EachKey cat_keys P new
given_keys_hold given old new keeps P own was =
    each-key-mono cat_keys old new (λ k. In k (given ++ tree_keys cat_keys old)) P (λ k there. holds k (in_parts k given (tree_keys cat_keys old) there)) keeps.keys
  where
    holds : (k : CatKey) → In k given ⊎ In k (tree_keys cat_keys old) → P k
    holds k (inl here) = each_in P given k own here
    holds k (inr there) = key-holds cat_keys old P was k there

-- ---- no edit, one edit of a tree, and one after the other

pub keeps_itself : (nodes : Store) → IsCatalogTree nodes → KeepsCatalog [] nodes nodes
keeps_itself nodes sound = record {
  sound = sound;
  exact = λ e. e;
  frame = record { file = refl; nodes = refl; map = refl; map_length = refl; stray = λ n. (λ h. h, λ h. h) };
  free = refl;
  behind = λ n le. refl;
  keys = own-keys cat_keys nodes;
}

pub keeps_tree : (given : List CatKey) (old new : Store) → IsCatalogTree old → KeepsTree cat_keys old new → EachKey cat_keys (λ k. In k (given ++ tree_keys cat_keys old)) new → KeepsCatalog given old new
keeps_tree given old new sound keeps each = record {
  sound = keeps.sound;
  exact = keeps.exact;
  frame = keeps.frame;
  free = keeps.free;
  behind = node-behind cat_keys old new sound keeps;
  keys = each;
}

pub key_given : (old new : Store) (key : CatKey) → EachKey cat_keys (IsKeyOr cat_keys old key) new → EachKey cat_keys (λ k. In k ((key ∷ []) ++ tree_keys cat_keys old)) new
key_given old new key h = each-key-mono cat_keys old new (IsKeyOr cat_keys old key) (λ k. In k ((key ∷ []) ++ tree_keys cat_keys old)) by h
  where
    by : (k : CatKey) → IsKeyOr cat_keys old key k → In k (key ∷ tree_keys cat_keys old)
    by k (inl e) = inl (sym e)
    by k (inr there) = inr there

pub keeps_then : (first second : List CatKey) (old middle new : Store) → KeepsCatalog first old middle → KeepsCatalog second middle new → KeepsCatalog (second ++ first) old new
keeps_then first second old middle new a b = record {
  sound = b.sound;
  exact = λ e. b.exact (a.exact e);
  frame = record {
    file = b.frame.file ∙ a.frame.file;
    nodes = b.frame.nodes ∙ a.frame.nodes;
    map = b.frame.map ∙ a.frame.map;
    map_length = b.frame.map_length ∙ a.frame.map_length;
    stray = λ n. (λ s. (a.frame.stray n).0 ((b.frame.stray n).0 s), λ s. (b.frame.stray n).1 ((a.frame.stray n).1 s));
  };
  free = b.free ∙ a.free;
  behind = λ n le. b.behind n (omega (arith, le, a.frame.nodes)) ∙ a.behind n le;
  keys = given_keys_hold second middle new b (λ k. In k ((second ++ first) ++ tree_keys cat_keys old)) own was;
}
  where
    own : Each (λ k. In k ((second ++ first) ++ tree_keys cat_keys old)) second
    own = each_of second (λ k here. three_parts k second first (tree_keys cat_keys old) (in-left k second (first ++ tree_keys cat_keys old) here))
      where
        each_of : (xs : List CatKey) → ((k : CatKey) → In k xs → In k ((second ++ first) ++ tree_keys cat_keys old)) → Each (λ k. In k ((second ++ first) ++ tree_keys cat_keys old)) xs
        each_of [] f = tt
        each_of (x ∷ xs) f = (f x (inl refl), each_of xs (λ k there. f k (inr there)))

    was : EachKey cat_keys (λ k. In k ((second ++ first) ++ tree_keys cat_keys old)) middle
    was =
        each-key-mono cat_keys old middle (λ k. In k (first ++ tree_keys cat_keys old)) (λ k. In k ((second ++ first) ++ tree_keys cat_keys old))
        (λ k there. three_parts k second first (tree_keys cat_keys old) (in-right k second (first ++ tree_keys cat_keys old) there)) a.keys

-- more keys than came may be named
pub keeps_more : (more given : List CatKey) (old new : Store) → KeepsCatalog given old new → KeepsCatalog (more ++ given) old new
keeps_more more given old new h = record {
  sound = h.sound;
  exact = h.exact;
  frame = h.frame;
  free = h.free;
  behind = h.behind;
  keys =
      each-key-mono cat_keys old new (λ k. In k (given ++ tree_keys cat_keys old)) (λ k. In k ((more ++ given) ++ tree_keys cat_keys old))
      (λ k there. three_parts k more given (tree_keys cat_keys old) (in-right k more (given ++ tree_keys cat_keys old) there)) h.keys;
}

-- the keys that came may be named in another turn
pub keeps_turned : (first second : List CatKey) (old new : Store) → KeepsCatalog (first ++ second) old new → KeepsCatalog (second ++ first) old new
keeps_turned first second old new h = record {
  sound = h.sound;
  exact = h.exact;
  frame = h.frame;
  free = h.free;
  behind = h.behind;
  keys = each-key-mono cat_keys old new (λ k. In k ((first ++ second) ++ tree_keys cat_keys old)) (λ k. In k ((second ++ first) ++ tree_keys cat_keys old)) by h.keys;
}
  where
    by : (k : CatKey) → In k ((first ++ second) ++ tree_keys cat_keys old) → In k ((second ++ first) ++ tree_keys cat_keys old)
    by k there =
        ⊎_elim
        (λ (came : In k (first ++ second)).
        in-left k (second ++ first) (tree_keys cat_keys old)
        (⊎_elim (λ (here : In k first). in-right k second first here) (λ (here : In k second). in-left k second first here) (in_parts k first second came)))
        (λ (was : In k (tree_keys cat_keys old)). in-right k (second ++ first) (tree_keys cat_keys old) was)
        (in_parts k (first ++ second) (tree_keys cat_keys old) there)
