-- Searching the records of one node, one after the other.
use Rattle.std.proofs.Common.{◌≡◌, ℕ, ◌+◌, ◌<◌, false, List, [], ◌∷◌, length, map, get_or, drop, sym, ap, ◌∙◌}
use Rattle.std.specs.Ordering.{is_gt}
use Rattle.std.proofs.lemmas.Bool.{cond-false}
use Rattle.std.proofs.lemmas.List.{drop_more}
use Rattle.hfs_btree.specs.declared.key.Key.{Ghosts}
use Rattle.hfs_btree.specs.Pairs.{pairs_from}
use Rattle.hfs_btree.specs.Tree.{pair_of}

module _ {K : Type 0} (g : Ghosts K) (t : K) (es : List (List ℕ)) (i : ℕ) (e : List ℕ) (lt : i < length es) (is : e ≡ get_or es i []) where
  pub next : drop i es ≡ e ∷ drop (i + 1) es
  next = drop_more es i [] lt ∙ ap (λ (x : List ℕ). x ∷ drop (i + 1) es) (sym is)

  pub from-here : is_gt (g.compare t (g.leaf_key e)) ≡ false → pairs_from g.compare t (map (pair_of g) (drop i es)) ≡ map (pair_of g) (drop i es)
  from-here hit =
      ap (λ (xs : List (List ℕ)). pairs_from g.compare t (map (pair_of g) xs)) next
      ∙ cond-false (is_gt (g.compare t (g.leaf_key e))) _ _ hit
      ∙ sym (ap (λ (xs : List (List ℕ)). map (pair_of g) xs) next)
