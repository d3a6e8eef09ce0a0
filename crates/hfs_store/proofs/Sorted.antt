-- What is known of entries in name order, in that order.
use Rattle.std.proofs.Common.{◌≡◌, ℕ, suc, ◌+◌, ◌<◌, Bool, true, false, cond, not, List, [], ◌∷◌, length, get_or, map, take, refl, ◌∙◌, ap, arith, ltb, ◌≤◌, Some, None}
use Rattle.std.specs.List.{insert, position, position_or_len}
use Rattle.std.specs.Option.{unwrap_or}
use Rattle.std.proofs.lemmas.Bool.{ltb-false, eq-eqb, ne_eqb}
use Rattle.std.proofs.lemmas.List.{take_more}
use Rattle.std.proofs.lemmas.List.Sums.{prefix_len-le-length}
use Rattle.std.proofs.lemmas.Grind.{fold-append}
use Rattle.std.specs.Ordering.{is_gt}
use Rattle.hfs_fields.specs.Order.{name_cmp}
use Rattle.hfs_model.specs.Volume.{Entry}
use Rattle.hfs_model.specs.Children.{place, place_child, children}
use Rattle.hfs_model.specs.Replies.{info_of}
use Rattle.hfs_store.specs.Placing.{place_info, comes_after}

insert_behind : {A : Type 0} (x : A) (xs : List A) (n : ℕ) (y : A) → x ∷ insert xs n y ≡ insert (x ∷ xs) (1 + n) y
insert_behind x xs n y = ap (λ (k : ℕ). insert (x ∷ xs) k y) (after n)
  where
    after : (n : ℕ) → suc n ≡ 1 + n
    after n = omega arith

pub place_or_end : {A : Type 0} (p : A → Bool) (xs : List A) → unwrap_or (position p xs) (length xs) ≡ position_or_len p xs
place_or_end p xs = elim (ltb (position_or_len p xs) (length xs)) as (λ b. ltb (position_or_len p xs) (length xs) ≡ b → unwrap_or (cond b (Some (position_or_len p xs)) None) (length xs) ≡ position_or_len p xs) [
  | true ↦ λ e. refl
  | false ↦ λ e. same _ _ (ltb-false _ _ e) (prefix_len-le-length (λ x. not (p x)) xs)
] refl
  where
    same : (m n : ℕ) → m ≤ n → n ≤ m → m ≡ n
    same m n h g = omega arith

pub placed : (es : List Entry) (e : Entry) (cs : List Entry) → map (info_of es) (place e cs) ≡ place_info (info_of es e) (map (info_of es) cs)
unfolding info_of
placed es e [] = refl
placed es e (c ∷ cs) = elim (is_gt (name_cmp c.1.name e.1.name)) as (λ b. map (info_of es) (cond b (e ∷ c ∷ cs) (c ∷ place e cs)) ≡ insert (info_of es c ∷ map (info_of es) cs) (cond (not b) (1 + position_or_len (comes_after e.1.name) (map (info_of es) cs)) 0) (info_of es e)) [
  | true ↦ refl
  | false ↦ ap (λ l. info_of es c ∷ l) (placed es e cs) ∙ insert_behind (info_of es c) (map (info_of es) cs) _ (info_of es e)
]

children_more : (es : List Entry) (i : ℕ) (d : Entry) (dir : ℕ) → i < length es → children (take (i + 1) es) dir ≡ place_child dir (children (take i es) dir) (get_or es i d)
children_more es i d dir h = ap (λ (l : List Entry). children l dir) (take_more es i d h) ∙ fold-append (place_child dir) [] (take i es) (get_or es i d ∷ [])

module _ (es : List Entry) (i : ℕ) (d : Entry) (dir : ℕ) (h : i < length es) where
  pub one_more : (get_or es i d).1.parent ≡ dir → map (info_of es) (children (take (i + 1) es) dir) ≡ place_info (info_of es (get_or es i d)) (map (info_of es) (children (take i es) dir))
  one_more is = ap (map (info_of es)) (children_more es i d dir h ∙ ap (λ b. cond b (place (get_or es i d) (children (take i es) dir)) (children (take i es) dir)) (eq-eqb _ _ is)) ∙ placed es (get_or es i d) (children (take i es) dir)

  pub no_more : ((get_or es i d).1.parent ≡ dir → ⊥) → map (info_of es) (children (take (i + 1) es) dir) ≡ map (info_of es) (children (take i es) dir)
  no_more other = ap (map (info_of es)) (children_more es i d dir h ∙ ap (λ b. cond b (place (get_or es i d) (children (take i es) dir)) (children (take i es) dir)) (ne_eqb _ _ other))
