-- Whatever is the same name as an item's is an item's name.
use Rattle.std.proofs.Common.{◌≡◌, ◌≢◌, ◌⊎◌, inl, inr, ℕ, ◌-◌, ◌<◌, ◌≤◌, Bool, true, cond, not, List, [], ◌∷◌, length, refl, sym, ap, ◌∙◌, arith, eqb, leb}
use Rattle.std.specs.Prelude.{◌&&◌}
use Rattle.std.specs.List.{list_all}
use Rattle.std.specs.declared.cmp.Ordering.{Ordering}
use Rattle.std.specs.declared.cmp.Ordering.TheVariants.{Less, Equal, Greater}
use Rattle.std.specs.Ordering.{is_eq}
use Rattle.std.proofs.lemmas.Bool.{and_from, and_parts, eq-eqb, ne_eqb, le-leb, leb-true, true≢false}
use Rattle.std.proofs.lemmas.Bool.Decides.{leb_tells}
use Rattle.std.proofs.lemmas.List.{length-map}
use Rattle.hfs_fields.specs.Names.{is_item_name, is_name_character}
use Rattle.hfs_fields.specs.Order.{fold_letter, folded, name_cmp, name_order, same_name}

level : (o : Ordering) → is_eq o ≡ true → o ≡ Equal
level Equal e = refl
level Less e = absurd (true≢false (sym e))
level Greater e = absurd (true≢false (sym e))

-- ---- one character

record IsPlain (c : ℕ) : Type 0 where
  least : 32 ≤ c
  most : c ≤ 126
  no_colon : c ≢ 58
  no_grave : c ≢ 96

plain-is : (c : ℕ) → IsPlain c → is_name_character c ≡ true
plain-is c p =
    and_from (leb 32 c && leb c 126 && not (eqb c 58)) (not (eqb c 96))
    (and_from (leb 32 c && leb c 126) (not (eqb c 58))
    (and_from (leb 32 c) (leb c 126) (le-leb 32 c p.least) (le-leb c 126 p.most)) (ap not (ne_eqb c 58 p.no_colon)))
    (ap not (ne_eqb c 96 p.no_grave))

unequal : (c d : ℕ) → not (eqb c d) ≡ true → c ≢ d
unequal c d e same = true≢false (sym e ∙ ap not (eq-eqb c d same))

is-plain : (c : ℕ) → is_name_character c ≡ true → IsPlain c
is-plain c e =
    let all = and_parts (leb 32 c && leb c 126 && not (eqb c 58)) (not (eqb c 96)) e in
    let most = and_parts (leb 32 c && leb c 126) (not (eqb c 58)) all.0 in
    let range = and_parts (leb 32 c) (leb c 126) most.0 in
    record { least = leb-true 32 c range.0; most = leb-true c 126 range.1; no_colon = unequal c 58 most.1; no_grave = unequal c 96 all.1 }

-- what a character folds to
abbrev Folds : ℕ → Type 0
Folds c = ((97 ≤ c) × (c ≤ 122) × (fold_letter c ≡ c - 32)) ⊎ (((c < 97) ⊎ (122 < c)) × (fold_letter c ≡ c))

folds : (c : ℕ) → Folds c
folds c = elim (leb_tells 97 c) [
  | inl low ↦ elim (leb_tells c 122) [
    | inl high ↦ inl (low.1, high.1, ap (λ (b : Bool). cond b (c - 32) c) (and_from (leb 97 c) (leb c 122) low.0 high.0))
    | inr above ↦ inr (inr above.1, ap (λ (b : Bool). cond b (c - 32) c) ((λ i. low.0 i && above.0 i)))
  ]
  | inr below ↦ inr (inl below.1, ap (λ (b : Bool). cond (b && leb c 122) (c - 32) c) below.0)
]

character-kept : (x y : ℕ) → fold_letter x ≡ fold_letter y → is_name_character x ≡ true → is_name_character y ≡ true
character-kept x y same e = plain-is y (by (folds x) (folds y))
  where
    by : Folds x → Folds y → IsPlain y
    by (inl a) (inl b) = record { least = omega (arith, b.0); most = omega (arith, b.1); no_colon = λ f. omega (arith, b.0, f); no_grave = λ f. omega (arith, b.0, f) }
    by (inl a) (inr b) =
        let is : x - 32 ≡ y = sym a.2 ∙ same ∙ b.1 in
        record {
          least = omega (arith, is, a.0);
          most = omega (arith, is, a.1);
          no_colon = λ f. omega (arith, is, a.0, f);
          no_grave = λ f. omega (arith, is, a.1, f);
        }
    by (inr a) (inl b) = record { least = omega (arith, b.0); most = omega (arith, b.1); no_colon = λ f. omega (arith, b.0, f); no_grave = λ f. omega (arith, b.0, f) }
    by (inr a) (inr b) =
        let is : x ≡ y = sym a.1 ∙ same ∙ b.1 in
        let p = is-plain x e in
        record {
          least = omega (arith, is, p.least);
          most = omega (arith, is, p.most);
          no_colon = λ f. p.no_colon (is ∙ f);
          no_grave = λ f. p.no_grave (is ∙ f);
        }

-- ---- all of them

characters-kept : (xs ys : List ℕ) → folded xs ≡ folded ys → list_all is_name_character xs ≡ true → list_all is_name_character ys ≡ true
characters-kept [] [] same e = refl
characters-kept [] (y ∷ ys) same e = absurd (cc same)
characters-kept (x ∷ xs) [] same e = absurd (cc same)
characters-kept (x ∷ xs) (y ∷ ys) same e =
    let parts = and_parts (is_name_character x) (list_all is_name_character xs) e in
    let head : fold_letter x ≡ fold_letter y = cc same in
    let tail : folded xs ≡ folded ys = cc same in
    and_from (is_name_character y) (list_all is_name_character ys) (character-kept x y head parts.0) (characters-kept xs ys tail parts.1)

pub name-kept : (x y : List ℕ) → same_name x y ≡ true → is_item_name x ≡ true → is_item_name y ≡ true
name-kept x y same e =
    let folds : folded x ≡ folded y = (name_order.equal_folded x y).0 (level (name_cmp x y) same) in
    let long : length x ≡ length y = sym (length-map x fold_letter) ∙ ap length folds ∙ length-map y fold_letter in
    let all = and_parts (leb 1 (length x) && leb (length x) 31) (list_all is_name_character x) e in
    let range = and_parts (leb 1 (length x)) (leb (length x) 31) all.0 in
    and_from (leb 1 (length y) && leb (length y) 31) (list_all is_name_character y)
    (and_from (leb 1 (length y)) (leb (length y) 31) (ap (leb 1) (sym long) ∙ range.0) (ap (λ (n : ℕ). leb n 31) (sym long) ∙ range.1))
    (characters-kept x y folds all.1)
