-- AppleDouble files lie beside the things, each at a path of its own.
use Rattle.std.proofs.Common.{◌≡◌, ◌≢◌, ℕ, suc, ◌-◌, ◌<◌, ◌≤◌, Bool, true, false, ◌&&◌, ◌==◌, nat_le, if◌then◌else◌, List, [], ◌∷◌, ◌++◌, length, codes, refl, sym, ap, ◌∙◌, arith, inl, inr, ◌⊎◌}
use Rattle.std.specs.Prelude.{flat_map, slice_index}
use Rattle.std.proofs.lemmas.Bool.{true≢false, cases_Bool, and_parts, leb-true, ne_eqb}
use Rattle.std.proofs.lemmas.List.{append_assoc, append_cancel_left, map-append}
use Rattle.hfs_fields.specs.Order.{fold_letter, folded}
use Rattle.hfs_remains_places.specs.declared.things.Thing.{Thing}
use Rattle.hfs_remains_places.proofs.CaseLemmas.{stays}
use Rattle.hfs_remains_places.proofs.SlashLemmas.{has-slash, before-last, behind-last, slash-joined, before-joined, behind-joined}
use Rattle.hfs_remains_places.specs.Laws.{HaveOwnPlaces, HaveOwnDoubles, LeadsDown, double_of}

-- ---- characters that have no case

-- what folds to a character before the letters is that character
folds-back : (c low : ℕ) → low ≤ 64 → fold_letter c ≡ low → c ≡ low
folds-back c low small same =
    elim (cases_Bool (nat_le 97 c && nat_le c 122)) [
      | inl so ↦
          let first : 97 ≤ c = leb-true 97 c (and_parts (nat_le 97 c) (nat_le c 122) so).0 in
          let lower : fold_letter c ≡ c - 32 = ap (λ (b : Bool). if b then c - 32 else c) so in
          absurd (omega (arith, first, small, sym lower ∙ same))
      | inr other ↦ sym (stays c other) ∙ same
    ]

pub no-slash-by : (text : List ℕ) → ((k : ℕ) → k < length text → slice_index text k ≢ 47) → has-slash (folded text) ≡ false
no-slash-by [] none = refl
no-slash-by (c ∷ text) none =
    let first : (fold_letter c == 47) ≡ false = ne_eqb (fold_letter c) 47 (λ e. none 0 (omega arith) (folds-back c 47 (omega arith) e)) in
    ap (λ (b : Bool). if b then true else has-slash (folded text)) first ∙ no-slash-by text (λ k lt. none (suc k) (omega (arith, lt)))

-- ---- what stands before a last part

abbrev pub slashed : List ℕ → List ℕ
slashed part = part ++ codes "/"

-- nothing, or a text with a slash behind it
Ends : List ℕ → Type 0
Ends text = (text ≡ []) ⊎ ((front : List ℕ) × (text ≡ front ++ 47 ∷ []))

ends : (parts : List (List ℕ)) → Ends (folded (flat_map slashed parts))
unfolding Ends
ends [] = inl refl
ends (part ∷ parts) = by (ends parts)
  where
    whole : folded ((part ++ codes "/") ++ flat_map slashed parts) ≡ (folded part ++ 47 ∷ []) ++ folded (flat_map slashed parts)
    whole = map-append fold_letter (part ++ codes "/") (flat_map slashed parts) ∙ ap (λ (l : List ℕ). l ++ folded (flat_map slashed parts)) (map-append fold_letter part (codes "/"))

    by : (folded (flat_map slashed parts) ≡ []) ⊎ ((front : List ℕ) × (folded (flat_map slashed parts) ≡ front ++ 47 ∷ []))
        → (folded ((part ++ codes "/") ++ flat_map slashed parts) ≡ []) ⊎ ((front : List ℕ) × (folded ((part ++ codes "/") ++ flat_map slashed parts) ≡ front ++ 47 ∷ []))
    by (inl none) =
        inr (folded part, whole ∙ ap (λ (l : List ℕ). (folded part ++ 47 ∷ []) ++ l) none ∙ append_assoc (folded part) (47 ∷ []) [])
    by (inr some) =
        inr ((folded part ++ 47 ∷ []) ++ some.0, whole ∙ ap (λ (l : List ℕ). (folded part ++ 47 ∷ []) ++ l) some.1 ∙ sym (append_assoc (folded part ++ 47 ∷ []) some.0 (47 ∷ [])))

-- a path has one part above and one last part
record Parted (a b x y : List ℕ) : Type 0 where
  pub above : a ≡ b
  pub last : x ≡ y

no-slash-both : (a b x y : List ℕ) → has-slash x ≡ false → a ≡ [] → (front : List ℕ) → b ≡ front ++ 47 ∷ [] → a ++ x ≡ b ++ y → ⊥
no-slash-both a b x y none empty front is whole =
    let plain : x ≡ front ++ 47 ∷ y = ap (λ (l : List ℕ). l ++ x) (sym empty) ∙ whole ∙ ap (λ (l : List ℕ). l ++ y) is ∙ append_assoc front (47 ∷ []) y in
    true≢false (sym (slash-joined front y) ∙ sym (ap has-slash plain) ∙ none)

parted : (a b x y : List ℕ) → Ends a → Ends b → has-slash x ≡ false → has-slash y ≡ false → a ++ x ≡ b ++ y → Parted a b x y
unfolding Ends
parted a b x y (inl none) (inl empty) first second whole =
    record { above = none ∙ sym empty; last = ap (λ (l : List ℕ). l ++ x) (sym none) ∙ whole ∙ ap (λ (l : List ℕ). l ++ y) empty }
parted a b x y (inl none) (inr some) first second whole = absurd (no-slash-both a b x y first none some.0 some.1 whole)
parted a b x y (inr some) (inl none) first second whole = absurd (no-slash-both b a y x second none some.0 some.1 (sym whole))
parted a b x y (inr some) (inr other) first second whole =
    let e : some.0 ++ 47 ∷ x ≡ other.0 ++ 47 ∷ y =
    sym (append_assoc some.0 (47 ∷ []) x) ∙ ap (λ (l : List ℕ). l ++ x) (sym some.1) ∙ whole ∙ ap (λ (l : List ℕ). l ++ y) other.1 ∙ append_assoc other.0 (47 ∷ []) y in
    let fronts : some.0 ≡ other.0 = sym (before-joined some.0 x first) ∙ ap before-last e ∙ before-joined other.0 y second in
    record {
      above = some.1 ∙ ap (λ (l : List ℕ). l ++ 47 ∷ []) fronts ∙ sym other.1;
      last = sym (behind-joined some.0 x first) ∙ ap behind-last e ∙ behind-joined other.0 y second;
    }

-- ---- AppleDouble files

abbrev marked : List ℕ → List ℕ
marked part = 46 ∷ 95 ∷ part

first-point : (text rest : List ℕ) → folded text ≡ marked rest → slice_index text 0 ≡ 46
first-point [] rest same = absurd (omega (arith, ap length same))
first-point (c ∷ text) rest same = folds-back c 46 (omega arith) (ap (λ (l : List ℕ). slice_index l 0) same)

module _ {path other : List ℕ} (a : LeadsDown path) (b : LeadsDown other) where
  double-is : folded (double_of a) ≡ folded (flat_map slashed a.above) ++ marked (folded a.last)
  double-is = map-append fold_letter (flat_map slashed a.above) (codes "._" ++ a.last)

  path-is : folded other ≡ folded (flat_map slashed b.above) ++ folded b.last
  path-is = ap folded b.path_is ∙ map-append fold_letter (flat_map slashed b.above) b.last

  a-none : has-slash (folded a.last) ≡ false
  a-none = no-slash-by a.last a.last_is.no_slash

  b-none : has-slash (folded b.last) ≡ false
  b-none = no-slash-by b.last b.last_is.no_slash

  -- it is at no path that leads down
  double-apart : folded (double_of a) ≡ folded other → ⊥
  double-apart same =
      let two = parted (folded (flat_map slashed a.above)) (folded (flat_map slashed b.above)) (marked (folded a.last)) (folded b.last) (ends a.above) (ends b.above) a-none b-none (sym double-is ∙ same ∙ path-is) in
      b.last_is.no_point (first-point b.last (folded a.last) (sym two.last))

  -- two are of one path
  double-one : folded (double_of a) ≡ folded (double_of b) → folded path ≡ folded other
  double-one same =
      let second : folded (double_of b) ≡ folded (flat_map slashed b.above) ++ marked (folded b.last) = map-append fold_letter (flat_map slashed b.above) (codes "._" ++ b.last) in
      let two = parted (folded (flat_map slashed a.above)) (folded (flat_map slashed b.above)) (marked (folded a.last)) (marked (folded b.last)) (ends a.above) (ends b.above) a-none b-none (sym double-is ∙ same ∙ second) in
      let lasts : folded a.last ≡ folded b.last = append_cancel_left (46 ∷ 95 ∷ []) (folded a.last) (folded b.last) two.last in
      ap folded a.path_is
      ∙ map-append fold_letter (flat_map slashed a.above) a.last
      ∙ (λ t. two.above t ++ lasts t)
      ∙ sym path-is

pub own-doubles : (things : List Thing) → HaveOwnPlaces things → HaveOwnDoubles things
own-doubles things own i j a b first second = record {
  apart = double-apart a b;
  one = λ same. own i j first second (double-one a b same);
}
