-- What things lie in has one path in whatever case its letters are.
use Rattle.std.proofs.Common.{◌≡◌, ◌⊎◌, inl, inr, ℕ, suc, ◌-◌, ◌^◌, ◌<◌, ◌≤◌, Bool, true, false, ◌&&◌, ◌==◌, nat_le, if◌then◌else◌, List, [], ◌∷◌, ◌++◌, length, length-append, append_assoc, append-nil, codes, refl, sym, ap, ◌∙◌, arith}
use Rattle.std.specs.Fmt.{decimal}
use Rattle.std.proofs.lemmas.Bool.{true≢false, and_parts, cases_Bool, leb-true, ne_eqb}
use Rattle.std.proofs.lemmas.List.{append_cancel_left}
use Rattle.hfs_fields.specs.Order.{fold_letter, folded}
use Rattle.hfs_texts.proofs.HostPathLemmas.{first-is, rest-is}
use Rattle.hfs_catalog.specs.Indexes.{is_place}
use Rattle.hfs_remains_places.specs.declared.things.Thing.{Thing}
use Rattle.hfs_remains_places.specs.Folders.{thing_at}
use Rattle.hfs_remains_places.specs.Paths.{entry_at, front_of, lost, lost_at, path, payload_path, root_of, within}
use Rattle.hfs_remains_places.proofs.PathLemmas.{up-is}
use Rattle.hfs_remains_places.proofs.CaseLemmas.{folded-decimal, stays}
use Rattle.hfs_remains_places.proofs.SlashLemmas.{has-slash, before-last, no-slash-decimal, slash-parts}
use Rattle.hfs_remains_places.proofs.MarkLemmas.{begins}
use Rattle.hfs_remains_places.specs.Laws.{AreThings, EndsThere, HaveOwnFolders, IsOver}
use Rattle.hfs_remains_places.proofs.NamedLemmas.{AreNamedOnce}
use Rattle.hfs_remains_places.proofs.ApartLemmas.{entry-slash}
use Rattle.hfs_remains_places.proofs.PlaceLemmas.{Lies, top, alone, inner, lies, by-paths, shorter, lost-folder, few-parent, no-slash-joined, not-lost, not-lost-folder, not-old, one-path}
use Rattle.hfs_remains_places.proofs.BelowLemmas.{split-last}

-- ---- slashes

slash-letter : (c : ℕ) → (fold_letter c == 47) ≡ (c == 47)
slash-letter c =
    elim (cases_Bool (nat_le 97 c && nat_le c 122)) [
      | inl so ↦
          let low : 97 ≤ c = leb-true 97 c (and_parts (nat_le 97 c) (nat_le c 122) so).0 in
          ap (λ (b : Bool). (if b then c - 32 else c) == 47) so ∙ ne_eqb (c - 32) 47 (λ e. absurd (omega (arith, e, low))) ∙ sym (ne_eqb c 47 (λ e. absurd (omega (arith, e, low))))
      | inr other ↦ ap (λ (d : ℕ). d == 47) (stays c other)
    ]

pub slash-folded : (text : List ℕ) → has-slash (folded text) ≡ has-slash text
slash-folded [] = refl
slash-folded (c ∷ text) = λ i. if slash-letter c i then true else slash-folded text i

-- a text behind a word and a slash is parted there, or behind it
abbrev pub Parted : List ℕ → List ℕ → List ℕ → List ℕ → Type 0
Parted word behind text rest = (text ≡ word) ⊎ ((body : List ℕ) × (text ≡ word ++ 47 ∷ body) × (behind ≡ body ++ 47 ∷ rest))

pub parted : (word behind text rest : List ℕ) → has-slash word ≡ false → word ++ 47 ∷ behind ≡ text ++ 47 ∷ rest → Parted word behind text rest
parted [] behind [] rest none same = inl refl
parted [] behind (d ∷ text) rest none same = inr (text, λ i. sym (first-is 47 d behind (text ++ 47 ∷ rest) same) i ∷ text, rest-is 47 d behind (text ++ 47 ∷ rest) same)
parted (c ∷ word) behind [] rest none same =
    absurd (true≢false (sym (ap (λ (d : ℕ). d == 47) (first-is c 47 (word ++ 47 ∷ behind) rest same)) ∙ (slash-parts (c == 47) (has-slash word) none).0))
parted (c ∷ word) behind (d ∷ text) rest none same =
    more (parted word behind text rest (slash-parts (c == 47) (has-slash word) none).1 (rest-is c d (word ++ 47 ∷ behind) (text ++ 47 ∷ rest) same))
  where
    head : d ≡ c
    head = sym (first-is c d (word ++ 47 ∷ behind) (text ++ 47 ∷ rest) same)

    more : Parted word behind text rest → Parted (c ∷ word) behind (d ∷ text) rest
    more (inl is) = inl (λ i. head i ∷ is i)
    more (inr (body, is, so)) = inr (body, λ i. head i ∷ is i, so)

-- ---- what things lie in

-- a folder's path, or a folder of things that are lost
data Above (things : List Thing) (text : List ℕ) : Type 0 where
  of-path : (p : ℕ) → p < length things → text ≡ path things p → Above things text
  of-lost : text ≡ codes "=lost" → Above things text
  of-number : (n : ℕ) → n < 2 ^ 64 → text ≡ codes "=lost/" ++ decimal n → Above things text

-- below the payload
data Over (things : List Thing) (text : List ℕ) : Type 0 where
  of-none : text ≡ [] → Over things text
  of-old : text ≡ codes "=old" → Over things text
  of-front : (old : Bool) (body : List ℕ) → text ≡ (if old then codes "=old/" else []) ++ body → Above things body → Over things text

folded-number : (n : ℕ) → n < 2 ^ 64 → folded (codes "=lost/" ++ decimal n) ≡ lost-folder n
folded-number n few = ap (λ (ds : List ℕ). codes "=LOST/" ++ ds) (folded-decimal n few)

module _ (things : List Thing) (are : AreThings things) (once : AreNamedOnce things) where
  no-entry-slash : (i : ℕ) → i < length things → has-slash (entry_at things i) ≡ false
  no-entry-slash i inside = sym (slash-folded (entry_at things i)) ∙ entry-slash things are i inside

  abbrev HasAbove : ℕ → Type 0
  HasAbove i = (text rest : List ℕ) → path things i ≡ text ++ 47 ∷ rest → Above things text

  in-number : (n : ℕ) (text rest : List ℕ) → n < 2 ^ 64 → codes "=lost/" ++ decimal n ≡ text ++ 47 ∷ rest → Above things text
  in-number n text rest few same = by (has-slash rest) refl
    where
      by : (b : Bool) → has-slash rest ≡ b → Above things text
      by true more = absurd (no-slash-joined things are (codes "=lost") text (before-last rest) refl (split-last things are once text (decimal n) (codes "=lost") rest (no-slash-decimal n few) same true more))
      by false last = of-lost (sym (split-last things are once text (decimal n) (codes "=lost") rest (no-slash-decimal n few) same false last))

  above-lost-thing : (i : ℕ) (text rest : List ℕ) → i < length things → path things i ≡ lost_at things i → path things i ≡ text ++ 47 ∷ rest → Above things text
  unfolding lost
  above-lost-thing i text rest inside is same = by (has-slash rest) refl
    where
      number : ℕ
      number = (thing_at things i).parent

      whole : (codes "=lost/" ++ decimal number) ++ 47 ∷ entry_at things i ≡ text ++ 47 ∷ rest
      whole = append_assoc (codes "=lost/") (decimal number) (47 ∷ entry_at things i) ∙ sym is ∙ same

      by : (b : Bool) → has-slash rest ≡ b → Above things text
      by true more =
          in-number number text (before-last rest) (few-parent things are i inside)
          (split-last things are once text (entry_at things i) (codes "=lost/" ++ decimal number) rest (no-entry-slash i inside) whole true more)
      by false last =
          of-number number (few-parent things are i inside)
          (sym (split-last things are once text (entry_at things i) (codes "=lost/" ++ decimal number) rest (no-entry-slash i inside) whole false last))

  above-inner : (i p : ℕ) (text rest : List ℕ) → i < length things → p < length things → path things i ≡ within (path things p) (entry_at things i) → HasAbove p
      → path things i ≡ text ++ 47 ∷ rest → Above things text
  unfolding within
  above-inner i p text rest inside above is fewer same = by (has-slash rest) refl
    where
      whole : path things p ++ 47 ∷ entry_at things i ≡ text ++ 47 ∷ rest
      whole = sym is ∙ same

      by : (b : Bool) → has-slash rest ≡ b → Above things text
      by true more = fewer text (before-last rest) (split-last things are once text (entry_at things i) (path things p) rest (no-entry-slash i inside) whole true more)
      by false last = of-path p above (sym (split-last things are once text (entry_at things i) (path things p) rest (no-entry-slash i inside) whole false last))

  above-path : (i : ℕ) → i < length things → HasAbove i
  above-path = by-paths things HasAbove (λ i inside fewer. by i inside fewer (lies things i))
    where
      by : (i : ℕ) → i < length things → ((p : ℕ) → p < length things → length (path things p) < length (path things i) → HasAbove p) → Lies things i → HasAbove i
      by i inside fewer (top two is) text rest same = absurd (no-slash-joined things are (entry_at things i) text rest (no-entry-slash i inside) (sym is ∙ same))
      by i inside fewer (alone is) text rest same = above-lost-thing i text rest inside is same
      by i inside fewer (inner p up is) text rest same =
          let above = (up-is things i p up).below in
          above-inner i p text rest inside above is (fewer p above (shorter things i p is)) same

  -- ---- one in each case of letters

  one-above : (a b : List ℕ) → Above things a → Above things b → folded a ≡ folded b → a ≡ b
  one-above a b (of-path p inside is) (of-path q within so) same =
      is ∙ ap (path things) (one-path things are once p inside q within (ap folded (sym is) ∙ same ∙ ap folded so)) ∙ sym so
  one-above a b (of-path p inside is) (of-lost so) same = absurd (not-lost things are p inside (ap folded (sym is) ∙ same ∙ ap folded so))
  one-above a b (of-path p inside is) (of-number n few so) same = absurd (not-lost-folder things are p n inside few (ap folded (sym is) ∙ same ∙ ap folded so ∙ folded-number n few))
  one-above a b (of-lost is) (of-path q within so) same = absurd (not-lost things are q within (ap folded (sym so) ∙ sym same ∙ ap folded is))
  one-above a b (of-lost is) (of-lost so) same = is ∙ sym so
  one-above a b (of-lost is) (of-number n few so) same =
      let long : codes "=LOST" ≡ lost-folder n = ap folded (sym is) ∙ same ∙ ap folded so ∙ folded-number n few in
      absurd (omega (arith, ap length long, length-append (codes "=LOST/") (decimal n)))
  one-above a b (of-number n few is) (of-path q within so) same = absurd (not-lost-folder things are q n within few (ap folded (sym so) ∙ sym same ∙ ap folded is ∙ folded-number n few))
  one-above a b (of-number n few is) (of-lost so) same =
      let long : codes "=LOST" ≡ lost-folder n = ap folded (sym so) ∙ sym same ∙ ap folded is ∙ folded-number n few in
      absurd (omega (arith, ap length long, length-append (codes "=LOST/") (decimal n)))
  one-above a b (of-number n few is) (of-number m less so) same =
      let long : lost-folder n ≡ lost-folder m = sym (folded-number n few) ∙ ap folded (sym is) ∙ same ∙ ap folded so ∙ folded-number m less in
      is ∙ ap (λ (ds : List ℕ). codes "=lost/" ++ ds) (append_cancel_left (codes "=LOST/") (decimal n) (decimal m) long) ∙ sym so

  above-not-old : (text : List ℕ) → Above things text → begins 79 (folded text) ≡ false
  above-not-old text (of-path p inside is) = ap (λ (t : List ℕ). begins 79 (folded t)) is ∙ not-old things are p inside
  above-not-old text (of-lost is) = ap (λ (t : List ℕ). begins 79 (folded t)) is
  above-not-old text (of-number n few is) = ap (λ (t : List ℕ). begins 79 (folded t)) is ∙ ap (begins 79) (folded-number n few)

  folded-over : (old : Bool) (body : List ℕ) → folded ((if old then codes "=old/" else []) ++ body) ≡ (if old then codes "=OLD/" else []) ++ folded body
  folded-over true body = refl
  folded-over false body = refl

  one-front : (old other : Bool) (a b : List ℕ) → Above things a → Above things b → (if old then codes "=OLD/" else []) ++ folded a ≡ (if other then codes "=OLD/" else []) ++ folded b
      → (if old then codes "=old/" else []) ++ a ≡ (if other then codes "=old/" else []) ++ b
  one-front true true a b first second same = ap (λ (t : List ℕ). codes "=old/" ++ t) (one-above a b first second (append_cancel_left (codes "=OLD/") (folded a) (folded b) same))
  one-front false false a b first second same = one-above a b first second same
  one-front true false a b first second same = absurd (true≢false (ap (begins 79) same ∙ above-not-old b second))
  one-front false true a b first second same = absurd (true≢false (ap (begins 79) (sym same) ∙ above-not-old a first))

  old-alone : (old : Bool) (body : List ℕ) → Above things body → codes "=OLD" ≡ (if old then codes "=OLD/" else []) ++ folded body → ⊥
  old-alone true body above same = absurd (omega (arith, ap length same, length-append (codes "=OLD/") (folded body)))
  old-alone false body above same = true≢false (ap (begins 79) same ∙ above-not-old body above)

  length-folded : (text : List ℕ) → length (folded text) ≡ length text
  length-folded [] = refl
  length-folded (c ∷ text) = ap suc (length-folded text)

  none-folded : (a b : List ℕ) → a ≡ [] → folded a ≡ folded b → a ≡ b
  none-folded a [] none same = none
  none-folded a (c ∷ b) none same = absurd (omega (arith, ap length none, ap length same, length-folded a))

  one-over : (a b : List ℕ) → Over things a → Over things b → folded a ≡ folded b → a ≡ b
  one-over a b (of-none is) over same = none-folded a b is same
  one-over a b (of-old is) (of-none so) same = sym (none-folded b a so (sym same))
  one-over a b (of-front old body is above) (of-none so) same = sym (none-folded b a so (sym same))
  one-over a b (of-old is) (of-old so) same = is ∙ sym so
  one-over a b (of-old is) (of-front other body so above) same = absurd (old-alone other body above (ap folded (sym is) ∙ same ∙ ap folded so ∙ folded-over other body))
  one-over a b (of-front old body is above) (of-old so) same = absurd (old-alone old body above (ap folded (sym so) ∙ sym same ∙ ap folded is ∙ folded-over old body))
  one-over a b (of-front old x is first) (of-front other y so second) same =
      is ∙ one-front old other x y first second (sym (folded-over old x) ∙ ap folded (sym is) ∙ same ∙ ap folded so ∙ folded-over other y) ∙ sym so

  -- ---- at a thing's path, or above it

  over-by : (i : ℕ) (text below : List ℕ) → i < length things → (b : Bool) → (if b then [] else front_of (thing_at things i) ++ path things i) ≡ text ++ below → EndsThere below → Over things text
  over-by i text [] inside true is ends = of-none (sym (is ∙ append-nil text))
  over-by i text (c ∷ below) inside true is ends = absurd (omega (arith, ap length is, length-append text (c ∷ below)))
  over-by i text [] inside false is ends = of-front (thing_at things i).old (path things i) (sym (is ∙ append-nil text)) (of-path i inside refl)
  over-by i text (c ∷ below) inside false is ends = by (thing_at things i).old (is ∙ ap (λ (d : ℕ). text ++ d ∷ below) ends)
    where
      split : Parted (codes "=old") (path things i) text below → Over things text
      split (inl so) = of-old so
      split (inr (body, so, rest)) = of-front true body so (above-path i inside body below rest)

      by : (old : Bool) → (if old then codes "=old/" else []) ++ path things i ≡ text ++ 47 ∷ below → Over things text
      by true same = split (parted (codes "=old") (path things i) text below refl same)
      by false same = of-front false text refl (above-path i inside text below same)

  over : (text : List ℕ) → IsOver things text → Over things text
  unfolding payload_path
  over text (i, inside, below, is, ends) = over-by i text below inside (is_place (root_of things) i) is ends

  pub own-folders : HaveOwnFolders things
  own-folders a b first second same = one-over a b (over a first) (over b second) same
