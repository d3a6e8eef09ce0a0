-- The paths of a bag.
use Rattle.std.proofs.Common.{◌≡◌, ◌≢◌, ℕ, ◌≤◌, ◌-◌, Bool, true, false, not, ◌&&◌, ◌==◌, List, [], ◌∷◌, ◌++◌, codes, refl, sym, ap, ◌∙◌, subst, Option, Some, None, if◌then◌else◌, nat_le, arith}
use Rattle.std.specs.Prelude.{⊤}
use Rattle.std.proofs.lemmas.List.{map-append}
use Rattle.std.proofs.lemmas.Bool.{and_parts, eq-eqb, leb-true}
use Rattle.hfs_fields.specs.Order.{fold_letter, folded}
use Rattle.hfs_bag.specs.Entries.{ShelfEntry}
use Rattle.hfs_bag.specs.declared.facts.BagFacts.{BagFacts}
use Rattle.hfs_bag.specs.declared.item.BagKind.{BagKind}
use Rattle.hfs_bag.specs.declared.item.BagKind.TheVariants as kind
use Rattle.hfs_bag.specs.Items.{BagItem, double_path, entries_of_kind, item_entries, item_path}
use Rattle.hfs_bag.specs.Bags.{items_entries, payload}
use Rattle.hfs_bag.specs.Sources.{BagTables}
use Rattle.hfs_bag.specs.Tags.{bag_of, declaration_file, info_file, remains_files, report_file, tag_files, tag_manifest_file}
use Rattle.hfs_bag.specs.Laws.{AllDiffer, AreInside, AreParts, ArePlaced, ArePlain, DifferInPath, HasDouble, HasNo, HasOwn, IsApart, IsInside, IsNoneOf, IsPart, IsPlaced, IsPlain, entry_path, folder_path}

-- ---- numbers

abbrev IsTrueBool : Bool → Type 0
IsTrueBool true = ⊤
IsTrueBool false = ⊥

not_same : (c byte : ℕ) → not (c == byte) ≡ true → c ≢ byte
not_same c byte other e = subst IsTrueBool (sym other ∙ ap not (eq-eqb c byte e)) tt

-- ---- folding

fold_if : (b : Bool) (c : ℕ) → (b ≡ true → 97 ≤ c) → (stays : ℕ) → stays ≤ 64 → (if b then c - 32 else c) ≡ stays → c ≡ stays
fold_if true c low stays small e = let high : 97 ≤ c = low refl in absurd (omega (arith, high, small, e))
fold_if false c low stays small e = e

-- what folds to a character before the letters is that character
fold-small : (c stays : ℕ) → stays ≤ 64 → fold_letter c ≡ stays → c ≡ stays
fold-small c stays small e = fold_if (nat_le 97 c && nat_le c 122) c (λ t. leb-true 97 c (and_parts (nat_le 97 c) (nat_le c 122) t).0) stays small e

-- ---- parts

-- a text that is empty or ends with a slash
abbrev IsAbove : List ℕ → Type 0
IsAbove [] = ⊤
IsAbove (c ∷ []) = c ≡ 47
IsAbove (c ∷ d ∷ rest) = IsAbove (d ∷ rest)

above_behind : (c : ℕ) (rest : List ℕ) → IsAbove (c ∷ rest) → IsAbove rest
above_behind c [] above = tt
above_behind c (d ∷ rest) above = above

-- what lies in a folder has its slash
slash_there : (c : ℕ) (rest part : List ℕ) → IsAbove (c ∷ rest) → HasNo 47 ((c ∷ rest) ++ part) → ⊥
slash_there c [] part above none = none.0 above
slash_there c (d ∷ rest) part above none = slash_there d rest part above none.1

abbrev pub first_of : List ℕ → ℕ
first_of [] = 0
first_of (c ∷ rest) = c

abbrev pub behind_first : List ℕ → List ℕ
behind_first [] = []
behind_first (c ∷ rest) = rest

-- a path has one folder and one name in it
same_parts : (a b x y : List ℕ) → IsAbove a → IsAbove b → HasNo 47 x → HasNo 47 y → a ++ x ≡ b ++ y → (a ≡ b) × (x ≡ y)
same_parts [] [] x y a-above b-above x-none y-none e = (refl, e)
same_parts [] (d ∷ b) x y a-above b-above x-none y-none e = absurd (slash_there d b y b-above (subst (HasNo 47) e x-none))
same_parts (c ∷ a) [] x y a-above b-above x-none y-none e = absurd (slash_there c a x a-above (subst (HasNo 47) (sym e) y-none))
same_parts (c ∷ a) (d ∷ b) x y a-above b-above x-none y-none e =
    let behind = same_parts a b x y (above_behind c a a-above) (above_behind d b b-above) x-none y-none (ap behind_first e) in
    let first : c ≡ d = ap first_of e in
    (ap (λ (k : ℕ). k ∷ a) first ∙ ap (λ (k : List ℕ). d ∷ k) behind.0, behind.1)

-- folding keeps slashes where they are
folded-none : (text : List ℕ) → HasNo 47 text → HasNo 47 (folded text)
folded-none [] none = tt
folded-none (c ∷ rest) none = (λ e. none.0 (fold-small c 47 (omega arith) e), folded-none rest none.1)

folded-above : (text : List ℕ) → IsAbove text → IsAbove (folded text)
folded-above [] above = tt
folded-above (c ∷ []) above = ap fold_letter above
folded-above (c ∷ d ∷ rest) above = folded-above (d ∷ rest) above

above_slash : (text : List ℕ) → IsAbove (text ++ 47 ∷ [])
above_slash [] = refl
above_slash (c ∷ []) = refl
above_slash (c ∷ d ∷ rest) = above_slash (d ∷ rest)

above_more : (text rest : List ℕ) → IsAbove rest → IsAbove (text ++ 47 ∷ []) → IsAbove ((text ++ 47 ∷ []) ++ rest)
above_more [] [] behind above = above
above_more [] (d ∷ rest) behind above = behind
above_more (c ∷ []) [] behind above = above
above_more (c ∷ []) (d ∷ rest) behind above = behind
above_more (c ∷ d ∷ text) rest behind above = above_more (d ∷ text) rest behind above

folder_path-above : (parts : List (List ℕ)) → IsAbove (folder_path parts)
folder_path-above [] = tt
folder_path-above (part ∷ rest) = above_more part (folder_path rest) (folder_path-above rest) (above_slash part)

item_above : (item : BagItem) → IsPlaced item → IsAbove item.above
item_above item placed = subst IsAbove (sym placed.above_is) (folder_path-above placed.folders)

-- ---- the paths of two items

-- both with this mark, of which neither has a slash
paths_alike : (a b : BagItem) (x y : List ℕ) → IsPlaced a → IsPlaced b → HasNo 47 x → HasNo 47 y
    → folded (codes "data/" ++ (a.above ++ x)) ≡ folded (codes "data/" ++ (b.above ++ y)) → (folded a.above ≡ folded b.above) × (folded x ≡ folded y)
paths_alike a b x y a-placed b-placed x-none y-none e =
    let five : (text : List ℕ) → List ℕ = λ text. behind_first (behind_first (behind_first (behind_first (behind_first text)))) in
    let behind : folded (a.above ++ x) ≡ folded (b.above ++ y) = ap five e in
    same_parts (folded a.above) (folded b.above) (folded x) (folded y) (folded-above a.above (item_above a a-placed)) (folded-above b.above (item_above b b-placed))
    (folded-none x x-none) (folded-none y y-none)
    (sym (map-append fold_letter a.above x) ∙ behind ∙ map-append fold_letter b.above y)

marked-none : (name : List ℕ) → HasNo 47 name → HasNo 47 (codes "._" ++ name)
marked-none name none = (λ e. absurd (omega (arith, e)), (λ e. absurd (omega (arith, e)), none))

-- two data forks, or folders
apart_items : (a b : BagItem) → IsPlaced a → IsPlaced b → DifferInPath a b → folded (item_path a) ≢ folded (item_path b)
apart_items a b a-placed b-placed apart e =
    let parts = paths_alike a b a.name b.name a-placed b-placed a-placed.name_is.part.no_slash b-placed.name_is.part.no_slash e in
    apart (map-append fold_letter a.above a.name ∙ ap (λ (xs : List ℕ). xs ++ folded a.name) parts.0 ∙ ap (λ (xs : List ℕ). folded b.above ++ xs) parts.1 ∙ sym (map-append fold_letter b.above b.name))

-- two AppleDouble files
apart_doubles : (a b : BagItem) → IsPlaced a → IsPlaced b → DifferInPath a b → folded (double_path a) ≢ folded (double_path b)
apart_doubles a b a-placed b-placed apart e =
    let parts = paths_alike a b (codes "._" ++ a.name) (codes "._" ++ b.name) a-placed b-placed
    (marked-none a.name a-placed.name_is.part.no_slash) (marked-none b.name b-placed.name_is.part.no_slash) e in
    let names : folded a.name ≡ folded b.name = ap (λ (text : List ℕ). behind_first (behind_first text)) parts.1 in
    apart (map-append fold_letter a.above a.name ∙ ap (λ (xs : List ℕ). xs ++ folded a.name) parts.0 ∙ ap (λ (xs : List ℕ). folded b.above ++ xs) names ∙ sym (map-append fold_letter b.above b.name))

-- a name that begins with no point is no AppleDouble file's
no_double : (name other : List ℕ) → IsPlain name → folded name ≡ folded (codes "._" ++ other) → ⊥
no_double [] other plain e = plain.part.not_empty refl
no_double (c ∷ rest) other plain e = plain.no_point (fold-small c 46 (omega arith) (ap first_of e))

apart_double : (a b : BagItem) → IsPlaced a → IsPlaced b → folded (item_path a) ≢ folded (double_path b)
apart_double a b a-placed b-placed e =
    let parts = paths_alike a b a.name (codes "._" ++ b.name) a-placed b-placed a-placed.name_is.part.no_slash (marked-none b.name b-placed.name_is.part.no_slash) e in
    no_double a.name b.name a-placed.name_is parts.1

-- ---- rows of entries

abbrev AreNoneOf : List ShelfEntry → List ShelfEntry → Type 0
AreNoneOf [] ys = ⊤
AreNoneOf (x ∷ xs) ys = IsNoneOf (entry_path x) ys × AreNoneOf xs ys

none_appended : (path : List ℕ) (xs ys : List ShelfEntry) → IsNoneOf path xs → IsNoneOf path ys → IsNoneOf path (xs ++ ys)
none_appended path [] ys first second = second
none_appended path (x ∷ xs) ys first second = (first.0, none_appended path xs ys first.1 second)

differ_appended : (xs ys : List ShelfEntry) → AllDiffer xs → AllDiffer ys → AreNoneOf xs ys → AllDiffer (xs ++ ys)
differ_appended [] ys first second apart = second
differ_appended (x ∷ xs) ys first second apart = (none_appended (entry_path x) xs ys first.0 apart.0, differ_appended xs ys first.1 second apart.1)

inside_appended : (xs ys : List ShelfEntry) → AreInside xs → AreInside ys → AreInside (xs ++ ys)
inside_appended [] ys first second = second
inside_appended (x ∷ xs) ys first second = (first.0, inside_appended xs ys first.1 second)

none_of_kind : (k : BagKind) (path : List ℕ) (other : BagItem) → (HasOwn k → folded path ≢ folded (item_path other)) → (HasDouble k → folded path ≢ folded (double_path other))
    → IsNoneOf path (entries_of_kind k other)
none_of_kind kind.File path other first second = (first tt, (second tt, tt))
none_of_kind kind.Folder path other first second = (second tt, (first tt, tt))
none_of_kind kind.FolderAlone path other first second = (first tt, tt)
none_of_kind kind.DoubleAlone path other first second = (second tt, tt)

item_none : (item : BagItem) (rest : List BagItem) → HasOwn item.kind → IsPlaced item → IsApart item rest → ArePlaced rest → IsNoneOf (item_path item) (items_entries rest)
item_none item [] own placed apart others = tt
item_none item (other ∷ rest) own placed apart others =
    none_appended (item_path item) (item_entries other) (items_entries rest)
    (none_of_kind other.kind (item_path item) other (λ other_own. apart_items item other placed others.0 (apart.0.own own other_own)) (λ double. apart_double item other placed others.0))
    (item_none item rest own placed apart.1 others.2)

double_none : (item : BagItem) (rest : List BagItem) → HasDouble item.kind → IsPlaced item → IsApart item rest → ArePlaced rest → IsNoneOf (double_path item) (items_entries rest)
double_none item [] double placed apart others = tt
double_none item (other ∷ rest) double placed apart others =
    none_appended (double_path item) (item_entries other) (items_entries rest)
    (none_of_kind other.kind (double_path item) other (λ own e. apart_double other item others.0 placed (sym e)) (λ other_double. apart_doubles item other placed others.0 (apart.0.doubles double other_double)))
    (double_none item rest double placed apart.1 others.2)

differ_of_kind : (k : BagKind) (item : BagItem) → IsPlaced item → AllDiffer (entries_of_kind k item)
differ_of_kind kind.File item placed = ((apart_double item item placed placed, tt), (tt, tt))
differ_of_kind kind.Folder item placed = ((λ e. apart_double item item placed placed (sym e), tt), (tt, tt))
differ_of_kind kind.FolderAlone item placed = (tt, tt)
differ_of_kind kind.DoubleAlone item placed = (tt, tt)

apart_of_kind : (k : BagKind) (item : BagItem) (ys : List ShelfEntry) → (HasOwn k → IsNoneOf (item_path item) ys) → (HasDouble k → IsNoneOf (double_path item) ys) → AreNoneOf (entries_of_kind k item) ys
apart_of_kind kind.File item ys first second = (first tt, (second tt, tt))
apart_of_kind kind.Folder item ys first second = (second tt, (first tt, tt))
apart_of_kind kind.FolderAlone item ys first second = (first tt, tt)
apart_of_kind kind.DoubleAlone item ys first second = (second tt, tt)

items_differ : (items : List BagItem) → ArePlaced items → AllDiffer (items_entries items)
items_differ [] placed = tt
items_differ (item ∷ rest) placed =
    differ_appended (item_entries item) (items_entries rest) (differ_of_kind item.kind item placed.0) (items_differ rest placed.2)
    (apart_of_kind item.kind item (items_entries rest) (λ own. item_none item rest own placed.0 placed.1 placed.2) (λ double. double_none item rest double placed.0 placed.1 placed.2))

-- ---- the payload's folder

abbrev IsEmpty : List ℕ → Type 0
IsEmpty [] = ⊤
IsEmpty (c ∷ rest) = ⊥

folder_not : (text : List ℕ) → folded (codes "data") ≢ folded (codes "data/" ++ text)
folder_not text e = subst IsEmpty (ap (λ (path : List ℕ). behind_first (behind_first (behind_first (behind_first path)))) e) tt

folder_none : (items : List BagItem) → IsNoneOf (codes "data") (items_entries items)
folder_none [] = tt
folder_none (item ∷ rest) =
    none_appended (codes "data") (item_entries item) (items_entries rest)
    (none_of_kind item.kind (codes "data") item (λ own. folder_not (item.above ++ item.name)) (λ double. folder_not (item.above ++ (codes "._" ++ item.name))))
    (folder_none rest)

payload_differ : (items : List BagItem) → ArePlaced items → AllDiffer (payload items)
payload_differ items placed = (folder_none items, items_differ items placed)

-- ---- the tag files

other_first : (a b : List ℕ) → first_of (folded a) ≢ first_of (folded b) → folded a ≢ folded b
other_first a b other e = other (ap first_of e)

module _ (items : List BagItem) (tables : BagTables) (facts : BagFacts) where
  -- the tag files behind the tables
  abbrev behind_tables : List ShelfEntry
  behind_tables = report_file facts ∷ info_file items facts ∷ declaration_file ∷ tag_manifest_file items tables facts ∷ []

  below_remains : (text : List ℕ) (remains : Option (List ℕ)) → IsNoneOf (codes "data" ++ text) (remains_files remains)
  below_remains text None = tt
  below_remains text (Some told) = (other_first (codes "data" ++ text) (codes "rescue.tsv") (not_same _ _ refl), tt)

  -- what begins as the payload's folder does is none of them
  below_none : (text : List ℕ) → IsNoneOf (codes "data" ++ text) (tag_files items tables facts)
  below_none text = (
    other_first (codes "data" ++ text) (codes "manifest-sha256.txt") (not_same _ _ refl),
    (
      other_first (codes "data" ++ text) (codes "items.csv") (not_same _ _ refl),
      none_appended (codes "data" ++ text) (remains_files tables.remains) behind_tables (below_remains text tables.remains) (
        other_first (codes "data" ++ text) (codes "volume.txt") (not_same _ _ refl),
        (
          other_first (codes "data" ++ text) (codes "bag-info.txt") (not_same _ _ refl),
          (
            other_first (codes "data" ++ text) (codes "bagit.txt") (not_same _ _ refl),
            (other_first (codes "data" ++ text) (codes "tagmanifest-sha256.txt") (not_same _ _ refl), tt),
          ),
        ),
      ),
    ),
  )

  items_none : (rest : List BagItem) → AreNoneOf (items_entries rest) (tag_files items tables facts)
  items_none [] = tt
  items_none (item ∷ rest) = none_both (item_entries item) (items_entries rest)
      (apart_of_kind item.kind item (tag_files items tables facts) (λ own. below_none (codes "/" ++ (item.above ++ item.name))) (λ double. below_none (codes "/" ++ (item.above ++ (codes "._" ++ item.name)))))
      (items_none rest)
    where
      none_both : (xs ys : List ShelfEntry) → AreNoneOf xs (tag_files items tables facts) → AreNoneOf ys (tag_files items tables facts) → AreNoneOf (xs ++ ys) (tag_files items tables facts)
      none_both [] ys first second = second
      none_both (x ∷ xs) ys first second = (first.0, none_both xs ys first.1 second)

  payload_none : AreNoneOf (payload items) (tag_files items tables facts)
  payload_none = (below_none [], items_none items)

  abbrev fourth : List ℕ → ℕ
  fourth text = first_of (behind_first (behind_first (behind_first text)))

  info_declared : folded (codes "bag-info.txt") ≢ folded (codes "bagit.txt")
  info_declared e = not_same (fourth (folded (codes "bag-info.txt"))) (fourth (folded (codes "bagit.txt"))) refl (ap fourth e)

  -- a path that begins otherwise than those of the tag files behind the tables
  none_behind : (path : List ℕ) → first_of (folded path) ≢ first_of (folded (codes "volume.txt")) → first_of (folded path) ≢ first_of (folded (codes "bag-info.txt"))
      → first_of (folded path) ≢ first_of (folded (codes "tagmanifest-sha256.txt")) → IsNoneOf path behind_tables
  none_behind path report info last = (
    other_first path (codes "volume.txt") report,
    (other_first path (codes "bag-info.txt") info, (other_first path (codes "bagit.txt") info, (other_first path (codes "tagmanifest-sha256.txt") last, tt))),
  )

  behind_differ : AllDiffer behind_tables
  behind_differ = (
    (
      other_first (codes "volume.txt") (codes "bag-info.txt") (not_same _ _ refl),
      (
        other_first (codes "volume.txt") (codes "bagit.txt") (not_same _ _ refl),
        (other_first (codes "volume.txt") (codes "tagmanifest-sha256.txt") (not_same _ _ refl), tt),
      ),
    ),
    (
      (info_declared, (other_first (codes "bag-info.txt") (codes "tagmanifest-sha256.txt") (not_same _ _ refl), tt)),
      (
        (other_first (codes "bagit.txt") (codes "tagmanifest-sha256.txt") (not_same _ _ refl), tt),
        (tt, tt),
      ),
    ),
  )

  remains_differ : (remains : Option (List ℕ)) → AllDiffer (remains_files remains ++ behind_tables)
  remains_differ None = behind_differ
  remains_differ (Some told) = (none_behind (codes "rescue.tsv") (not_same _ _ refl) (not_same _ _ refl) (not_same _ _ refl), behind_differ)

  -- a path that begins otherwise than that of the table of what remains
  none_remains : (path : List ℕ) (remains : Option (List ℕ)) → first_of (folded path) ≢ first_of (folded (codes "rescue.tsv")) → IsNoneOf path (remains_files remains)
  none_remains path None other = tt
  none_remains path (Some told) other = (other_first path (codes "rescue.tsv") other, tt)

  tags_differ : AllDiffer (tag_files items tables facts)
  tags_differ = (
    (
      other_first (codes "manifest-sha256.txt") (codes "items.csv") (not_same _ _ refl),
      none_appended (codes "manifest-sha256.txt") (remains_files tables.remains) behind_tables (none_remains (codes "manifest-sha256.txt") tables.remains (not_same _ _ refl))
          (none_behind (codes "manifest-sha256.txt") (not_same _ _ refl) (not_same _ _ refl) (not_same _ _ refl)),
    ),
    (
      none_appended (codes "items.csv") (remains_files tables.remains) behind_tables (none_remains (codes "items.csv") tables.remains (not_same _ _ refl))
          (none_behind (codes "items.csv") (not_same _ _ refl) (not_same _ _ refl) (not_same _ _ refl)),
      remains_differ tables.remains,
    ),
  )

  pub bag_differ : ArePlaced items → AllDiffer (bag_of items tables facts)
  bag_differ placed = differ_appended (payload items) (tag_files items tables facts) (payload_differ items placed) tags_differ payload_none

-- ---- inside

abbrev lacks : ℕ → List ℕ → Bool
lacks byte [] = true
lacks byte (c ∷ rest) = not (c == byte) && lacks byte rest

has_no : (byte : ℕ) (text : List ℕ) → lacks byte text ≡ true → HasNo byte text
has_no byte [] lacking = tt
has_no byte (c ∷ rest) lacking =
    let both = and_parts (not (c == byte)) (lacks byte rest) lacking in
    (not_same c byte both.0, has_no byte rest both.1)

-- a text of at least three characters is neither one point nor two
part_long : (c d e : ℕ) (rest : List ℕ) → HasNo 47 (c ∷ d ∷ e ∷ rest) → HasNo 0 (c ∷ d ∷ e ∷ rest) → IsPart (c ∷ d ∷ e ∷ rest)
part_long c d e rest no_slash no_zero = record {
  not_empty = λ is. subst IsEmpty (sym is) tt;
  not_itself = λ is. subst IsEmpty (sym (ap behind_first is)) tt;
  not_above = λ is. subst IsEmpty (sym (ap (λ (text : List ℕ). behind_first (behind_first text)) is)) tt;
  no_slash = no_slash;
  no_zero = no_zero;
}

pub inside_top : (name : List ℕ) → IsPart name → IsInside name
inside_top name part = record { above = []; last = name; path_is = refl; above_are = tt; last_is = part }

data_part : IsPart (codes "data")
data_part = part_long 100 97 116 (97 ∷ []) (has_no 47 (codes "data") refl) (has_no 0 (codes "data") refl)

parts_of : (names : List (List ℕ)) → ArePlain names → AreParts names
parts_of [] plain = tt
parts_of (name ∷ rest) plain = (plain.0.part, parts_of rest plain.1)

inside_item : (item : BagItem) (last : List ℕ) → IsPlaced item → IsPart last → IsInside (codes "data/" ++ (item.above ++ last))
inside_item item last placed part = record {
  above = codes "data" ∷ placed.folders;
  last = last;
  path_is = ap (λ (above : List ℕ). codes "data/" ++ (above ++ last)) placed.above_is;
  above_are = (data_part, parts_of placed.folders placed.folders_are);
  last_is = part;
}

double_part : (name : List ℕ) → IsPlain name → IsPart (codes "._" ++ name)
double_part name plain = record {
  not_empty = λ is. subst IsEmpty (sym is) tt;
  not_itself = λ is. subst IsEmpty (sym (ap behind_first is)) tt;
  not_above = λ is. let second : 95 ≡ 46 = ap (λ (text : List ℕ). first_of (behind_first text)) is in absurd (omega (arith, second));
  no_slash = marked-none name plain.part.no_slash;
  no_zero = (λ e. absurd (omega (arith, e)), (λ e. absurd (omega (arith, e)), plain.part.no_zero));
}

inside_of_kind : (k : BagKind) (item : BagItem) → IsPlaced item → AreInside (entries_of_kind k item)
inside_of_kind kind.File item placed =
    (inside_item item item.name placed placed.name_is.part, (inside_item item (codes "._" ++ item.name) placed (double_part item.name placed.name_is), tt))
inside_of_kind kind.Folder item placed =
    (inside_item item (codes "._" ++ item.name) placed (double_part item.name placed.name_is), (inside_item item item.name placed placed.name_is.part, tt))
inside_of_kind kind.FolderAlone item placed = (inside_item item item.name placed placed.name_is.part, tt)
inside_of_kind kind.DoubleAlone item placed = (inside_item item (codes "._" ++ item.name) placed (double_part item.name placed.name_is), tt)

items_inside : (items : List BagItem) → ArePlaced items → AreInside (items_entries items)
items_inside [] placed = tt
items_inside (item ∷ rest) placed = inside_appended (item_entries item) (items_entries rest) (inside_of_kind item.kind item placed.0) (items_inside rest placed.2)

module _ (items : List BagItem) (tables : BagTables) (facts : BagFacts) where
  inside_remains : (remains : Option (List ℕ)) → AreInside (remains_files remains)
  inside_remains None = tt
  inside_remains (Some told) = (inside_top (codes "rescue.tsv") (part_long 114 101 115 (codes "cue.tsv") (has_no 47 (codes "rescue.tsv") refl) (has_no 0 (codes "rescue.tsv") refl)), tt)

  tags_inside : AreInside (tag_files items tables facts)
  tags_inside = (
    inside_top (codes "manifest-sha256.txt") (part_long 109 97 110 (codes "ifest-sha256.txt") (has_no 47 (codes "manifest-sha256.txt") refl) (has_no 0 (codes "manifest-sha256.txt") refl)),
    (
      inside_top (codes "items.csv") (part_long 105 116 101 (codes "ms.csv") (has_no 47 (codes "items.csv") refl) (has_no 0 (codes "items.csv") refl)),
      inside_appended (remains_files tables.remains) (report_file facts ∷ info_file items facts ∷ declaration_file ∷ tag_manifest_file items tables facts ∷ []) (inside_remains tables.remains) (
        inside_top (codes "volume.txt") (part_long 118 111 108 (codes "ume.txt") (has_no 47 (codes "volume.txt") refl) (has_no 0 (codes "volume.txt") refl)),
        (
          inside_top (codes "bag-info.txt") (part_long 98 97 103 (codes "-info.txt") (has_no 47 (codes "bag-info.txt") refl) (has_no 0 (codes "bag-info.txt") refl)),
          (
            inside_top (codes "bagit.txt") (part_long 98 97 103 (codes "it.txt") (has_no 47 (codes "bagit.txt") refl) (has_no 0 (codes "bagit.txt") refl)),
            (inside_top (codes "tagmanifest-sha256.txt") (part_long 116 97 103 (codes "manifest-sha256.txt") (has_no 47 (codes "tagmanifest-sha256.txt") refl) (has_no 0 (codes "tagmanifest-sha256.txt") refl)), tt),
          ),
        ),
      ),
    ),
  )

  pub bag_inside : ArePlaced items → AreInside (bag_of items tables facts)
  bag_inside placed = inside_appended (payload items) (tag_files items tables facts) (inside_top (codes "data") data_part, items_inside items placed) tags_inside

pub bag_paths : (items : List BagItem) (tables : BagTables) (facts : BagFacts) → ArePlaced items → AreInside (bag_of items tables facts) × AllDiffer (bag_of items tables facts)
bag_paths items tables facts placed = (bag_inside items tables facts placed, bag_differ items tables facts placed)
