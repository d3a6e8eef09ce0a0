-- What holds of the paths of a bag.
use Rattle.std.specs.Prelude.{◌≡◌, ◌≢◌, ℕ, List, [], ◌∷◌, ◌++◌, codes, ⊤}
use Rattle.std.specs.List.{flat_map}
use Rattle.hfs_fields.specs.Order.{folded}
use Rattle.hfs_bag.specs.Entries.{ShelfEntry, folder, file}
use Rattle.hfs_bag.specs.declared.facts.BagFacts.{BagFacts}
use Rattle.hfs_bag.specs.declared.item.BagKind.{BagKind}
use Rattle.hfs_bag.specs.declared.item.BagKind.TheVariants as kind
use Rattle.hfs_bag.specs.Items.{BagItem}
use Rattle.hfs_bag.specs.Sources.{BagTables}
use Rattle.hfs_bag.specs.Tags.{bag_of}

abbrev pub entry_path : ShelfEntry → List ℕ
entry_path (folder path) = path
entry_path (file path time bytes) = path

-- ---- parts of paths

-- a text does not have this byte
abbrev pub HasNo : ℕ → List ℕ → Type 0
HasNo byte [] = ⊤
HasNo byte (c ∷ rest) = (c ≢ byte) × HasNo byte rest

-- how a file or a folder may be called: a text without a slash and a zero byte that is neither empty nor one or two points
pub record IsPart (part : List ℕ) : Type 0 where
  pub not_empty : part ≢ []
  pub not_itself : part ≢ codes "."
  pub not_above : part ≢ codes ".."
  pub no_slash : HasNo 47 part
  pub no_zero : HasNo 0 part

abbrev pub AreParts : List (List ℕ) → Type 0
AreParts [] = ⊤
AreParts (part ∷ rest) = IsPart part × AreParts rest

-- the path of a folder within others, with a slash behind it
abbrev pub folder_path : List (List ℕ) → List ℕ
folder_path parts = flat_map (λ (part : List ℕ). part ++ codes "/") parts

-- a path leads down from where it begins
pub record IsInside (path : List ℕ) : Type 0 where
  pub above : List (List ℕ)
  pub last : List ℕ
  pub path_is : path ≡ folder_path above ++ last
  pub above_are : AreParts above
  pub last_is : IsPart last

-- ---- items

abbrev pub begins_with : ℕ → List ℕ → Type 0
begins_with byte [] = ⊥
begins_with byte (c ∷ rest) = c ≡ byte

-- a name that begins with no point
pub record IsPlain (name : List ℕ) : Type 0 where
  pub part : IsPart name
  pub no_point : begins_with 46 name → ⊥

abbrev pub ArePlain : List (List ℕ) → Type 0
ArePlain [] = ⊤
ArePlain (name ∷ rest) = IsPlain name × ArePlain rest

-- an item that lies below folders of such names, and has one itself
pub record IsPlaced (item : BagItem) : Type 0 where
  pub folders : List (List ℕ)
  pub above_is : item.above ≡ folder_path folders
  pub folders_are : ArePlain folders
  pub name_is : IsPlain item.name

-- what lies at the item's own path: a folder, or a file with its data fork
abbrev pub HasOwn : BagKind → Type 0
HasOwn kind.File = ⊤
HasOwn kind.Folder = ⊤
HasOwn kind.FolderAlone = ⊤
HasOwn kind.DoubleAlone = ⊥

-- an AppleDouble file lies beside it
abbrev pub HasDouble : BagKind → Type 0
HasDouble kind.File = ⊤
HasDouble kind.Folder = ⊤
HasDouble kind.FolderAlone = ⊥
HasDouble kind.DoubleAlone = ⊤

abbrev pub DifferInPath : BagItem → BagItem → Type 0
DifferInPath a b = folded (a.above ++ a.name) ≢ folded (b.above ++ b.name)

-- two items have other paths, also without regard to the case of ASCII letters, but for a folder alone and an AppleDouble file alone, which may be of one item
pub record AreApart (a b : BagItem) : Type 0 where
  pub own : HasOwn a.kind → HasOwn b.kind → DifferInPath a b
  pub doubles : HasDouble a.kind → HasDouble b.kind → DifferInPath a b

abbrev pub IsApart : BagItem → List BagItem → Type 0
IsApart item [] = ⊤
IsApart item (other ∷ rest) = AreApart item other × IsApart item rest

abbrev pub ArePlaced : List BagItem → Type 0
ArePlaced [] = ⊤
ArePlaced (item ∷ rest) = IsPlaced item × IsApart item rest × ArePlaced rest

-- ---- the bag

abbrev pub AreInside : List ShelfEntry → Type 0
AreInside [] = ⊤
AreInside (entry ∷ rest) = IsInside (entry_path entry) × AreInside rest

-- an entry's path is none of these, also without regard to the case of ASCII letters
abbrev pub IsNoneOf : List ℕ → List ShelfEntry → Type 0
IsNoneOf path [] = ⊤
IsNoneOf path (entry ∷ rest) = (folded path ≢ folded (entry_path entry)) × IsNoneOf path rest

abbrev pub AllDiffer : List ShelfEntry → Type 0
AllDiffer [] = ⊤
AllDiffer (entry ∷ rest) = IsNoneOf (entry_path entry) rest × AllDiffer rest

-- the law of paths: where the items have plain names and paths of their own, no path leads out of the bag, and all differ, those of the tag files too, also
-- without regard to the case of ASCII letters
abbrev pub BagPathsAreLawful : Type 0
BagPathsAreLawful = (items : List BagItem) (tables : BagTables) (facts : BagFacts) → ArePlaced items → AreInside (bag_of items tables facts) × AllDiffer (bag_of items tables facts)
