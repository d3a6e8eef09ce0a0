-- Links, and those from items to the files of a bag.
use Rattle.std.specs.Prelude.{ℕ, ◌+◌, ◌-◌, ◌/◌, ◌%◌, ◌==◌, ◌||◌, Bool, nat_lt, if◌then◌else◌, List, [], ◌∷◌, ◌++◌, length, drop, codes, Option, Some, None}
use Rattle.std.specs.Borrow.{Bor}
use Rattle.std.specs.List.{flat_map, list_any, slice_get}
use Rattle.std.specs.Char.{is_ascii_alphanumeric}
use Rattle.hfs_texts.specs.MacPaths.{host_path}
use Rattle.hfs_page.specs.Escapes.{escaped}

-- what a URL has of a path as it is: letters, digits, and `-._~/`
unfoldable pub is_kept : ℕ → Bool
is_kept b = is_ascii_alphanumeric b || list_any (λ kept. kept == b) (codes "-._~/")

-- a hexadecimal digit, with a capital letter
unfoldable pub upper_digit : ℕ → ℕ
upper_digit number = if nat_lt number 10 then number + 48 else number + 55

-- a byte of a path: itself, or `%` and two digits
unfoldable pub percent_byte : ℕ → List ℕ
percent_byte b = if is_kept b then b ∷ [] else 37 ∷ upper_digit (b / 16) ∷ upper_digit (b % 16) ∷ []

unfoldable pub percent_text : List ℕ → List ℕ
percent_text path = flat_map percent_byte path

-- what is between a URL and a path below it: a slash, but where there is one, or an empty URL
abbrev pub slash_by : Option ℕ → List ℕ
slash_by None = []
slash_by (Some last) = if last == 0x2F then [] else codes "/"

abbrev pub slash_text : List ℕ → List ℕ
slash_text base = slash_by (slice_get base (length base - 1))

-- the URL of a path below another one
unfoldable pub url_text : List ℕ → List ℕ → List ℕ
url_text base path = base ++ slash_text base ++ percent_text path

-- the beginning of a link to it
unfoldable pub link_text : List ℕ → List ℕ → List ℕ
link_text base path = codes "<a href=\"" ++ escaped (url_text base path) ++ codes "\">"

-- where the item to which these names lead, from the root's down, lies in a bag
abbrev pub bag_path : List (List ℕ) → List ℕ
bag_path path = codes "data/" ++ host_path (drop 1 path)

-- nothing where there is no URL
abbrev pub link_start : Option (Bor (List ℕ)) → List ℕ → List ℕ
link_start None path = []
link_start (Some base) path = link_text base.now path

abbrev pub link_end : Option (Bor (List ℕ)) → List ℕ
link_end None = []
link_end (Some base) = codes "</a>"
