-- The URLs that links may begin with.
use Rattle.std.specs.Prelude.{ℕ, ◌==◌, ◌||◌, Bool, false, not, List, length, take, find, codes, Option, Some, None}
use Rattle.std.specs.Str.{bytes_eq}

-- a byte that ends what may be a scheme
abbrev pub is_end : ℕ → Bool
is_end b = b == 0x3A || b == 0x2F || b == 0x3F || b == 0x23

-- the first of these is a colon
abbrev pub is_colon : Option ℕ → Bool
is_colon None = false
is_colon (Some b) = b == 0x3A

abbrev pub has_scheme : List ℕ → Bool
has_scheme url = is_colon (find is_end url)

abbrev pub begins_with : List ℕ → List ℕ → Bool
begins_with url start = bytes_eq (take (length start) url) start

-- with a scheme that a browser opens a page or a file by, or relative
unfoldable pub is_base : List ℕ → Bool
is_base url = begins_with url (codes "http:") || begins_with url (codes "https:") || not (has_scheme url)
