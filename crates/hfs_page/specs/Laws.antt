-- What a reader of markup sees of a text in it. Each statement is what a function of src/laws.rt ensures.
use Rattle.std.specs.Prelude.{◌≡◌, ℕ, zero, suc, Bool, true, ◌&&◌, ◌||◌, not, ◌==◌, if◌then◌else◌, List, [], ◌∷◌, length, take, Option, Some, None, codes}
use Rattle.std.specs.List.{list_any, list_all}
use Rattle.std.specs.Str.{bytes_eq}

-- the names of the references, each with its semicolon, and the character that each means
abbrev pub references : List (List ℕ × ℕ)
references = (codes "amp;", 0x26) ∷ (codes "lt;", 0x3C) ∷ (codes "gt;", 0x3E) ∷ (codes "quot;", 0x22) ∷ (codes "#39;", 0x27) ∷ []

-- the bytes begin with the name of this reference
abbrev pub begins_with : List ℕ → List ℕ × ℕ → Bool
begins_with bytes reference = bytes_eq (take (length reference.0) bytes) reference.0

-- the first of these references with whose name the bytes begin
abbrev pub reference_at : List ℕ → List (List ℕ × ℕ) → Option (List ℕ × ℕ)
reference_at bytes [] = None
reference_at bytes (r ∷ rs) = if begins_with bytes r then Some r else reference_at bytes rs

-- what is read where an `&` precedes this reference, or before none, and how many bytes after the `&` are read with it
abbrev pub character_of : Option (List ℕ × ℕ) → ℕ
character_of None = 0x26
character_of (Some r) = r.1

abbrev pub length_of : Option (List ℕ × ℕ) → ℕ
length_of None = 0
length_of (Some r) = length r.0

-- the text that is read in bytes of markup, of which so many were read already
abbrev pub read_behind : ℕ → List ℕ → List ℕ
read_behind n [] = []
read_behind (suc n) (b ∷ rest) = read_behind n rest
read_behind zero (b ∷ rest) =
    if b == 0x26 then character_of (reference_at rest references) ∷ read_behind (length_of (reference_at rest references)) rest else b ∷ read_behind 0 rest

-- none of the characters that begin or end a tag or an attribute
abbrev pub is_no_delimiter : ℕ → Bool
is_no_delimiter b = not (b == 0x3C) && not (b == 0x3E) && not (b == 0x22) && not (b == 0x27)

-- each `&` begins a reference
abbrev pub has_references_alone : List ℕ → Bool
has_references_alone [] = true
has_references_alone (b ∷ rest) = (not (b == 0x26) || list_any (begins_with rest) references) && has_references_alone rest

-- the law of texts in markup
pub record AreTexts (escaped : List ℕ → List ℕ) : Type 0 where
  pub read : (text : List ℕ) → read_behind 0 (escaped text) ≡ text
  pub no_delimiter : (text : List ℕ) → list_all is_no_delimiter (escaped text) ≡ true
  pub references_alone : (text : List ℕ) → has_references_alone (escaped text) ≡ true
