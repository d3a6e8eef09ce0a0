-- What a reader of markup sees of a page: elements that begin and end, one inside the other.
use Rattle.std.specs.Prelude.{◌≡◌, ℕ, Bool, ◌==◌, if◌then◌else◌, List, [], ◌∷◌, ◌++◌, Option, Some, None, codes}
use Rattle.std.specs.List.{list_any}
use Rattle.std.specs.Str.{bytes_eq}

-- between tags, in the name of a tag, of which this was read, or after the name of a tag
pub data Place : Type 0 where
  in_text : Place
  in_name : List ℕ → Place
  behind_name : List ℕ → Place

-- the names of the elements that are open, the innermost first, and where a reader is
pub record Reading : Type 0 where
  pub opened : List (List ℕ)
  pub place : Place

-- between tags, where these elements are open
abbrev pub between : List (List ℕ) → Reading
between opened = record { opened = opened; place = in_text }

-- what has no end
abbrev pub is_void : List ℕ → Bool
is_void name = list_any (bytes_eq name) (codes "!DOCTYPE" ∷ codes "meta" ∷ codes "link" ∷ codes "input" ∷ [])

abbrev pub behind_start : List (List ℕ) → List ℕ → Reading
behind_start opened name = if is_void name then between opened else between (name ∷ opened)

-- an element ends that began last; no other can
abbrev pub behind_end : List (List ℕ) → List ℕ → Option Reading
behind_end [] name = None
behind_end (innermost ∷ outer) name = if bytes_eq innermost name then Some (between outer) else None

-- after a tag
abbrev pub behind_tag : List (List ℕ) → List ℕ → Option Reading
behind_tag opened [] = None
behind_tag opened (b ∷ rest) = if b == 0x2F then behind_end opened rest else Some (behind_start opened (b ∷ rest))

-- after a byte more
abbrev pub behind_byte : List (List ℕ) → Place → ℕ → Option Reading
behind_byte opened in_text b = Some (if b == 0x3C then record { opened = opened; place = in_name [] } else between opened)
behind_byte opened (in_name name) b =
    if b == 0x3E then behind_tag opened name
    else if b == 0x20 then Some (record { opened = opened; place = behind_name name })
    else Some (record { opened = opened; place = in_name (name ++ b ∷ []) })
behind_byte opened (behind_name name) b =
    if b == 0x3E then behind_tag opened name else Some (record { opened = opened; place = behind_name name })

-- after all these bytes; nothing where an element ends that isn't the innermost
abbrev pub behind_bytes : Option Reading → List ℕ → Option Reading
behind_bytes None bytes = None
behind_bytes (Some reading) [] = Some reading
behind_bytes (Some reading) (b ∷ rest) = behind_bytes (behind_byte reading.opened reading.place b) rest

-- each element that begins ends, the innermost first
abbrev pub IsNested : List ℕ → Type 0
IsNested page = behind_bytes (Some (between [])) page ≡ Some (between [])

-- the elements that are open and the text between them, before and after bytes
abbrev pub Leads : List (List ℕ) → List (List ℕ) → List ℕ → Type 0
Leads before behind bytes = (outer : List (List ℕ)) → behind_bytes (Some (between (before ++ outer))) bytes ≡ Some (between (behind ++ outer))
