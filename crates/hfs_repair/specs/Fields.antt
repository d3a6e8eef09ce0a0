-- A counted number and which one it is, by the bytes of its field.
use Rattle.std.specs.Prelude.{ℕ}
use Rattle.hfs_repair.specs.declared.field_value.FieldValue.{FieldValue}
use Rattle.hfs_repair.specs.declared.field_value.FieldValue.TheVariants.{Short, Long}
use Rattle.hfs_repair.specs.declared.fixed.FixPlace.{FixPlace}

-- a number that is counted: as the volume has it, as it is counted, the place of its first byte in the image, and how many
-- bytes it has
pub record CountedNumber : Type 0 where
  pub was : ℕ
  pub now : ℕ
  pub at : ℕ
  pub width : ℕ

-- which number, and what is known of it
abbrev pub PlacedNumber : Type 0
PlacedNumber = FixPlace × CountedNumber

abbrev pub value_of : FieldValue → ℕ
value_of (Short value) = value
value_of (Long value) = value

-- how many bytes the field has
abbrev pub width_of : FieldValue → ℕ
width_of (Short value) = 2
width_of (Long value) = 4

abbrev pub placed_number : FixPlace → ℕ → FieldValue → ℕ → PlacedNumber
placed_number place was now at = (place, record { was = was; now = value_of now; at = at; width = width_of now })
