-- What is read as a name is an item name.
use Rattle.std.proofs.Common.{◌≡◌, ◌∙◌, sym, ap, ℕ, Bool, true, false, cond, List, Some, None, refl}
use Rattle.std.specs.Prelude.{chars}
use Rattle.hfs_fields.specs.Names.{is_item_name}
use Rattle.hfs_encodings.specs.Names.{given_name, renamed}
use Rattle.hfs_encodings.specs.Spelled.{host_letters, plain_letters}
use Rattle.hfs_encodings.specs.declared.names.GivenName.TheVariants.{Item, Other}
use Rattle.hfs_format.specs.declared.name.NameSource.{NameSource}
use Rattle.hfs_format.specs.declared.name.NameSource.TheVariants.{Typed, PlainText, FolderName, Nameless}
use Rattle.hfs_format.specs.Names.{item_letters, name_in}

typed-named : (test : Bool) (letters name : List ℕ) → is_item_name letters ≡ test → cond test (Some letters) None ≡ Some name → is_item_name name ≡ true
typed-named true letters name is e = let same : letters ≡ name = cc in sym (ap is_item_name same) ∙ is
typed-named false letters name is e = absurd cc

given-named : (test : Bool) (letters name : List ℕ) → is_item_name letters ≡ test → item_letters (cond test (Item letters) (Other (renamed letters))) ≡ Some name
    → is_item_name name ≡ true
given-named true letters name is e = let same : letters ≡ name = cc in sym (ap is_item_name same) ∙ is
given-named false letters name is e = absurd cc

letters-named : (letters name : List ℕ) → item_letters (given_name letters) ≡ Some name → is_item_name name ≡ true
unfolding given_name
letters-named letters name e = given-named (is_item_name letters) letters name refl e

pub source-named : (source : NameSource) (name : List ℕ) → name_in source ≡ Some name → is_item_name name ≡ true
source-named (Typed text) name e = typed-named (is_item_name text.now) text.now name refl e
source-named (PlainText text) name e = letters-named (plain_letters (chars text.now)) name e
source-named (FolderName text) name e = letters-named (host_letters (chars text.now)) name e
source-named Nameless name e = absurd cc
