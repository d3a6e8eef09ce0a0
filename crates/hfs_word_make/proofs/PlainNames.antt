-- A bag's name that is text is read, and another is none.
use Rattle.std.proofs.Common.{◌≡◌, ◌∙◌, sym, ap, subst, ℕ, List, None}
use Rattle.std.proofs.lemmas.Bool.{false_from_ne_true, cond-true, cond-false}
use Rattle.std.proofs.lemmas.Str.{IsUtf8-from_is_utf8, is_utf8-from_IsUtf8}
use Rattle.std.specs.Prelude.{Result, chars}
use Rattle.std.specs.Str.{IsUtf8, is_utf8}
use Rattle.hfs_encodings.specs.Names.{given_name}
use Rattle.hfs_encodings.specs.Spelled.{plain_letters}
use Rattle.hfs_format.specs.Names.{item_letters}
use Rattle.hfs_format.specs.declared.make_fault.MakeFault.{MakeFault}
use Rattle.hfs_format.specs.declared.volume_name.VolumeName.{VolumeName}
use Rattle.hfs_word_make.specs.SourceNames.{IsReadAs, plain_name}

text-named : (text : List ℕ) → IsUtf8 text → item_letters (given_name (plain_letters (chars text))) ≡ plain_name text
unfolding plain_name
text-named text is = sym (cond-true (is_utf8 text) (item_letters (given_name (plain_letters (chars text)))) None (is_utf8-from_IsUtf8 text is))

other-nameless : (text : List ℕ) → ¬ (IsUtf8 text) → None ≡ plain_name text
unfolding plain_name
other-nameless text none =
    sym (cond-false (is_utf8 text) (item_letters (given_name (plain_letters (chars text)))) None
    (false_from_ne_true (is_utf8 text) (λ is. none (IsUtf8-from_is_utf8 text is))))

pub text-read : (bytes text : List ℕ) (read : Result VolumeName MakeFault) → IsUtf8 bytes → text ≡ bytes
    → IsReadAs (item_letters (given_name (plain_letters (chars text)))) read → IsReadAs (plain_name bytes) read
text-read bytes text read is same told =
    subst (λ letters. IsReadAs letters read) (ap (λ t. item_letters (given_name (plain_letters (chars t)))) same ∙ text-named bytes is) told

pub other-read : (bytes : List ℕ) (read : Result VolumeName MakeFault) → ¬ (IsUtf8 bytes) → IsReadAs None read → IsReadAs (plain_name bytes) read
other-read bytes read none told = subst (λ letters. IsReadAs letters read) (other-nameless bytes none) told
