-- What is written stands in fields: no tab and no line feed is in it.
use Rattle.std.proofs.Common.{◌≡◌, ℕ, ◌≤◌, ◌/◌, ◌%◌, ◌&&◌, Bool, true, false, cond, not, List, [], ◌∷◌, length, get_or, Some, None, refl, arith, nat_eq, zero, suc}
use Rattle.std.specs.Prelude.{nat_le}
use Rattle.std.specs.List.{list_all}
use Rattle.std.specs.Fmt.{decimal}
use Rattle.std.specs.Char.{is_ascii_digit}
use Rattle.std.specs.Str.{all_ascii_digits}
use Rattle.std.specs.Str.Parse.{digits_value}
use Rattle.std.proofs.lemmas.Bool.{ne_eqb}
use Rattle.hex.specs.Hex.{encode_lower, encode_with, lower_digits}
use Rattle.hfs_model.specs.declared.call.Call.{Call}
use Rattle.hfs_model.specs.declared.call.Call.TheVariants as call
use Rattle.hfs_model.specs.declared.call.Fork.{Fork}
use Rattle.hfs_model.specs.declared.call.Fork.TheVariants.{DataFork, ResFork}
use Rattle.hfs_scripts.specs.declared.words.Word.{Word}
use Rattle.hfs_scripts.specs.declared.words.Word.TheVariants as word
use Rattle.hfs_scripts.specs.Numbers.{is_number, number_of}
use Rattle.hfs_scripts.specs.Texts.{word_text, fork_text, arguments, is_field, has_fields}
use Rattle.hfs_scripts.specs.Readable.{Reads, IsReadable}
use Rattle.hfs_scripts.proofs.Digits.{and-parts, digit-range}

-- neither a tab nor a line feed
abbrev pub is_plain : ℕ → Bool
is_plain byte = not (nat_eq byte 9) && not (nat_eq byte 10)

pub is_plain-from_48 : (byte : ℕ) → 48 ≤ byte → is_plain byte ≡ true
is_plain-from_48 byte h = rw (ne_eqb byte 9 (omega arith), ne_eqb byte 10 (omega arith)) refl

all_plain-digits : (field : List ℕ) → all_ascii_digits field ≡ true → list_all is_plain field ≡ true
all_plain-digits [] h = refl
all_plain-digits (c ∷ cs) h =
    let parts = and-parts (is_ascii_digit c) (all_ascii_digits cs) h in
    rw (is_plain-from_48 c (digit-range c parts.0).0, all_plain-digits cs parts.1) refl

number : (test : Bool) (value n : ℕ) → cond test (Some value) None ≡ Some n → test ≡ true
number true value n h = refl
number false value n h = cc

pub is_field-decimal : (n : ℕ) → Reads n → is_field (decimal n) ≡ true
unfolding is_field number_of
is_field-decimal n h =
    let tests = number (is_number (decimal n)) (digits_value 10 (decimal n)) n h in
    let three = and-parts (nat_le 1 (length (decimal n)) && nat_le (length (decimal n)) 10 && all_ascii_digits (decimal n)) _ tests in
    let two = and-parts (nat_le 1 (length (decimal n)) && nat_le (length (decimal n)) 10) (all_ascii_digits (decimal n)) three.0 in
    all_plain-digits (decimal n) two.1

plain_at : (table : List ℕ) → list_all is_plain table ≡ true → (place : ℕ) → is_plain (get_or table place 0) ≡ true
plain_at [] h place = refl
plain_at (c ∷ cs) h zero = (and-parts (is_plain c) (list_all is_plain cs) h).0
plain_at (c ∷ cs) h (suc place) = plain_at cs (and-parts (is_plain c) (list_all is_plain cs) h).1 place

all_plain-encoded : (bytes : List ℕ) → list_all is_plain (encode_lower bytes) ≡ true
unfolding encode_with
all_plain-encoded [] = refl
all_plain-encoded (b ∷ bytes) = rw (plain_at lower_digits refl (b / 16), plain_at lower_digits refl (b % 16), all_plain-encoded bytes) refl

pub is_field-hex : (bytes : List ℕ) → is_field (encode_lower bytes) ≡ true
unfolding is_field
is_field-hex bytes = all_plain-encoded bytes

is_field-fork : (fork : Fork) → is_field (fork_text fork) ≡ true
unfolding is_field
is_field-fork DataFork = refl
is_field-fork ResFork = refl

pub is_field-word : (word : Word) → is_field (word_text word) ≡ true
unfolding is_field word_text
is_field-word word.DirInfo = refl
is_field-word word.Info = refl
is_field-word word.Indexed = refl
is_field-word word.List = refl
is_field-word word.Read = refl
is_field-word word.Create = refl
is_field-word word.MkDir = refl
is_field-word word.Delete = refl
is_field-word word.Rename = refl
is_field-word word.Move = refl
is_field-word word.SetFInfo = refl
is_field-word word.SetInfo = refl
is_field-word word.Lock = refl
is_field-word word.Unlock = refl
is_field-word word.NewId = refl
is_field-word word.DropId = refl
is_field-word word.Resolve = refl
is_field-word word.SetEof = refl
is_field-word word.Write = refl

pub are_fields-arguments : (call : Call) → IsReadable call → has_fields call ≡ true → list_all is_field (arguments call) ≡ true
are_fields-arguments (call.GetDirInfo dir) r h = rw (is_field-decimal dir r) refl
are_fields-arguments (call.GetCatInfo dir name) r h = rw (is_field-decimal dir r, h) refl
are_fields-arguments (call.GetIndexed dir index) r h = rw (is_field-decimal dir r.0, is_field-decimal index r.1) refl
are_fields-arguments (call.List dir) r h = rw (is_field-decimal dir r) refl
are_fields-arguments (call.ReadFork dir name fork offset count) r h = rw (is_field-decimal dir r.0, h, is_field-fork fork, is_field-decimal offset r.1, is_field-decimal count r.2) refl
are_fields-arguments (call.Create dir name t) r h = rw (is_field-decimal dir r, h) refl
are_fields-arguments (call.DirCreate dir name t) r h = rw (is_field-decimal dir r, h) refl
are_fields-arguments (call.Delete dir name t) r h = rw (is_field-decimal dir r, h) refl
are_fields-arguments (call.Rename dir name new_name t) r h =
    let both = and-parts (is_field name) (is_field new_name) h in
    rw (is_field-decimal dir r, both.0, both.1) refl
are_fields-arguments (call.CatMove dir name new_dir t) r h = rw (is_field-decimal dir r.0, h, is_field-decimal new_dir r.1) refl
are_fields-arguments (call.SetFInfo dir name info t) r h = rw (is_field-decimal dir r.0, h, is_field-hex info) refl
are_fields-arguments (call.SetCatInfo dir name created modified backup info t) r h =
    rw (is_field-decimal dir r.0, h, is_field-decimal created r.1, is_field-decimal modified r.2, is_field-decimal backup r.3, is_field-hex info) refl
are_fields-arguments (call.SetFLock dir name t) r h = rw (is_field-decimal dir r, h) refl
are_fields-arguments (call.RstFLock dir name t) r h = rw (is_field-decimal dir r, h) refl
are_fields-arguments (call.CreateFileId dir name t) r h = rw (is_field-decimal dir r, h) refl
are_fields-arguments (call.DeleteFileId id t) r h = rw (is_field-decimal id r) refl
are_fields-arguments (call.ResolveFileId id) r h = rw (is_field-decimal id r) refl
are_fields-arguments (call.SetEof dir name fork end t) r h = rw (is_field-decimal dir r.0, h, is_field-fork fork, is_field-decimal end r.1) refl
are_fields-arguments (call.WriteFork dir name fork offset bytes t) r h =
    let both = and-parts (is_field name) (nat_le (length bytes) 65536) h in
    rw (is_field-decimal dir r.0, both.0, is_field-fork fork, is_field-decimal offset r.1, is_field-hex bytes) refl
