-- The text of lines is read as these lines.
use Rattle.std.proofs.Common.{◌≡◌, ℕ, ◌+◌, ◌∙◌, ◌<◌, ◌≤◌, ◌&&◌, Bool, true, false, not, List, [], ◌∷◌, ◌++◌, length, take, get_or, Some, Ok, refl, sym, ap, arith, nat_eq, zero, suc, add-one, append_assoc, length-take, get_or-take}
use Rattle.std.specs.List.{All, position_or_len, list_all, flat_map, slice_split}
use Rattle.std.specs.Fmt.{decimal}
use Rattle.std.proofs.lemmas.Bool.{not-true, lt-ltb, le-ltb}
use Rattle.std.proofs.lemmas.List.{append-nil}
use Rattle.std.proofs.lemmas.List.Elements.{All-head, All-tail}
use Rattle.std.proofs.lemmas.List.Sums.{position_or_len_is}
use Rattle.std.proofs.lemmas.List.Splits.{length-slice_split}
use Rattle.std.proofs.lemmas.List.Folds.{list_all-append}
use Rattle.hfs_scripts.specs.declared.lines.Caller.{Caller}
use Rattle.hfs_scripts.specs.declared.lines.Caller.TheVariants.{Worker, Viewer}
use Rattle.hfs_scripts.specs.declared.lines.ScriptLine.{ScriptLine}
use Rattle.hfs_scripts.specs.Fields.{fields_of}
use Rattle.hfs_scripts.specs.Lines.{may_ask, line_of, line_of_fields}
use Rattle.hfs_scripts.specs.Scripts.{lines_of, lines_read, script_of}
use Rattle.hfs_scripts.specs.Texts.{caller_text, word_text, word_for, arguments, tabbed, line_text, fed, script_text, is_field, has_fields, is_made_at, is_caller, is_writable, first_unwritable}
use Rattle.hfs_scripts.specs.Readable.{IsReadable, IsWritten}
use Rattle.hfs_scripts.proofs.Digits.{and-parts}
use Rattle.hfs_scripts.proofs.Written.{number_of-decimal}
use Rattle.hfs_scripts.proofs.FirstLine.{without_empty_end-more}
use Rattle.hfs_scripts.proofs.Steps.{lines_read-none}
use Rattle.hfs_scripts.proofs.Again.{word_of-word_text, call_of-arguments, caller_of-caller_text, within}
use Rattle.hfs_scripts.proofs.InFields.{is_plain, is_field-decimal, is_field-word, are_fields-arguments}

-- ---- what is cut at a byte

-- no element is that byte
abbrev lacks : ℕ → List ℕ → Bool
lacks c bytes = list_all (λ byte. not (nat_eq byte c)) bytes

split-rest : (c : ℕ) (bytes rest : List ℕ) (first : List ℕ) (more : List (List ℕ)) → lacks c bytes ≡ true → slice_split (λ byte. nat_eq byte c) rest ≡ first ∷ more
    → slice_split (λ byte. nat_eq byte c) (bytes ++ rest) ≡ (bytes ++ first) ∷ more
split-rest c [] rest first more h e = e
split-rest c (b ∷ bytes) rest first more h e =
    let parts = and-parts (not (nat_eq b c)) (lacks c bytes) h in
    rw (not-true (nat_eq b c) parts.0, split-rest c bytes rest first more parts.1 e) refl

lacks-9 : (bytes : List ℕ) → list_all is_plain bytes ≡ true → lacks 9 bytes ≡ true
lacks-9 [] h = refl
lacks-9 (b ∷ bytes) h =
    let parts = and-parts (is_plain b) (list_all is_plain bytes) h in
    let both = and-parts (not (nat_eq b 9)) (not (nat_eq b 10)) parts.0 in
    rw (both.0, lacks-9 bytes parts.1) refl

lacks-10 : (bytes : List ℕ) → list_all is_plain bytes ≡ true → lacks 10 bytes ≡ true
lacks-10 [] h = refl
lacks-10 (b ∷ bytes) h =
    let parts = and-parts (is_plain b) (list_all is_plain bytes) h in
    let both = and-parts (not (nat_eq b 9)) (not (nat_eq b 10)) parts.0 in
    rw (both.1, lacks-10 bytes parts.1) refl

plain : (field : List ℕ) → is_field field ≡ true → list_all is_plain field ≡ true
unfolding is_field
plain field h = h

-- ---- the fields of a line

split-tabbed : (first : List ℕ) (fields : List (List ℕ)) → is_field first ≡ true → list_all is_field fields ≡ true
    → slice_split (λ byte. nat_eq byte 9) (first ++ flat_map tabbed fields) ≡ first ∷ fields
split-tabbed first [] h all =
    split-rest 9 first [] [] [] (lacks-9 first (plain first h)) refl ∙ ap (λ xs. xs ∷ []) (append-nil first)
split-tabbed first (field ∷ fields) h all =
    let parts = and-parts (is_field field) (list_all is_field fields) all in
    let behind = split-tabbed field fields parts.0 parts.1 in
    split-rest 9 first (9 ∷ (field ++ flat_map tabbed fields)) [] (field ∷ fields) (lacks-9 first (plain first h)) (rw behind refl)
    ∙ ap (λ xs. xs ∷ field ∷ fields) (append-nil first)

behind_v : (digits : List ℕ) → is_field digits ≡ true → is_field (118 ∷ digits) ≡ true
unfolding is_field
behind_v digits h = h

is_field-caller : (caller : Caller) → is_caller caller ≡ true → is_field (caller_text caller) ≡ true
unfolding caller_text
is_field-caller (Worker number) h = let few : number ≤ 8 = within number h in is_field-decimal number (number_of-decimal number (omega arith))
is_field-caller (Viewer number) h =
    let few : number ≤ 8 = within number h in
    behind_v (decimal number) (is_field-decimal number (number_of-decimal number (omega arith)))

-- ---- the parts of what makes a line writable

record Parts (now : ℕ) (line : ScriptLine) : Type 0 where
  caller : is_caller line.caller ≡ true
  asks : may_ask line.caller (word_for line.call) ≡ true
  fields : has_fields line.call ≡ true
  moment : is_made_at now line.call ≡ true

parts_of : (now : ℕ) (line : ScriptLine) → is_writable now line ≡ true → Parts now line
unfolding is_writable
parts_of now line h =
    let three = and-parts (is_caller line.caller && may_ask line.caller (word_for line.call) && has_fields line.call) (is_made_at now line.call) h in
    let two = and-parts (is_caller line.caller && may_ask line.caller (word_for line.call)) (has_fields line.call) three.0 in
    let one = and-parts (is_caller line.caller) (may_ask line.caller (word_for line.call)) two.0 in
    record { caller = one.0; asks = one.1; fields = two.1; moment = three.1 }

fields_of-line_text : (now : ℕ) (line : ScriptLine) → Parts now line → IsReadable line.call
    → fields_of (line_text line) ≡ caller_text line.caller ∷ word_text (word_for line.call) ∷ arguments line.call
unfolding fields_of line_text
fields_of-line_text now line p r =
    split-tabbed (caller_text line.caller) (word_text (word_for line.call) ∷ arguments line.call) (is_field-caller line.caller p.caller)
    (rw (is_field-word (word_for line.call), are_fields-arguments line.call r p.fields) refl)

pub line_of-line_text : (now : ℕ) (line : ScriptLine) → is_writable now line ≡ true → IsReadable line.call → line_of now (line_text line) ≡ Some line
unfolding line_of line_of_fields
line_of-line_text now line h r =
    let p = parts_of now line h in
    rw (fields_of-line_text now line p r, caller_of-caller_text line.caller p.caller, word_of-word_text (word_for line.call), call_of-arguments now line.call r p.fields p.moment, p.asks) refl

-- ---- the lines of a text

all_plain-tabbed : (fields : List (List ℕ)) → list_all is_field fields ≡ true → lacks 10 (flat_map tabbed fields) ≡ true
all_plain-tabbed [] h = refl
all_plain-tabbed (field ∷ fields) h =
    let parts = and-parts (is_field field) (list_all is_field fields) h in
    rw (list_all-append (λ byte. not (nat_eq byte 10)) field (flat_map tabbed fields), lacks-10 field (plain field parts.0), all_plain-tabbed fields parts.1) refl

lacks-line_text : (now : ℕ) (line : ScriptLine) → Parts now line → IsReadable line.call → lacks 10 (line_text line) ≡ true
unfolding line_text
lacks-line_text now line p r =
    let fields : list_all is_field (word_text (word_for line.call) ∷ arguments line.call) ≡ true = rw (is_field-word (word_for line.call), are_fields-arguments line.call r p.fields) refl in
    rw (
      list_all-append (λ byte. not (nat_eq byte 10)) (caller_text line.caller) (flat_map tabbed (word_text (word_for line.call) ∷ arguments line.call)),
      lacks-10 (caller_text line.caller) (plain (caller_text line.caller) (is_field-caller line.caller p.caller)),
      all_plain-tabbed (word_text (word_for line.call) ∷ arguments line.call) fields,
    ) refl

lines_of-fed : (line rest : List ℕ) → lacks 10 line ≡ true → lines_of ((line ++ 10 ∷ []) ++ rest) ≡ line ∷ lines_of rest
unfolding lines_of
lines_of-fed line rest h =
    rw (append_assoc line (10 ∷ []) rest, split-rest 10 line (10 ∷ rest) [] (slice_split (λ byte. nat_eq byte 10) rest) h refl, append-nil line)
    (without_empty_end-more line (slice_split (λ byte. nat_eq byte 10) rest) (omega (arith, length-slice_split (λ byte. nat_eq byte 10) rest)))

lines_read-fed : (now : ℕ) (line : ScriptLine) (rest : List ℕ) (lines : List ScriptLine) → IsWritten now line → lines_read now rest ≡ Ok lines
    → lines_read now (fed line ++ rest) ≡ Ok (line ∷ lines)
unfolding lines_read
lines_read-fed now line rest lines w behind =
    rw (lines_of-fed (line_text line) rest (lacks-line_text now line (parts_of now line w.writable) w.readable), line_of-line_text now line w.writable w.readable, behind) refl

all_written : (now : ℕ) (lines : List ScriptLine) → All (IsWritten now) lines → lines_read now (flat_map fed lines) ≡ Ok lines
all_written now [] h = lines_read-none now
all_written now (line ∷ lines) h =
    lines_read-fed now line (flat_map fed lines) lines (All-head (IsWritten now) line lines h) (all_written now lines (All-tail (IsWritten now) line lines h))

pub script_of-script_text : (now : ℕ) (lines : List ScriptLine) → All (IsWritten now) lines → length (script_text lines) ≤ 16777216 → script_of now (script_text lines) ≡ Ok lines
unfolding script_of script_text
script_of-script_text now lines h short = rw (le-ltb 16777216 (length (flat_map fed lines)) short, all_written now lines h) refl

-- ---- the first line without a text

pub first_unwritable-is : (now : ℕ) (lines : List ScriptLine) (place : ℕ) (line : ScriptLine) → place < length lines → All (IsWritten now) (take place lines)
    → is_writable now (get_or lines place line) ≡ false → first_unwritable now lines ≡ Some (place + 1)
unfolding first_unwritable
first_unwritable-is now lines place line h before bad =
    let fine : (k : ℕ) → k < place → not (is_writable now (get_or lines k line)) ≡ false =
    λ k l. (let w : IsWritten now (get_or (take place lines) k line) = before k line (omega (arith, length-take place lines)) in
    rw (← (get_or-take place lines k line l), w.writable) refl) in
    let at : position_or_len (λ line. not (is_writable now line)) lines ≡ place =
    position_or_len_is (λ line. not (is_writable now line)) lines place line (omega arith) fine (λ l. rw bad refl) in
    rw (at, lt-ltb place (length lines) h) refl

-- ---- one line more

texts-next : (lines : List ScriptLine) (place : ℕ) (line : ScriptLine) → place < length lines → flat_map fed (take (suc place) lines) ≡ flat_map fed (take place lines) ++ fed (get_or lines place line)
texts-next [] place line h = let no : ⊥ = omega arith in absurd no
texts-next (first ∷ lines) zero line h = append-nil (fed first)
texts-next (first ∷ lines) (suc place) line h = rw (texts-next lines place line (omega arith)) (sym (append_assoc (fed first) (flat_map fed (take place lines)) (fed (get_or lines place line))))

pub texts-more : (lines : List ScriptLine) (place : ℕ) (line : ScriptLine) (before after : List ℕ) → place < length lines → line ≡ get_or lines place line
    → before ≡ flat_map fed (take place lines) → after ≡ before ++ fed line → after ≡ flat_map fed (take (place + 1) lines)
texts-more lines place line before after h e b a = a ∙ ap (λ text. text ++ fed line) b ∙ ap (λ last. flat_map fed (take place lines) ++ fed last) e ∙ sym (rw add-one (texts-next lines place line h))
