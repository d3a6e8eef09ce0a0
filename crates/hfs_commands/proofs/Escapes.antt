-- A path that is printed byte for byte, and by runs of bytes that stand for themselves.
use Rattle.std.proofs.Common.{◌≡◌, ℕ, ◌+◌, ◌-◌, ◌<◌, ◌≤◌, ◌^◌, true, false, List, [], ◌∷◌, ◌++◌, length, get_or, take, drop, length-drop, get_or-drop, append_assoc, append-nil, take_all, ap, arith}
use Rattle.std.specs.Fmt.{digits, padded_integral, format_spec}
use Rattle.std.proofs.lemmas.Bool.Decides.{nat_tests}
use Rattle.std.proofs.lemmas.Fmt.{hex_byte as padded_hex}
use Rattle.std.proofs.lemmas.List.{drop_more, take_more, drop_all}
use Rattle.hfs_texts.specs.Lines.{hex_byte}
use Rattle.hfs_commands.specs.Paths.{escaped_byte, is_escaped, path_byte, path_text}

-- what `\\{:02x}` writes of a byte
pub escaped_byte-padded : (b : ℕ) → b < 256 → 92 ∷ padded_integral (format_spec 32 0 4 2 (2 ^ 64 - 1)) false [] (digits 16 false b) ≡ escaped_byte b
unfolding escaped_byte hex_byte
escaped_byte-padded b small = ap (λ l. 92 ∷ l) (padded_hex false b small)

-- what is printed as digits is ASCII
pub ascii_from_escaped : (b : ℕ) → is_escaped b ≡ true → b < 128
unfolding is_escaped
ascii_from_escaped b h = grind (arith, nat_tests)

-- what is printed of a byte, and of what follows
pub path_text-drop : (s : List ℕ) (i : ℕ) → i < length s → path_text (drop i s) ≡ path_byte (get_or s i 0) ++ path_text (drop (i + 1) s)
unfolding path_text
path_text-drop s i h = rw (drop_more s i 0 h)

pub path_byte-plain : (b : ℕ) → is_escaped b ≡ false → path_byte b ≡ b ∷ []
unfolding path_byte
path_byte-plain b plain = rw plain

pub path_byte-escaped : (b : ℕ) → is_escaped b ≡ true → path_byte b ≡ escaped_byte b
unfolding path_byte
path_byte-escaped b escaped = rw escaped

plus_minus : (a b : ℕ) → a ≤ b → a + (b - a) ≡ b
plus_minus a b h = omega arith

-- a byte that stands for itself joins the run before it
pub keep_byte : (s done total : List ℕ) (start i : ℕ) → start ≤ i → i < length s → is_escaped (get_or s i 0) ≡ false
    → done ++ (take (i - start) (drop start s) ++ path_text (drop i s)) ≡ total
    → done ++ (take (i + 1 - start) (drop start s) ++ path_text (drop (i + 1) s)) ≡ total
keep_byte s done total start i low within plain whole =
    let at : get_or (drop start s) (i - start) 0 ≡ get_or s i 0 = rw (get_or-drop start s (i - start) 0, plus_minus start i low) in
    let more = take_more (drop start s) (i - start) 0 (omega (arith, length-drop start s)) in
    let next : i + 1 - start ≡ i - start + 1 = omega arith in
    rw (next, more, at) (simp append_assoc (rw (path_text-drop s i within, path_byte-plain (get_or s i 0) plain) at whole))

-- a byte that is printed as digits ends the run
pub escape_byte : (s done total : List ℕ) (start i : ℕ) → i < length s → is_escaped (get_or s i 0) ≡ true
    → done ++ (take (i - start) (drop start s) ++ path_text (drop i s)) ≡ total
    → (done ++ (take (i - start) (drop start s) ++ escaped_byte (get_or s i 0))) ++ (take (i + 1 - (i + 1)) (drop (i + 1) s) ++ path_text (drop (i + 1) s)) ≡ total
escape_byte s done total start i within escaped whole =
    let zero : i + 1 - (i + 1) ≡ 0 = omega arith in
    let read = rw (path_text-drop s i within, path_byte-escaped (get_or s i 0) escaped) at whole in
    rw zero (simp append_assoc read)

-- at the path's end what is left is the run
pub path_text-end : (s done total : List ℕ) (start i : ℕ) → start ≤ i → i ≡ length s
    → done ++ (take (i - start) (drop start s) ++ path_text (drop i s)) ≡ total
    → done ++ drop start s ≡ total
unfolding path_text
path_text-end s done total start i low end whole =
    let all : take (i - start) (drop start s) ≡ drop start s = take_all _ _ (omega (arith, length-drop start s)) in
    let none : drop i s ≡ [] = drop_all i s (omega arith) in
    rw (all, none, append-nil) at whole
