-- Digits of bytes, and pieces of answers, that are written one behind the other.
use Rattle.std.proofs.Common.{◌≡◌, ◌∙◌, ℕ, ◌+◌, ◌-◌, ◌*◌, ◌<◌, ◌≤◌, ◌/◌, ◌%◌, List, [], ◌∷◌, ◌++◌, length, take, drop, get_or, slice_set, Option, refl, sym, ap, subst, arith}
use Rattle.std.specs.List.{flat_map}
use Rattle.std.specs.Io.KnownBytes.{Appends}
use Rattle.std.proofs.KnownBytes.{Appends-trans}
use Rattle.std.proofs.Math.Seq.{take-add}
use Rattle.std.proofs.lemmas.List.{take_more, take_more_set, take-append-drop, append_assoc, length-set}
use Rattle.std.proofs.lemmas.Grind.{flat_map-append}
use Rattle.hfs_texts.proofs.FrontLemmas.{front_first, front_next}
use Rattle.hfs_texts.specs.Lines.{hex_byte, hex_digit, hex_text}
use Rattle.hfs_texts.specs.Writing.{AppendsFront}

-- ---- digits that are laid two by two

two-more : (xs : List ℕ) (i : ℕ) (a b : ℕ) → i + 1 < length xs → take (i + 1 + 1) (slice_set (slice_set xs i a) (i + 1) b) ≡ take i xs ++ a ∷ b ∷ []
two-more xs i a b within =
    take_more_set (slice_set xs i a) (i + 1) b (let e : i + 1 < length (slice_set xs i a) = subst (λ n. i + 1 < n) (sym (length-set xs i a)) within in e)
    ∙ ap (λ l. l ++ b ∷ []) (take_more_set xs i a (omega (arith, within)))
    ∙ append_assoc (take i xs) (a ∷ []) (b ∷ [])

byte-more : (bytes : List ℕ) (i : ℕ) → i < length bytes → hex_text (take (i + 1) bytes) ≡ hex_text (take i bytes) ++ hex_byte (get_or bytes i 0)
unfolding hex_text hex_byte
byte-more bytes i within = ap (flat_map hex_byte) (take_more bytes i 0 within) ∙ flat_map-append hex_byte (take i bytes) (get_or bytes i 0 ∷ [])

-- one byte more has its digits
pub digits-more : (bytes digits : List ℕ) (i high low : ℕ) → length digits ≡ 2 * length bytes → i < length bytes → take (2 * i) digits ≡ hex_text (take i bytes)
    → high ≡ hex_digit (get_or bytes i 0 / 16) → low ≡ hex_digit (get_or bytes i 0 % 16)
    → take (2 * (i + 1)) (slice_set (slice_set digits (2 * i) high) (2 * i + 1) low) ≡ hex_text (take (i + 1) bytes)
unfolding hex_byte
digits-more bytes digits i high low many within before high_is low_is =
    (λ k. take ((let e : 2 * (i + 1) ≡ 2 * i + 1 + 1 = omega arith in e) k) (slice_set (slice_set digits (2 * i) high) (2 * i + 1) low))
    ∙ two-more digits (2 * i) high low (omega (arith, many, within))
    ∙ (λ k. before k ++ high_is k ∷ low_is k ∷ [])
    ∙ sym (byte-more bytes i within)

pub same-length : (digits : List ℕ) (i j a b n : ℕ) → length digits ≡ n → length (slice_set (slice_set digits i a) j b) ≡ n
same-length digits i j a b n is = length-set (slice_set digits i a) j b ∙ length-set digits i a ∙ is

-- ---- digits that are written some at a time

hex-append : (xs ys : List ℕ) → hex_text (xs ++ ys) ≡ hex_text xs ++ hex_text ys
unfolding hex_text
hex-append xs ys = flat_map-append hex_byte xs ys

module _ (a b c : Option (List ℕ)) (bytes : List ℕ) (done end : ℕ) (order : done ≤ end) where
  split : hex_text (take end bytes) ≡ hex_text (take done bytes) ++ hex_text (take (end - done) (drop done bytes))
  split = ap (λ (n : ℕ). hex_text (take n bytes)) (let e : end ≡ done + (end - done) = omega (arith, order) in e)
      ∙ ap hex_text (take-add done (end - done) bytes) ∙ hex-append (take done bytes) (take (end - done) (drop done bytes))

  pub some-more : Appends a b (hex_text (take done bytes)) → Appends b c (hex_text (take (end - done) (drop done bytes))) → Appends a c (hex_text (take end bytes))
  some-more first second =
      subst (Appends a c) (sym split) (Appends-trans a b c (hex_text (take done bytes)) (hex_text (take (end - done) (drop done bytes))) first second)

  pub some-front : Appends a b (hex_text (take done bytes)) → AppendsFront b c (hex_text (take (end - done) (drop done bytes))) → AppendsFront a c (hex_text bytes)
  some-front first second =
      subst (AppendsFront a c) (sym (hex-append (take end bytes) (drop end bytes)) ∙ ap hex_text (take-append-drop end bytes))
      (front_first a c (hex_text (take end bytes)) (hex_text (drop end bytes))
      (subst (AppendsFront a c) (sym split) (front_next a b c (hex_text (take done bytes)) (hex_text (take (end - done) (drop done bytes))) first second)))

-- ---- texts that are written one behind the other

module _ {X : Type 0} (f : X → List ℕ) (xs : List X) (last : List ℕ) (a b c : Option (List ℕ)) where
  text-more : (i : ℕ) (x : X) → i < length xs → x ≡ get_or xs i x → flat_map f (take (i + 1) xs) ≡ flat_map f (take i xs) ++ f x
  text-more i x within is =
      ap (flat_map f) (take_more xs i x within) ∙ flat_map-append f (take i xs) (get_or xs i x ∷ [])
      ∙ ap (λ (l : List ℕ). flat_map f (take i xs) ++ l) (append-none (f (get_or xs i x)) ∙ ap f (sym is))
    where
      append-none : (l : List ℕ) → l ++ [] ≡ l
      append-none [] = refl
      append-none (x ∷ l) = ap (λ (m : List ℕ). x ∷ m) (append-none l)

  pub text-front : (i : ℕ) (x : X) → i < length xs → x ≡ get_or xs i x → Appends a b (flat_map f (take i xs)) → AppendsFront b c (f x) → AppendsFront a c (flat_map f xs ++ last)
  text-front i x within is first second =
      front_first a c (flat_map f xs) last
      (subst (AppendsFront a c) (sym (flat_map-append f (take (i + 1) xs) (drop (i + 1) xs)) ∙ ap (flat_map f) (take-append-drop (i + 1) xs))
      (front_first a c (flat_map f (take (i + 1) xs)) (flat_map f (drop (i + 1) xs))
      (subst (AppendsFront a c) (sym (text-more i x within is)) (front_next a b c (flat_map f (take i xs)) (f x) first second))))
