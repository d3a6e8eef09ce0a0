-- What is told in a bag's description and in its manifest comes back.
use Rattle.std.proofs.Common.{◌≡◌, ◌∙◌, sym, ap, refl, ℕ, zero, suc, ◌<◌, Bool, true, List, [], ◌∷◌, ◌++◌, length, take, drop, Some, codes, arith, append_assoc}
use Rattle.std.specs.Result.{result_ok}
use Rattle.std.proofs.lemmas.Bool.{and_parts, and_from, ltb-true}
use Rattle.std.proofs.lemmas.List.{length-append, take_at, drop_at}
use Rattle.hfs_fields.proofs.CommonLemmas.{each_below}
use Rattle.hfs_fields.proofs.CommonLemmas.{at-each}
use Rattle.hex.specs.Hex.{encode_lower, encode_with, lower_digits, IsBytes}
use Rattle.hex.proofs.HexLemmas.{decode_sized-encode_lower, length-encode_with}
use Rattle.hfs_texts.specs.Lines.{line}
use Rattle.hfs_texts.specs.NameLaws.{is_bytes}
use Rattle.hfs_texts.specs.PlainTexts.{plain_text}
use Rattle.hfs_bag.specs.declared.facts.BagFacts.{BagFacts}
use Rattle.hfs_bag.specs.Bags.{digest_line}
use Rattle.hfs_bag.specs.Tags.{info_text}
use Rattle.hfs_put_sources.specs.TagLaws.{IsDigestReadBack, IsNameReadBack, is_line}
use Rattle.hfs_put_sources.specs.Lines.{first_value, lines}
use Rattle.hfs_put_sources.specs.Manifests.{digest_in, digest_of, path_in}
use Rattle.hfs_put_sources.proofs.Clean.{is_clean, are_clean, plain-clean}
use Rattle.hfs_put_sources.proofs.DigestLines.{digest_marked}
use Rattle.hfs_put_sources.proofs.LinesRead.{line-before}

is-line : (xs : List ℕ) → are_clean xs ≡ true → is_line xs ≡ true
unfolding is_clean
is-line [] h = refl
is-line (x ∷ xs) h =
    let two = and_parts _ _ h in
    and_from _ _ (and_parts _ _ two.0).0 (is-line xs two.1)

-- ---- the description

label : List ℕ
label = codes "External-Identifier: "

value-first : (value : List ℕ) (more : List (List ℕ)) → first_value (codes "External-Identifier: ") ((codes "External-Identifier: " ++ value) ∷ more) ≡ Some value
unfolding first_value
value-first value more = refl

both-lines : (xs ys : List ℕ) → is_line xs ≡ true → is_line ys ≡ true → is_line (xs ++ ys) ≡ true
both-lines [] ys a b = b
both-lines (x ∷ xs) ys a b =
    let two = and_parts _ _ a in
    and_from _ _ two.0 (both-lines xs ys two.1 b)

-- one part more behind the first
onto : (whole a b c : List ℕ) → whole ≡ a ++ b → whole ++ c ≡ a ++ (b ++ c)
onto whole a b c e = ap (λ t. t ++ c) e ∙ append_assoc a b c

first-of-eight : (a b c d e f g h : List ℕ) → ((((((a ++ b) ++ c) ++ d) ++ e) ++ f) ++ g) ++ h ≡ a ++ ((((((b ++ c) ++ d) ++ e) ++ f) ++ g) ++ h)
first-of-eight a b c d e f g h =
    onto _ a (((((b ++ c) ++ d) ++ e) ++ f) ++ g) h (onto _ a ((((b ++ c) ++ d) ++ e) ++ f) g (onto _ a (((b ++ c) ++ d) ++ e) f
    (onto _ a ((b ++ c) ++ d) e (onto _ a (b ++ c) d (onto _ a b c refl)))))

text-first : (value rest : List ℕ) → is_line value ≡ true → first_value (codes "External-Identifier: ") (lines (((label ++ value) ++ (10 ∷ [])) ++ rest)) ≡ Some value
unfolding label
text-first value rest h =
    ap (λ t. first_value (codes "External-Identifier: ") (lines t)) (append_assoc (label ++ value) (10 ∷ []) rest)
    ∙ ap (first_value (codes "External-Identifier: ")) (line-before (label ++ value) rest (both-lines label value refl h))
    ∙ value-first value (lines rest)

pub name-back : (name : List ℕ) (facts : BagFacts) (bytes files : ℕ) → is_bytes name ≡ true → facts.identifier.now ≡ plain_text name → IsNameReadBack name facts bytes files
unfolding info_text line label
name-back name facts bytes files h is =
    ap (λ t. first_value (codes "External-Identifier: ") (lines t)) (first-of-eight ((label ++ facts.identifier.now) ++ (10 ∷ [])) _ _ _ _ _ _ _)
    ∙ text-first facts.identifier.now _ (ap is_line is ∙ is-line (plain_text name) (plain-clean name h))
    ∙ ap Some is

-- ---- the manifest

digits-test : ℕ → Bool
digits-test b = is_line (encode_lower (b ∷ []))

digits-tried : (b : ℕ) → b < 256 → digits-test b ≡ true
unfolding each_below digits-test encode_with
digits-tried b h = at-each 256 digits-test refl b h

digits-line : (digest : List ℕ) → is_bytes digest ≡ true → is_line (encode_lower digest) ≡ true
unfolding encode_with digits-test
digits-line [] h = refl
digits-line (b ∷ rest) h =
    let two = and_parts _ _ h in
    both-lines (encode_lower (b ∷ [])) (encode_lower rest) (digits-tried b (ltb-true b 256 two.0)) (digits-line rest two.1)

hex-bytes : (xs : List ℕ) → is_bytes xs ≡ true → IsBytes xs
hex-bytes [] h i = omega arith
hex-bytes (b ∷ rest) h zero = ltb-true b 256 (and_parts _ _ h).0
hex-bytes (b ∷ rest) h (suc i) = hex-bytes rest (and_parts _ _ h).1 i

module _ (digits path : List ℕ) (size : length digits ≡ 64) where
  marked : (digits ++ codes "  ") ++ path ≡ digits ++ (32 ∷ 32 ∷ path)
  marked = append_assoc digits (codes "  ") path

  behind-digits : drop 64 ((digits ++ codes "  ") ++ path) ≡ 32 ∷ 32 ∷ path
  behind-digits = ap (drop 64) marked ∙ drop_at digits (32 ∷ 32 ∷ path) 64 size

  digest-in : digest_in ((digits ++ codes "  ") ++ path) ≡ digest_of digits
  digest-in =
      digest_marked ((digits ++ codes "  ") ++ path) digits (32 ∷ 32 ∷ path) (digest_of digits)
      (omega (arith, ap length marked, length-append digits (32 ∷ 32 ∷ path), size))
      (sym (ap (take 64) marked ∙ take_at digits (32 ∷ 32 ∷ path) 64 size)) (sym behind-digits) refl refl

  path-is : path_in ((digits ++ codes "  ") ++ path) ≡ path
  path-is = ap (drop 2) behind-digits

pub digest-back : (digest path rest : List ℕ) → is_bytes digest ≡ true → length digest ≡ 32 → is_line path ≡ true → IsDigestReadBack digest path rest
unfolding digest_line
digest-back digest path rest bytes whole clean =
    let size : length (encode_lower digest) ≡ 64 = omega (arith, length-encode_with lower_digits digest, whole) in
    record {
      line = (encode_lower digest ++ codes "  ") ++ path;
      parted =
          ap lines (append_assoc ((encode_lower digest ++ codes "  ") ++ path) (10 ∷ []) rest)
          ∙ line-before ((encode_lower digest ++ codes "  ") ++ path) rest
          (both-lines (encode_lower digest ++ codes "  ") path (both-lines (encode_lower digest) (codes "  ") (digits-line digest bytes) refl) clean);
      digest_is = digest-in (encode_lower digest) path size ∙ ap result_ok (decode_sized-encode_lower digest 32 whole (hex-bytes digest bytes));
      path_is = path-is (encode_lower digest) path size;
    }
