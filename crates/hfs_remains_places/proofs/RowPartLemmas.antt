-- What two things have that are called the same in one folder.
use Rattle.std.proofs.Common.{◌≡◌, ℕ, ◌+◌, ◌-◌, ◌^◌, ◌<◌, Bool, true, false, ◌&&◌, ◌==◌, nat_le, if◌then◌else◌, List, [], ◌∷◌, ◌++◌, map, codes, refl, sym, ap, ◌∙◌, arith, inl, inr}
use Rattle.std.specs.Char.{to_ascii_lowercase}
use Rattle.std.specs.Fmt.{decimal}
use Rattle.std.specs.List.{list_all}
use Rattle.std.proofs.lemmas.Bool.{cases_lt, and_parts, and_from, and_left, le-leb, lt-leb, eqb-false, ne_eqb}
use Rattle.std.proofs.lemmas.Fmt.{decimal_injective}
use Rattle.std.proofs.lemmas.List.{map-append}
use Rattle.std.proofs.lemmas.Str.Ascii.{lowercase_is}
use Rattle.hfs_fields.specs.Order.{fold_letter, folded}
use Rattle.hfs_texts.specs.HostNames.{host_name}
use Rattle.hfs_texts.proofs.HostNameLemmas.{text-safe}
use Rattle.hfs_remains_places.specs.declared.things.Thing.{Thing}
use Rattle.hfs_remains_places.specs.Entries.{entry_row}
use Rattle.hfs_remains_places.proofs.CaseLemmas.{stays, is-digit, digit-range, decimal-digits}
use Rattle.hfs_remains_places.proofs.SlashLemmas.{has-slash, slash-parts, before-last, behind-last, no-slash-safe, before-joined, behind-joined}
use Rattle.hfs_remains_places.specs.Laws.{IsThing}

-- ---- lower case

letter-back : (c : ℕ) → fold_letter (to_ascii_lowercase c) ≡ fold_letter c
letter-back c =
    elim (cases_lt c 65) [
      | inl before ↦ ap fold_letter ((lowercase_is c).1 before)
      | inr low ↦
          elim (cases_lt 90 c) [
            | inl behind ↦ ap fold_letter ((lowercase_is c).2 behind)
            | inr high ↦
                let so : (nat_le 97 (c + 32) && nat_le (c + 32) 122) ≡ true =
                and_from (nat_le 97 (c + 32)) (nat_le (c + 32) 122) (le-leb 97 (c + 32) (omega (arith, low))) (le-leb (c + 32) 122 (omega (arith, high))) in
                let upper : c + 32 - 32 ≡ c = omega arith in
                ap fold_letter ((lowercase_is c).0 (low, high))
                ∙ ap (λ (b : Bool). if b then c + 32 - 32 else c + 32) so
                ∙ upper
                ∙ sym (stays c (and_left (nat_le 97 c) (nat_le c 122) (lt-leb 97 c (omega (arith, high)))))
          ]
    ]

folded-lowered : (text : List ℕ) → folded (map to_ascii_lowercase text) ≡ folded text
folded-lowered [] = refl
folded-lowered (c ∷ text) = λ i. letter-back c i ∷ folded-lowered text i

lowered-digits : (ds : List ℕ) → list_all is-digit ds ≡ true → map to_ascii_lowercase ds ≡ ds
lowered-digits [] all = refl
lowered-digits (d ∷ ds) all =
    let two = and_parts (is-digit d) (list_all is-digit ds) all in
    let range = digit-range d two.0 in
    let first : to_ascii_lowercase d ≡ d = (lowercase_is d).1 (omega (arith, range.1)) in
    let others = lowered-digits ds two.1 in
    λ i. first i ∷ others i

slash-back : (c : ℕ) → to_ascii_lowercase c ≡ 47 → c ≡ 47
slash-back c same =
    elim (cases_lt c 65) [
      | inl before ↦ sym ((lowercase_is c).1 before) ∙ same
      | inr low ↦
          elim (cases_lt 90 c) [
            | inl behind ↦ sym ((lowercase_is c).2 behind) ∙ same
            | inr high ↦ let lower : to_ascii_lowercase c ≡ c + 32 = (lowercase_is c).0 (low, high) in absurd (omega (arith, low, sym lower ∙ same))
          ]
    ]

lowered-slash : (text : List ℕ) → has-slash text ≡ false → has-slash (map to_ascii_lowercase text) ≡ false
lowered-slash [] none = refl
lowered-slash (c ∷ text) none =
    let two = slash-parts (c == 47) (has-slash text) none in
    let first : (to_ascii_lowercase c == 47) ≡ false = ne_eqb (to_ascii_lowercase c) 47 (λ e. eqb-false c 47 two.0 (slash-back c e)) in
    ap (λ (b : Bool). if b then true else has-slash (map to_ascii_lowercase text)) first ∙ lowered-slash text two.1

-- ---- rows

row-is : (thing : Thing) → IsThing thing → entry_row thing ≡ decimal thing.parent ++ 47 ∷ map to_ascii_lowercase (host_name thing.name)
unfolding entry_row
row-is thing is =
    let slash : to_ascii_lowercase 47 ≡ 47 = (lowercase_is 47).1 (omega arith) in
    let few : thing.parent < 2 ^ 64 = omega (arith, is.parent) in
    map-append to_ascii_lowercase (decimal thing.parent) (codes "/" ++ host_name thing.name)
    ∙ (λ t. lowered-digits (decimal thing.parent) (decimal-digits thing.parent few) t ++ slash t ∷ map to_ascii_lowercase (host_name thing.name))

host-slash : (thing : Thing) → IsThing thing → has-slash (map to_ascii_lowercase (host_name thing.name)) ≡ false
host-slash thing is = lowered-slash (host_name thing.name) (no-slash-safe (host_name thing.name) (text-safe thing.name is.bytes))

-- the same folder, and the same host name but for case
pub record AreCalledAlike (a b : Thing) : Type 0 where
  pub parents : a.parent ≡ b.parent
  pub hosts : folded (host_name a.name) ≡ folded (host_name b.name)

pub rows-part : (a b : Thing) → IsThing a → IsThing b → entry_row a ≡ entry_row b → AreCalledAlike a b
rows-part a b first second same =
    let lower : Thing → List ℕ = λ t. map to_ascii_lowercase (host_name t.name) in
    let e : decimal a.parent ++ 47 ∷ lower a ≡ decimal b.parent ++ 47 ∷ lower b = sym (row-is a first) ∙ same ∙ row-is b second in
    let numbers : decimal a.parent ≡ decimal b.parent = sym (before-joined (decimal a.parent) (lower a) (host-slash a first)) ∙ ap before-last e ∙ before-joined (decimal b.parent) (lower b) (host-slash b second) in
    let names : lower a ≡ lower b = sym (behind-joined (decimal a.parent) (lower a) (host-slash a first)) ∙ ap behind-last e ∙ behind-joined (decimal b.parent) (lower b) (host-slash b second) in
    record {
      parents = decimal_injective a.parent b.parent (omega (arith, first.parent)) (omega (arith, second.parent)) numbers;
      hosts = sym (folded-lowered (host_name a.name)) ∙ ap folded names ∙ folded-lowered (host_name b.name);
    }
