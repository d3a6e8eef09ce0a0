-- Texts that are parted at their last slash.
use Rattle.std.proofs.Common.{◌≡◌, ℕ, ◌^◌, ◌<◌, Bool, true, false, ◌==◌, if◌then◌else◌, List, [], ◌∷◌, ◌++◌, length, refl, ap, ◌∙◌, arith}
use Rattle.std.specs.Fmt.{decimal}
use Rattle.std.specs.List.{list_all}
use Rattle.std.proofs.lemmas.Bool.{true≢false, and_parts, ne_eqb}
use Rattle.hfs_texts.proofs.HostNameLemmas.{is-safe-byte, safe-byte}
use Rattle.hfs_remains_places.proofs.CaseLemmas.{is-digit, digit-range, decimal-digits}

abbrev pub has-slash : List ℕ → Bool
has-slash [] = false
has-slash (c ∷ rest) = if c == 47 then true else has-slash rest

-- what stands before the last slash, and behind it
abbrev pub before-last : List ℕ → List ℕ
before-last [] = []
before-last (c ∷ rest) = if has-slash rest then c ∷ before-last rest else []

abbrev pub behind-last : List ℕ → List ℕ
behind-last [] = []
behind-last (c ∷ rest) = if has-slash rest then behind-last rest else if c == 47 then rest else c ∷ rest

-- ---- slashes

pub slash-parts : (here behind : Bool) → (if here then true else behind) ≡ false → (here ≡ false) × (behind ≡ false)
slash-parts true behind none = absurd (true≢false none)
slash-parts false behind none = (refl, none)

slash-later : (here behind : Bool) → behind ≡ true → (if here then true else behind) ≡ true
slash-later true behind some = refl
slash-later false behind some = some

pub slash-joined : (above part : List ℕ) → has-slash (above ++ 47 ∷ part) ≡ true
slash-joined [] part = refl
slash-joined (c ∷ above) part = slash-later (c == 47) (has-slash (above ++ 47 ∷ part)) (slash-joined above part)

pub no-slash-appended : (a b : List ℕ) → has-slash a ≡ false → has-slash b ≡ false → has-slash (a ++ b) ≡ false
no-slash-appended [] b first second = second
no-slash-appended (c ∷ a) b first second =
    let two = slash-parts (c == 47) (has-slash a) first in
    ap (λ (here : Bool). if here then true else has-slash (a ++ b)) two.0 ∙ no-slash-appended a b two.1 second

pub no-slash-safe : (text : List ℕ) → list_all is-safe-byte text ≡ true → has-slash text ≡ false
no-slash-safe [] safe = refl
no-slash-safe (c ∷ text) safe =
    let two = and_parts (is-safe-byte c) (list_all is-safe-byte text) safe in
    ap (λ (here : Bool). if here then true else has-slash text) (ne_eqb c 47 (safe-byte c two.0).0) ∙ no-slash-safe text two.1

no-slash-digits : (ds : List ℕ) → list_all is-digit ds ≡ true → has-slash ds ≡ false
no-slash-digits [] all = refl
no-slash-digits (d ∷ ds) all =
    let two = and_parts (is-digit d) (list_all is-digit ds) all in
    let low = (digit-range d two.0).0 in
    ap (λ (here : Bool). if here then true else has-slash ds) (ne_eqb d 47 (λ e. absurd (omega (arith, e, low)))) ∙ no-slash-digits ds two.1

pub no-slash-decimal : (n : ℕ) → n < 2 ^ 64 → has-slash (decimal n) ≡ false
no-slash-decimal n few = no-slash-digits (decimal n) (decimal-digits n few)

-- ---- both parts

pub before-whole : (part : List ℕ) → has-slash part ≡ false → before-last part ≡ []
before-whole [] none = refl
before-whole (c ∷ rest) none = ap (λ (b : Bool). if b then c ∷ before-last rest else []) (slash-parts (c == 47) (has-slash rest) none).1

pub behind-whole : (part : List ℕ) → has-slash part ≡ false → behind-last part ≡ part
behind-whole [] none = refl
behind-whole (c ∷ rest) none =
    let two = slash-parts (c == 47) (has-slash rest) none in
    λ i. if two.1 i then behind-last rest else if two.0 i then rest else c ∷ rest

pub before-joined : (above part : List ℕ) → has-slash part ≡ false → before-last (above ++ 47 ∷ part) ≡ above
before-joined [] part none = ap (λ (b : Bool). if b then 47 ∷ before-last part else []) none
before-joined (c ∷ above) part none =
    ap (λ (b : Bool). if b then c ∷ before-last (above ++ 47 ∷ part) else []) (slash-joined above part)
    ∙ ap (λ (l : List ℕ). c ∷ l) (before-joined above part none)

pub behind-joined : (above part : List ℕ) → has-slash part ≡ false → behind-last (above ++ 47 ∷ part) ≡ part
behind-joined [] part none = ap (λ (b : Bool). if b then behind-last part else part) none
behind-joined (c ∷ above) part none =
    ap (λ (b : Bool). if b then behind-last (above ++ 47 ∷ part) else if c == 47 then above ++ 47 ∷ part else c ∷ (above ++ 47 ∷ part)) (slash-joined above part)
    ∙ behind-joined above part none

-- behind a slash there are more
pub before-more : (above rest : List ℕ) → has-slash rest ≡ true → before-last (above ++ 47 ∷ rest) ≡ above ++ 47 ∷ before-last rest
before-more [] rest some = ap (λ (b : Bool). if b then 47 ∷ before-last rest else []) some
before-more (c ∷ above) rest some =
    ap (λ (b : Bool). if b then c ∷ before-last (above ++ 47 ∷ rest) else []) (slash-joined above rest)
    ∙ ap (λ (l : List ℕ). c ∷ l) (before-more above rest some)

-- ---- beginnings

abbrev pub starts-slash : List ℕ → Bool
starts-slash [] = false
starts-slash (c ∷ rest) = c == 47

pub starts-whole : (text : List ℕ) → has-slash text ≡ false → starts-slash text ≡ false
starts-whole [] none = refl
starts-whole (c ∷ rest) none = (slash-parts (c == 47) (has-slash rest) none).0

pub starts-joined : (above rest : List ℕ) → 0 < length above → starts-slash (above ++ rest) ≡ starts-slash above
starts-joined [] rest some = absurd (omega (arith, some))
starts-joined (c ∷ above) rest some = refl
