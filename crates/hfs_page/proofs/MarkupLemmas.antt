-- Markup that is read piece by piece.
use Rattle.std.proofs.Common.{◌≡◌, ◌≢◌, ◌∙◌, sym, ap, refl, ℕ, zero, suc, Bool, true, false, not, ◌&&◌, List, [], ◌∷◌, ◌++◌, Option, Some, None, decimal, arith}
use Rattle.std.specs.Prelude.{◌==◌, ◌+◌, ◌/◌, ◌%◌, ◌<◌, if◌then◌else◌}
use Rattle.std.specs.List.{list_all}
use Rattle.std.proofs.lemmas.Bool.{and_from, and_parts, true≢false, lt-ltb, ne_eqb}
use Rattle.std.proofs.lemmas.List.{append_assoc}
use Rattle.std.specs.Fmt.{digits, digits_onto, digit_glyph}
use Rattle.hfs_page.specs.Laws.{is_no_delimiter}
use Rattle.hfs_page.specs.Markup.{IsNested, Leads, Reading, behind_byte, behind_bytes, behind_tag, between, in_name, behind_name}

-- ---- pieces

-- where these elements stand open and others around them, between tags, or behind the name of a tag
abbrev pub At : Type 0
At = List (List ℕ) → Reading

abbrev pub at : List (List ℕ) → At
at names outer = between (names ++ outer)

abbrev pub in-tag : List ℕ → List (List ℕ) → At
in-tag name names outer = record { opened = names ++ outer; place = behind_name name }

pub record Goes (from to : At) (bytes : List ℕ) : Type 0 where
  pub goes : (outer : List (List ℕ)) → behind_bytes (Some (from outer)) bytes ≡ Some (to outer)

abbrev pub Passes : List (List ℕ) → List (List ℕ) → List ℕ → Type 0
Passes before behind bytes = Goes (at before) (at behind) bytes

behind_bytes-append : (reading : Option Reading) (x y : List ℕ) → behind_bytes reading (x ++ y) ≡ behind_bytes (behind_bytes reading x) y
behind_bytes-append None x y = refl
behind_bytes-append (Some reading) [] y = refl
behind_bytes-append (Some reading) (b ∷ x) y = behind_bytes-append (behind_byte reading.opened reading.place b) x y

infixl 5 ◌▹◌
pub ◌▹◌ : {from via to : At} {x y : List ℕ} → Goes from via x → Goes via to y → Goes from to (x ++ y)
◌▹◌ {from} {via} {to} {x} {y} first second = record {
  goes = λ outer. behind_bytes-append (Some (from outer)) x y ∙ ap (λ (r : Option Reading). behind_bytes r y) (first.goes outer) ∙ second.goes outer;
}

-- a text that is written out
pub constant : (from to : At) (bytes : List ℕ) → ((outer : List (List ℕ)) → behind_bytes (Some (from outer)) bytes ≡ Some (to outer)) → Goes from to bytes
constant from to bytes is = record { goes = is }

-- what leads anywhere leads there inside other elements
pub inside : (around before behind : List (List ℕ)) (x : List ℕ) → Leads before behind x → Passes (before ++ around) (behind ++ around) x
inside around before behind x leads = record {
  goes = λ outer.
      (λ i. behind_bytes (Some (between (append_assoc before around outer i))) x)
      ∙ leads (around ++ outer)
      ∙ (λ i. Some (between (sym (append_assoc behind around outer) i)));
}

-- a whole page
pub nested : (x : List ℕ) → Passes [] [] x → IsNested x
nested x passes = passes.goes []

-- ---- texts

no-less : (l g q s : Bool) → (not l && not g && not q && not s) ≡ true → l ≡ false
no-less true g q s h = absurd (true≢false (sym h))
no-less false g q s h = refl

no-greater : (l g q s : Bool) → (not l && not g && not q && not s) ≡ true → g ≡ false
no-greater true g q s h = absurd (true≢false (sym h))
no-greater false true q s h = absurd (true≢false (sym h))
no-greater false false q s h = refl

text-kept : (t : List ℕ) → list_all is_no_delimiter t ≡ true → (opened : List (List ℕ)) → behind_bytes (Some (between opened)) t ≡ Some (between opened)
text-kept [] h opened = refl
text-kept (b ∷ rest) h opened =
    let parts = and_parts (is_no_delimiter b) (list_all is_no_delimiter rest) h in
    ap (λ (x : Bool). behind_bytes (Some (if x then record { opened = opened; place = in_name [] } else between opened)) rest)
    (no-less (b == 0x3C) (b == 0x3E) (b == 0x22) (b == 0x27) parts.0)
    ∙ text-kept rest parts.1 opened

tag-kept : (name t : List ℕ) → list_all is_no_delimiter t ≡ true → (opened : List (List ℕ))
    → behind_bytes (Some (record { opened = opened; place = behind_name name })) t ≡ Some (record { opened = opened; place = behind_name name })
tag-kept name [] h opened = refl
tag-kept name (b ∷ rest) h opened =
    let parts = and_parts (is_no_delimiter b) (list_all is_no_delimiter rest) h in
    step (b == 0x3E) (no-greater (b == 0x3C) (b == 0x3E) (b == 0x22) (b == 0x27) parts.0)
    ∙ tag-kept name rest parts.1 opened
  where
    step : (x : Bool) → x ≡ false → behind_bytes (if x then behind_tag opened name else Some (record { opened = opened; place = behind_name name })) rest
        ≡ behind_bytes (Some (record { opened = opened; place = behind_name name })) rest
    step x e = ap (λ (x : Bool). behind_bytes (if x then behind_tag opened name else Some (record { opened = opened; place = behind_name name })) rest) e

pub text-goes : (names : List (List ℕ)) (t : List ℕ) → list_all is_no_delimiter t ≡ true → Passes names names t
text-goes names t h = record { goes = λ outer. text-kept t h (names ++ outer) }

pub tag-goes : (name : List ℕ) (names : List (List ℕ)) (t : List ℕ) → list_all is_no_delimiter t ≡ true → Goes (in-tag name names) (in-tag name names) t
tag-goes name names t h = record { goes = λ outer. tag-kept name t h (names ++ outer) }

-- ---- numbers

digit : (d : ℕ) → d < 10 → is_no_delimiter (48 + d) ≡ true
digit d h = and_from _ _ (and_from _ _ (and_from _ _ (ne 0x3C (omega arith)) (ne 0x3E (omega arith))) (ne 0x22 (omega arith))) (ne 0x27 (omega arith))
  where
    ne : (c : ℕ) → 48 + d ≢ c → not (48 + d == c) ≡ true
    ne c other = ap not (ne_eqb (48 + d) c other)

glyph : (n : ℕ) → is_no_delimiter (digit_glyph false (n % 10)) ≡ true
glyph n = ap (λ (x : Bool). is_no_delimiter (if x then 48 + n % 10 else 87 + n % 10)) (lt-ltb (n % 10) 10 (omega arith)) ∙ digit (n % 10) (omega arith)

digits-plain : (k n : ℕ) (acc : List ℕ) → list_all is_no_delimiter acc ≡ true → list_all is_no_delimiter (digits_onto k 10 false n acc) ≡ true
digits-plain zero n acc h = h
digits-plain (suc k) n acc h =
    ends (n / 10 == 0) (digits-plain k (n / 10) (digit_glyph false (n % 10) ∷ acc) more)
  where
    more : list_all is_no_delimiter (digit_glyph false (n % 10) ∷ acc) ≡ true
    more = and_from _ _ (glyph n) h

    ends : (x : Bool) → list_all is_no_delimiter (digits_onto k 10 false (n / 10) (digit_glyph false (n % 10) ∷ acc)) ≡ true
        → list_all is_no_delimiter (if x then digit_glyph false (n % 10) ∷ acc else digits_onto k 10 false (n / 10) (digit_glyph false (n % 10) ∷ acc)) ≡ true
    ends true rest = and_from _ _ (glyph n) h
    ends false rest = rest

pub decimal-plain : (n : ℕ) → list_all is_no_delimiter (decimal n) ≡ true
unfolding digits
decimal-plain n = digits-plain 64 n [] refl

-- ---- either of two

pub goes-if : {from to : At} {x y : List ℕ} (test : Bool) → Goes from to x → Goes from to y → Goes from to (if test then x else y)
goes-if true first second = first
goes-if false first second = second
