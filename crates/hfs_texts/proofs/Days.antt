-- Days counted from 1904 on.
use Rattle.std.proofs.Common.{◌≡◌, ◌∙◌, sym, ap, subst, refl, ℕ, zero, suc, ◌+◌, ◌-◌, ◌*◌, ◌/◌, ◌%◌, ◌<◌, ◌≤◌, Bool, true, false, not, ◌&&◌, List, ◌∷◌, length, drop, get_or, arith, drop-cons, inl, inr}
use Rattle.std.specs.Prelude.{sum}
use Rattle.std.proofs.lemmas.Bool.{lt-ltb, le-ltb, cases_lt, and_parts, not-true}
use Rattle.std.proofs.lemmas.List.Sums.{sum_by-drop_more}
use Rattle.hfs_texts.specs.declared.calendar.Day.{Day}
use Rattle.hfs_texts.specs.Calendar.{is_leap_year, month_lengths, year_length, day_from_month, day_of_year, day_from_year, day_since_1904}
use Rattle.hfs_fields.proofs.CommonLemmas.{each_below}
use Rattle.hfs_fields.proofs.CommonLemmas.{at-each}

-- ---- months

pub first-month : (year month len : ℕ) (lengths : List ℕ) (days : ℕ) → days < len
    → day_from_month year month (len ∷ lengths) days ≡ record { year = year; month = month; day = days + 1 }
unfolding day_from_month
first-month year month len lengths days h = rw (lt-ltb days len h)

pub later-month : (year month len : ℕ) (lengths : List ℕ) (days : ℕ) → len ≤ days
    → day_from_month year month (len ∷ lengths) days ≡ day_from_month year (month + 1) lengths (days - len)
unfolding day_from_month
later-month year month len lengths days h = rw (le-ltb days len h)

pub month-here : (year month i days : ℕ) (lengths : List ℕ) → i < length lengths → days < get_or lengths i 0
    → record { year = year; month = month; day = days + 1 } ≡ day_from_month year month (drop i lengths) days
month-here year month i days lengths within here =
    sym (first-month year month (get_or lengths i 0) (drop (suc i) lengths) days here) ∙ ap (λ ls. day_from_month year month ls days) (sym (drop-cons lengths i 0 within))

pub month-next : (year month i days : ℕ) (lengths : List ℕ) → i < length lengths → get_or lengths i 0 ≤ days
    → day_from_month year (month + 1) (drop (i + 1) lengths) (days - get_or lengths i 0) ≡ day_from_month year month (drop i lengths) days
month-next year month i days lengths within later =
    let one : suc i ≡ i + 1 = omega arith in
    ap (λ k. day_from_month year (month + 1) (drop k lengths) (days - get_or lengths i 0)) (sym one)
    ∙ sym (later-month year month (get_or lengths i 0) (drop (suc i) lengths) days later)
    ∙ ap (λ ls. day_from_month year month ls days) (sym (drop-cons lengths i 0 within))

pub less-left : (i days : ℕ) (lengths : List ℕ) → i < length lengths → get_or lengths i 0 ≤ days → days < sum (drop i lengths)
    → days - get_or lengths i 0 < sum (drop (i + 1) lengths)
less-left i days lengths within later below = omega (arith, sum_by-drop_more (λ (x : ℕ). x) lengths i 0 within)

pub day_of_year-months : (year days : ℕ) → day_from_month year 1 (month_lengths year) days ≡ day_of_year year days
unfolding day_of_year
day_of_year-months year days = refl

pub year_length-months : (year : ℕ) → year_length year ≡ sum (month_lengths year)
unfolding year_length
year_length-months year = refl

-- ---- years

leap-length : (year : ℕ) → is_leap_year year ≡ true → year_length year ≡ 366
unfolding year_length month_lengths
leap-length year e = rw e

plain-length : (year : ℕ) → is_leap_year year ≡ false → year_length year ≡ 365
unfolding year_length month_lengths
plain-length year e = rw e

this-year : (years year days : ℕ) → days < year_length year → day_from_year years year days ≡ day_of_year year days
unfolding day_from_year
this-year zero year days h = refl
this-year (suc years) year days h = rw (lt-ltb days (year_length year) h)

later-year : (years year days : ℕ) → year_length year ≤ days
    → day_from_year (suc years) year days ≡ day_from_year years (year + 1) (days - year_length year)
unfolding day_from_year
later-year years year days h = rw (le-ltb days (year_length year) h)

-- ---- four years of which the first is a leap year, and no other

pub record LeapCycle (year : ℕ) : Type 0 where
  pub leap : year_length year ≡ 366
  pub first : year_length (year + 1) ≡ 365
  pub second : year_length (year + 1 + 1) ≡ 365
  pub third : year_length (year + 1 + 1 + 1) ≡ 365

pub record DaysIn (year days : ℕ) (day : Day) : Type 0 where
  pub leap : days < 366 → day ≡ day_of_year year days
  pub behind : 366 ≤ days → day ≡ day_of_year (year + 1 + (days - 366) / 365) ((days - 366) % 365)

behind-leap : (more year days : ℕ) → LeapCycle year → 366 ≤ days
    → day_from_year (suc more) year days ≡ day_from_year more (year + 1) (days - 366)
behind-leap more year days c h =
    later-year more year days (omega (arith, c.leap)) ∙ ap (λ n. day_from_year more (year + 1) (days - n)) c.leap

behind-first : (more year days : ℕ) → LeapCycle year → 731 ≤ days
    → day_from_year (suc (suc more)) year days ≡ day_from_year more (year + 1 + 1) (days - 366 - 365)
behind-first more year days c h =
    behind-leap (suc more) year days c (omega arith) ∙ later-year more (year + 1) (days - 366) (omega (arith, c.first))
    ∙ ap (λ n. day_from_year more (year + 1 + 1) (days - 366 - n)) c.first

behind-second : (more year days : ℕ) → LeapCycle year → 1096 ≤ days
    → day_from_year (suc (suc (suc more))) year days ≡ day_from_year more (year + 1 + 1 + 1) (days - 366 - 365 - 365)
behind-second more year days c h =
    behind-first (suc more) year days c (omega arith) ∙ later-year more (year + 1 + 1) (days - 366 - 365) (omega (arith, c.second))
    ∙ ap (λ n. day_from_year more (year + 1 + 1 + 1) (days - 366 - 365 - n)) c.second

behind-third : (more year days : ℕ) → LeapCycle year → 1461 ≤ days
    → day_from_year (suc (suc (suc (suc more)))) year days ≡ day_from_year more (year + 1 + 1 + 1 + 1) (days - 366 - 365 - 365 - 365)
behind-third more year days c h =
    behind-second (suc more) year days c (omega arith) ∙ later-year more (year + 1 + 1 + 1) (days - 366 - 365 - 365) (omega (arith, c.third))
    ∙ ap (λ n. day_from_year more (year + 1 + 1 + 1 + 1) (days - 366 - 365 - 365 - n)) c.third

same-day : (y z d e : ℕ) → y ≡ z → d ≡ e → day_of_year y d ≡ day_of_year z e
same-day y z d e p q = λ i. day_of_year (p i) (q i)

in-cycle : (more year days : ℕ) → LeapCycle year → days < 1461 → DaysIn year days (day_from_year (suc (suc (suc more))) year days)
in-cycle more year days c small = record {
  leap = λ h. this-year (suc (suc (suc more))) year days (omega (arith, c.leap));
  behind = λ h. elim (cases_lt days 731) [
    | inl a ↦ behind-leap (suc (suc more)) year days c h ∙ this-year (suc (suc more)) (year + 1) (days - 366) (omega (arith, c.first))
        ∙ same-day _ _ _ _ (omega arith) (omega arith)
    | inr a ↦ elim (cases_lt days 1096) [
      | inl b ↦ behind-first (suc more) year days c a ∙ this-year (suc more) (year + 1 + 1) (days - 366 - 365) (omega (arith, c.second))
          ∙ same-day _ _ _ _ (omega arith) (omega arith)
      | inr b ↦ behind-second more year days c b ∙ this-year more (year + 1 + 1 + 1) (days - 366 - 365 - 365) (omega (arith, c.third))
          ∙ same-day _ _ _ _ (omega arith) (omega arith)
    ]
  ];
}

-- ---- many such cycles

years_of_cycles : ℕ → ℕ
years_of_cycles zero = 3
years_of_cycles (suc m) = suc (suc (suc (suc (years_of_cycles m))))

in-cycles : (m year q r y : ℕ) → ((k : ℕ) → k ≤ m → LeapCycle (year + k * 4)) → q ≤ m → r < 1461 → y ≡ year + q * 4
    → DaysIn y r (day_from_year (years_of_cycles m) year (q * 1461 + r))
unfolding years_of_cycles
in-cycles zero year zero r y leaps within small is =
    let here : year + 0 * 4 ≡ y = omega arith in
    let same : year ≡ y = omega arith in
    let all : r ≡ 0 * 1461 + r = omega arith in
    subst (λ d. DaysIn y r (day_from_year 3 year d)) all
    (subst (λ z. DaysIn y r (day_from_year 3 z r)) (sym same) (in-cycle zero y r (subst LeapCycle here (leaps 0 (omega arith))) small))
in-cycles zero year (suc q) r y leaps within small is = absurd (omega arith)
in-cycles (suc m) year zero r y leaps within small is =
    let here : year + 0 * 4 ≡ y = omega arith in
    let same : year ≡ y = omega arith in
    let all : r ≡ 0 * 1461 + r = omega arith in
    subst (λ d. DaysIn y r (day_from_year (years_of_cycles (suc m)) year d)) all
    (subst (λ z. DaysIn y r (day_from_year (years_of_cycles (suc m)) z r)) (sym same)
    (in-cycle (suc (years_of_cycles m)) y r (subst LeapCycle here (leaps 0 (omega arith))) small))
in-cycles (suc m) year (suc q) r y leaps within small is =
    let here : year + 0 * 4 ≡ year = omega arith in
    let step = behind-third (years_of_cycles m) year (suc q * 1461 + r) (subst LeapCycle here (leaps 0 (omega arith))) (omega arith) in
    let rest : suc q * 1461 + r - 366 - 365 - 365 - 365 ≡ q * 1461 + r = omega arith in
    let whole = step ∙ ap (day_from_year (years_of_cycles m) (year + 1 + 1 + 1 + 1)) rest in
    let later = in-cycles m (year + 1 + 1 + 1 + 1) q r y
    (λ k h. subst LeapCycle (turned year k) (leaps (suc k) (omega arith))) (omega arith) small (omega arith) in
    subst (DaysIn y r) (sym whole) later
  where
    turned : (year k : ℕ) → year + suc k * 4 ≡ year + 1 + 1 + 1 + 1 + k * 4
    turned year k = omega arith

cycle-test : ℕ → Bool
cycle-test k =
    is_leap_year (1904 + k * 4) && (not (is_leap_year (1904 + k * 4 + 1)) && (not (is_leap_year (1904 + k * 4 + 1 + 1)) && not (is_leap_year (1904 + k * 4 + 1 + 1 + 1))))

cycles-tried : (k : ℕ) → k < 35 → cycle-test k ≡ true
unfolding each_below cycle-test is_leap_year
cycles-tried k h = at-each 35 cycle-test refl k h

pub leap-cycles : (k : ℕ) → k ≤ 34 → LeapCycle (1904 + k * 4)
unfolding cycle-test
leap-cycles k h =
    let all = cycles-tried k (omega arith) in
    let a = and_parts _ _ all in
    let b = and_parts _ _ a.1 in
    let c = and_parts _ _ b.1 in
    record {
      leap = leap-length _ a.0;
      first = plain-length _ (not-true _ b.0);
      second = plain-length _ (not-true _ c.0);
      third = plain-length _ (not-true _ c.1);
    }

pub since-1904 : (days : ℕ) → days < 49711 → DaysIn (1904 + days / 1461 * 4) (days % 1461) (day_since_1904 days)
unfolding day_since_1904 years_of_cycles
since-1904 days small =
    let whole : days / 1461 * 1461 + days % 1461 ≡ days = omega arith in
    subst (λ d. DaysIn (1904 + days / 1461 * 4) (days % 1461) (day_from_year 139 1904 d)) whole
    (in-cycles 34 1904 (days / 1461) (days % 1461) (1904 + days / 1461 * 4) leap-cycles (omega arith) (omega arith) refl)

-- ---- the day as the code finds it

pub in-leap-year : (days : ℕ) → days < 49711 → days % 1461 < 366 → days % 1461 < year_length (1904 + days / 1461 * 4)
in-leap-year days small h = omega (arith, (leap-cycles (days / 1461) (omega arith)).leap)

pub lengths-behind : (year k : ℕ) → LeapCycle year → k < 3 → year_length (year + 1 + k) ≡ 365
lengths-behind year k c h = elim (cases_lt k 1) [
  | inl a ↦ ap year_length (one year k a) ∙ c.first
  | inr a ↦ elim (cases_lt k 2) [ inl b ↦ ap year_length (two year k a b) ∙ c.second | inr b ↦ ap year_length (three year k b h) ∙ c.third ]
]
  where
    one : (year k : ℕ) → k < 1 → year + 1 + k ≡ year + 1
    one year k a = omega arith

    two : (year k : ℕ) → 1 ≤ k → k < 2 → year + 1 + k ≡ year + 1 + 1
    two year k a b = omega arith

    three : (year k : ℕ) → 2 ≤ k → k < 3 → year + 1 + k ≡ year + 1 + 1 + 1
    three year k a b = omega arith

pub in-year-behind : (days : ℕ) → days < 49711 → 366 ≤ days % 1461
    → (days % 1461 - 366) % 365 < year_length (1904 + days / 1461 * 4 + 1 + (days % 1461 - 366) / 365)
in-year-behind days small h =
    omega (arith, lengths-behind (1904 + days / 1461 * 4) ((days % 1461 - 366) / 365) (leap-cycles (days / 1461) (omega arith)) (omega arith))
