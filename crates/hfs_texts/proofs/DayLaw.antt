-- Each day that is found is a day of the calendar, and as far behind 1 January 1904 as was asked.
use Rattle.std.proofs.Common.{◌≡◌, ◌∙◌, sym, ap, subst, refl, ℕ, zero, suc, ◌+◌, ◌-◌, ◌*◌, ◌/◌, ◌%◌, ◌<◌, ◌≤◌, true, List, [], ◌∷◌, length, take, get_or, add-one, arith, inl, inr}
use Rattle.std.specs.Prelude.{sum, nat_lt}
use Rattle.std.specs.List.{list_all}
use Rattle.std.proofs.lemmas.Bool.{cases_lt, cases_Bool, and_parts, ltb-true}
use Rattle.std.proofs.lemmas.List.Sums.{sum_by-cons}
use Rattle.hfs_texts.specs.declared.calendar.Day.{Day}
use Rattle.hfs_texts.specs.Calendar.{is_leap_year, month_lengths, year_length, day_from_month, day_of_year, day_since_1904, days_of_years, days_before, IsDay}
use Rattle.hfs_texts.specs.NameLaws.{AreDays}
use Rattle.hfs_texts.proofs.Days.{LeapCycle, first-month, later-month, year_length-months, leap-cycles, since-1904, in-leap-year, in-year-behind}

-- ---- a day among months

record LiesIn (year month : ℕ) (lengths : List ℕ) (days : ℕ) (day : Day) : Type 0 where
  pub same_year : day.year ≡ year
  pub from : month ≤ day.month
  pub below : day.month < month + length lengths
  pub first : 1 ≤ day.day
  pub last : day.day ≤ get_or lengths (day.month - month) 0
  pub counted : sum (take (day.month - month) lengths) + (day.day - 1) ≡ days

lies-here : (year month len : ℕ) (lengths : List ℕ) (days : ℕ) → days < len
    → LiesIn year month (len ∷ lengths) days (record { year = year; month = month; day = days + 1 })
lies-here year month len lengths days h =
    let none : month - month ≡ 0 = omega arith in
    record {
      same_year = refl;
      from = omega arith;
      below = omega arith;
      first = omega arith;
      last = subst (λ k. days + 1 ≤ get_or (len ∷ lengths) k 0) (sym none) (omega arith);
      counted = ap (λ k. sum (take k (len ∷ lengths)) + (days + 1 - 1)) none ∙ omega arith;
    }

lies-later : (year month len : ℕ) (lengths : List ℕ) (days : ℕ) (day : Day) → len ≤ days → LiesIn year (month + 1) lengths (days - len) day
    → LiesIn year month (len ∷ lengths) days day
lies-later year month len lengths days day h d =
    let from : month + 1 ≤ day.month = d.from in
    let below : day.month < month + 1 + length lengths = d.below in
    let one : day.month - month ≡ suc (day.month - (month + 1)) = omega arith in
    record {
      same_year = d.same_year;
      from = omega arith;
      below = omega arith;
      first = d.first;
      last = subst (λ k. day.day ≤ get_or (len ∷ lengths) k 0) (sym one) d.last;
      counted = ap (λ k. sum (take k (len ∷ lengths)) + (day.day - 1)) one
          ∙ omega (arith, sum_by-cons (λ (x : ℕ). x) len (take (day.month - (month + 1)) lengths), d.counted);
    }

lies : (year month : ℕ) (lengths : List ℕ) (days : ℕ) → days < sum lengths → LiesIn year month lengths days (day_from_month year month lengths days)
lies year month [] days h = absurd (omega arith)
lies year month (len ∷ lengths) days h = elim (cases_lt days len) [
  | inl here ↦ subst (LiesIn year month (len ∷ lengths) days) (sym (first-month year month len lengths days here)) (lies-here year month len lengths days here)
  | inr later ↦ subst (LiesIn year month (len ∷ lengths) days) (sym (later-month year month len lengths days later))
      (lies-later year month len lengths days _ later
      (lies year (month + 1) lengths (days - len) (omega (arith, sum_by-cons (λ (x : ℕ). x) len lengths))))
]

-- ---- a day of a year

record IsOf (year days : ℕ) (day : Day) : Type 0 where
  pub same_year : day.year ≡ year
  pub first_month : 1 ≤ day.month
  pub last_month : day.month ≤ 12
  pub first_day : 1 ≤ day.day
  pub last_day : day.day ≤ get_or (month_lengths year) (day.month - 1) 0
  pub counted : sum (take (day.month - 1) (month_lengths year)) + (day.day - 1) ≡ days

twelve : (year : ℕ) → length (month_lengths year) ≡ 12
unfolding month_lengths
twelve year = refl

of-year : (year days : ℕ) → days < year_length year → IsOf year days (day_of_year year days)
unfolding day_of_year
of-year year days h =
    let l = lies year 1 (month_lengths year) days (omega (arith, year_length-months year)) in
    let below = l.below in
    record {
      same_year = l.same_year;
      first_month = l.from;
      last_month = omega (arith, twelve year);
      first_day = l.first;
      last_day = l.last;
      counted = l.counted;
    }

-- ---- days of years

one-year : (n : ℕ) → days_of_years (n + 1) ≡ days_of_years n + year_length (1904 + n)
unfolding days_of_years
one-year n = rw add-one refl

turned : (n : ℕ) → 1904 + (n + 1) ≡ 1904 + n + 1
turned n = omega arith

record CycleDays (n whole : ℕ) : Type 0 where
  pub leap : days_of_years n ≡ whole
  pub first : days_of_years (n + 1) ≡ whole + 366
  pub second : days_of_years (n + 1 + 1) ≡ whole + 731
  pub third : days_of_years (n + 1 + 1 + 1) ≡ whole + 1096
  pub next : days_of_years (n + 1 + 1 + 1 + 1) ≡ whole + 1461

cycle-days : (n whole : ℕ) → LeapCycle (1904 + n) → days_of_years n ≡ whole → CycleDays n whole
cycle-days n whole c is =
    let a : days_of_years (n + 1) ≡ whole + 366 = omega (arith, one-year n, c.leap) in
    let y1 : year_length (1904 + (n + 1)) ≡ 365 = ap year_length (turned n) ∙ c.first in
    let b : days_of_years (n + 1 + 1) ≡ whole + 731 = omega (arith, one-year (n + 1), y1) in
    let y2 : year_length (1904 + (n + 1 + 1)) ≡ 365 = ap year_length (turned (n + 1) ∙ ap (λ k. k + 1) (turned n)) ∙ c.second in
    let d : days_of_years (n + 1 + 1 + 1) ≡ whole + 1096 = omega (arith, one-year (n + 1 + 1), y2) in
    let y3 : year_length (1904 + (n + 1 + 1 + 1)) ≡ 365 =
    ap year_length (turned (n + 1 + 1) ∙ ap (λ k. k + 1) (turned (n + 1) ∙ ap (λ k. k + 1) (turned n))) ∙ c.third in
    record { leap = is; first = a; second = b; third = d; next = omega (arith, one-year (n + 1 + 1 + 1), y3) }

whole-cycles : (q : ℕ) → q ≤ 34 → days_of_years (q * 4) ≡ q * 1461
unfolding days_of_years
whole-cycles zero h = refl
whole-cycles (suc q) h =
    let c = cycle-days (q * 4) (q * 1461) (leap-cycles q (omega arith)) (whole-cycles q (omega arith)) in
    let four : suc q * 4 ≡ q * 4 + 1 + 1 + 1 + 1 = omega arith in
    ap days_of_years four ∙ c.next ∙ omega arith

behind-cycles : (q k : ℕ) → q ≤ 34 → k < 3 → days_of_years (q * 4 + 1 + k) ≡ q * 1461 + 366 + k * 365
behind-cycles q k h small =
    let c = cycle-days (q * 4) (q * 1461) (leap-cycles q h) (whole-cycles q h) in
    elim (cases_lt k 1) [
      | inl a ↦ let e : q * 4 + 1 + k ≡ q * 4 + 1 = omega arith in ap days_of_years e ∙ c.first ∙ omega arith
      | inr a ↦ elim (cases_lt k 2) [
        | inl b ↦ let e : q * 4 + 1 + k ≡ q * 4 + 1 + 1 = omega arith in ap days_of_years e ∙ c.second ∙ omega arith
        | inr b ↦ let e : q * 4 + 1 + k ≡ q * 4 + 1 + 1 + 1 = omega arith in ap days_of_years e ∙ c.third ∙ omega arith
      ]
    ]

-- ---- both

pub record IsFound (days : ℕ) (day : Day) : Type 0 where
  pub is_day : IsDay day
  pub counted : days_before day ≡ days

found : (year rest days : ℕ) (day : Day) → 1904 ≤ year → year ≤ 2043 → days_of_years (year - 1904) + rest ≡ days → IsOf year rest day → IsFound days day
found year rest days day from to whole d = record {
  is_day = record {
    first_year = omega (arith, d.same_year);
    last_year = omega (arith, d.same_year);
    first_month = d.first_month;
    last_month = d.last_month;
    first_day = d.first_day;
    last_day = subst (λ y. day.day ≤ get_or (month_lengths y) (day.month - 1) 0) (sym d.same_year) d.last_day;
  };
  counted = (λ i. days_of_years (d.same_year i - 1904) + sum (take (day.month - 1) (month_lengths (d.same_year i))) + (day.day - 1)) ∙ omega (arith, d.counted);
}

found-in-leap-year : (days : ℕ) → days < 49711 → days % 1461 < 366 → IsFound days (day_since_1904 days)
found-in-leap-year days small h =
    let year : ℕ = 1904 + days / 1461 * 4 in
    let n : 1904 + days / 1461 * 4 - 1904 ≡ days / 1461 * 4 = omega arith in
    let whole : days_of_years (1904 + days / 1461 * 4 - 1904) ≡ days / 1461 * 1461 = ap days_of_years n ∙ whole-cycles (days / 1461) (omega arith) in
    subst (IsFound days) (sym ((since-1904 days small).leap h))
    (found year (days % 1461) days _ (omega arith) (omega arith) (omega arith) (of-year year (days % 1461) (in-leap-year days small h)))

found-behind : (days : ℕ) → days < 49711 → 366 ≤ days % 1461 → IsFound days (day_since_1904 days)
found-behind days small h =
    let n : 1904 + days / 1461 * 4 + 1 + (days % 1461 - 366) / 365 - 1904 ≡ days / 1461 * 4 + 1 + (days % 1461 - 366) / 365 = omega arith in
    let whole : days_of_years (1904 + days / 1461 * 4 + 1 + (days % 1461 - 366) / 365 - 1904) ≡ days / 1461 * 1461 + 366 + (days % 1461 - 366) / 365 * 365 =
    ap days_of_years n ∙ behind-cycles (days / 1461) ((days % 1461 - 366) / 365) (omega arith) (omega arith) in
    subst (IsFound days) (sym ((since-1904 days small).behind h))
    (found (1904 + days / 1461 * 4 + 1 + (days % 1461 - 366) / 365) ((days % 1461 - 366) % 365) days _ (omega arith) (omega arith) (omega arith)
    (of-year _ _ (in-year-behind days small h)))

pub found-day : (days : ℕ) → days < 49711 → IsFound days (day_since_1904 days)
found-day days small = elim (cases_lt (days % 1461) 366) [ inl a ↦ found-in-leap-year days small a | inr b ↦ found-behind days small b ]

pub days-found : AreDays day_since_1904
days-found = record {
  is_day = λ date h. (found-day (date / 86400) (omega arith)).is_day;
  counted = λ date h. (found-day (date / 86400) (omega arith)).counted;
}

-- ---- how many digits a day takes

short-months : (year : ℕ) → list_all (λ n. nat_lt n 32) (month_lengths year) ≡ true
unfolding month_lengths
short-months year = elim (cases_Bool (is_leap_year year)) [ inl e ↦ rw e refl | inr e ↦ rw e refl ]

all-at : (xs : List ℕ) (i : ℕ) → list_all (λ n. nat_lt n 32) xs ≡ true → get_or xs i 0 < 32
all-at [] i h = omega arith
all-at (x ∷ xs) zero h = ltb-true x 32 (and_parts _ _ h).0
all-at (x ∷ xs) (suc i) h = all-at xs i (and_parts _ _ h).1

pub day-digits : (days : ℕ) → days < 49711 → (day_since_1904 days).day < 100
day-digits days small =
    let d = (found-day days small).is_day in
    omega (arith, d.last_day, all-at (month_lengths (day_since_1904 days).year) ((day_since_1904 days).month - 1) (short-months _))
