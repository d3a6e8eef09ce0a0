-- Each date comes back from its moment.
use Rattle.std.proofs.Common.{◌≡◌, ◌≢◌, ◌∙◌, ap, refl, ℕ, zero, suc, ◌+◌, ◌-◌, ◌*◌, ◌/◌, ◌%◌, ◌^◌, ◌<◌, Bool, true, ◌&&◌, List, [], ◌++◌, length, slice_index, Some, None, codes, arith}
use Rattle.std.specs.Prelude.{◌==◌, nat_lt, nat_le, if◌then◌else◌}
use Rattle.std.proofs.lemmas.Bool.{and_from, eqb-true, ne_eqb, lt-ltb, le-leb}
use Rattle.hfs_fields.proofs.CommonLemmas.{each_below}
use Rattle.hfs_fields.proofs.CommonLemmas.{at-each}
use Rattle.hfs_texts.specs.declared.calendar.Day.{Day}
use Rattle.hfs_texts.specs.Calendar.{IsDay, day_since_1904, days_before, month_lengths}
use Rattle.hfs_texts.specs.Digits.{two_digits, four_digits}
use Rattle.hfs_texts.specs.Moments.{day_text, time_text, moment}
use Rattle.hfs_texts.proofs.DayLaw.{day-digits, days-found}
use Rattle.hfs_put_sources.specs.Moments.{date_in, date_on, dated, day_number, has_marks, is_digit, is_time, seconds_in, two_at, within}
use Rattle.hfs_put_sources.specs.TagLaws.{AreMomentsRead}
use Rattle.hfs_encodings.proofs.AppleDoubleRead.{chosen}

-- ---- two digits

-- what the two digits of a number say
said : ℕ → ℕ
said n = if is_digit (48 + n / 10) && is_digit (48 + n % 10) then ((48 + n / 10) - 48) * 10 + ((48 + n % 10) - 48) else 100

said-test : ℕ → Bool
said-test n = said n == n

said-tried : (n : ℕ) → n < 100 → said-test n ≡ true
unfolding each_below said-test said
said-tried n h = at-each 100 said-test refl n h

said-is : (n : ℕ) → n < 100 → said n ≡ n
unfolding said-test
said-is n h = eqb-true _ _ (said-tried n h)

-- ---- a day and a time

module _ (day : Day) (s : ℕ) (lies : IsDay day) (short : day.day < 100) (small : s < 86400) where
  text : List ℕ
  text = day_text day ++ codes "T" ++ time_text s

  century-is : two_at 0 text ≡ day.year / 100
  unfolding text two_at said day_text time_text four_digits two_digits
  century-is = said-is (day.year / 100) (omega (arith, lies.last_year))

  rest-is : two_at 2 text ≡ day.year % 100
  unfolding text two_at said day_text time_text four_digits two_digits
  rest-is = said-is (day.year % 100) (omega arith)

  month-is : two_at 5 text ≡ day.month
  unfolding text two_at said day_text time_text four_digits two_digits
  month-is = said-is day.month (omega (arith, lies.last_month))

  day-is : two_at 8 text ≡ day.day
  unfolding text two_at said day_text time_text four_digits two_digits
  day-is = said-is day.day short

  hour-is : two_at 11 text ≡ s / 3600
  unfolding text two_at said day_text time_text four_digits two_digits
  hour-is = said-is (s / 3600) (omega (arith, small))

  minute-is : two_at 14 text ≡ s / 60 % 60
  unfolding text two_at said day_text time_text four_digits two_digits
  minute-is = said-is (s / 60 % 60) (omega arith)

  second-is : two_at 17 text ≡ s % 60
  unfolding text two_at said day_text time_text four_digits two_digits
  second-is = said-is (s % 60) (omega arith)

  year-is : two_at 0 text * 100 + two_at 2 text ≡ day.year
  year-is = (λ i. century-is i * 100 + rest-is i) ∙ omega arith

  seconds-are : seconds_in text ≡ s
  unfolding seconds_in
  seconds-are = (λ i. hour-is i * 3600 + minute-is i * 60 + second-is i) ∙ omega (arith, small)

  marked : has_marks text ≡ true
  unfolding has_marks text day_text time_text four_digits two_digits
  marked = refl

  length-is : length text ≡ 19
  unfolding text day_text time_text four_digits two_digits
  length-is = refl

  number-is : day_number day.year day.month day.day ≡ Some (days_before day)
  unfolding day_number
  number-is =
      chosen (nat_le 1904 day.year && nat_le day.year 2043 && nat_le 1 day.month && nat_le day.month 12 && nat_le 1 day.day && nat_le day.day (slice_index (month_lengths day.year) (day.month - 1)))
      (Some (days_before day)) None
      (and_from _ _ (and_from _ _ (and_from _ _ (and_from _ _ (and_from _ _ (le-leb 1904 day.year lies.first_year) (le-leb day.year 2043 lies.last_year))
      (le-leb 1 day.month lies.first_month)) (le-leb day.month 12 lies.last_month)) (le-leb 1 day.day lies.first_day))
      (le-leb day.day (slice_index (month_lengths day.year) (day.month - 1)) lies.last_day))

  timed : is_time text ≡ true
  unfolding is_time
  timed =
      and_from _ _ (and_from _ _ (ap (λ (n : ℕ). nat_lt n 24) hour-is ∙ lt-ltb (s / 3600) 24 (omega (arith, small))) (ap (λ (n : ℕ). nat_lt n 60) minute-is ∙ lt-ltb (s / 60 % 60) 60 (omega arith)))
      (ap (λ (n : ℕ). nat_lt n 60) second-is ∙ lt-ltb (s % 60) 60 (omega arith))

  dated-back : dated text ≡ within (days_before day * 86400 + s)
  unfolding dated
  dated-back =
      chosen (has_marks text && nat_lt (two_at 2 text) 100 && is_time text) (date_on text (day_number (two_at 0 text * 100 + two_at 2 text) (two_at 5 text) (two_at 8 text))) None
      (and_from _ _ (and_from _ _ marked (ap (λ (n : ℕ). nat_lt n 100) rest-is ∙ lt-ltb (day.year % 100) 100 (omega arith))) timed)
      ∙ (λ i. date_on text (day_number (year-is i) (month-is i) (day-is i)))
      ∙ ap (date_on text) number-is
      ∙ ap (λ (n : ℕ). within (days_before day * 86400 + n)) seconds-are

  date-back : (date : ℕ) → days_before day * 86400 + s ≡ date → date < 2 ^ 32 → date_in text ≡ Some date
  unfolding date_in within
  date-back date is fits =
      ap (λ (n : ℕ). if n == 0 then Some 0 else if n == 19 then dated text else None) length-is
      ∙ dated-back ∙ ap within is ∙ chosen (nat_lt date 4294967296) (Some date) None (lt-ltb date 4294967296 (omega (arith, fits)))

-- ---- all dates

none-back : date_in (moment 0) ≡ Some 0
unfolding date_in moment
none-back = refl

some-back : (date : ℕ) → date ≢ 0 → date < 2 ^ 32 → date_in (moment date) ≡ Some date
unfolding moment text
some-back date some fits =
    let day : Day = day_since_1904 (date / 86400) in
    let counted : days_before (day_since_1904 (date / 86400)) ≡ date / 86400 = days-found.counted date fits in
    ap (λ t. date_in (if t then [] else day_text (day_since_1904 (date / 86400)) ++ codes "T" ++ time_text (date % 86400))) (ne_eqb date 0 some)
    ∙ date-back (day_since_1904 (date / 86400)) (date % 86400) (days-found.is_day date fits) (day-digits (date / 86400) (omega (arith, fits))) (omega arith) date
    (omega (arith, counted)) fits

pub moment-back : (date : ℕ) → date < 2 ^ 32 → date_in (moment date) ≡ Some date
moment-back zero fits = none-back
moment-back (suc n) fits = some-back (suc n) (λ e. cc e) fits

pub moments-read : AreMomentsRead moment
moments-read = record { back = moment-back }
