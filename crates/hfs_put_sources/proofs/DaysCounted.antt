-- The days before a year and before a month, as they are computed. Each was tried on all years and months that there are.
use Rattle.std.proofs.Common.{◌≡◌, ◌∙◌, sym, refl, ℕ, ◌+◌, ◌-◌, ◌*◌, ◌/◌, ◌<◌, ◌≤◌, Bool, true, false, ◌&&◌, List, [], ◌∷◌, take, slice_index, arith}
use Rattle.std.specs.Prelude.{◌==◌, sum, nat_le, nat_lt, if◌then◌else◌}
use Rattle.std.proofs.lemmas.Bool.{eqb-true, leb-true}
use Rattle.hfs_fields.proofs.CommonLemmas.{each_below}
use Rattle.hfs_fields.proofs.CommonLemmas.{at-each}
use Rattle.hfs_texts.specs.Calendar.{days_of_years, is_leap_year, month_lengths, year_length}
use Rattle.hfs_put_sources.specs.Moments.{days_before_months, leap_days}

year-test : ℕ → Bool
year-test k = 365 * k + (k + 3) / 4 == days_of_years k

years-tried : (k : ℕ) → k < 140 → year-test k ≡ true
unfolding each_below year-test days_of_years year_length month_lengths is_leap_year
years-tried k h = at-each 140 year-test refl k h

pub years_counted : (k : ℕ) → k ≤ 139 → 365 * k + (k + 3) / 4 ≡ days_of_years k
unfolding year-test
years_counted k h = eqb-true _ _ (years-tried k (omega (arith, h)))

-- of a year that has a leap day or not
lengths : Bool → List ℕ
lengths leap = 31 ∷ (if leap then 29 else 28) ∷ 31 ∷ 30 ∷ 31 ∷ 30 ∷ 31 ∷ 31 ∷ 30 ∷ 31 ∷ 30 ∷ 31 ∷ []

month-test : Bool → ℕ → Bool
month-test leap m = slice_index days_before_months m + (if nat_lt 2 (m + 1) && leap then 1 else 0) == sum (take m (lengths leap))

months-tried : (leap : Bool) (m : ℕ) → m < 12 → month-test leap m ≡ true
unfolding each_below month-test days_before_months lengths
months-tried true m h = at-each 12 (month-test true) refl m h
months-tried false m h = at-each 12 (month-test false) refl m h

month-is : (year m : ℕ) → m < 12 → slice_index days_before_months m + leap_days year (m + 1) ≡ sum (take m (month_lengths year))
unfolding month-test leap_days month_lengths lengths
month-is year m h = eqb-true _ _ (months-tried (is_leap_year year) m h)

pub months_counted : (year month before leap : ℕ) → 1 ≤ month → month ≤ 12 → before ≡ slice_index days_before_months (month - 1) → leap ≡ leap_days year month
    → before + leap ≡ sum (take (month - 1) (month_lengths year))
months_counted year month before leap first last is leaps =
    let again : month - 1 + 1 ≡ month = omega (arith, first) in
    (λ i. is i + leaps i) ∙ (λ i. slice_index days_before_months (month - 1) + leap_days year (sym again i))
    ∙ month-is year (month - 1) (omega (arith, first, last))

small-test : ℕ → Bool
small-test m = nat_le (slice_index days_before_months m) 334

small-tried : (m : ℕ) → m < 12 → small-test m ≡ true
unfolding each_below small-test days_before_months
small-tried m h = at-each 12 small-test refl m h

pub before_small : (month before : ℕ) → 1 ≤ month → month ≤ 12 → before ≡ slice_index days_before_months (month - 1) → before ≤ 334
unfolding small-test
before_small month before first last is =
    let least : slice_index days_before_months (month - 1) ≤ 334 = leb-true _ 334 (small-tried (month - 1) (omega (arith, first, last))) in
    omega (arith, is, least)
