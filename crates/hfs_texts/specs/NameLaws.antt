-- What holds of host names, of host paths and of days.
use Rattle.std.specs.Prelude.{◌≡◌, ◌≢◌, ℕ, nat_lt, Bool, ◌/◌, ◌^◌, ◌<◌, ◌≤◌, List, [], length, slice_index, map, IsTrue, codes}
use Rattle.std.specs.List.{list_all}
use Rattle.std.specs.declared.cmp.Ordering.TheVariants.{Equal}
use Rattle.hfs_fields.specs.Names.{is_item_name}
use Rattle.hfs_fields.specs.Order.{folded, name_cmp}
use Rattle.hfs_texts.specs.declared.calendar.Day.{Day}
use Rattle.hfs_texts.specs.Calendar.{IsDay, days_before}

-- a list of bytes
abbrev pub is_bytes : List ℕ → Bool
is_bytes xs = list_all (λ x. nat_lt x 256) xs

-- a text begins with no point, and has no slash and no zero byte
pub record IsSafe (text : List ℕ) : Type 0 where
  pub not_empty : text ≢ []
  pub no_point : slice_index text 0 ≢ 46
  pub no_slash : (k : ℕ) → k < length text → slice_index text k ≢ 47
  pub no_zero : (k : ℕ) → k < length text → slice_index text k ≢ 0

-- the laws of host names
pub record AreHostNames (host_name : List ℕ → List ℕ) : Type 0 where
  -- two names with the same host name are the same bytes
  pub one_name : (a b : List ℕ) → IsTrue (is_bytes a) → IsTrue (is_bytes b) → host_name a ≡ host_name b → a ≡ b
  pub safe : (a : List ℕ) → IsTrue (is_bytes a) → IsSafe (host_name a)
  pub short : (a : List ℕ) → IsTrue (is_bytes a) → length a ≤ 31 → length (host_name a) ≤ 93
  -- names whose host names are the same except for the case of ASCII letters are the same in name order
  pub one_in_case : (a b : List ℕ) → IsTrue (is_bytes a) → IsTrue (is_bytes b) → folded (host_name a) ≡ folded (host_name b) → name_cmp a b ≡ Equal
  -- and the host name of an item's name has ASCII characters alone, so no other letters that have a case
  pub ascii : (a : List ℕ) → IsTrue (is_item_name a) → (k : ℕ) → k < length (host_name a) → slice_index (host_name a) k < 128

-- the laws of host paths
pub record AreHostPaths (host_path : List (List ℕ) → List ℕ) : Type 0 where
  -- what leads to one host path are the same names
  pub one_path : (a b : List (List ℕ)) → IsTrue (list_all is_bytes a) → IsTrue (list_all is_bytes b) → host_path a ≡ host_path b → a ≡ b
  -- and what leads to one host path except for the case of ASCII letters are names that are the same in name order, one by one
  pub one_in_case : (a b : List (List ℕ)) → IsTrue (list_all is_bytes a) → IsTrue (list_all is_bytes b) → folded (host_path a) ≡ folded (host_path b)
      → map folded a ≡ map folded b

-- the law of days: the day of each date of 32 bits is one of the calendar, and as many days after 1 January 1904 as are asked for
pub record AreDays (day_since_1904 : ℕ → Day) : Type 0 where
  pub is_day : (date : ℕ) → date < 2 ^ 32 → IsDay (day_since_1904 (date / 86400))
  pub counted : (date : ℕ) → date < 2 ^ 32 → days_before (day_since_1904 (date / 86400)) ≡ date / 86400

-- the moments at which a calendar that is wrong in its leap years, or at its ends, goes wrong
pub record AreKnownMoments (moment : ℕ → List ℕ) : Type 0 where
  pub none : moment 0 ≡ []
  pub first : moment 1 ≡ codes "1904-01-01T00:00:01"
  pub leap_day_1904 : moment 5097600 ≡ codes "1904-02-29T00:00:00"
  pub day_behind_it : moment 5184000 ≡ codes "1904-03-01T00:00:00"
  pub year_2000 : moment 3029529600 ≡ codes "2000-01-01T00:00:00"
  pub leap_day_2000 : moment 3034627200 ≡ codes "2000-02-29T00:00:00"
  pub last : moment 4294967295 ≡ codes "2040-02-06T06:28:15"
