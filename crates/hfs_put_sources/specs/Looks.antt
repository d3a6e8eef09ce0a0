-- The time of a host's file as a date of a Macintosh: whole seconds, rounded down.
use Rattle.std.specs.Prelude.{ℕ, false, int_lt, nat_abs, pos, if◌then◌else◌}
use Rattle.hfs_put_plan.specs.Dates.{date_before_1970, date_since_1970}
use Rattle.hfs_put_sources.specs.declared.entry.HostTime.{HostTime}

unfoldable pub host_date : HostTime → ℕ
host_date time = if int_lt time.seconds (pos 0) then date_before_1970 (nat_abs time.seconds) false else date_since_1970 (nat_abs time.seconds)
