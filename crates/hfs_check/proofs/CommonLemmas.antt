-- Facts that several crates cite.
use Rattle.std.proofs.Common.{ℕ, Option, ◌≡◌, None, refl, Some}
use Rattle.std.specs.Option.{is_none}
use Rattle.hfs_check.specs.Faults.{check_fault}

pub none-mapped : (number : ℕ) (place : Option ℕ) → is_none (check_fault number place) ≡ is_none place
none-mapped number None = refl
none-mapped number (Some n) = refl
