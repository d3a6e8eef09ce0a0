-- what came so far is appended
use Rattle.std.proofs.Common.{◌≡◌, ◌++◌, string_bytes, take}
use Rattle.std.specs.List.{flat_map}
use Rattle.hfs_commands.specs.Repairs.{fixed_line}
use Rattle.hfs_commands.proofs.repairing.push_fixes.Given as goal

abbrev pub invariant-loop-fix : goal.invariant-loop-fix
invariant-loop-fix l = string_bytes l.text ≡ string_bytes l.initial.text ++ flat_map fixed_line (take l.fix-index l.fixes)
