-- what came so far is appended
use Rattle.std.proofs.Common.{◌≡◌, ◌++◌, string_bytes, take, ℕ, List}
use Rattle.std.specs.Prelude.{codes}
use Rattle.std.specs.List.{flat_map}
use Rattle.hfs_texts.specs.PlainTexts.{plain_text}
use Rattle.hfs_texts.proofs.paths.push_mac_path.Given as goal

abbrev pub invariant-loop-name : goal.invariant-loop-name
invariant-loop-name l = string_bytes l.text ≡ string_bytes l.initial.text ++ flat_map (λ (name : List ℕ). codes ":" ++ plain_text name) (take l.name-index l.below)
