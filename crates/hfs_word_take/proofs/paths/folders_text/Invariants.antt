-- what came so far is appended
use Rattle.std.proofs.Common.{◌≡◌, ◌++◌, string_bytes, take, ℕ, List}
use Rattle.std.specs.Prelude.{codes}
use Rattle.std.specs.List.{flat_map}
use Rattle.hfs_texts.specs.HostNames.{host_name}
use Rattle.hfs_word_take.specs.Items.{names_between}
use Rattle.hfs_word_take.proofs.paths.folders_text.Given as goal

abbrev pub invariant-loop-name : goal.invariant-loop-name
invariant-loop-name l = string_bytes l.text ≡ flat_map (λ (name : List ℕ). host_name name ++ codes "/") (take l.name-index (names_between l.path))
