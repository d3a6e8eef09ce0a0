-- What is said about forks.
use Rattle.std.specs.Prelude.{ℕ, Bool, ◌&&◌, if◌then◌else◌, List, [], ◌++◌, codes, Option, Some, None}
use Rattle.std.specs.Borrow.{Bor}
use Rattle.hfs_page.specs.Escapes.{escaped}
use Rattle.hfs_remains_places.specs.declared.verdict.Verdict.{Verdict}
use Rattle.hfs_remains_places.specs.declared.verdict.Verdict.TheVariants.{Left, Taken}
use Rattle.hfs_remains_places.specs.Verdicts.{is_whole, verdict_text}

-- of both forks, of which one at least isn't whole
unfoldable pub damaged_text : Verdict × Verdict → List ℕ
damaged_text forks =
    codes "<em class=\"damaged\">data fork " ++ escaped (verdict_text forks.0) ++ codes "; resource fork " ++ escaped (verdict_text forks.1) ++ codes "</em>"

abbrev pub both_text : Verdict × Verdict → List ℕ
both_text forks = if is_whole forks.0 && is_whole forks.1 then codes "<em>both forks whole</em>" else damaged_text forks

-- of a file's two forks; nothing of what has none
abbrev pub forks_text : Option (Verdict × Verdict) → List ℕ
forks_text None = []
forks_text (Some forks) = both_text forks

-- the URL of a bag, where the data fork has a file in it
abbrev pub base_by : Option (Bor (List ℕ)) → Verdict → Option (Bor (List ℕ))
base_by base Left = None
base_by base (Taken finding) = base

abbrev pub base_of : Option (Bor (List ℕ)) → Option (Verdict × Verdict) → Option (Bor (List ℕ))
base_of base None = None
base_of base (Some forks) = base_by base forks.0
