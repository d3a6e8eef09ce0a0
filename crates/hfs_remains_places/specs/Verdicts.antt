-- What is said about a fork, and the line that the table has for an item.
use Rattle.std.specs.Prelude.{ℕ, Bool, false, ◌&&◌, ◌==◌, not, if◌then◌else◌, List, [], ◌∷◌, ◌++◌, codes, Option, Some, None}
use Rattle.std.specs.Fmt.{decimal}
use Rattle.std.specs.List.{join_by}
use Rattle.std.specs.Option.{is_none}
use Rattle.hfs_remains_places.specs.declared.verdict.Finding.{Finding}
use Rattle.hfs_remains_places.specs.declared.verdict.Verdict.{Verdict}
use Rattle.hfs_remains_places.specs.declared.verdict.Verdict.TheVariants.{Left, Taken}

-- ---- words

abbrev pub cut_words : Option ℕ → List (List ℕ)
cut_words None = []
cut_words (Some n) = (codes "cut " ++ decimal n) ∷ []

abbrev pub missing_words : ℕ → List (List ℕ)
missing_words n = if n == 0 then [] else (codes "missing " ++ decimal n) ∷ []

abbrev pub shared_words : Bool → List (List ℕ)
shared_words shared = if shared then codes "shared" ∷ [] else []

-- a word for each that holds, in this order
abbrev pub words_of : Finding → List (List ℕ)
words_of f = cut_words f.cut ++ missing_words f.missing ++ shared_words f.shared

-- words with commas between them, or `whole` where there are none
unfoldable pub text_of_words : List (List ℕ) → List ℕ
text_of_words [] = codes "whole"
text_of_words (w ∷ ws) = join_by (λ (word : List ℕ). word) (codes ",") (w ∷ ws)

-- of a fork that is left nothing else is said
abbrev pub verdict_text : Verdict → List ℕ
verdict_text Left = codes "left"
verdict_text (Taken finding) = text_of_words (words_of finding)

abbrev pub finds_nothing : Finding → Bool
finds_nothing f = is_none f.cut && (f.missing == 0) && not f.shared

abbrev pub is_whole : Verdict → Bool
is_whole Left = false
is_whole (Taken finding) = finds_nothing finding

-- ---- lines

-- what is said about the data fork and of the resource fork; a folder has none
abbrev pub forks_text : Option (Verdict × Verdict) → List ℕ
forks_text None = codes "-\t-"
forks_text (Some forks) = verdict_text forks.0 ++ codes "\t" ++ verdict_text forks.1

-- the path below the payload, the item's number, its ID, and what is said about its forks
abbrev pub row_text : List ℕ → ℕ → ℕ → Option (Verdict × Verdict) → List ℕ
row_text path number id forks = path ++ codes "\t" ++ decimal number ++ codes "\t" ++ decimal id ++ codes "\t" ++ forks_text forks ++ codes "\n"
