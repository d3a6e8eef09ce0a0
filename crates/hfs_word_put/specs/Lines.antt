-- What the word `put` prints.
use Rattle.std.specs.Prelude.{◌≡◌, ℕ, ◌-◌, ◌==◌, if◌then◌else◌, List, [], ◌∷◌, ◌++◌, codes, length, take, slice_get, unwrap_or, Option, Some, None}
use Rattle.std.specs.Fmt.{decimal}
use Rattle.std.specs.List.{concat, flat_map}
use Rattle.std.specs.Option.{option_map_or}
use Rattle.hfs_commands.specs.Paths.{path_text}
use Rattle.hfs_put.specs.declared.placing.RefusedItem.{RefusedItem}
use Rattle.hfs_put_sources.specs.Items.{PlannedItem}
use Rattle.hfs_texts.specs.Lines.{line}
use Rattle.hfs_word_put.specs.declared.lines.PutSums.{PutSums}
use Rattle.hfs_word_put.specs.declared.reason.PutReason.{PutReason}
use Rattle.hfs_word_put.specs.declared.reason.PutReason.TheVariants as reason
use Rattle.hfs_word_put.specs.Reasons.{reason_of, reason_text}

-- of what has this path and can't be put
unfoldable pub refusal_line : List ℕ → PutReason → List ℕ
refusal_line path why = codes "cannot put " ++ path_text path ++ codes ": " ++ reason_text why ++ codes "\n"

-- the path by which an item is told: its own; where what belongs to it is at fault, that one's
abbrev pub told_path : PlannedItem → PutReason → List ℕ
told_path item reason.NotAFile = item.path
told_path item reason.TooLarge = item.path
told_path item reason.NotAppleDouble = unwrap_or item.double item.path
told_path item reason.NoName = item.path
told_path item reason.TwoOfOneName = item.path
told_path item (reason.Code code) = item.path
told_path item reason.Digest = item.path
told_path item (reason.Room free wanted) = item.path
told_path item (reason.Full free depth) = item.path
told_path item reason.NameNotText = item.path

-- of an item
unfoldable pub item_line : PlannedItem → PutReason → List ℕ
item_line item why = refusal_line (told_path item why) why

-- of the item at a place of the list
abbrev pub line_at : List PlannedItem → ℕ → PutReason → List ℕ
line_at items place why = option_map_or (λ item. item_line item why) (slice_get items place) []

unfoldable pub line_of : List PlannedItem → RefusedItem → List ℕ
line_of items refused = line_at items refused.place (reason_of refused.why)

unfoldable pub lines_of : List PlannedItem → List RefusedItem → List ℕ
lines_of items refused = flat_map (line_of items) refused

-- how many more there are
unfoldable pub more_line : ℕ → List ℕ
more_line more = if more == 0 then [] else codes "and " ++ decimal more ++ codes " more\n"

-- of the items that can't be put: a line each of the first 100, and how many more there are
unfoldable pub refused_lines : List PlannedItem → List RefusedItem → List ℕ
refused_lines items refused = lines_of items (take 100 refused) ++ more_line (length refused - 100)

-- of what was put
unfoldable pub put_lines : PutSums → List ℕ
put_lines sums =
    codes "put\n" ++ line (codes "files") (decimal sums.files) ++ line (codes "folders") (decimal sums.folders) ++ line (codes "bytes") (decimal sums.bytes)
    ++ line (codes "free") (decimal sums.free)
