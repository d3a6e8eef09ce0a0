-- Why what comes can't be put, as it is printed.
use Rattle.std.specs.Prelude.{ℕ, List, ◌++◌, codes, negsuc}
use Rattle.std.specs.Fmt.{decimal, signed_decimal}
use Rattle.hfs_put_plan.specs.declared.reasons.Why.{Why}
use Rattle.hfs_put_plan.specs.declared.reasons.Why.TheVariants as why
use Rattle.hfs_word_put.specs.declared.reason.PutReason.{PutReason}
use Rattle.hfs_word_put.specs.declared.reason.PutReason.TheVariants as reason

unfoldable pub reason_text : PutReason → List ℕ
reason_text reason.NotAFile = codes "not a file"
reason_text reason.TooLarge = codes "too large"
reason_text reason.NotAppleDouble = codes "not AppleDouble"
reason_text reason.NoName = codes "name"
reason_text reason.TwoOfOneName = codes "two of one name"
reason_text (reason.Code code) = codes "code " ++ signed_decimal code
reason_text reason.Digest = codes "digest"
reason_text (reason.Room free wanted) = codes "room " ++ decimal free ++ codes " " ++ decimal wanted
reason_text (reason.Full free depth) = codes "full " ++ decimal free ++ codes " " ++ decimal depth
reason_text reason.NameNotText = codes "a name in it is not UTF-8"

-- what can't come to its place is refused by -48
abbrev pub reason_of : Why → PutReason
reason_of why.NotAFile = reason.NotAFile
reason_of why.TooLarge = reason.TooLarge
reason_of why.NotAppleDouble = reason.NotAppleDouble
reason_of why.NoName = reason.NoName
reason_of why.TwoOfOneName = reason.TwoOfOneName
reason_of why.Refused = reason.Code (negsuc 47)
