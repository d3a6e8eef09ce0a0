-- Numbers of bytes in the unit that suits.
use Rattle.std.specs.Prelude.{ℕ, ◌+◌, ◌*◌, ◌/◌, ◌%◌, ◌==◌, nat_lt, if◌then◌else◌, List, ◌++◌, codes}
use Rattle.std.specs.Fmt.{decimal}
use Rattle.hfs_page.specs.Texts.{told_number}

-- so many tenths, without a point where they are whole
unfoldable pub tenths_text : ℕ → List ℕ
tenths_text tenths = if tenths % 10 == 0 then decimal (tenths / 10) else decimal (tenths / 10) ++ told_number (codes ".") (tenths % 10)

-- KB are of 1,024 bytes, MB of 1,024 KB, both to the nearest tenth
unfoldable pub size_text : ℕ → List ℕ
size_text bytes =
    if nat_lt bytes 1024 then decimal bytes ++ codes " B"
    else if nat_lt bytes 1048576 then tenths_text ((bytes * 10 + 512) / 1024) ++ codes " KB"
    else tenths_text ((bytes * 10 + 524288) / 1048576) ++ codes " MB"

-- after what says what it is
unfoldable pub told_size : List ℕ → ℕ → List ℕ
told_size label bytes = label ++ size_text bytes
