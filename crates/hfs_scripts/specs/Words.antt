-- The words of a script's lines.
use Rattle.std.specs.Prelude.{ℕ, Bool, true, false, List, [], ◌∷◌, codes, bytes_eq, Option, Some, None, if◌then◌else◌}
use Rattle.hfs_scripts.specs.declared.words.Word.{Word}
use Rattle.hfs_scripts.specs.declared.words.Word.TheVariants as word

-- the words of calls that only read
abbrev pub reading_words : List (List ℕ × Word)
reading_words =
    (codes "dirinfo", word.DirInfo)
    ∷ (codes "info", word.Info)
    ∷ (codes "indexed", word.Indexed)
    ∷ (codes "list", word.List)
    ∷ (codes "read", word.Read)
    ∷ (codes "resolve", word.Resolve)
    ∷ []

-- the words of changes
abbrev pub changing_words : List (List ℕ × Word)
changing_words =
    (codes "create", word.Create)
    ∷ (codes "mkdir", word.MkDir)
    ∷ (codes "delete", word.Delete)
    ∷ (codes "rename", word.Rename)
    ∷ (codes "move", word.Move)
    ∷ (codes "setfinfo", word.SetFInfo)
    ∷ (codes "setinfo", word.SetInfo)
    ∷ (codes "lock", word.Lock)
    ∷ (codes "unlock", word.Unlock)
    ∷ (codes "newid", word.NewId)
    ∷ (codes "dropid", word.DropId)
    ∷ (codes "seteof", word.SetEof)
    ∷ (codes "write", word.Write)
    ∷ []

-- what is next to a text in a table
abbrev pub beside : List ℕ → List (List ℕ × Word) → Option Word
beside text [] = None
beside text ((name, word) ∷ others) = if bytes_eq text name then Some word else beside text others

-- the first, or else the second
infixl 10 ◌or_else◌
abbrev pub ◌or_else◌ : Option Word → Option Word → Option Word
Some word or_else second = Some word
None or_else second = second

-- the word of a text
unfoldable pub word_of : List ℕ → Option Word
word_of text = beside text reading_words or_else beside text changing_words

-- whether a viewer's line may have the word
abbrev pub is_for_viewers : Word → Bool
is_for_viewers word.DirInfo = true
is_for_viewers word.Info = true
is_for_viewers word.Indexed = true
is_for_viewers word.List = true
is_for_viewers word.Read = true
is_for_viewers word.Create = false
is_for_viewers word.MkDir = false
is_for_viewers word.Delete = false
is_for_viewers word.Rename = false
is_for_viewers word.Move = false
is_for_viewers word.SetFInfo = false
is_for_viewers word.SetInfo = false
is_for_viewers word.Lock = false
is_for_viewers word.Unlock = false
is_for_viewers word.NewId = false
is_for_viewers word.DropId = false
is_for_viewers word.Resolve = false
is_for_viewers word.SetEof = false
is_for_viewers word.Write = false
