-- What holds of published lists. Each statement is what a function of src/laws.rt ensures.
use Rattle.std.specs.Prelude.{◌≡◌, ℕ, ◌+◌, ◌≤◌, List, ◌++◌, take, drop, length}
use mathlib.Core.List.{IsPrefix}
use Rattle.hfs_model.specs.declared.journal.Entry.{Entry}
use Rattle.hfs_model.specs.Volume.{Volume}
use Rattle.hfs_model.specs.Runs.{after}
use Rattle.hfs_shared.specs.Lists.{shown}
use Rattle.hfs_shared.specs.Journals.{IsLegal, changes, published}

-- a published list stands for the volume after the entries that it covers
abbrev pub PublishedIsAfter : Type 0
PublishedIsAfter = (v : Volume) (journal : List Entry) (n : ℕ) → IsLegal v journal → shown (published v journal n) ≡ after v (take n journal)

-- with the changes of the next entries it covers these too
abbrev pub PublishedGrows : Type 0
PublishedGrows = (v : Volume) (journal : List Entry) (n more : ℕ) → published v journal n ++ changes (take more (drop n journal)) ≡ published v journal (n + more)

-- what it covers stays covered
abbrev pub PublishedBegins : Type 0
PublishedBegins = (v : Volume) (journal : List Entry) (n m : ℕ) → n ≤ m → IsPrefix (published v journal n) (published v journal m)

-- a longer journal keeps what is published
abbrev pub PublishedStays : Type 0
PublishedStays = (v : Volume) (journal more : List Entry) (n : ℕ) → n ≤ length journal → published v (journal ++ more) n ≡ published v journal n
