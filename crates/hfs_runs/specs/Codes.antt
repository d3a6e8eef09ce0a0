-- The codes in a run's journal.
use Rattle.std.specs.Prelude.{◌≡◌, ℕ, ◌-◌, ℤ, List, map, slice_get, All, Some}
use Rattle.hfs_model.specs.declared.reply.Reply.{Reply}
use Rattle.hfs_model.specs.declared.journal.Entry.{Entry}

-- the codes of replies, in their order
abbrev pub reply_codes : List Reply → List ℤ
reply_codes replies = map (λ (r : Reply). r.code) replies

-- the entry has the code of the reply that its worker got under its number
abbrev pub IsCoded : (ℕ → List Reply) → Entry → Type 0
IsCoded replies e = slice_get (reply_codes (replies e.worker)) (e.stamp - 1) ≡ Some e.code

-- so has each of these entries
abbrev pub AreCoded : (ℕ → List Reply) → List Entry → Type 0
AreCoded replies entries = All (λ (e : Entry). IsCoded replies e) entries
