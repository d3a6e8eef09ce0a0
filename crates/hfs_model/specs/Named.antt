-- Items that calls name by their folder and name, and the forks of these. Each law is what a function of src/named.rt ensures.
use Rattle.std.specs.Prelude.{◌≡◌, ℕ, ◌≤◌, Bool, true, IsTrue, List, Option, Some, None}
use Rattle.hfs_fields.specs.Order.{same_name}
use Rattle.hfs_fields.specs.Each.{Each}
use Rattle.hfs_fields.specs.Members.{In}
use Rattle.hfs_model.specs.declared.call.Call.{Call}
use Rattle.hfs_model.specs.declared.call.Call.TheVariants as call
use Rattle.hfs_model.specs.declared.item.Item.{Item}
use Rattle.hfs_model.specs.declared.journal.Entry.{Entry as JournalEntry}
use Rattle.hfs_model.specs.Lawful.{Has}
use Rattle.hfs_model.specs.declared.journal.Want.{Want}
use Rattle.hfs_model.specs.Need.{step_within, step_wanting}
use Rattle.hfs_model.specs.Runs.{after}
use Rattle.hfs_model.specs.Volume.{Volume}
use Rattle.hfs_model.specs.Alike.{AreAlike}

-- the folder and the name by which a call names an item, where it names one so
abbrev pub named_by : Call → Option (ℕ × List ℕ)
named_by (call.GetDirInfo dir) = None
named_by (call.GetCatInfo dir name) = Some (dir, name)
named_by (call.GetIndexed dir index) = None
named_by (call.List dir) = None
named_by (call.ReadFork dir name fork offset count) = Some (dir, name)
named_by (call.Create dir name now) = Some (dir, name)
named_by (call.DirCreate dir name now) = Some (dir, name)
named_by (call.Delete dir name now) = Some (dir, name)
named_by (call.Rename dir name new_name now) = Some (dir, name)
named_by (call.CatMove dir name new_dir now) = Some (dir, name)
named_by (call.SetFInfo dir name info now) = Some (dir, name)
named_by (call.SetCatInfo dir name created modified backup info now) = Some (dir, name)
named_by (call.SetFLock dir name now) = Some (dir, name)
named_by (call.RstFLock dir name now) = Some (dir, name)
named_by (call.CreateFileId dir name now) = Some (dir, name)
named_by (call.DeleteFileId id now) = None
named_by (call.ResolveFileId id) = None
named_by (call.SetEof dir name fork length now) = Some (dir, name)
named_by (call.WriteFork dir name fork offset bytes now) = Some (dir, name)

-- the item is in that folder under that name
abbrev pub StandsAt : ℕ → List ℕ → Item → Type 0
StandsAt dir name item = (item.parent ≡ dir) × IsTrue (same_name item.name name)

-- each item that one of these calls names has one of these IDs, and so has each that will be made
pub record KeepsNamed (keep : ℕ → Bool) (calls : List Call) (v : Volume) : Type 0 where
  pub named : (c : Call) (dir : ℕ) (name : List ℕ) → In c calls → named_by c ≡ Some (dir, name)
      → (id : ℕ) (item : Item) → Has v.items id item → StandsAt dir name item → keep id ≡ true
  pub made : (id : ℕ) → v.next_id ≤ id → keep id ≡ true

-- the entries are of these calls alone
abbrev pub AreOf : List Call → List JournalEntry → Type 0
AreOf calls journal = Each (λ (e : JournalEntry). In e.call calls) journal

-- ---- the laws

-- it is so after entries of these calls: what none of them names by its place stays there
abbrev pub NamedStayKept : Type 0
NamedStayKept =
    (keep : ℕ → Bool) (calls : List Call) (v : Volume) (journal : List JournalEntry) → KeepsNamed keep calls v → AreOf calls journal
    → KeepsNamed keep calls (after v journal)

-- after such entries each of these calls is answered the same in volumes that are alike, reads of forks too, where the forks of these items
-- are the same
abbrev pub AskedAnswerAlike : Type 0
AskedAnswerAlike =
    (keep : ℕ → Bool) (calls : List Call) (v w : Volume) (journal : List JournalEntry) (free depth : ℕ) (c : Call)
    → AreAlike keep v w → KeepsNamed keep calls v → AreOf calls journal → In c calls
    → (step_within free depth (after w journal) c).1 ≡ (step_within free depth (after v journal) c).1

-- so it is where the same is wanting of both, if anything is
abbrev pub AskedWantAlike : Type 0
AskedWantAlike =
    (keep : ℕ → Bool) (calls : List Call) (v w : Volume) (journal : List JournalEntry) (wanting : Option Want) (c : Call)
    → AreAlike keep v w → KeepsNamed keep calls v → AreOf calls journal → In c calls
    → (step_wanting wanting (after w journal) c).1 ≡ (step_wanting wanting (after v journal) c).1
