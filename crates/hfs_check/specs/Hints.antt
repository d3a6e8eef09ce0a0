-- What a refusal means for who has the disk in hand.
use Rattle.std.specs.Prelude.{ℕ, List, codes, Option, None, Some, ◌==◌, ◌||◌, if◌then◌else◌}
use Rattle.hfs_check.specs.declared.mount_fault.MountFault.{MountFault}
use Rattle.hfs_check.specs.declared.mount_fault.MountFault.TheVariants as mount
use Rattle.hfs_check.specs.declared.hint.Hint.{Hint}
use Rattle.hfs_check.specs.declared.hint.Hint.TheVariants as hint

-- names are the subject of check 7, valences and counts those of 9 and 10
unfoldable pub hint_of_check : ℕ → Hint
hint_of_check number =
    if number == 7 then hint.NameNotTaken
    else if number == 9 || number == 10 then hint.WrongCounts
    else hint.Damaged

-- none where the refusal's own text says all
unfoldable pub hint_of : MountFault → Option Hint
hint_of mount.TooLarge = None
hint_of mount.Short = None
hint_of mount.NoMacDisk = Some hint.NotHere
hint_of (mount.BadMdb test) = Some hint.Damaged
hint_of (mount.Check number place) = Some (hint_of_check number)
hint_of mount.Memory = None

-- one line for a terminal
unfoldable pub hint_text : Hint → List ℕ
hint_text hint.NotHere = codes "no HFS volume begins here; hfs_tool volumes FILE looks for one inside, and hfs_tool rescue for what remains of one"
hint_text hint.WrongCounts = codes "counts are wrong, the files may be whole; hfs_tool repair mends counts, and hfs_tool rescue takes the files off as they are"
hint_text hint.NameNotTaken = codes "the disk may be sound: it has a name that this program does not take; hfs_tool rescue takes its files off"
hint_text hint.Damaged = codes "the disk is damaged; hfs_tool rescue takes off what is there"

-- the hint, or where there is none the lengths that a volume may have
abbrev pub hint_or_lengths : Option Hint → List ℕ
hint_or_lengths None = codes "a volume has at least 1,536 bytes and at most 2,147,483,648"
hint_or_lengths (Some hint) = hint_text hint

-- what a refusal means, for whoever has nothing else to read
abbrev pub meaning_text : MountFault → List ℕ
meaning_text why = hint_or_lengths (hint_of why)
