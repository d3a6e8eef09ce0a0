-- What is printed of a fault, and how the program ends.
use Rattle.std.specs.Prelude.{Bool, true, false, ℕ, List, [], ◌++◌, codes, Option, None, Some, ◌≡◌, ◌⊎◌}
use Rattle.std.specs.Borrow.{Bor}
use Rattle.std.specs.Fmt.{decimal}
use Rattle.hfs_check.specs.declared.mount_fault.MountFault.{MountFault}
use Rattle.hfs_check.specs.declared.mount_fault.MountFault.TheVariants as mount
use Rattle.hfs_image.specs.declared.opening.NeededFault.{NeededFault}
use Rattle.hfs_image.specs.declared.opening.NeededFault.TheVariants as needed
use Rattle.hfs_check.specs.Refusals.{refusal_text}
use Rattle.hfs_commands.specs.Paths.{path_text}
use Rattle.hfs_commands.specs.declared.fault.Status.{Status}
use Rattle.hfs_commands.specs.declared.fault.Status.TheVariants as status
use Rattle.hfs_commands.specs.declared.fault.Fault.{Fault}
use Rattle.hfs_commands.specs.declared.fault.Fault.TheVariants as fault

-- the exit status
abbrev pub status_number : Status → ℕ
status_number status.Done = 0
status_number status.WordsRefused = 1
status_number status.ImageRefused = 2
status_number status.CallRefused = 3
status_number status.DeviceFailed = 4
status_number status.NoMemory = 5

-- how the program ends after a script's run
abbrev pub status_of_run : Bool → Status
status_of_run true = status.Done
status_of_run false = status.NoMemory

-- how the program ends after a fault
abbrev pub status_of : Fault → Status
status_of fault.WordsNotText = status.WordsRefused
status_of (fault.Refused why) = status.ImageRefused
status_of (fault.NoVolume n) = status.ImageRefused
status_of fault.NoVolumes = status.ImageRefused
status_of fault.NotWritten = status.ImageRefused
status_of fault.SumWrong = status.ImageRefused
status_of (fault.SeveralVolumes n) = status.ImageRefused
status_of fault.BadName = status.ImageRefused
status_of fault.BadSize = status.ImageRefused
status_of fault.BadNodeCount = status.ImageRefused
status_of fault.NoRoom = status.ImageRefused
status_of (fault.ScriptLine line) = status.ImageRefused
status_of fault.ScriptTooLarge = status.ImageRefused
status_of fault.NoPlace = status.NoMemory
status_of (fault.CannotRead file) = status.DeviceFailed
status_of (fault.BrokenOff file) = status.DeviceFailed
status_of (fault.CannotWrite file) = status.DeviceFailed
status_of (fault.IsThere file) = status.DeviceFailed
status_of fault.OutputFailed = status.DeviceFailed
status_of fault.NoMemory = status.NoMemory

-- why a command was not done; nothing where standard output failed
unfoldable pub fault_text : Fault → List ℕ
fault_text fault.WordsNotText = codes "the words are not text"
fault_text (fault.Refused why) = refusal_text why
fault_text (fault.NoVolume n) = codes "no volume " ++ decimal n
fault_text fault.NoVolumes = codes "no HFS volume"
fault_text fault.NotWritten = codes "not written here"
fault_text fault.SumWrong = codes "sum wrong"
fault_text (fault.SeveralVolumes n) = decimal n ++ codes " volumes lie inside; name one by --volume"
fault_text fault.BadName = codes "bad name"
fault_text fault.BadSize = codes "bad size"
fault_text fault.BadNodeCount = codes "bad node count"
fault_text fault.NoRoom = codes "no room"
fault_text (fault.ScriptLine line) = codes "script line " ++ decimal line
fault_text fault.ScriptTooLarge = codes "script too large"
fault_text fault.NoPlace = codes "no place for a viewer"
fault_text (fault.CannotRead file) = codes "cannot read " ++ path_text file.now
fault_text (fault.BrokenOff file) = codes "cannot read " ++ path_text file.now
fault_text (fault.CannotWrite file) = codes "cannot write " ++ path_text file.now
fault_text (fault.IsThere file) = path_text file.now ++ codes " is there already"
fault_text fault.OutputFailed = []
fault_text fault.NoMemory = codes "out of memory"

-- an image has too many bytes, or more than there is memory for
abbrev pub IsTooMuch : Fault → Type 0
IsTooMuch why = (why ≡ fault.Refused mount.TooLarge) ⊎ (why ≡ fault.NoMemory)

-- there is no volume with the number that is asked for; or none is named, and several lie inside
abbrev pub IsUnnamed : Option ℕ → Fault → Type 0
IsUnnamed None why = (n : ℕ) × (why ≡ fault.SeveralVolumes n)
IsUnnamed (Some n) why = why ≡ fault.NoVolume n

-- a file, or the volume in it that is asked for, was not opened
abbrev pub IsUnopened : Bor (List ℕ) → Option ℕ → Fault → Type 0
IsUnopened path volume why = (why ≡ fault.CannotRead path) ⊎ (IsTooMuch why ⊎ IsUnnamed volume why)

-- a volume in a file that is to be changed was not opened: there is none with this number, it can't be read, it isn't written, or its sum is wrong
abbrev pub IsUnopenedVolume : Bor (List ℕ) → ℕ → Fault → Type 0
IsUnopenedVolume path number why = IsUnopened path (Some number) why ⊎ ((why ≡ fault.NotWritten) ⊎ (why ≡ fault.SumWrong))

-- a script has too many bytes, or more than there is memory for
abbrev pub IsTooMuchScript : Fault → Type 0
IsTooMuchScript why = (why ≡ fault.ScriptTooLarge) ⊎ (why ≡ fault.NoMemory)

-- not all was printed: standard output failed, or memory was refused
abbrev pub IsUnprinted : Fault → Type 0
IsUnprinted why = (why ≡ fault.OutputFailed) ⊎ (why ≡ fault.NoMemory)

-- a script was not read: its file can't be read, or it is too much
abbrev pub IsUnreadScript : Bor (List ℕ) → Fault → Type 0
IsUnreadScript path why = (why ≡ fault.CannotRead path) ⊎ IsTooMuchScript why

-- the image is refused for this
abbrev pub IsRefusal : MountFault → Fault → Type 0
IsRefusal why found = found ≡ fault.Refused why

-- an image that was refused is refused for the same
abbrev pub KeepsRefusal : NeededFault → Fault → Type 0
KeepsRefusal opening found = (why : MountFault) → opening ≡ needed.Refused why → IsRefusal why found
