-- Why nothing was put, as it is printed, and how the program ends.
use Rattle.std.specs.Prelude.{◌≡◌, ⊤, ℕ, List, ◌++◌, codes, string_bytes, Option, Some, None}
use Rattle.hfs_commands.specs.Faults.{fault_text, status_of}
use Rattle.hfs_commands.specs.Paths.{path_text}
use Rattle.hfs_commands.specs.declared.fault.Fault.{Fault}
use Rattle.hfs_commands.specs.declared.fault.Fault.TheVariants as why
use Rattle.hfs_commands.specs.declared.fault.Status.{Status}
use Rattle.hfs_commands.specs.declared.fault.Status.TheVariants as status
use Rattle.hfs_put_sources.specs.declared.fault.HostFault.{HostFault}
use Rattle.hfs_put_sources.specs.declared.fault.HostFault.TheVariants as host
use Rattle.hfs_word_put.specs.declared.fault.PutFault.{PutFault}
use Rattle.hfs_word_put.specs.declared.fault.PutFault.TheVariants as fault
use Rattle.hfs_word_put.specs.declared.reason.PutReason.TheVariants as reason
use Rattle.hfs_word_put.specs.Lines.{refusal_line}

abbrev pub put_status : PutFault → Status
put_status (fault.Image why) = status_of why
put_status (fault.CannotRead path) = status.DeviceFailed
put_status (fault.Refused lines) = status.CallRefused

-- each line is ended
unfoldable pub fault_lines : PutFault → List ℕ
fault_lines (fault.Image why) = fault_text why ++ codes "\n"
fault_lines (fault.CannotRead path) = codes "cannot read " ++ path_text (string_bytes path) ++ codes "\n"
fault_lines (fault.Refused lines) = string_bytes lines

-- these lines say why, or there was no memory for them
abbrev pub TellsBy : List ℕ → PutFault → Type 0
TellsBy lines (fault.Image found) = found ≡ why.NoMemory
TellsBy lines (fault.CannotRead path) = ⊥
TellsBy lines (fault.Refused text) = string_bytes text ≡ lines

-- what can't be looked at among what is to come
abbrev pub IsHostFault : HostFault → PutFault → Type 0
IsHostFault (host.CannotRead path) told = told ≡ fault.CannotRead path
IsHostFault (host.NotUtf8 folder) told = TellsBy (refusal_line (string_bytes folder) reason.NameNotText) told
IsHostFault host.NoMemory told = told ≡ fault.Image why.NoMemory

-- what is to be written was not: what comes couldn't be read, or it is this fault
abbrev pub IsUnsavedBy : Option HostFault → Fault → PutFault → Type 0
IsUnsavedBy (Some why) found told = IsHostFault why told
IsUnsavedBy None found told = told ≡ fault.Image found

-- not that the image can't be read, or is refused
abbrev pub SparesImage : PutFault → Type 0
SparesImage (fault.Image found) = found ≡ why.NoMemory
SparesImage (fault.CannotRead path) = ⊤
SparesImage (fault.Refused lines) = ⊤
