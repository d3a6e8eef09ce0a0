-- What a writer was given of an image.
use Rattle.std.specs.Prelude.{ℕ, ◌≤◌, List, length, take, Option, ◌-◌, ◌*◌, drop, Result, OnOk, IfErr}
use Rattle.std.specs.Io.KnownBytes.{Appends}
use Rattle.hfs_volume.specs.declared.saving.SaveFault.{SaveFault}

-- known bytes grew by the first n of these, which are as many at least
abbrev pub HasWritten : Option (List ℕ) → Option (List ℕ) → ℕ → List ℕ → Type 0
HasWritten old new n bytes = (n ≤ length bytes) × Appends old new (take n bytes)

-- what succeeds has written these bytes
abbrev pub WritesAll : {T E W : Type 0} → Result T E → (W → Option (List ℕ)) → W → W → List ℕ → Type 0
WritesAll result contents old new bytes = OnOk result (Appends (contents old) (contents new) bytes)

-- the first n of these bytes were written
abbrev pub WritesFirst : {W : Type 0} → (W → Option (List ℕ)) → W → W → List ℕ → ℕ → Type 0
WritesFirst contents old new bytes n = HasWritten (contents old) (contents new) n bytes

-- what fails has written the first of these bytes, as many as its fault says
abbrev pub BreaksOff : {T W : Type 0} → Result T SaveFault → (W → Option (List ℕ)) → W → W → List ℕ → Type 0
BreaksOff result contents old new bytes = IfErr result (λ fault. WritesFirst contents old new bytes fault.written)

-- what fails after so many blocks has written the first of these bytes, and its fault counts those blocks, too
abbrev pub BreaksOffBehind : {T W : Type 0} → ℕ → Result T SaveFault → (W → Option (List ℕ)) → W → W → List ℕ → Type 0
BreaksOffBehind n result contents old new bytes =
    IfErr result (λ fault. (512 * n ≤ fault.written) × WritesFirst contents old new bytes (fault.written - 512 * n))

-- the bytes of the blocks from number n on, before number after
abbrev pub bytes_between : ℕ → ℕ → List ℕ → List ℕ
bytes_between n after bytes = take (512 * (after - n)) (drop (512 * n) bytes)
