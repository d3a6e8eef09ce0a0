-- When a call is refused.
use Rattle.std.specs.Prelude.{◌≡◌, ◌≢◌, ℕ, ⊤}
use Rattle.hfs_shared.specs.Desks.{DeskState, PassState, wanted}
use Rattle.hfs_shared.specs.declared.desk.CallFault.{CallFault}
use Rattle.hfs_shared.specs.declared.desk.CallFault.TheVariants.{Stamp, Memory}

-- the stamp is the fault exactly where the number given is not the expected one
abbrev pub IsFaultAt : ℕ → ℕ → CallFault → Type 0
IsFaultAt wanted given (Stamp w g) = (w ≡ wanted) × (g ≡ given) × (given ≢ wanted)
IsFaultAt wanted given Memory = given ≡ wanted

-- the fault of a call with this pass: the stamp exactly where the pass's number is not its worker's next
abbrev pub IsCallFault : DeskState → PassState → CallFault → Type 0
IsCallFault s p f = IsFaultAt (wanted s.workers s.journal p.worker) p.number f

-- of a refused call with this number: a stamp gives it, and expected another
abbrev pub IsFaultUnder : ℕ → CallFault → Type 0
IsFaultUnder number (Stamp wanted given) = (given ≡ number) × (given ≢ wanted)
IsFaultUnder number Memory = ⊤
