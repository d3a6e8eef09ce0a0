-- The calls that put a file on a disk, in their order, and the pieces in which its forks are written.
use Rattle.std.specs.Prelude.{ℕ, ◌*◌, ◌-◌, ◌==◌, Bool, nat_le, nat_lt, if◌then◌else◌, List, [], ◌∷◌, Option, Some, None}
use Rattle.hfs_model.specs.declared.call.Fork.{Fork}
use Rattle.hfs_model.specs.declared.call.Fork.TheVariants.{DataFork, ResFork}
use Rattle.hfs_put_plan.specs.declared.steps.FileStep.{FileStep}
use Rattle.hfs_put_plan.specs.declared.steps.FileStep.TheVariants.{Make, SetEnd, SetFacts, Lock}
use Rattle.hfs_put_plan.specs.declared.steps.ForkPiece.{ForkPiece}

-- the end of a fork is set where it has bytes
abbrev pub end_step : Fork → ℕ → Option FileStep
end_step fork len = if len == 0 then None else Some (SetEnd fork len)

-- a file is locked after all else
abbrev pub lock_step : Bool → Option FileStep
lock_step locked = if locked then Some Lock else None

-- it is made, and each fork with bytes gets its end; then its bytes are written, and after these the facts are set, since writing a fork sets the moment of the file's change
abbrev pub file_steps : ℕ → ℕ → Bool → List (Option FileStep)
file_steps data_len resource_len locked = Some Make ∷ end_step DataFork data_len ∷ end_step ResFork resource_len ∷ Some SetFacts ∷ lock_step locked ∷ []

-- the piece that follows so many others: 65,536 bytes, or what is left
unfoldable pub fork_piece : ℕ → ℕ → Option ForkPiece
fork_piece len before =
    if nat_le len (before * 65536) then None
    else Some (record { offset = before * 65536; len = if nat_lt (len - before * 65536) 65536 then len - before * 65536 else 65536 })
