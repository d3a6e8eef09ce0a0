-- Where reads fail.
use Rattle.std.proofs.Common.{ℕ, ◌+◌, ◌≤◌, List, Option, inl, inr, arith}
use Rattle.hfs_source.specs.Images.{FailsWhere}
use Rattle.hfs_put_sources.specs.declared.fault.HostFault.{HostFault}
use Rattle.hfs_put_sources.specs.declared.fork_run.ForkRun.{ForkRun}
use Rattle.hfs_put.specs.Failures.{FailsLaid, FailsTold}

-- where a part fails, the whole does
pub fails-part : (Fails : ℕ → ℕ → Type 0) (start : ℕ) (runs : List ForkRun) (at n place count : ℕ) → place ≤ at → at + n ≤ place + count
    → FailsLaid Fails start runs at n → FailsLaid Fails start runs place count
fails-part Fails start runs at n place count behind before fails = elim fails [
  | inl own ↦
      let first = own.behind in
      let last = own.before in
      inl (record { at = own.at; few = own.few; behind = omega (arith, behind, first); before = omega (arith, before, last); fails = own.fails })
  | inr other ↦ elim other [
    | inl meets ↦
        let first = meets.behind in
        let last = meets.before in
        inr (inl (record { run = meets.run; is_one = meets.is_one; behind = omega (arith, behind, first); before = omega (arith, before, last) }))
    | inr past ↦ inr (inr (omega (arith, past, before)))
  ]
]

-- and is told where the part was
pub told-part : (New Old : ℕ → ℕ → Type 0) (fault : Option HostFault) (at n place count : ℕ) → place ≤ at → at + n ≤ place + count → FailsWhere New Old
    → FailsTold fault New at n → FailsTold fault Old place count
told-part New Old fault at n place count behind before later told = elim told [
  | inl some ↦ inl some
  | inr other ↦ elim other [
    | inl own ↦
        let first = own.behind in
        let last = own.before in
        inr (inl (record { at = own.at; few = own.few; behind = omega (arith, behind, first); before = omega (arith, before, last); fails = later own.at own.few own.fails }))
    | inr past ↦ inr (inr (omega (arith, past, before)))
  ]
]
