-- Sessions without a plan.
use Rattle.std.proofs.Common.{◌≡◌, ℕ, List, None, sym, subst}
use Rattle.hfs_model.specs.declared.call.Call.{Call}
use Rattle.hfs_shared.specs.Desks.{PassState}
use Rattle.hfs_shared.specs.Plans.{Plan, IsPlanned}
use Rattle.hfs_shared.specs.Works.{AreJobsPlanned}

-- any call may be made
pub any_planned : (plan : Plan) → plan ≡ None → (worker number : ℕ) (call : Call) → IsPlanned plan worker number call
any_planned plan none worker number call = subst (λ (p : Plan). IsPlanned p worker number call) (sym none) tt

-- and any jobs run
pub any_jobs_planned : {V : Type 0} (plan : Plan) → plan ≡ None → (calls : V → List Call) (jobs : List (PassState × V)) → AreJobsPlanned plan calls jobs
any_jobs_planned plan none calls jobs i j below k c lt = any_planned plan none _ _ _
