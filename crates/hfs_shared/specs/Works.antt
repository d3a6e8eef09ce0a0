-- What a worker does.
use Rattle.std.specs.Prelude.{◌≡◌, ℕ, ◌+◌, ◌<◌, ◌≤◌, List, [], ◌∷◌, ◌++◌, length, get_or, None, IfSome}
use Rattle.logbook.specs.Pages.{Book}
use Rattle.hfs_model.specs.declared.call.Call.{Call}
use Rattle.hfs_model.specs.declared.reply.Reply.{Reply}
use Rattle.hfs_shared.specs.Tolds.{ToldState}
use Rattle.hfs_shared.specs.declared.done.Done.{Done}
use Rattle.hfs_shared.specs.Desks.{PassState, pass_state}
use Rattle.hfs_shared.specs.Faults.{IsFaultUnder}
use Rattle.hfs_shared.specs.Plans.{Plan, AreNextPlanned}
use Rattle.hfs_shared.specs.Shareds.{IsSomeCall}

-- the pass with its number so much higher
abbrev pub later : PassState → ℕ → PassState
later p n = pass_state p.worker (p.number + n)

-- these are the replies to the first calls, with what was said about each, under the pass's next numbers
pub record IsWork (book : Book) (base : List ℕ) (plan : Plan) (p : PassState) (calls : List Call) (q : PassState) (replies : List (Reply × ToldState)) : Type 0 where
  pub pass : q ≡ later p (length replies)
  pub few : length replies ≤ length calls
  pub each : (k : ℕ) (c : Call) (r : Reply × ToldState) → k < length replies
      → IsSomeCall book base plan (later p k) (get_or calls k c) (get_or replies k r).0 (get_or replies k r).1 (later p (k + 1))

-- and without a fault all calls were made; a fault is that of the next call
pub record IsDone (book : Book) (base : List ℕ) (plan : Plan) (p : PassState) (calls : List Call) (d : Done) : Type 0 where
  pub work : IsWork book base plan p calls d.pass d.replies.items
  pub whole : d.fault ≡ None → length d.replies.items ≡ length calls
  pub refused : IfSome d.fault (IsFaultUnder d.pass.number)

-- each has the pass of its job
abbrev pub HaveTheirPasses : {V : Type 0} → List (PassState × V) → List Done → Type 0
HaveTheirPasses jobs dones = (i : ℕ) (d : _) (j : _) → i < length jobs → (get_or dones i d).pass ≡ (get_or jobs i j).0

-- each job's calls are those that are planned for its worker, from its pass on
abbrev pub AreJobsPlanned : {V : Type 0} → Plan → (V → List Call) → List (PassState × V) → Type 0
AreJobsPlanned plan calls jobs = (i : ℕ) (j : _) → i < length jobs
    → AreNextPlanned plan (get_or jobs i j).0.worker (get_or jobs i j).0.number (calls (get_or jobs i j).1)

-- each job's calls were made, from its pass on
abbrev pub AreDone : {V : Type 0} → Book → List ℕ → Plan → (V → List Call) → List (PassState × V) → List Done → Type 0
AreDone book base plan calls jobs dones = (i : ℕ) (d : _) (j : _) → i < length jobs
    → IsDone book base plan (get_or jobs i j).0 (calls (get_or jobs i j).1) (get_or dones i d)

-- each job's calls were made, from the pass on that was there before
abbrev pub AreDoneFrom : {V : Type 0} → Book → List ℕ → Plan → (V → List Call) → List (PassState × V) → List Done → List Done → Type 0
AreDoneFrom book base plan calls jobs before afterwards = (i : ℕ) (d : _) (j : _) → i < length jobs
    → IsDone book base plan (get_or before i d).pass (calls (get_or jobs i j).1) (get_or afterwards i d)

-- one call more was made
pub record IsMoreWork (book : Book) (base : List ℕ) (plan : Plan) (p : PassState) (c : Call) (q : PassState) (before afterwards : List (Reply × ToldState)) : Type 0 where
  pub reply : Reply
  pub told : ToldState
  pub grown : afterwards ≡ before ++ (reply, told) ∷ []
  pub made : IsSomeCall book base plan p c reply told q
