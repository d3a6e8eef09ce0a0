-- One call more of a worker.
use Rattle.std.proofs.Common.{◌≡◌, ℕ, ◌+◌, ◌<◌, List, [], ◌∷◌, length, get_or, sym, ap, ◌∙◌, subst, arith, length-append}
use borrow.Author.Count.{below_more}
use Rattle.std.proofs.Math.ListN.{get_or-append}
use Rattle.std.proofs.Math.Seq.{get_or-append_seam}
use Rattle.logbook.specs.Pages.{Book}
use Rattle.hfs_model.specs.declared.call.Call.{Call}
use Rattle.hfs_model.specs.declared.reply.Reply.{Reply}
use Rattle.hfs_shared.specs.Tolds.{ToldState}
use Rattle.hfs_shared.specs.Desks.{PassState, pass_state}
use Rattle.hfs_shared.specs.declared.done.Done.{Done}
use Rattle.hfs_shared.specs.Plans.{Plan, AreNextPlanned}
use Rattle.hfs_shared.specs.Shareds.{IsSomeCall}
use Rattle.hfs_shared.specs.Works.{later, AreJobsPlanned, HaveTheirPasses, IsWork, IsMoreWork}

-- what begins with a job's pass has the planned calls before it
pub begun_planned : {V : Type 0} (plan : Plan) (calls : V → List Call) (jobs : List (PassState × V)) (dones : List Done) → HaveTheirPasses jobs dones → AreJobsPlanned plan calls jobs
    → (i : ℕ) (d : Done) (j : PassState × V) → i < length jobs → AreNextPlanned plan (get_or dones i d).pass.worker (get_or dones i d).pass.number (calls (get_or jobs i j).1)
begun_planned plan calls jobs dones passes planned i d j below =
    subst (λ (p : PassState). AreNextPlanned plan p.worker p.number (calls (get_or jobs i j).1)) (sym (passes i d j below)) (planned i j below)

module _ (book : Book) (base : List ℕ) (plan : Plan) (p : PassState) (calls : List Call) where
  abbrev At : List (Reply × ToldState) → ℕ → Type 0
  At replies k = (c : Call) (r : Reply × ToldState) → IsSomeCall book base plan (later p k) (get_or calls k c) (get_or replies k r).0 (get_or replies k r).1 (later p (k + 1))

  -- the replies with that of the next call
  pub work_more : (q q' : PassState) (replies more : List (Reply × ToldState)) (call : Call)
      → IsWork book base plan p calls q replies → length replies < length calls → ((c : Call) → get_or calls (length replies) c ≡ call)
      → IsMoreWork book base plan q call q' replies more → IsWork book base plan p calls q' more
  work_more q q' replies more call w below here m =
      let n = length replies in
      let answer : Reply × ToldState = (m.reply, m.told) in
      let long : length more ≡ n + 1 = ap length m.grown ∙ omega (arith, length-append replies (answer ∷ [])) in
      let next : q' ≡ later p (n + 1) = m.made.1.pass ∙ ap (λ (s : PassState). pass_state s.worker (s.number + 1)) w.pass ∙ ap (λ (k : ℕ). pass_state p.worker k) (omega arith) in
      let last : At more n = λ c d.
      subst (λ (y : PassState × Call × (Reply × ToldState) × PassState). IsSomeCall book base plan y.0 y.1 y.2.0 y.2.1 y.3)
      (λ i. (w.pass i, sym (here c) i, sym (ap (λ (l : List (Reply × ToldState)). get_or l n d) m.grown ∙ get_or-append_seam replies answer [] d) i, next i)) m.made in
      let front : (k : ℕ) → k < n → At more k = λ k lt c d.
      subst (λ (y : Reply × ToldState). IsSomeCall book base plan (later p k) (get_or calls k c) y.0 y.1 (later p (k + 1)))
      (sym (ap (λ (l : List (Reply × ToldState)). get_or l k d) m.grown ∙ get_or-append replies (answer ∷ []) d k lt)) (w.each k c d lt) in
      record {
        pass = next ∙ ap (λ (k : ℕ). later p k) (sym long);
        few = omega (arith, long);
        each = λ k c d lt. below_more (At more) n front last k (subst (λ (j : ℕ). k < j) long lt) c d;
      }
