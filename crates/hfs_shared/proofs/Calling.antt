-- What one call under the lock says, with what is told of it.
use Rattle.std.proofs.Common.{◌≡◌, ℕ, ◌≤◌, List, length, sym, ap, ◌∙◌, subst}
use Rattle.logbook.specs.Pages.{Book}
use Rattle.hfs_model.specs.declared.call.Call.{Call}
use Rattle.hfs_model.specs.declared.reply.Reply.{Reply}
use Rattle.hfs_model.specs.declared.journal.Entry.{Entry}
use Rattle.hfs_model.specs.Volume.{Volume}
use Rattle.hfs_model.specs.Runs.{after}
use Rattle.hfs_check.specs.VolumeOf.{volume_of}
use Rattle.hfs_shared.specs.Histories.{known}
use Rattle.hfs_shared.specs.Journals.{IsLegal, published}
use Rattle.hfs_shared.specs.Tolds.{ToldState, told}
use Rattle.hfs_shared.specs.Desks.{DeskState, PassState, IsApplied, IsHeadline}
use Rattle.hfs_shared.specs.declared.desk.CallFault.{CallFault}
use Rattle.hfs_shared.specs.declared.desk.CallFault.TheVariants.{Stamp, Memory}
use Rattle.hfs_shared.specs.Faults.{IsFaultAt, IsFaultUnder}
use Rattle.hfs_shared.specs.Plans.{Plan, ArePlanned}
use Rattle.hfs_shared.specs.Shareds.{IsToldOf, IsSomeCall}

-- what is told of so many entries tells their number
pub told_number : (book : Book) (opening : Volume) (journal : List Entry) (n : ℕ) (t : ToldState) → n ≤ length journal
    → t ≡ told (known book (published opening journal n)) n (length journal) → IsToldOf book opening journal t
told_number book opening journal n t few is =
    let number : t.shown ≡ n = ap (λ (s : ToldState). s.shown) is in
    record {
      tells = is ∙ (λ i. told (known book (published opening journal (sym number i))) (sym number i) (length journal));
      within = subst (λ (k : ℕ). k ≤ length journal) (sym number) few;
    }

-- the fault of a call, by the pass's number alone
pub fault_under : (wanted given : ℕ) (f : CallFault) → IsFaultAt wanted given f → IsFaultUnder given f
fault_under wanted given (Stamp w g) h = (h.1, λ same. h.2 (sym h.1 ∙ same ∙ h.0))
fault_under wanted given Memory h = tt

pub is_call : (book : Book) (base : List ℕ) (plan : Plan) (s t : DeskState) (p q : PassState) (c : Call) (r : Reply) (x : ToldState)
    → t.base ≡ base → IsApplied s p c r t q → ArePlanned plan t.journal → IsToldOf book (volume_of base) t.journal x → IsSomeCall book base plan p c r x q
is_call book base plan s t p q c r x base_is a planned told_is =
    let opening = volume_of base in
    let opens_after : volume_of t.base ≡ opening = ap volume_of base_is in
    let opens : volume_of s.base ≡ opening = ap volume_of (sym a.base ∙ base_is) in
    let v_is = a.headline.follows ∙ ap (λ (v : Volume). after v s.journal) opens in (
      s.journal,
      record {
        pass = a.pass;
        legal = subst (λ (y : Volume × List Entry). IsLegal y.0 y.1) (λ i. (opens_after i, a.journal i)) a.headline_after.legal;
        planned = subst (λ (es : List Entry). ArePlanned plan es) a.journal planned;
        reply = record {
          image = s.current;
          written = s.written;
          entries = s.journal;
          headline = subst (λ (b : List ℕ). IsHeadline b s.current s.written s.journal) (sym a.base ∙ base_is) a.headline;
          volume_is = v_is;
          left = volume_of t.current;
          outcome = a.outcome;
        };
        told_is = subst (λ (es : List Entry). IsToldOf book opening es x) a.journal told_is;
      },
    )
