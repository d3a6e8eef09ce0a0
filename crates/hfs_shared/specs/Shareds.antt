-- What the calls of a shared volume say.
use Rattle.std.specs.Prelude.{◌≡◌, ℕ, ◌+◌, ◌<◌, ◌≤◌, List, [], ◌∷◌, ◌++◌, length, get_or, All}
use Rattle.logbook.specs.Pages.{Book}
use Rattle.hfs_model.specs.declared.call.Call.{Call}
use Rattle.hfs_model.specs.declared.reply.Reply.{Reply}
use Rattle.hfs_model.specs.declared.journal.Entry.{Entry}
use Rattle.hfs_model.specs.Volume.{Volume}
use Rattle.hfs_model.specs.Runs.{after}
use Rattle.hfs_check.specs.VolumeOf.{volume_of}
use Rattle.hfs_volume.specs.Image.{ImageValue}
use Rattle.hfs_volume.specs.Serving.{IsOutcomeIn}
use Rattle.hfs_shared.specs.Histories.{Known, known, opened}
use Rattle.hfs_shared.specs.Journals.{IsLegal, published}
use Rattle.hfs_shared.specs.Pairs.{PairState}
use Rattle.hfs_shared.specs.Plans.{Plan, ArePlanned}
use Rattle.hfs_shared.specs.Tolds.{ToldState, told}
use Rattle.hfs_shared.specs.Desks.{DeskState, PassState, pass_state, entry_of, IsHeadline}

-- ---- before the volume is shared

-- the name of the published list's history, the image that is shared, and how many workers there are
pub record PartsState : Type 0 where
  pub book : Book
  pub base : List ℕ
  pub workers : ℕ

abbrev pub parts_state : DeskState → PairState → PartsState
parts_state d p = record { book = p.book; base = d.base; workers = d.workers }

-- no call was made yet, and the opening alone is published
pub record IsUnused (d : DeskState) (p : PairState) : Type 0 where
  pub empty : d.journal ≡ []
  pub headline : IsHeadline d.base d.current d.written d.journal
  pub all : p.all ≡ opened (volume_of d.base)
  pub shown : p.shown ≡ opened (volume_of d.base)

-- the passes of so many workers, in order, each with the number 1
pub record AreFirstPasses (workers : ℕ) (passes : List PassState) : Type 0 where
  pub many : length passes ≡ workers
  pub each : (i : ℕ) (none : PassState) → i < workers → get_or passes i none ≡ pass_state (i + 1) 1

-- the parts of an image's volume, the first passes, and viewers that have seen the opening alone, which is that volume
pub record IsStart (base : List ℕ) (workers viewers : ℕ) (p : PartsState) (passes : List PassState) (seen : List Known) : Type 0 where
  pub base_is : p.base ≡ base
  pub workers_are : p.workers ≡ workers
  pub passes_are : AreFirstPasses workers passes
  pub many : length seen ≡ viewers
  pub viewers_are : All (λ k. k ≡ known p.book (opened (volume_of base))) seen

-- and the image is the volume's as it is now
abbrev pub IsStartOf : ImageValue → ℕ → ℕ → PartsState → List PassState → List Known → Type 0
IsStartOf image workers viewers p passes seen = IsStart image.current workers viewers p passes seen

-- ---- one call

-- the reply is that of the call on an image that has this volume and over which the headline holds: that of the step, or of what is wanting
-- in that image
pub record IsReplyOf (base : List ℕ) (v : Volume) (c : Call) (r : Reply) : Type 0 where
  pub image : List ℕ
  pub written : List ℕ
  pub entries : List Entry
  pub headline : IsHeadline base image written entries
  pub volume_is : volume_of image ≡ v
  pub left : Volume
  pub outcome : IsOutcomeIn image c (left, r)

-- what is said about a journal: the published list that covers so many of its entries, and how many there are
abbrev pub told_of : Book → Volume → List Entry → ℕ → ToldState
told_of book opening journal n = told (known book (published opening journal n)) n (length journal)

-- what is given is that, for the number that it has, which is at most the number of entries
pub record IsToldOf (book : Book) (opening : Volume) (journal : List Entry) (t : ToldState) : Type 0 where
  pub tells : t ≡ told_of book opening journal t.shown
  pub within : t.shown ≤ length journal

-- one call, after these entries: its own is last in a legal journal over the base's volume, in which each entry's call is the
-- planned one; its reply is the one there, and what is given is published of that journal
pub record IsCall (book : Book) (base : List ℕ) (plan : Plan) (before : List Entry) (p : PassState) (c : Call) (r : Reply) (t : ToldState) (q : PassState) : Type 0 where
  pub pass : q ≡ pass_state p.worker (p.number + 1)
  pub legal : IsLegal (volume_of base) (before ++ entry_of p c r ∷ [])
  pub planned : ArePlanned plan (before ++ entry_of p c r ∷ [])
  pub reply : IsReplyOf base (after (volume_of base) before) c r
  pub told_is : IsToldOf book (volume_of base) (before ++ entry_of p c r ∷ []) t

-- one call after some entries
abbrev pub IsSomeCall : Book → List ℕ → Plan → PassState → Call → Reply → ToldState → PassState → Type 0
IsSomeCall book base plan p c r t q = (before : List Entry) × IsCall book base plan before p c r t q
