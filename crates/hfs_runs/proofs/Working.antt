-- What the workers and viewers of a run were answered, out of their jobs.
use Rattle.std.proofs.Common.{◌≡◌, ◌∙◌, ℕ, ◌+◌, ◌-◌, ◌<◌, List, [], ◌∷◌, map, length, get_or, slice_get, Some, sym, ap, subst, arith}
use Rattle.std.proofs.lemmas.List.{get_or-map, length-map}
use Rattle.std.proofs.lemmas.Option.{slice_get-get_or}
use mathlib.Core.List.{IsPrefix}
use Rattle.logbook.specs.Pages.{Book}
use Rattle.hfs_model.specs.declared.call.Call.{Call}
use Rattle.hfs_model.specs.declared.call.Call.TheVariants.{GetDirInfo}
use Rattle.hfs_model.specs.declared.reply.Reply.{Reply}
use Rattle.hfs_model.specs.declared.journal.Entry.{Entry}
use Rattle.hfs_model.specs.Volume.{Volume}
use Rattle.hfs_check.specs.VolumeOf.{volume_of}
use Rattle.hfs_scripts.specs.declared.lines.Caller.TheVariants.{Worker, Viewer}
use Rattle.hfs_scripts.specs.declared.lines.ScriptLine.{ScriptLine}
use Rattle.hfs_scripts.specs.Callers.{calls_of, workers}
use Rattle.hfs_shared.specs.Histories.{Known, known, opened}
use Rattle.hfs_shared.specs.declared.item.Item.{Item}
use Rattle.hfs_shared.specs.Journals.{made_by, IsLegal, published}
use Rattle.hfs_shared.proofs.LawTypes.{PublishedIsAfter}
use Rattle.hfs_shared.specs.Tolds.{ToldState}
use Rattle.hfs_shared.specs.declared.done.Done.{Done}
use Rattle.hfs_shared.specs.Closings.{AreAllPasses}
use Rattle.hfs_shared.specs.Desks.{PassState, pass_state}
use Rattle.hfs_shared.specs.Plans.{Plan, IsPlanned}
use Rattle.hfs_shared.specs.Shareds.{AreFirstPasses}
use Rattle.hfs_shared.specs.Works.{AreJobsPlanned, IsDone}
use Rattle.hfs_runs.specs.declared.viewing.Viewing.{Viewing}
use Rattle.hfs_runs.specs.Answers.{worker_replies, viewer_replies}
use Rattle.hfs_runs.specs.Jobs.{plan_of}
use Rattle.hfs_runs.specs.Runs.{IsWorked, IsViewedFrom}
use Rattle.hfs_runs.specs.Tellings.{AreOf, AreWhole, AllBegin, OfEach}
use Rattle.hfs_runs.specs.Standing.{Stands, AllStand}
use Rattle.hfs_runs.proofs.OneJournal.{stands}
use Rattle.hfs_runs.proofs.Late.{AreWithin}
use Rattle.hfs_runs.specs.Views.{AreReads, IsViewed}
use Rattle.hfs_runs.proofs.Reading.{reads_book}

-- the workers' jobs, out of the script's lines and the first passes
pub record AreJobs {V : Type 0} (items : V → List Call) (lines : List ScriptLine) (workers : ℕ) (passes : List PassState) (jobs : List (PassState × V)) : Type 0 where
  pub first : AreFirstPasses workers passes
  pub many : length jobs ≡ length passes
  pub passes_are : (i : ℕ) (j : PassState × V) (p : PassState) → i < length passes → (get_or jobs i j).0 ≡ get_or passes i p
  pub calls_are : (i : ℕ) (j : PassState × V) → i < length passes → items (get_or jobs i j).1 ≡ calls_of (Worker (i + 1)) lines

-- and what was done of them
pub record AreDone {V : Type 0} (items : V → List Call) (book : Book) (base : List ℕ) (plan : Plan) (jobs : List (PassState × V)) (dones : List Done) : Type 0 where
  pub many : length dones ≡ length jobs
  pub each : (i : ℕ) (d : Done) (j : PassState × V) → i < length jobs → IsDone book base plan (get_or jobs i j).0 (items (get_or jobs i j).1) (get_or dones i d)

-- each job's calls are those that the lines plan for its worker
pub jobs_planned : {V : Type 0} (items : V → List Call) (lines : List ScriptLine) (workers : ℕ) (passes : List PassState) (jobs : List (PassState × V)) (plan : Plan)
    → AreJobs items lines workers passes jobs → plan ≡ plan_of lines → AreJobsPlanned plan items jobs
jobs_planned items lines workers passes jobs plan h plan_is i j below k c lt =
    let none = pass_state 0 0 in
    let pass : (get_or jobs i j).0 ≡ pass_state (i + 1) 1 = h.passes_are i j none (omega (arith, below, h.many)) ∙ h.first.each i none (omega (arith, below, h.many, h.first.many)) in
    let same : items (get_or jobs i j).1 ≡ calls_of (Worker (i + 1)) lines = h.calls_are i j (omega (arith, below, h.many)) in
    let calls = calls_of (Worker (i + 1)) lines in
    let at : slice_get calls (1 + k - 1) ≡ Some (get_or calls k c) =
    ap (slice_get calls) (omega arith) ∙ slice_get-get_or calls k c (subst (λ (l : List Call). k < length l) same lt) in
    subst (λ (y : Plan × PassState × List Call). IsPlanned y.0 y.1.worker (y.1.number + k) (get_or y.2 k c)) (λ n. (sym plan_is n, sym pass n, sym same n)) at

-- a told list with nothing in it
told_none : Book → ToldState
told_none book = record { book = book; list = []; shown = 0; made = 0 }

-- the replies of a job
abbrev of_done : Done → List Reply
of_done done = map (λ reply. reply.0) done.replies.items

replies_at : (dones : List Done) (place : ℕ) (d : Done) → place < length dones → worker_replies dones (place + 1) ≡ of_done (get_or dones place d)
replies_at dones place d below =
    let at : place + 1 - 1 ≡ place = omega arith in
    ap (λ (n : ℕ). get_or (map of_done dones) n []) at ∙ get_or-map of_done dones place d [] below

-- what was done of a job, under the pass of its worker
done_at : {V : Type 0} (items : V → List Call) (book : Book) (base : List ℕ) (plan : Plan) (lines : List ScriptLine) (workers : ℕ) (passes : List PassState) (jobs : List (PassState × V)) (dones : List Done)
    → AreJobs items lines workers passes jobs → AreDone items book base plan jobs dones → (place : ℕ) → place < workers → (d : Done) (j : PassState × V)
    → IsDone book base plan (pass_state (place + 1) 1) (calls_of (Worker (place + 1)) lines) (get_or dones place d)
done_at items book base plan lines workers passes jobs dones h done place below d j =
    let none = pass_state 0 0 in
    let within : place < length passes = omega (arith, h.first.many) in
    let w = done.each place d j (omega (arith, h.many)) in
    let pass : (get_or jobs place j).0 ≡ pass_state (place + 1) 1 = h.passes_are place j none within ∙ h.first.each place none below in
    let it = get_or dones place d in
    subst (λ (calls : List Call). IsDone book base plan (pass_state (place + 1) 1) calls it) (h.calls_are place j within)
    (subst (λ (p : PassState). IsDone book base plan p (items (get_or jobs place j).1) it) pass w)

pub worked_at : {V : Type 0} (items : V → List Call) (book : Book) (base : List ℕ) (plan : Plan) (lines : List ScriptLine) (workers : ℕ) (passes : List PassState) (jobs : List (PassState × V)) (dones : List Done)
    → AreJobs items lines workers passes jobs → AreDone items book base plan jobs dones → (place : ℕ) (none : Done) → place < workers
    → IsWorked book base plan (place + 1) (calls_of (Worker (place + 1)) lines) (worker_replies dones (place + 1)) (get_or dones place none)
worked_at items book base plan lines workers passes [] dones h done place none below = let no : ⊥ = omega (arith, h.many, h.first.many) in absurd no
worked_at items book base plan lines workers passes (j ∷ jobs) dones h done place none below = (
  sym (replies_at dones place none (omega (arith, done.many, h.many, h.first.many))),
  done_at items book base plan lines workers passes (j ∷ jobs) dones h done place below none j,
)

-- each worker has as many entries as its pass says, where all passes are there
made_of : (passes : List PassState) (journal : List Entry) (count : ℕ → ℕ) → AreAllPasses passes (length passes) journal
    → ((i : ℕ) (p : PassState) → i < length passes → get_or passes i p ≡ pass_state (i + 1) (1 + count i))
    → (place : ℕ) → place < length passes → made_by (place + 1) journal ≡ count place
made_of passes journal count all are place below =
    let has = all.each place below in
    let none = pass_state 0 0 in
    let same : pass_state (has.0 + 1) (1 + count has.0) ≡ pass_state (place + 1) (made_by (place + 1) journal + 1) = sym (are has.0 none has.1) ∙ has.2 none in
    let at : has.0 ≡ place = omega (arith, ap (λ (p : PassState). p.worker) same) in
    omega (arith, ap (λ (p : PassState). p.number) same, ap count at)

pass_at : {V : Type 0} (items : V → List Call) (book : Book) (base : List ℕ) (plan : Plan) (lines : List ScriptLine) (workers : ℕ) (passes : List PassState) (jobs : List (PassState × V)) (dones : List Done)
    → AreJobs items lines workers passes jobs → AreDone items book base plan jobs dones → (place : ℕ) (p : PassState) → place < length (map (λ (done : Done). done.pass) dones)
    → get_or (map (λ (done : Done). done.pass) dones) place p ≡ pass_state (place + 1) (1 + length (worker_replies dones (place + 1)))
pass_at items book base plan lines workers passes [] dones h done place p below = let no : ⊥ = omega (arith, done.many, length-map dones (λ (done : Done). done.pass)) in absurd no
pass_at items book base plan lines workers passes (j ∷ jobs) [] h done place p below = let no : ⊥ = omega (arith, done.many) in absurd no
pass_at items book base plan lines workers passes (j ∷ jobs) (d ∷ dones) h done place p below =
    let within : place < length (d ∷ dones) = omega (arith, length-map (d ∷ dones) (λ (done : Done). done.pass)) in
    let w = done_at items book base plan lines workers passes (j ∷ jobs) (d ∷ dones) h done place (omega (arith, done.many, h.many, h.first.many)) d j in
    let many : length (worker_replies (d ∷ dones) (place + 1)) ≡ length (get_or (d ∷ dones) place d).replies.items =
    ap length (replies_at (d ∷ dones) place d within) ∙ length-map (get_or (d ∷ dones) place d).replies.items (λ (reply : Reply × ToldState). reply.0) in
    get_or-map (λ (done : Done). done.pass) (d ∷ dones) place d p within ∙ w.work.pass ∙ ap (λ (n : ℕ). pass_state (place + 1) (1 + n)) (sym many)

pub made_at : {V : Type 0} (items : V → List Call) (book : Book) (base : List ℕ) (plan : Plan) (lines : List ScriptLine) (workers : ℕ) (passes : List PassState) (jobs : List (PassState × V)) (dones : List Done) (journal : List Entry)
    → AreJobs items lines workers passes jobs → AreDone items book base plan jobs dones
    → AreAllPasses (map (λ (done : Done). done.pass) dones) (length (map (λ (done : Done). done.pass) dones)) journal
    → (place : ℕ) → place < workers → made_by (place + 1) journal ≡ length (worker_replies dones (place + 1))
made_at items book base plan lines workers passes jobs dones journal h done all place below =
    made_of (map (λ (done : Done). done.pass) dones) journal (λ i. length (worker_replies dones (i + 1))) all (pass_at items book base plan lines workers passes jobs dones h done) place
    (omega (arith, length-map dones (λ (done : Done). done.pass), done.many, h.many, h.first.many))

-- as many were done as the script has workers
pub dones_count : {V : Type 0} (items : V → List Call) (book : Book) (base : List ℕ) (plan : Plan) (lines : List ScriptLine) (passes : List PassState) (jobs : List (PassState × V)) (dones : List Done)
    → AreJobs items lines (workers lines) passes jobs → AreDone items book base plan jobs dones → length dones ≡ workers lines
dones_count items book base plan lines passes jobs dones h done = omega (arith, done.many, h.many, h.first.many)

-- there are as many passes as the script has workers
pub passes_count : {V : Type 0} (items : V → List Call) (book : Book) (base : List ℕ) (plan : Plan) (lines : List ScriptLine) (passes : List PassState) (jobs : List (PassState × V)) (dones : List Done)
    → AreJobs items lines (workers lines) passes jobs → AreDone items book base plan jobs dones → length (map (λ (done : Done). done.pass) dones) ≡ workers lines
passes_count items book base plan lines passes jobs dones h done =
    length-map dones (λ (done : Done). done.pass) ∙ dones_count items book base plan lines passes jobs dones h done

-- ---- what workers were told

-- the told lists are of the run's history
pub told_of : {V : Type 0} (items : V → List Call) (book : Book) (base : List ℕ) (plan : Plan) (jobs : List (PassState × V)) (dones : List Done)
    → AreDone items book base plan jobs dones → OfEach (AreOf book) dones
told_of items book base plan [] dones done i d below = let no : ⊥ = omega (arith, below, done.many) in absurd no
told_of items book base plan (j ∷ jobs) dones done i d below = λ k r under.
    let one = done.each i d j (omega (arith, below, done.many)) in
    ap (λ (t : ToldState). t.book) (one.work.each k (GetDirInfo 0) r under).1.told_is.tells

-- and cover no more than was made until then
pub told_within : {V : Type 0} (items : V → List Call) (book : Book) (base : List ℕ) (plan : Plan) (jobs : List (PassState × V)) (dones : List Done)
    → AreDone items book base plan jobs dones → OfEach AreWithin dones
told_within items book base plan [] dones done i d below = let no : ⊥ = omega (arith, below, done.many) in absurd no
told_within items book base plan (j ∷ jobs) dones done i d below = λ k r under.
    let one = done.each i d j (omega (arith, below, done.many)) in
    let given = (one.work.each k (GetDirInfo 0) r under).1.told_is in
    omega (arith, given.within, ap (λ (t : ToldState). t.made) given.tells)

-- what a run was closed with: a legal journal, of which the list that its viewer saw last is published
pub record IsEnd (opening : Volume) (journal : List Entry) (covered : ℕ) (seen last : List Item) (dones : List Done) : Type 0 where
  pub legal : IsLegal opening journal
  pub learned : OfEach (AllBegin seen) dones
  pub begins : IsPrefix seen last
  pub published_is : last ≡ published opening journal covered

pub stand_at : {V : Type 0} (items : V → List Call) (book : Book) (base : List ℕ) (plan : Plan) (lines : List ScriptLine) (workers : ℕ) (passes : List PassState) (jobs : List (PassState × V)) (dones : List Done)
    → AreJobs items lines workers passes jobs → AreDone items book base plan jobs dones → PublishedIsAfter
    → (journal : List Entry) (covered : ℕ) (seen last : List Item) → IsEnd (volume_of base) journal covered seen last dones → OfEach AreWhole dones
    → (place : ℕ) → place < workers → AllStand base journal (calls_of (Worker (place + 1)) lines) (worker_replies dones (place + 1))
stand_at items book base plan lines workers passes [] dones h done law journal covered seen last end whole place below = let no : ⊥ = omega (arith, below, h.many, h.first.many) in absurd no
stand_at items book base plan lines workers passes (j ∷ jobs) [] h done law journal covered seen last end whole place below = let no : ⊥ = omega (arith, done.many) in absurd no
stand_at items book base plan lines workers passes (j ∷ jobs) (d ∷ dones) h done law journal covered seen last end whole place below = λ k c r under.
    let within : place < length (d ∷ dones) = omega (arith, below, done.many, h.many, h.first.many) in
    let answers = (get_or (d ∷ dones) place d).replies.items in
    let are : worker_replies (d ∷ dones) (place + 1) ≡ of_done (get_or (d ∷ dones) place d) = replies_at (d ∷ dones) place d within in
    let few : k < length answers = omega (arith, under, ap length are, length-map answers (λ (reply : Reply × ToldState). reply.0)) in
    let answer : Reply × ToldState = get_or answers k (r, told_none book) in
    let calls = calls_of (Worker (place + 1)) lines in
    let w = (done_at items book base plan lines workers passes (j ∷ jobs) (d ∷ dones) h done place below d j).work in
    let one : Stands base journal (get_or calls k c) answer.0 =
    stands law book base plan journal covered seen last _ _ (get_or calls k c) answer.0 answer.1 end.legal (w.each k c (r, told_none book) few)
    (whole place d within k (r, told_none book) few) (end.learned place d within k (r, told_none book) few) end.begins end.published_is in
    subst (λ (x : Reply). Stands base journal (get_or calls k c) x)
    (sym (ap (λ (l : List Reply). get_or l k r) are ∙ get_or-map (λ (reply : Reply × ToldState). reply.0) answers k (r, told_none book) r few)) one

-- ---- viewers

-- the viewers with their calls, out of the script's lines
pub record AreViewings (book : Book) (opening : Volume) (lines : List ScriptLine) (viewers : ℕ) (begun : List Viewing) : Type 0 where
  pub many : length begun ≡ viewers
  pub seen : (i : ℕ) (v : Viewing) → i < viewers → (get_or begun i v).viewer ≡ known book (opened opening)
  pub calls_are : (i : ℕ) (v : Viewing) → i < viewers → (get_or begun i v).calls.items ≡ calls_of (Viewer (i + 1)) lines

-- and what they were answered
pub record AreViewed (begun ended : List Viewing) : Type 0 where
  pub many : length ended ≡ length begun
  pub each : (i : ℕ) (v w : Viewing) → i < length begun → IsViewed (get_or begun i v) (get_or ended i w)

abbrev of_viewing : Viewing → List Reply
of_viewing viewing = viewing.replies.items

viewed_replies : (ended : List Viewing) (place : ℕ) (w : Viewing) → place < length ended → viewer_replies ended (place + 1) ≡ of_viewing (get_or ended place w)
viewed_replies ended place w below =
    let at : place + 1 - 1 ≡ place = omega arith in
    ap (λ (n : ℕ). get_or (map of_viewing ended) n []) at ∙ get_or-map of_viewing ended place w [] below

pub viewed_at : (book : Book) (opening : Volume) (lines : List ScriptLine) (viewers : ℕ) (begun ended : List Viewing) → AreViewings book opening lines viewers begun → AreViewed begun ended
    → (place : ℕ) → place < viewers → IsViewedFrom book opening (calls_of (Viewer (place + 1)) lines) (viewer_replies ended (place + 1))
viewed_at book opening lines viewers [] ended h view place below = let no : ⊥ = omega (arith, h.many) in absurd no
viewed_at book opening lines viewers (v ∷ begun) [] h view place below = let no : ⊥ = omega (arith, view.many) in absurd no
viewed_at book opening lines viewers (v ∷ begun) (w ∷ ended) h view place below =
    let one = view.each place v w (omega (arith, h.many)) in
    let seen = (get_or (w ∷ ended) place w).viewer in
    let replies = viewer_replies (w ∷ ended) (place + 1) in
    let is = viewed_replies (w ∷ ended) place w (omega (arith, view.many, h.many)) in (
      seen,
      subst (λ (calls : List Call). AreReads calls (known book (opened opening)) replies seen) (h.calls_are place v below)
          (subst (λ (before : Known). AreReads (get_or (v ∷ begun) place v).calls.items before replies seen) (h.seen place v below)
          (subst (λ (rs : List Reply). AreReads (get_or (v ∷ begun) place v).calls.items (get_or (v ∷ begun) place v).viewer rs seen) (sym is) one.reads)),
    )

-- the first viewer is still of the history that it began with
pub first_book : (book : Book) (opening : Volume) (lines : List ScriptLine) (viewers : ℕ) (begun ended : List Viewing) → AreViewings book opening lines viewers begun → AreViewed begun ended
    → 0 < viewers → (w : Viewing) → (get_or ended 0 w).viewer.book ≡ book
first_book book opening lines viewers [] ended h view some w = let no : ⊥ = omega (arith, h.many) in absurd no
first_book book opening lines viewers (v ∷ begun) ended h view some w =
    let one = view.each 0 v w (omega (arith, h.many)) in
    reads_book v.calls.items v.viewer (get_or ended 0 w).replies.items (get_or ended 0 w).viewer one.reads ∙ ap (λ (k : Known). k.book) (h.seen 0 v some)
