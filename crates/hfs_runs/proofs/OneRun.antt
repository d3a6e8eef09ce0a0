-- A run, out of what each of its steps gave.
use Rattle.std.proofs.Common.{◌≡◌, ◌∙◌, ℕ, ◌+◌, ◌<◌, Bool, true, List, [], map, length, get_or, sym, subst, arith, Ok}
use Rattle.std.specs.List.{All}
use Rattle.logbook.specs.Pages.{Book}
use Rattle.hfs_model.specs.declared.call.Call.{Call}
use Rattle.hfs_model.specs.Volume.{Volume}
use Rattle.hfs_check.specs.Sound.{IsSound}
use Rattle.hfs_check.specs.VolumeOf.{volume_of}
use Rattle.hfs_volume.specs.Image.{ImageValue}
use Rattle.hfs_scripts.specs.declared.lines.Caller.TheVariants.{Viewer}
use Rattle.hfs_scripts.specs.declared.lines.ScriptLine.{ScriptLine}
use Rattle.hfs_scripts.specs.Callers.{calls_of, workers, viewers}
use Rattle.hfs_scripts.specs.Scripts.{script_of}
use Rattle.hfs_shared.specs.Histories.{Known, known, opened}
use Rattle.hfs_shared.proofs.LawTypes.{PublishedIsAfter}
use Rattle.hfs_shared.specs.Closings.{HasNoOthers, IsWhether}
use Rattle.hfs_shared.specs.declared.done.Done.{Done}
use Rattle.hfs_shared.specs.Desks.{PassState}
use Rattle.hfs_shared.specs.Plans.{Plan, ArePlanned}
use Rattle.hfs_runs.specs.declared.numbering.Asked.{Asked}
use Rattle.hfs_runs.specs.declared.viewing.Viewing.{Viewing}
use Rattle.hfs_runs.specs.Answers.{answers_text, is_whole, replies_of}
use Rattle.hfs_runs.specs.Asking.{AreNumbered}
use Rattle.hfs_runs.specs.Jobs.{plan_of}
use Rattle.hfs_runs.specs.Runs.{IsHandedOut, AreLinesRun, AreLinesRunUntold, IsScriptRun}
use Rattle.hfs_runs.specs.Tellings.{AreWhole, OfEach, ToldReplies}
use Rattle.hfs_runs.proofs.Late.{told_exactly, when_true}
use Rattle.hfs_runs.proofs.Whole.{answered}
use Rattle.hfs_runs.proofs.Working.{AreJobs, AreDone, AreViewings, AreViewed, IsEnd, worked_at, made_at, dones_count, passes_count, stand_at, told_within, viewed_at}

all_at : {X : Type 0} (P : X → Type 0) (xs : List X) (i : ℕ) (d : X) → All P xs → i < length xs → P (get_or xs i d)
all_at P xs i d all below = all i d below

-- viewers that have seen the opening alone, with their calls
pub begun : (book : Book) (opening : Volume) (lines : List ScriptLine) (count : ℕ) (seen : List Known) (lent : List Viewing) → length seen ≡ count → All (λ k. k ≡ known book (opened opening)) seen
    → length lent ≡ length seen → ((i : ℕ) (w : Viewing) (k : Known) → i < length seen → (get_or lent i w).viewer ≡ get_or seen i k)
    → ((i : ℕ) (w : Viewing) → i < length seen → (get_or lent i w).calls.items ≡ calls_of (Viewer (i + 1)) lines) → AreViewings book opening lines count lent
begun book opening lines count seen lent many all same views calls =
    record {
      many = same ∙ many;
      seen = λ i v below. views i v (known book []) (omega (arith, many)) ∙ all_at (λ k. k ≡ known book (opened opening)) seen i (known book []) all (omega (arith, many));
      calls_are = λ i v below. calls i v (omega (arith, many));
    }

pub ran : {V : Type 0} (items : V → List Call) (book : Book) (image : List ℕ) (lines : List ScriptLine) (volume : ImageValue) (text : List ℕ) (whole shown : Bool) (told : ToldReplies) (asked : List Asked) (passes : List PassState)
    (plan : Plan) (jobs : List (PassState × V)) (dones : List Done) (begun ended : List Viewing) → AreNumbered (map (λ (line : ScriptLine). line.caller) lines) asked → AreJobs items lines (workers lines) passes jobs
    → AreDone items book image plan jobs dones → AreViewings book (volume_of image) lines (viewers lines) begun → AreViewed begun ended → text ≡ answers_text (replies_of dones ended) asked
    → whole ≡ is_whole (replies_of dones ended) asked → PublishedIsAfter → IsWhether shown (OfEach AreWhole dones) → told ≡ map (λ (done : Done). done.replies) dones → plan ≡ plan_of lines → IsHandedOut image plan volume dones
    → AreLinesRun image lines volume text whole shown told
ran items book image lines volume text whole shown told asked passes plan jobs dones begun ended numbered begins done views viewed text_is whole_is law shown_is told_is plan_is out =
    let opening = volume_of image in
    let planned : AreDone items book image (plan_of lines) jobs dones = subst (λ (p : Plan). AreDone items book image p jobs dones) plan_is done in
    let closed = out.closed in
    let end : IsEnd opening out.journal out.shown out.before.list out.afterwards.list dones =
    record { legal = closed.legal; learned = out.learned; begins = closed.begins; published_is = closed.seen } in
    record {
      book = book;
      journal = out.journal;
      dones = dones;
      replies = replies_of dones ended;
      asked = asked;
      numbered = numbered;
      text_is = text_is;
      whole_is = whole_is;
      answered = answered (replies_of dones ended) lines asked numbered whole whole_is;
      base_is = closed.base_is;
      agrees = closed.agrees;
      wrote = closed.made;
      legal = closed.legal;
      follows = closed.follows;
      made = λ place below. made_at items book image plan lines (workers lines) passes jobs dones out.journal begins done closed.all place below;
      others = subst (λ (n : ℕ). HasNoOthers n out.journal) (passes_count items book image plan lines passes jobs dones begins done) closed.others;
      planned = subst (λ (p : Plan). ArePlanned p out.journal) plan_is out.planned;
      coded = out.coded;
      many = dones_count items book image plan lines passes jobs dones begins done;
      worked = λ place none below. worked_at items book image (plan_of lines) lines (workers lines) passes jobs dones begins planned place none below;
      viewed = λ place below. viewed_at book opening lines (viewers lines) begun ended views viewed place below;
      told_is = told_is;
      shown_is = told_exactly shown dones (told_within items book image plan jobs dones done) shown_is;
      stands = λ yes place below.
          stand_at items book image plan lines (workers lines) passes jobs dones begins done law out.journal out.shown out.before.list out.afterwards.list end (when_true shown yes shown_is) place below;
    }

-- the same run, by a text and a test that are the same
pub retold : (image : List ℕ) (lines : List ScriptLine) (volume : ImageValue) (text other : List ℕ) (whole all shown : Bool) (told : ToldReplies) → other ≡ text → all ≡ whole
    → AreLinesRun image lines volume text whole shown told → AreLinesRun image lines volume other all shown told
retold image lines volume text other whole all shown told same same_all run =
    subst (λ (p : List ℕ × Bool). AreLinesRun image lines volume p.0 p.1 shown told) (λ i. (sym same i, sym same_all i)) run

pub is_run : (now : ℕ) (script image : List ℕ) (lines : List ScriptLine) (base : List ℕ) (volume : ImageValue) (text : List ℕ) (whole shown : Bool) → script_of now script ≡ Ok lines → IsSound image
    → base ≡ image → AreLinesRunUntold base lines volume text whole shown → IsScriptRun now script image volume text whole shown
is_run now script image lines base volume text whole shown reads sound same ran =
    record { lines = lines; reads = reads; sound = sound; ran = subst (λ (b : List ℕ). AreLinesRunUntold b lines volume text whole shown) same ran }
