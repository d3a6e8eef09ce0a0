-- What a run over a copy of an image answers its workers is what the image answers.
use Rattle.std.proofs.Common.{◌≡◌, inl, inr, ⊎_elim, ℕ, zero, suc, ◌+◌, ◌-◌, ◌<◌, Bool, true, false, cond, List, [], ◌∷◌, ◌++◌, map, filter, length, get_or, slice_get, Option, Some, refl, sym, ap, subst, ◌∙◌, arith, true≢false}
use Rattle.std.proofs.lemmas.Bool.{or_left, or_right}
use Rattle.std.proofs.lemmas.List.{append_assoc, length-map, get_or-map}
use Rattle.std.proofs.lemmas.List.Elements.{All-take}
use Rattle.std.proofs.Math.Seq.{take-append_seam}
use Rattle.std.proofs.lemmas.Option.{get_or_from_slice_get, slice_get_within}
use Rattle.logbook.specs.Pages.{Book}
use Rattle.hfs_fields.specs.Members.{In}
use Rattle.hfs_model.specs.declared.call.Call.{Call}
use Rattle.hfs_model.specs.declared.call.Call.TheVariants as call
use Rattle.hfs_model.specs.declared.journal.Want.{Want}
use Rattle.hfs_model.specs.Changes.{Outcome}
use Rattle.hfs_model.specs.Step.{is_writing}
use Rattle.hfs_model.specs.declared.reply.Reply.{Reply}
use Rattle.hfs_model.specs.declared.journal.Entry.{Entry}
use Rattle.hfs_model.specs.Need.{step_within, step_wanting}
use Rattle.hfs_model.specs.Runs.{after}
use Rattle.hfs_model.specs.Volume.{Volume}
use Rattle.hfs_check.specs.VolumeOf.{volume_of}
use Rattle.hfs_shared.specs.Tolds.{ToldState}
use Rattle.hfs_shared.specs.declared.done.Done.{Done}
use Rattle.hfs_volume.specs.Serving.{free_in, depth_in}
use Rattle.hfs_model.specs.Named.{AreOf}
use Rattle.hfs_model.specs.Alike.{bare_volume, no_file, reads_fork}
use Rattle.hfs_model.proofs.AlikeLawsProved.{alike_after, alike_wanting, alike_within}
use Rattle.hfs_model.proofs.NamedItems.{asked_answer_alike}
use Rattle.hfs_copy.proofs.LawsProved.{copies_answer}
use Rattle.hfs_scripts.specs.declared.lines.Caller.{Caller}
use Rattle.hfs_scripts.specs.declared.lines.Caller.TheVariants.{Worker}
use Rattle.hfs_scripts.specs.declared.lines.ScriptLine.{ScriptLine}
use Rattle.hfs_scripts.specs.Callers.{calls_of, is_same}
use Rattle.hfs_shared.specs.Desks.{PassState, entry_of, pass_state}
use Rattle.hfs_shared.specs.Journals.{IsLegal}
use Rattle.hfs_shared.specs.Plans.{Plan, ArePlanned, IsPlanned}
use Rattle.hfs_shared.specs.Shareds.{IsReplyOf}
use Rattle.hfs_shared.specs.Works.{IsWork, later}
use Rattle.hfs_runs.specs.Naming.{line_calls, read_forks, uses_fork}
use Rattle.hfs_runs.specs.Jobs.{plan_of}
use Rattle.hfs_runs.specs.OnImage.{AreWorkersOnImage, IsForkReplyIn, IsLinesCopy, IsReplyIn, IsReplyOnImage, IsSomeReplyOnImage, SavedIsMade, WorkersReadTheImage}
use Rattle.hfs_runs.proofs.Answered.{fork-outcome, other-outcome}
use Rattle.hfs_fields.proofs.MemberLemmas.{in-at}

-- ---- calls of lines

-- a caller's calls are those of lines
in-lines : (caller : Caller) (lines : List ScriptLine) (c : Call) → In c (calls_of caller lines) → In c (line_calls lines)
unfolding calls_of
in-lines caller [] c i = i
in-lines caller (line ∷ lines) c i = by (λ there. in-lines caller lines c there) (is_same line.caller caller) i
  where
    by : (In c (map (λ (l : ScriptLine). l.call) (filter (λ (l : ScriptLine). is_same l.caller caller) lines)) → In c (line_calls lines)) → (b : Bool)
        → In c (map (λ (l : ScriptLine). l.call) (cond b (line ∷ filter (λ (l : ScriptLine). is_same l.caller caller) lines) (filter (λ (l : ScriptLine). is_same l.caller caller) lines)))
        → In c (line_calls (line ∷ lines))
    by rest true (inl same) = inl same
    by rest true (inr there) = inr (rest there)
    by rest false there = inr (rest there)

-- entries with planned calls are of calls of lines
planned-of : (lines : List ScriptLine) (es : List Entry) → ArePlanned (plan_of lines) es → AreOf (line_calls lines) es
planned-of lines [] planned = tt
planned-of lines (e ∷ es) planned =
    let mine = calls_of (Worker e.worker) lines in
    let at : slice_get mine (e.stamp - 1) ≡ Some e.call = planned 0 e (omega arith) in
    let there : In (get_or mine (e.stamp - 1) e.call) mine = in-at mine (e.stamp - 1) e.call (slice_get_within mine (e.stamp - 1) e.call at) in (
      in-lines (Worker e.worker) lines e.call (subst (λ (c : Call). In c mine) (get_or_from_slice_get mine (e.stamp - 1) e.call e.call at) there),
      planned-of lines es (λ k d lt. planned (suc k) d (omega (arith, lt))),
    )

-- the first of some entries with planned calls have planned ones
first-planned : (plan : Plan) (before behind : List Entry) → ArePlanned plan (before ++ behind) → ArePlanned plan before
first-planned plan before behind planned =
    subst (λ (es : List Entry). ArePlanned plan es) (take-append_seam before behind)
    (All-take (λ (e : Entry). IsPlanned plan e.worker e.stamp e.call) (length before) (before ++ behind) planned)

-- and the first of a legal journal are legal
first-legal : (opening : Volume) (before behind : List Entry) → IsLegal opening (before ++ behind) → IsLegal opening before
first-legal opening before behind legal es e rest is = legal es e (rest ++ behind) (ap (λ (l : List Entry). l ++ behind) is ∙ append_assoc es (e ∷ rest) behind)

-- where one of the calls reads a fork, forks are read for the lines
reads-of : (lines : List ScriptLine) (c : Call) → In c (line_calls lines) → reads_fork c ≡ true → read_forks lines ≡ true
reads-of [] c i e = absurd i
reads-of (line ∷ lines) c i e = ⊎_elim
    (λ (same : line.call ≡ c). or_left (uses_fork line.call) (read_forks lines) (ap uses_fork same ∙ or_left (reads_fork c) (is_writing c) e))
    (λ (there : In c (line_calls lines)). or_right (uses_fork line.call) (read_forks lines) (reads-of lines c there e))
    i

-- ---- one reply

-- a call that writes a fork reads none
writes-not : (c : Call) → is_writing c ≡ true → reads_fork c ≡ false
writes-not (call.GetDirInfo dir) e = refl
writes-not (call.GetCatInfo dir name) e = refl
writes-not (call.GetIndexed dir index) e = refl
writes-not (call.List dir) e = refl
writes-not (call.ReadFork dir name fork offset count) e = absurd (true≢false (sym e))
writes-not (call.Create dir name now) e = refl
writes-not (call.DirCreate dir name now) e = refl
writes-not (call.Delete dir name now) e = refl
writes-not (call.Rename dir name new_name now) e = refl
writes-not (call.CatMove dir name new_dir now) e = refl
writes-not (call.SetFInfo dir name info now) e = refl
writes-not (call.SetCatInfo dir name created modified backup info now) e = refl
writes-not (call.SetFLock dir name now) e = refl
writes-not (call.RstFLock dir name now) e = refl
writes-not (call.CreateFileId dir name now) e = refl
writes-not (call.DeleteFileId id now) e = refl
writes-not (call.ResolveFileId id) e = refl
writes-not (call.SetEof dir name fork length now) e = refl
writes-not (call.WriteFork dir name fork offset bytes now) e = refl

module _ (lines : List ScriptLine) (copy image : List ℕ) (is : IsLinesCopy lines copy image) where
  abbrev calls : List Call
  calls = line_calls lines

  answers : (free depth : ℕ) (before : List Entry) (c : Call) → In c (line_calls lines) → AreOf (line_calls lines) before
      → (step_within free depth (after (volume_of image) before) c).1 ≡ (step_within free depth (after (volume_of copy) before) c).1
  answers free depth before c there asked = by (reads_fork c) refl
    where
      by : (b : Bool) → reads_fork c ≡ b → (step_within free depth (after (volume_of image) before) c).1 ≡ (step_within free depth (after (volume_of copy) before) c).1
      by true e =
          let forks = is.forks (reads-of lines c there e) in
          asked_answer_alike forks.keep (line_calls lines) (volume_of copy) (volume_of image) before free depth c forks.alike forks.named asked there
      by false e =
          let alike = alike_after no_file (volume_of copy) (volume_of image) before (copies_answer copy image is.working).alike in
          (alike_within no_file free depth (after (volume_of copy) before) (after (volume_of image) before) c alike).reply e

  fork-answers : (want : Option Want) (before : List Entry) (c : Call) → is_writing c ≡ true
      → (step_wanting want (after (volume_of image) before) c).1 ≡ (step_wanting want (after (volume_of copy) before) c).1
  fork-answers want before c writes =
      let alike = alike_after no_file (volume_of copy) (volume_of image) before (copies_answer copy image is.working).alike in
      (alike_wanting no_file want (after (volume_of copy) before) (after (volume_of image) before) c alike).reply (writes-not c writes)

  fork-reply : (before : List Entry) (c : Call) (r : Reply) (s : IsReplyOf copy (after (volume_of copy) before) c r) → is_writing c ≡ true
      → IsForkReplyIn s.image (after (volume_of image) before) c r
  fork-reply before c r s writes =
      let o = fork-outcome s.image c (s.left, r) s.outcome writes in
      record {
        want = o.want;
        meets = o.meets;
        is = ap (λ (outcome : Outcome). outcome.1) o.is ∙ ap (λ (v : Volume). (step_wanting o.want v c).1) s.volume_is
            ∙ sym (fork-answers o.want before c writes);
      }

  on-image : (before : List Entry) (c : Call) (r : Reply) → In c (line_calls lines) → AreOf (line_calls lines) before → IsReplyOf copy (after (volume_of copy) before) c r
      → IsReplyOnImage copy image before c r
  on-image before c r there asked s = record {
    on_copy = s;
    on_image = record {
      other = λ e.
          ap (λ (outcome : Outcome). outcome.1) (other-outcome s.image c (s.left, r) s.outcome e)
          ∙ ap (λ (v : Volume). (step_within (free_in s.image) (depth_in s.image) v c).1) s.volume_is
          ∙ sym (answers (free_in s.image) (depth_in s.image) before c there asked);
      fork = λ e. fork-reply before c r s e;
    };
  }

  -- ---- the replies of a worker

  module _ (book : Book) (worker : ℕ) (told : List (Reply × ToldState)) (last : PassState) (replies : List Reply)
      (same : map (λ (answer : Reply × ToldState). answer.0) told ≡ replies)
      (w : IsWork book copy (plan_of lines) (pass_state worker 1) (calls_of (Worker worker) lines) last told) where
    below : (k : ℕ) → k < length replies → k < length told
    below k lt = omega (arith, lt, ap length same, length-map told (λ (answer : Reply × ToldState). answer.0))

    call-there : (k : ℕ) (c : Call) → k < length replies → In (get_or (calls_of (Worker worker) lines) k c) (line_calls lines)
    call-there k c lt =
        let mine = calls_of (Worker worker) lines in
        in-lines (Worker worker) lines (get_or mine k c) (in-at mine k c (omega (arith, below k lt, w.few)))

    reply-at : (k : ℕ) (c : Call) (r : Reply) → k < length replies → IsSomeReplyOnImage lines copy image (get_or (calls_of (Worker worker) lines) k c) (get_or replies k r)
    reply-at k c r lt =
        let none : Reply × ToldState = (r, record { book = book; list = []; shown = 0; made = 0 }) in
        let made = w.each k c none (below k lt) in
        let is_it : (get_or told k none).0 ≡ get_or replies k r =
        sym (get_or-map (λ (answer : Reply × ToldState). answer.0) told k none r (below k lt)) ∙ ap (λ (rs : List Reply). get_or rs k r) same in
        let call = get_or (calls_of (Worker worker) lines) k c in
        let own = entry_of (later (pass_state worker 1) k) call (get_or told k none).0 ∷ [] in
        let planned = first-planned (plan_of lines) made.0 own made.1.planned in
        record {
          before = made.0;
          legal = first-legal (volume_of copy) made.0 own made.1.legal;
          planned = planned;
          is = on-image made.0 call (get_or replies k r) (call-there k c lt) (planned-of lines made.0 planned)
              (subst (λ (x : Reply). IsReplyOf copy (after (volume_of copy) made.0) call x) is_it made.1.reply);
        }

-- a member of a list that isn't empty
with-one : (dones : List Done) (P : Type 0) → 0 < length dones → (Done → P) → P
with-one [] P some f = let no : ⊥ = omega (arith, some) in absurd no
with-one (d ∷ dones) P some f = f d

pub workers_read_the_image : WorkersReadTheImage
workers_read_the_image copy image lines volume text whole shown told is ran place below =
    with-one ran.dones (AreWorkersOnImage lines copy image shown ran.journal (place + 1) (ran.replies (Worker (place + 1)))) (omega (arith, below, ran.many)) by
  where
    by : Done → AreWorkersOnImage lines copy image shown ran.journal (place + 1) (ran.replies (Worker (place + 1)))
    by none =
        let worker = place + 1 in
        let replies = ran.replies (Worker worker) in
        let worked = ran.worked place none below in
        let done = get_or ran.dones place none in
        record {
          each = λ k call reply lt.
              reply-at lines copy image is ran.book worker done.replies.items done.pass replies worked.0 worked.1.work k call reply lt;
          stand = λ yes k call reply lt.
              let s = ran.stands yes place below k call reply lt in (
                s.before,
                s.behind,
                s.whole,
                on-image lines copy image is s.before (get_or (calls_of (Worker worker) lines) k call) (get_or replies k reply)
                    (call-there lines copy image is ran.book worker done.replies.items done.pass replies worked.0 worked.1.work k call lt)
                    (planned-of lines s.before (first-planned (plan_of lines) s.before s.behind (subst (λ (es : List Entry). ArePlanned (plan_of lines) es) (sym s.whole) ran.planned))) s.reply_is,
              );
        }

-- ---- what goes out

pub saved_is_made : SavedIsMade
saved_is_made copy image lines patch text whole shown told over keep forks = record {
  keep = keep;
  named = forks.named;
  made = sym (alike_after keep (volume_of copy) (volume_of image) over.ran.journal forks.alike)
      ∙ ap (bare_volume keep) (sym over.ran.follows ∙ ap volume_of over.makes) ∙ forks.laid;
}
