-- The outcome of a call whose edit was made.
use Rattle.std.proofs.Common.{◌≡◌, ℕ, ℤ, Bool, true, false, cond, ◌&&◌, refl, ap, subst, List, sym, ◌∙◌, arith, Option, Some, None, true≢false}
use Rattle.std.specs.Prelude.{Result, Ok, Err, IfOk, OnOk, IsTrue, nat_lt}
use Rattle.std.proofs.lemmas.Bool.{le-ltb}
use Rattle.std.proofs.lemmas.Option.{none-some}
use Rattle.hfs_model.specs.declared.call.Call.{Call}
use Rattle.hfs_model.specs.declared.call.Call.TheVariants as call
use Rattle.hfs_model.specs.declared.journal.Want.{Want}
use Rattle.hfs_model.specs.declared.journal.Want.TheVariants as want
use Rattle.hfs_model.specs.declared.reply.Reply.{Reply}
use Rattle.hfs_model.specs.Changes.{Outcome}
use Rattle.hfs_model.specs.Laws.{EnoughIsStep, ReadingLeaves}
use Rattle.hfs_model.proofs.LawTypes.{ReadingNeedsNone}
use Rattle.hfs_model.specs.Volume.{Volume}
use Rattle.hfs_model.specs.Need.{need, full, wanting}
use Rattle.hfs_model.specs.Step.{step, is_reading, is_writing}
use Rattle.hfs_check.specs.Parts.{Blocks}
use Rattle.hfs_check.specs.VolumeOf.{volume_of}
use Rattle.hfs_call_patches.specs.declared.change.Change.{Change}
use Rattle.hfs_volume.specs.Serving.{free_in, depth_in, within_nodes, IsForkOutcome, IsOutcomeIn}
use Rattle.hfs_volume.specs.Steps.{IsEditOn, IsAfter, IsOutcome, refusal_reply}
use Rattle.hfs_call_edits.specs.declared.editing.Refusal.{Refusal}
use Rattle.hfs_call_edits.specs.declared.editing.Refusal.TheVariants as refused
use Rattle.hfs_call_edits.specs.Edits.{IsFull, IsForkWanting, wants_nodes}
use Rattle.hfs_call_edits.specs.ForkWants.{MeetsForkWant}
use Rattle.hfs_blocks.specs.Blocks.{block_at}
use Rattle.hfs_model.specs.Replies.{refusal, success, is_accepted}

-- ---- calls that write forks, and others

other_outcome : (image : List ℕ) (c : Call) (o : Outcome) → is_writing c ≡ false → o ≡ within_nodes image c → IsOutcomeIn image c o
other_outcome image (call.GetDirInfo dir) o other is = is
other_outcome image (call.GetCatInfo dir name) o other is = is
other_outcome image (call.GetIndexed dir index) o other is = is
other_outcome image (call.List dir) o other is = is
other_outcome image (call.ReadFork dir name fork offset count) o other is = is
other_outcome image (call.Create dir name now) o other is = is
other_outcome image (call.DirCreate dir name now) o other is = is
other_outcome image (call.Delete dir name now) o other is = is
other_outcome image (call.Rename dir name new_name now) o other is = is
other_outcome image (call.CatMove dir name new_dir now) o other is = is
other_outcome image (call.SetFInfo dir name info now) o other is = is
other_outcome image (call.SetCatInfo dir name created modified backup info now) o other is = is
other_outcome image (call.SetFLock dir name now) o other is = is
other_outcome image (call.RstFLock dir name now) o other is = is
other_outcome image (call.CreateFileId dir name now) o other is = is
other_outcome image (call.DeleteFileId id now) o other is = is
other_outcome image (call.ResolveFileId id) o other is = is
other_outcome image (call.SetEof dir name fork length now) o other is = absurd (true≢false other)
other_outcome image (call.WriteFork dir name fork offset bytes now) o other is = absurd (true≢false other)

fork_outcome : (image : List ℕ) (c : Call) (o : Outcome) → is_writing c ≡ true → IsForkOutcome image c o → IsOutcomeIn image c o
fork_outcome image (call.GetDirInfo dir) o writes is = absurd (true≢false (sym writes))
fork_outcome image (call.GetCatInfo dir name) o writes is = absurd (true≢false (sym writes))
fork_outcome image (call.GetIndexed dir index) o writes is = absurd (true≢false (sym writes))
fork_outcome image (call.List dir) o writes is = absurd (true≢false (sym writes))
fork_outcome image (call.ReadFork dir name fork offset count) o writes is = absurd (true≢false (sym writes))
fork_outcome image (call.Create dir name now) o writes is = absurd (true≢false (sym writes))
fork_outcome image (call.DirCreate dir name now) o writes is = absurd (true≢false (sym writes))
fork_outcome image (call.Delete dir name now) o writes is = absurd (true≢false (sym writes))
fork_outcome image (call.Rename dir name new_name now) o writes is = absurd (true≢false (sym writes))
fork_outcome image (call.CatMove dir name new_dir now) o writes is = absurd (true≢false (sym writes))
fork_outcome image (call.SetFInfo dir name info now) o writes is = absurd (true≢false (sym writes))
fork_outcome image (call.SetCatInfo dir name created modified backup info now) o writes is = absurd (true≢false (sym writes))
fork_outcome image (call.SetFLock dir name now) o writes is = absurd (true≢false (sym writes))
fork_outcome image (call.RstFLock dir name now) o writes is = absurd (true≢false (sym writes))
fork_outcome image (call.CreateFileId dir name now) o writes is = absurd (true≢false (sym writes))
fork_outcome image (call.DeleteFileId id now) o writes is = absurd (true≢false (sym writes))
fork_outcome image (call.ResolveFileId id) o writes is = absurd (true≢false (sym writes))
fork_outcome image (call.SetEof dir name fork length now) o writes is = is
fork_outcome image (call.WriteFork dir name fork offset bytes now) o writes is = is

needs_none : (c : Call) (depth : ℕ) → is_writing c ≡ true → need c depth ≡ 0
needs_none (call.GetDirInfo dir) depth writes = absurd (true≢false (sym writes))
needs_none (call.GetCatInfo dir name) depth writes = absurd (true≢false (sym writes))
needs_none (call.GetIndexed dir index) depth writes = absurd (true≢false (sym writes))
needs_none (call.List dir) depth writes = absurd (true≢false (sym writes))
needs_none (call.ReadFork dir name fork offset count) depth writes = absurd (true≢false (sym writes))
needs_none (call.Create dir name now) depth writes = absurd (true≢false (sym writes))
needs_none (call.DirCreate dir name now) depth writes = absurd (true≢false (sym writes))
needs_none (call.Delete dir name now) depth writes = absurd (true≢false (sym writes))
needs_none (call.Rename dir name new_name now) depth writes = absurd (true≢false (sym writes))
needs_none (call.CatMove dir name new_dir now) depth writes = absurd (true≢false (sym writes))
needs_none (call.SetFInfo dir name info now) depth writes = absurd (true≢false (sym writes))
needs_none (call.SetCatInfo dir name created modified backup info now) depth writes = absurd (true≢false (sym writes))
needs_none (call.SetFLock dir name now) depth writes = absurd (true≢false (sym writes))
needs_none (call.RstFLock dir name now) depth writes = absurd (true≢false (sym writes))
needs_none (call.CreateFileId dir name now) depth writes = absurd (true≢false (sym writes))
needs_none (call.DeleteFileId id now) depth writes = absurd (true≢false (sym writes))
needs_none (call.ResolveFileId id) depth writes = absurd (true≢false (sym writes))
needs_none (call.SetEof dir name fork length now) depth writes = refl
needs_none (call.WriteFork dir name fork offset bytes now) depth writes = refl

-- only they want blocks
wants_blocks : (c : Call) (old : Blocks) (w : Want) → MeetsForkWant c old (Some w) → is_writing c ≡ true
wants_blocks (call.GetDirInfo dir) old w meets = absurd (none-some w (sym meets))
wants_blocks (call.GetCatInfo dir name) old w meets = absurd (none-some w (sym meets))
wants_blocks (call.GetIndexed dir index) old w meets = absurd (none-some w (sym meets))
wants_blocks (call.List dir) old w meets = absurd (none-some w (sym meets))
wants_blocks (call.ReadFork dir name fork offset count) old w meets = absurd (none-some w (sym meets))
wants_blocks (call.Create dir name now) old w meets = absurd (none-some w (sym meets))
wants_blocks (call.DirCreate dir name now) old w meets = absurd (none-some w (sym meets))
wants_blocks (call.Delete dir name now) old w meets = absurd (none-some w (sym meets))
wants_blocks (call.Rename dir name new_name now) old w meets = absurd (none-some w (sym meets))
wants_blocks (call.CatMove dir name new_dir now) old w meets = absurd (none-some w (sym meets))
wants_blocks (call.SetFInfo dir name info now) old w meets = absurd (none-some w (sym meets))
wants_blocks (call.SetCatInfo dir name created modified backup info now) old w meets = absurd (none-some w (sym meets))
wants_blocks (call.SetFLock dir name now) old w meets = absurd (none-some w (sym meets))
wants_blocks (call.RstFLock dir name now) old w meets = absurd (none-some w (sym meets))
wants_blocks (call.CreateFileId dir name now) old w meets = absurd (none-some w (sym meets))
wants_blocks (call.DeleteFileId id now) old w meets = absurd (none-some w (sym meets))
wants_blocks (call.ResolveFileId id) old w meets = absurd (none-some w (sym meets))
wants_blocks (call.SetEof dir name fork length now) old w meets = refl
wants_blocks (call.WriteFork dir name fork offset bytes now) old w meets = refl

-- ---- what calls answer that read

reads-not : (c : Call) → IsTrue (is_reading c) → is_writing c ≡ false
reads-not (call.GetDirInfo dir) reading = refl
reads-not (call.GetCatInfo dir name) reading = refl
reads-not (call.GetIndexed dir index) reading = refl
reads-not (call.List dir) reading = refl
reads-not (call.ReadFork dir name fork offset count) reading = refl
reads-not (call.Create dir name now) reading = refl
reads-not (call.DirCreate dir name now) reading = refl
reads-not (call.Delete dir name now) reading = refl
reads-not (call.Rename dir name new_name now) reading = refl
reads-not (call.CatMove dir name new_dir now) reading = refl
reads-not (call.SetFInfo dir name info now) reading = refl
reads-not (call.SetCatInfo dir name created modified backup info now) reading = refl
reads-not (call.SetFLock dir name now) reading = refl
reads-not (call.RstFLock dir name now) reading = refl
reads-not (call.CreateFileId dir name now) reading = refl
reads-not (call.DeleteFileId id now) reading = refl
reads-not (call.ResolveFileId id) reading = refl
reads-not (call.SetEof dir name fork length now) reading = absurd (true≢false (sym reading))
reads-not (call.WriteFork dir name fork offset bytes now) reading = absurd (true≢false (sym reading))

pub read_outcome : ReadingLeaves → EnoughIsStep → ReadingNeedsNone → (image : List ℕ) (c : Call) → IsTrue (is_reading c) → (reply : Reply) → reply ≡ (step (volume_of image) c).1
    → IsOutcomeIn image c (volume_of image, reply)
read_outcome leaves enough none image c reading reply is =
    other_outcome image c (volume_of image, reply) (reads-not c reading)
    ((λ i. (sym (leaves (volume_of image) c reading) i, is i))
    ∙ sym (enough (free_in image) (depth_in image) (volume_of image) c (let n = none c (depth_in image) reading in omega (arith, n))))

-- ---- what edits come to

both_false : (a b : Bool) → b ≡ false → (a && b) ≡ true → ⊥
both_false true b e is = true≢false (sym is ∙ e)
both_false false b e is = true≢false (sym is)

module _ (image : List ℕ) (c : Call) where
  enough_nodes : wants_nodes c (block_at image) ≡ false → within_nodes image c ≡ step (volume_of image) c
  unfolding volume_of
  enough_nodes e = ap (λ (b : Bool). cond b (volume_of image, full (free_in image) (depth_in image)) (step (volume_of image) c)) e

  -- nothing is wanting
  plain_outcome : (o : Outcome) → o ≡ step (volume_of image) c → wants_nodes c (block_at image) ≡ false
      → (is_writing c ≡ true → IsTrue (is_accepted (step (volume_of image) c).1) → MeetsForkWant c (block_at image) None) → IsOutcomeIn image c o
  plain_outcome o same enough meets = elim (is_writing c) as (λ (b : Bool). is_writing c ≡ b → IsOutcomeIn image c o) [
    | true ↦ λ writes. fork_outcome image c o writes (record { want = None; meets = meets writes; is = same })
    | false ↦ λ other. other_outcome image c o other (same ∙ sym (enough_nodes enough))
  ] refl

  pub change_outcome : (change : Change) (v : Volume) (reply : Reply) → IsEditOn c image (Ok change) → v ≡ (step (volume_of image) c).0 → reply ≡ success change.value → IsOutcomeIn image c (v, reply)
  unfolding volume_of
  change_outcome change v reply edit after same =
      plain_outcome (v, reply) (λ i. (after i, (same ∙ sym edit.is.comes.reply) i)) edit.is.enough (λ writes accepted. edit.room)

  pub code_outcome : (code : ℤ) → IsEditOn c image (Err (refused.Code code)) → IsOutcomeIn image c (volume_of image, refusal code)
  unfolding volume_of
  code_outcome code edit =
      plain_outcome (volume_of image, refusal code) (sym edit.is.comes) edit.is.enough (λ writes accepted. absurd (true≢false (sym accepted ∙ edit.room writes)))

  full_outcome : (free depth : ℕ) → IsFull c (block_at image) free depth → IsOutcomeIn image c (volume_of image, full free depth)
  unfolding volume_of
  full_outcome free depth is = elim (is_writing c) as (λ (b : Bool). is_writing c ≡ b → IsOutcomeIn image c (volume_of image, full free depth)) [
    | true ↦ λ writes.
        let none : nat_lt (free_in image) (need c (depth_in image)) ≡ false = ap (λ (n : ℕ). nat_lt (free_in image) n) (needs_none c (depth_in image) writes) ∙ le-ltb (free_in image) 0 (omega arith) in
        absurd (both_false (is_accepted (step (volume_of image) c).1) (nat_lt (free_in image) (need c (depth_in image))) none is.wanting)
    | false ↦ λ other. other_outcome image c (volume_of image, full free depth) other
        ((λ i. (volume_of image, full (is.free_is i) (is.depth_is i)))
        ∙ sym (ap (λ (b : Bool). cond b (volume_of image, full (free_in image) (depth_in image)) (step (volume_of image) c)) is.wanting))
  ] refl

  -- blocks or nodes of the extents tree are wanting
  fork_want_outcome : (w : Want) → IsForkWanting c (block_at image) w → IsOutcomeIn image c (volume_of image, wanting w)
  unfolding volume_of
  fork_want_outcome w is = fork_outcome image c (volume_of image, wanting w) (wants_blocks c (block_at image) w is.meets) (record {
    want = Some w;
    meets = λ accepted. is.meets;
    is = sym (ap (λ (b : Bool). cond b (volume_of image, wanting w) (step (volume_of image) c)) is.accepted);
  })

  pub want_outcome : (w : Want) → IsEditOn c image (Err (refused.Want w)) → IsOutcomeIn image c (volume_of image, wanting w)
  want_outcome (want.Nodes free depth) edit = full_outcome free depth edit.is
  want_outcome (want.Room free wanted) edit = fork_want_outcome (want.Room free wanted) edit.is
  want_outcome (want.ExtentNodes free depth) edit = fork_want_outcome (want.ExtentNodes free depth) edit.is

  pub refused_outcome : (reason : Refusal) (reply : Reply) → reply ≡ refusal_reply reason → IsEditOn c image (Err reason) → IsOutcomeIn image c (volume_of image, reply)
  refused_outcome (refused.Code code) reply same is = subst (λ (r : Reply). IsOutcomeIn image c (volume_of image, r)) (sym same) (code_outcome code is)
  refused_outcome (refused.Want w) reply same is = subst (λ (r : Reply). IsOutcomeIn image c (volume_of image, r)) (sym same) (want_outcome w is)

-- the same where the volume was changed, or memory was wanting
pub made_outcome : {E : Type 0} (image : List ℕ) (change : Change) (v : Volume) (edit : Result Change Refusal) → edit ≡ Ok change → (r : Result Reply E) → OnOk r (IsAfter image change v)
    → IfOk r (λ reply. reply ≡ success change.value) → IfOk r (λ reply. IsOutcome image edit (v, reply))
made_outcome image change v edit e (Ok reply) after same = λ c is.
    let own = subst (IsEditOn c image) e is in
    change_outcome image c change v reply own (after c own) same
made_outcome image change v edit e (Err error) after same = tt
