-- A call is accepted or refused as the model says, or the volume wants room for it.
use Rattle.std.proofs.Common.{◌≡◌, ℕ, Bool, true, false, cond, ◌&&◌, List, Option, Some, None, Ok, Err, refl, sym, ◌∙◌, ap, subst, inl, inr}
use Rattle.std.specs.Prelude.{◌⊎◌, ℤ, pos}
use Rattle.std.specs.Ordering.{int_eq}
use Rattle.hfs_model.specs.declared.call.Call.{Call}
use Rattle.hfs_model.specs.declared.call.Call.TheVariants as call
use Rattle.hfs_model.specs.declared.codes.TheConstants.{DISK_FULL}
use Rattle.hfs_model.specs.declared.journal.Want.{Want}
use Rattle.hfs_model.specs.declared.reply.Reply.{Reply}
use Rattle.hfs_model.specs.Changes.{Outcome}
use Rattle.hfs_model.specs.Need.{full, wanting, step_wanting, meets_want_of_nodes}
use Rattle.hfs_model.specs.Replies.{is_accepted}
use Rattle.hfs_model.specs.Step.{step}
use Rattle.hfs_model.specs.Volume.{Volume}
use Rattle.hfs_check.specs.VolumeOf.{volume_of}
use Rattle.hfs_volume.specs.Image.{ImageValue}
use Rattle.hfs_volume.specs.Serving.{free_in, depth_in, within_nodes, IsForkOutcome, IsOutcomeIn}
use Rattle.hfs_put_plan.specs.Accepted.{accepted}
use Rattle.hfs_put.specs.Faults.{IsWanting}
use Rattle.hfs_put_plan.proofs.AcceptedCalls.{answered}

and-first : (a b : Bool) → (a && b) ≡ true → a ≡ true
and-first true b h = refl
and-first false b h = absurd (cc h)

abbrev unless : Bool → Outcome → Outcome → Outcome
unless b o p = cond b o p

module _ (image : List ℕ) (w : Volume) (r : Reply) where
  abbrev Either : Call → Type 0
  Either c = ((w, r) ≡ step (volume_of image) c) ⊎ ((is_accepted (step (volume_of image) c).1 ≡ true) × (r.code ≡ DISK_FULL))

  within : (c : Call) → (w, r) ≡ within_nodes image c → Either c
  within c is = by-test (meets_want_of_nodes (free_in image) (depth_in image) (volume_of image) c) refl
    where
      by-test : (b : Bool) → meets_want_of_nodes (free_in image) (depth_in image) (volume_of image) c ≡ b → Either c
      by-test true meets =
          let out : (w, r) ≡ (volume_of image, full (free_in image) (depth_in image)) =
          is ∙ ap (λ (b : Bool). unless b (volume_of image, full (free_in image) (depth_in image)) (step (volume_of image) c)) meets in
          inr (and-first _ _ meets, ap (λ (o : Outcome). o.1.code) out)
      by-test false meets = inl (is ∙ ap (λ (b : Bool). unless b (volume_of image, full (free_in image) (depth_in image)) (step (volume_of image) c)) meets)

  by-want : (c : Call) (x : Option Want) → (w, r) ≡ step_wanting x (volume_of image) c → Either c
  by-want c None is = inl is
  by-want c (Some x) is = by-test (is_accepted (step (volume_of image) c).1) refl
    where
      by-test : (b : Bool) → is_accepted (step (volume_of image) c).1 ≡ b → Either c
      by-test true done =
          let out : (w, r) ≡ (volume_of image, wanting x) = is ∙ ap (λ (b : Bool). unless b (volume_of image, wanting x) (step (volume_of image) c)) done in
          inr (done, ap (λ (o : Outcome). o.1.code) out)
      by-test false other = inl (is ∙ ap (λ (b : Bool). unless b (volume_of image, wanting x) (step (volume_of image) c)) other)

  forks : (c : Call) → IsForkOutcome image c (w, r) → Either c
  forks c o = by-want c o.want o.is

  either : (c : Call) → IsOutcomeIn image c (w, r) → Either c
  either (call.GetDirInfo dir) is = within (call.GetDirInfo dir) is
  either (call.GetCatInfo dir name) is = within (call.GetCatInfo dir name) is
  either (call.GetIndexed dir index) is = within (call.GetIndexed dir index) is
  either (call.List dir) is = within (call.List dir) is
  either (call.ReadFork dir name fork offset count) is = within (call.ReadFork dir name fork offset count) is
  either (call.Create dir name now) is = within (call.Create dir name now) is
  either (call.DirCreate dir name now) is = within (call.DirCreate dir name now) is
  either (call.Delete dir name now) is = within (call.Delete dir name now) is
  either (call.Rename dir name new_name now) is = within (call.Rename dir name new_name now) is
  either (call.CatMove dir name new_dir now) is = within (call.CatMove dir name new_dir now) is
  either (call.SetFInfo dir name info now) is = within (call.SetFInfo dir name info now) is
  either (call.SetCatInfo dir name created modified backup info now) is = within (call.SetCatInfo dir name created modified backup info now) is
  either (call.SetFLock dir name now) is = within (call.SetFLock dir name now) is
  either (call.RstFLock dir name now) is = within (call.RstFLock dir name now) is
  either (call.CreateFileId dir name now) is = within (call.CreateFileId dir name now) is
  either (call.DeleteFileId id now) is = within (call.DeleteFileId id now) is
  either (call.ResolveFileId id) is = within (call.ResolveFileId id) is
  either (call.SetEof dir name fork length now) is = forks (call.SetEof dir name fork length now) is
  either (call.WriteFork dir name fork offset bytes now) is = forks (call.WriteFork dir name fork offset bytes now) is

not-zero : (x : ℤ) → x ≡ DISK_FULL → x ≡ pos 0 → ⊥
not-zero x full none = never (sym full ∙ none)
  where
    never : DISK_FULL ≡ pos 0 → ⊥
    never e = cc

module _ (image : List ℕ) (w : Volume) (r : Reply) (c : Call) where
  answer : (b : Bool) → is_accepted r ≡ b → (w, r) ≡ step (volume_of image) c → accepted (volume_of image) c ≡ answered b (w, r)
  answer b done same = ap (λ (o : Outcome). answered (is_accepted o.1) o) (sym same) ∙ ap (λ (b : Bool). answered b (w, r)) done

  pub done-is : IsOutcomeIn image c (w, r) → r.code ≡ pos 0 → accepted (volume_of image) c ≡ Ok w
  done-is outcome none = by (either image w r c outcome)
    where
      by : Either image w r c → accepted (volume_of image) c ≡ Ok w
      by (inl same) = answer true (ap (λ (x : ℤ). int_eq x (pos 0)) none) same
      by (inr wants) = absurd (not-zero r.code wants.1 none)

  pub refused-is : is_accepted r ≡ false → w ≡ volume_of image → IsOutcomeIn image c (w, r) → (accepted (volume_of image) c ≡ Err r) ⊎ IsWanting image r
  refused-is refused stays outcome = by (either image w r c outcome)
    where
      by : Either image w r c → (accepted (volume_of image) c ≡ Err r) ⊎ IsWanting image r
      by (inl same) = inl (answer false refused same)
      by (inr wants) = inr (record { call = c; done = wants.0; outcome = subst (λ (u : Volume). IsOutcomeIn image c (u, r)) stays outcome; full = wants.1 })

-- the same where the image is another's name
pub refused-as : (old new : ImageValue) (r : Reply) (c : Call) → is_accepted r ≡ false → new ≡ old → IsOutcomeIn old.current c (volume_of new.current, r)
    → (accepted (volume_of old.current) c ≡ Err r) ⊎ IsWanting new.current r
refused-as old new r c refused same outcome =
    subst (λ (i : ImageValue). (accepted (volume_of old.current) c ≡ Err r) ⊎ IsWanting i.current r) (sym same)
    (refused-is old.current (volume_of new.current) r c refused (ap (λ (i : ImageValue). volume_of i.current) same) outcome)
