-- Volumes that are the same but for the bytes of forks are answered alike.
use Rattle.std.proofs.Common.{◌≡◌, ℕ, Bool, true, false, cond, List, [], ◌∷◌, map, Option, Some, None, refl, sym, ap, subst, ◌∙◌, true≢false}
use Rattle.std.specs.Prelude.{ℤ, pos, ◌&&◌, nat_lt}
use Rattle.std.specs.Option.{option_map, option_map_or}
use Rattle.std.specs.Ordering.{int_eq}
use Rattle.std.proofs.lemmas.Option.{none-some}
use Rattle.hfs_model.specs.declared.call.Call.{Call}
use Rattle.hfs_model.specs.declared.call.Call.TheVariants as call
use Rattle.hfs_model.specs.declared.reply.Reply.{Reply}
use Rattle.hfs_model.specs.Changes.{Outcome, new_folder, new_file}
use Rattle.hfs_model.specs.Children.{child_named, entries_of}
use Rattle.hfs_model.specs.FileIds.{resolve_file_id, place_reply, file_of_id}
use Rattle.hfs_model.specs.declared.journal.Want.{Want}
use Rattle.hfs_model.specs.Need.{need, full, meets_want_of_nodes, step_within, wanting, step_wanting}
use Rattle.hfs_model.specs.Replies.{is_accepted}
use Rattle.hfs_model.specs.Reading.{get_dir_info, get_cat_info, get_indexed, list, read_fork}
use Rattle.hfs_model.specs.Runs.{after_entry}
use Rattle.hfs_model.specs.Step.{step}
use Rattle.hfs_model.specs.Volume.{Entry, Items, Volume}
use Rattle.hfs_model.specs.Alike.{bare, bare_volume, AreAlike, reads_fork, EndAlike, IsKeptAt, AlikeVolumesAnswerAlike, AlikeWanting, AlikeWithin, AlikeAfter, KeptForksReadAlike}
use Rattle.hfs_model.proofs.BareEntries.{child_named-bare, items-twice}
use Rattle.hfs_model.proofs.BareReplies.{get_dir_info-bare, get_cat_info-bare, get_indexed-bare, list-bare, read_fork-code, read_fork-kept}
use Rattle.hfs_model.proofs.BareChoices.{are, file_of_id-bare, place-reply-bare}
use Rattle.hfs_model.proofs.BareChanges.{bare_outcome, file-plain, folder-plain, create-bare, delete-bare, rename-bare, cat_move-bare, set_f_info-bare, set_cat_info-bare, set_lock-bare, create_file_id-bare, delete_file_id-bare, set_eof-bare, write_fork-bare}

module _ (keep : ℕ → Bool) where
  -- what a call makes of the volume with zeros in its forks, and of the volume: the same but for the bytes of forks
  record StepsBare (c : Call) (v : Volume) : Type 0 where
    code : (step (bare_volume keep v) c).1.code ≡ (step v c).1.code
    reply : reads_fork c ≡ false → (step (bare_volume keep v) c).1 ≡ (step v c).1
    volume : bare_volume keep (step (bare_volume keep v) c).0 ≡ bare_volume keep (step v c).0

  twice : (v : Volume) → bare_volume keep (bare_volume keep v) ≡ bare_volume keep v
  twice v = ap (λ (items : Items). record v { items = items }) (items-twice keep v.items)

  by-outcome : (c : Call) (v : Volume) → step (bare_volume keep v) c ≡ bare_outcome keep (step v c) → StepsBare c v
  by-outcome c v same = record {
    code = ap (λ (o : Outcome). o.1.code) same;
    reply = λ e. ap (λ (o : Outcome). o.1) same;
    volume = ap (λ (o : Outcome). bare_volume keep o.0) same ∙ twice (step v c).0;
  }

  -- of the volume's entries
  module _ (v : Volume) (f : List Entry → Reply) (same : f (map (bare keep) (entries_of v)) ≡ f (entries_of v)) where
    of-entries : f (entries_of (bare_volume keep v)) ≡ f (entries_of v)
    of-entries = ap f (are keep v) ∙ same

  resolve-bare : (es : List Entry) (id : ℕ) → resolve_file_id (map (bare keep) es) id ≡ resolve_file_id es id
  unfolding resolve_file_id
  resolve-bare es id = ap place_reply (file_of_id-bare keep es id) ∙ place-reply-bare keep (file_of_id es id)

  by-reply : (c : Call) (v : Volume) → (step (bare_volume keep v) c).0 ≡ bare_volume keep v → (step v c).0 ≡ v → (step (bare_volume keep v) c).1 ≡ (step v c).1 → StepsBare c v
  by-reply c v there here same = record {
    code = ap (λ (r : Reply). r.code) same;
    reply = λ e. same;
    volume = ap (bare_volume keep) there ∙ twice v ∙ ap (bare_volume keep) (sym here);
  }

  steps-bare : (v : Volume) (c : Call) → StepsBare c v
  steps-bare v (call.GetDirInfo dir) =
      by-reply (call.GetDirInfo dir) v refl refl (of-entries v (λ es. get_dir_info es dir) (get_dir_info-bare keep (entries_of v) dir))
  steps-bare v (call.GetCatInfo dir name) =
      by-reply (call.GetCatInfo dir name) v refl refl (of-entries v (λ es. get_cat_info es dir name) (get_cat_info-bare keep (entries_of v) dir name))
  steps-bare v (call.GetIndexed dir index) =
      by-reply (call.GetIndexed dir index) v refl refl (of-entries v (λ es. get_indexed es dir index) (get_indexed-bare keep (entries_of v) dir index))
  steps-bare v (call.List dir) = by-reply (call.List dir) v refl refl (of-entries v (λ es. list es dir) (list-bare keep (entries_of v) dir))
  steps-bare v (call.ReadFork dir name fork offset count) = record {
    code = ap (λ (es : List Entry). (read_fork es dir name fork offset count).code) (are keep v) ∙ read_fork-code keep (entries_of v) dir name fork offset count;
    reply = λ e. absurd (true≢false e);
    volume = twice v;
  }
  steps-bare v (call.Create dir name now) = by-outcome (call.Create dir name now) v (create-bare keep v now new_file file-plain dir name)
  steps-bare v (call.DirCreate dir name now) = by-outcome (call.DirCreate dir name now) v (create-bare keep v now new_folder folder-plain dir name)
  steps-bare v (call.Delete dir name now) = by-outcome (call.Delete dir name now) v (delete-bare keep v now dir name)
  steps-bare v (call.Rename dir name new_name now) = by-outcome (call.Rename dir name new_name now) v (rename-bare keep v now dir name new_name)
  steps-bare v (call.CatMove dir name new_dir now) = by-outcome (call.CatMove dir name new_dir now) v (cat_move-bare keep v now dir name new_dir)
  steps-bare v (call.SetFInfo dir name info now) = by-outcome (call.SetFInfo dir name info now) v (set_f_info-bare keep v now dir name info)
  steps-bare v (call.SetCatInfo dir name created modified backup info now) =
      by-outcome (call.SetCatInfo dir name created modified backup info now) v (set_cat_info-bare keep v now dir name created modified backup info)
  steps-bare v (call.SetFLock dir name now) = by-outcome (call.SetFLock dir name now) v (set_lock-bare keep v now true dir name)
  steps-bare v (call.RstFLock dir name now) = by-outcome (call.RstFLock dir name now) v (set_lock-bare keep v now false dir name)
  steps-bare v (call.CreateFileId dir name now) = by-outcome (call.CreateFileId dir name now) v (create_file_id-bare keep v now dir name)
  steps-bare v (call.DeleteFileId id now) = by-outcome (call.DeleteFileId id now) v (delete_file_id-bare keep v now id)
  steps-bare v (call.ResolveFileId id) =
      by-reply (call.ResolveFileId id) v refl refl (of-entries v (λ es. resolve_file_id es id) (resolve-bare (entries_of v) id))
  steps-bare v (call.SetEof dir name fork length now) =
      let ends = set_eof-bare keep v now v.block_size dir name fork length in
      record { code = ap (λ (r : Reply). r.code) ends.reply; reply = λ e. ends.reply; volume = ends.volume }
  steps-bare v (call.WriteFork dir name fork offset bytes now) =
      let ends = write_fork-bare keep v now v.block_size dir name fork offset bytes in
      record { code = ap (λ (r : Reply). r.code) ends.reply; reply = λ e. ends.reply; volume = ends.volume }

-- ---- the laws

pub alike_volumes_answer_alike : AlikeVolumesAnswerAlike
alike_volumes_answer_alike keep v w c alike =
    let first = steps-bare keep v c in
    let second = steps-bare keep w c in
    record {
      code = sym second.code ∙ ap (λ (u : Volume). (step u c).1.code) (sym alike) ∙ first.code;
      reply = λ e. sym (second.reply e) ∙ ap (λ (u : Volume). (step u c).1) (sym alike) ∙ first.reply e;
      volumes = sym first.volume ∙ ap (λ (u : Volume). bare_volume keep (step u c).0) alike ∙ second.volume;
    }

pub alike_within : AlikeWithin
alike_within keep free depth v w c alike =
    subst (λ (b : Bool). EndAlike keep c (step_within free depth v c) (cond b (w, full free depth) (step w c))) (sym same) (by (meets_want_of_nodes free depth v c))
  where
    here : EndAlike keep c (step v c) (step w c)
    here = alike_volumes_answer_alike keep v w c alike

    same : meets_want_of_nodes free depth w c ≡ meets_want_of_nodes free depth v c
    same = ap (λ (code : ℤ). int_eq code (pos 0) && nat_lt free (need c depth)) here.code

    by : (b : Bool) → EndAlike keep c (cond b (v, full free depth) (step v c)) (cond b (w, full free depth) (step w c))
    by true = record { code = refl; reply = λ e. refl; volumes = alike }
    by false = here

pub alike_wanting : AlikeWanting
alike_wanting keep None v w c alike = alike_volumes_answer_alike keep v w c alike
alike_wanting keep (Some want) v w c alike =
    subst (λ (b : Bool). EndAlike keep c (step_wanting (Some want) v c) (cond b (w, wanting want) (step w c))) (sym same) (by (is_accepted (step v c).1))
  where
    here : EndAlike keep c (step v c) (step w c)
    here = alike_volumes_answer_alike keep v w c alike

    same : is_accepted (step w c).1 ≡ is_accepted (step v c).1
    same = ap (λ (code : ℤ). int_eq code (pos 0)) here.code

    by : (b : Bool) → EndAlike keep c (cond b (v, wanting want) (step v c)) (cond b (w, wanting want) (step w c))
    by true = record { code = refl; reply = λ e. refl; volumes = alike }
    by false = here

pub alike_after : AlikeAfter
alike_after keep v w [] alike = alike
alike_after keep v w (e ∷ es) alike = alike_after keep (after_entry v e) (after_entry w e) es (by e.want)
  where
    by : (o : Option Want) → AreAlike keep (option_map_or (λ _. v) o (step v e.call).0) (option_map_or (λ _. w) o (step w e.call).0)
    by None = (alike_volumes_answer_alike keep v w e.call alike).volumes
    by (Some want) = alike

-- the entries of alike volumes are the same but for the bytes of forks
same-entries : (keep : ℕ → Bool) (v w : Volume) → AreAlike keep v w → map (bare keep) (entries_of w) ≡ map (bare keep) (entries_of v)
same-entries keep v w alike = sym (are keep w) ∙ ap (λ (u : Volume). entries_of u) (sym alike) ∙ are keep v

kept-too : (keep : ℕ → Bool) (v w : Volume) (dir : ℕ) (name : List ℕ) → AreAlike keep v w → IsKeptAt keep v dir name → IsKeptAt keep w dir name
kept-too keep v w dir name alike kept e found = by (child_named (entries_of v) dir name) refl
  where
    there : option_map (bare keep) (child_named (entries_of v) dir name) ≡ Some (bare keep e)
    there =
        sym (child_named-bare keep (entries_of v) dir name) ∙ ap (λ (es : List Entry). child_named es dir name) (sym (same-entries keep v w alike))
        ∙ child_named-bare keep (entries_of w) dir name ∙ ap (option_map (bare keep)) found

    same-id : (x y : Entry) → Some x ≡ Some y → x.0 ≡ y.0
    same-id x y h = ap (λ (o : Option Entry). option_map_or (λ (z : Entry). z.0) o 0) h

    by : (o : Option Entry) → child_named (entries_of v) dir name ≡ o → keep e.0 ≡ true
    by None h = absurd (none-some (bare keep e) (sym (ap (option_map (bare keep)) h) ∙ there))
    by (Some x) h = ap keep (sym (same-id (bare keep x) (bare keep e) (sym (ap (option_map (bare keep)) h) ∙ there))) ∙ kept x h

pub kept_forks_read_alike : KeptForksReadAlike
kept_forks_read_alike keep v w dir name fork offset count alike kept =
    sym (read_fork-kept keep (entries_of w) dir name fork offset count (kept-too keep v w dir name alike kept))
    ∙ ap (λ (es : List Entry). read_fork es dir name fork offset count) (same-entries keep v w alike)
    ∙ read_fork-kept keep (entries_of v) dir name fork offset count kept
