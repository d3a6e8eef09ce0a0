-- A fork of a file just made gets its end, where it isn't empty.
use Rattle.std.proofs.Common.{◌≡◌, ℕ, ◌≤◌, Bool, true, false, cond, List, [], Some, None, refl, sym, ◌∙◌, ap, subst, Result, Ok, Err}
use Rattle.std.specs.Prelude.{◌==◌, nat_lt}
use Rattle.std.specs.List.{cons_option}
use Rattle.std.proofs.lemmas.Bool.{eqb-true}
use Rattle.hfs_model.specs.declared.call.Call.{Call}
use Rattle.hfs_model.specs.declared.call.Call.TheVariants as call
use Rattle.hfs_model.specs.declared.call.Fork.{Fork}
use Rattle.hfs_model.specs.declared.codes.TheConstants.{PARAMETER}
use Rattle.hfs_model.specs.declared.item.File.{File as FileRecord}
use Rattle.hfs_model.specs.declared.item.Item.{Item}
use Rattle.hfs_model.specs.declared.item.Kind.{Kind}
use Rattle.hfs_model.specs.declared.item.Kind.TheVariants.{File}
use Rattle.hfs_model.specs.declared.reply.Reply.{Reply}
use Rattle.hfs_model.specs.declared.reply.Value.TheVariants as value
use Rattle.hfs_model.specs.ForkCalls.{file_to_write, to_set_eof, set_eof}
use Rattle.hfs_model.specs.Forks.{resized, fork_bytes, with_fork}
use Rattle.hfs_model.specs.Replies.{success, is_accepted}
use Rattle.hfs_model.specs.Step.{step}
use Rattle.hfs_model.specs.Volume.{Entry, Volume}
use Rattle.hfs_model.proofs.Facts.{not_refused}
use Rattle.hfs_model.proofs.KeepsForks.{edits}
use Rattle.hfs_model.proofs.Refusals.{set_eof_told, accepted as chosen_where}
use Rattle.hfs_put_plan.specs.Accepted.{next, accepted, all_accepted}
use Rattle.hfs_put_plan.specs.WithForks.{FileForks, forks_of}
use Rattle.hfs_put_plan.proofs.AcceptedCalls.{same_ok, never_ok, over, accepted-over, next-over, accepted-is}
use Rattle.hfs_put_plan.proofs.EndedForks.{tells-changed, chosen-is, ended, changed, end-set, end-made, end-mapped}
use Rattle.hfs_put_plan.proofs.ForkMaps.{by_forks}
use Rattle.hfs_put_plan.proofs.MadeFiles.{IsMade}
use Rattle.hfs_model.proofs.MappedChoices.{mapped_choice, file_to_write-mapped}
use Rattle.hfs_model.proofs.MappedEntries.{mapped_item, mapped}
use Rattle.hfs_put_plan.proofs.PartialBytes.{at-most}

-- an accepted call was accepted
was-accepted : (b : Bool) (v : Volume) (r : Reply) (w : Volume) → cond b (Ok v) (Err r) ≡ Ok w → b ≡ true
was-accepted true v r w is = refl
was-accepted false v r w is = absurd (never_ok r w is)

-- the file with the end of a fork, where it gets one
abbrev pub end_if : Bool → ℕ → Fork → ℕ → FileRecord → FileRecord
end_if empty size fork len file = cond empty file (with_fork size fork (resized len (fork_bytes fork (File file))) file)

-- the file is ready where it may be written
pub record IsEnded (v w : Volume) (dir : ℕ) (name : List ℕ) (now n : ℕ) (item : Item) (len : ℕ) (new : FileRecord) : Type 0 where
  pub item_now : Item
  pub made : IsMade w dir name now n item_now new
  pub size : w.block_size ≡ v.block_size
  pub next : w.next_id ≡ v.next_id
  pub may : (len ≡ 0 → ⊥) → file_to_write w dir name ≡ Ok (n, item_now)
  pub short : (len ≡ 0 → ⊥) → len ≤ 2147483647
  pub still : file_to_write v dir name ≡ Ok (n, item) → file_to_write w dir name ≡ Ok (n, item_now)

module _ (v : Volume) (dir : ℕ) (name : List ℕ) (now n : ℕ) (item : Item) (file : FileRecord) (made : IsMade v dir name now n item file)
    (fork : Fork) (len : ℕ) where
  abbrev end : Call
  end = call.SetEof dir name fork len now

  -- SetEof, if it comes
  abbrev end_calls : Bool → List Call
  end_calls empty = cons_option (cond empty None (Some end)) []

  -- ---- it does the same where other files' forks have other bytes

  pub end-over : (forks : List FileForks) → forks_of forks n ≡ None → (empty : Bool)
      → all_accepted (mapped (by_forks forks) v) (end_calls empty) ≡ over (by_forks forks) (all_accepted v (end_calls empty))
  end-over forks none true = refl
  end-over forks none false =
      next-over (by_forks forks) (accepted v end) (accepted (mapped (by_forks forks) v) end) (λ w. all_accepted w []) (λ w. all_accepted w [])
      (accepted-over (by_forks forks) v end (end-mapped v dir name now n item file made fork len forks none)) (λ w is. refl)

  -- ---- the file has its end then

  abbrev h : ℕ → Kind → Kind
  h = changed v dir name now n item file made fork len

  set-ended : (w : Volume) → accepted v end ≡ Ok w → IsEnded v w dir name now n item len (ended v dir name now n item file made fork len)
  unfolding set_eof to_set_eof
  set-ended w is =
      let done : is_accepted (step v end).1 ≡ true = was-accepted (is_accepted (step v end).1) (step v end).0 (step v end).1 w is in
      let chosen = chosen_where v (to_set_eof v dir name len) (edits v.block_size fork (resized len) now) now (set_eof_told v dir name len) done in
      let tests = not_refused (nat_lt 2147483647 len) PARAMETER (file_to_write v dir name) chosen.0 chosen.1 in
      let same : mapped h v ≡ w = same_ok {E = Reply} (mapped h v) w (sym (accepted-is v (mapped h v) end (success value.Nothing)
      (end-set v dir name now n item file made fork len chosen.0 chosen.1) refl) ∙ is) in
      let may : file_to_write v dir name ≡ Ok (n, item) = tests.1 ∙ ap (λ (x : Entry). Ok x)
      (chosen-is v dir name now n item file made fork len chosen.0 chosen.1) in
      let moved = λ (m : file_to_write v dir name ≡ Ok (n, item)).
      file_to_write-mapped h (tells-changed n (ended v dir name now n item file made fork len)) v dir name ∙ ap (mapped_choice h) m in
      subst (λ (u : Volume). IsEnded v u dir name now n item len (ended v dir name now n item file made fork len)) same
      (record {
        item_now = mapped_item h n item;
        made = end-made v dir name now n item file made fork len;
        size = refl;
        next = refl;
        may = λ some. moved may;
        short = λ some. at-most len 2147483647 tests.0;
        still = moved;
      })

  pub end-is : (w : Volume) → all_accepted v (end_calls (len == 0)) ≡ Ok w → IsEnded v w dir name now n item len (end_if
      (len == 0) v.block_size fork len file)
  end-is w is = at (len == 0) refl is
    where
      single : (r : Result Volume Reply) → next r (λ u. Ok u) ≡ Ok w → r ≡ Ok w
      single (Ok u) e = e
      single (Err reply) e = absurd (never_ok reply w e)

      at : (empty : Bool) → (len == 0) ≡ empty → all_accepted v (end_calls empty) ≡ Ok w
          → IsEnded v w dir name now n item len (end_if empty v.block_size fork len file)
      at true t e = subst (λ (u : Volume). IsEnded v u dir name now n item len file) (same_ok {E = Reply} v w e)
          (record {
            item_now = item;
            made = made;
            size = refl;
            next = refl;
            may = λ some. absurd (some (eqb-true len 0 t));
            short = λ some. absurd (some (eqb-true len 0 t));
            still = λ may. may;
          })
      at false t e = set-ended w (single (accepted v end) e)
