-- SetEof of a file that was just made: its kind is changed, and the volume is as it was but for that.
use Rattle.std.proofs.Common.{◌≡◌, ℕ, Bool, true, false, cond, eqb, List, Option, None, refl, sym, ◌∙◌, ap, Result, Ok}
use Rattle.std.specs.Prelude.{ℤ}
use Rattle.std.specs.FinMap as map
use Rattle.std.proofs.lemmas.Bool.{eq-eqb, ne_eqb}
use Rattle.hfs_model.specs.declared.call.Call.TheVariants as call
use Rattle.hfs_model.specs.declared.call.Fork.{Fork}
use Rattle.hfs_model.specs.declared.call.Fork.TheVariants.{DataFork, ResFork}
use Rattle.hfs_model.specs.declared.item.File.{File as FileRecord}
use Rattle.hfs_model.specs.declared.item.Item.{Item}
use Rattle.hfs_model.specs.declared.item.Kind.{Kind}
use Rattle.hfs_model.specs.declared.item.Kind.TheVariants.{Folder, File}
use Rattle.hfs_model.specs.declared.reply.Value.TheVariants as value
use Rattle.hfs_model.specs.Changes.{change, with_lock}
use Rattle.hfs_model.specs.Children.{is_folder_kind}
use Rattle.hfs_model.specs.ForkCalls.{to_set_eof, set_eof}
use Rattle.hfs_model.specs.Forks.{resized, fork_bytes, kind_with_fork, with_fork}
use Rattle.hfs_model.specs.Replies.{success, is_locked_file}
use Rattle.hfs_model.specs.Step.{step}
use Rattle.hfs_model.specs.Volume.{Entry, Items, Volume}
use Rattle.hfs_model.proofs.Facts.{same_some}
use Rattle.hfs_model.proofs.KeepsForks.{edited, edits, set_eof_chosen}
use Rattle.hfs_put_plan.specs.WithForks.{FileForks, forks_of, kind_with_forks}
use Rattle.hfs_put_plan.proofs.ForkMaps.{by_forks, tells-forks, mapped-none, insert-is-mapped}
use Rattle.hfs_put_plan.proofs.MadeFiles.{IsMade, made-mapped}
use Rattle.hfs_model.proofs.MappedCalls.{mapped_outcome, change-mapped}
use Rattle.hfs_model.proofs.MappedChoices.{to_set_eof-mapped}
use Rattle.hfs_model.proofs.MappedEntries.{mapped_item, mapped_items, mapped, TellsSame, insert-mapped}

-- ---- one file with other forks

abbrev pub with_content : FileRecord → Kind → Kind
with_content new (Folder kept) = Folder kept
with_content new (File old) = File (record old { kept = new.kept; «data» = new.«data»; resource = new.resource })

-- of the item with that ID
abbrev pub changed_file : ℕ → FileRecord → ℕ → Kind → Kind
changed_file n new q k = cond (eqb q n) (with_content new k) k

folder-same : (b : Bool) (new : FileRecord) (k : Kind) → is_folder_kind (cond b (with_content new k) k) ≡ is_folder_kind k
folder-same false new k = refl
folder-same true new (Folder kept) = refl
folder-same true new (File old) = refl

locked-same : (b : Bool) (new : FileRecord) (k : Kind) → is_locked_file (cond b (with_content new k) k) ≡ is_locked_file k
locked-same false new k = refl
locked-same true new (Folder kept) = refl
locked-same true new (File old) = refl

lock-same : (l b : Bool) (new : FileRecord) (k : Kind) → with_lock l (cond b (with_content new k) k)
    ≡ cond b (with_content new (with_lock l k)) (with_lock l k)
lock-same l false new k = refl
lock-same l true new (Folder kept) = refl
lock-same l true new (File old) = refl

pub tells-changed : (n : ℕ) (new : FileRecord) → TellsSame (changed_file n new)
tells-changed n new = record {
  folder = λ q k. folder-same (eqb q n) new k;
  locked = λ q k. locked-same (eqb q n) new k;
  lock = λ l q k. lock-same l (eqb q n) new k;
}

content-is : (size : ℕ) (fork : Fork) (bytes : List ℕ) (file : FileRecord) → with_content (with_fork size fork bytes file) (File file)
    ≡ File (with_fork size fork bytes file)
content-is size DataFork bytes file = refl
content-is size ResFork bytes file = refl

module _ (v : Volume) (dir : ℕ) (name : List ℕ) (now n : ℕ) (item : Item) (file : FileRecord) (made : IsMade v dir name now n item file)
    (fork : Fork) (len : ℕ) where
  -- the file that is chosen is that one
  pub chosen-is : (e : Entry) → to_set_eof v dir name len ≡ Ok e → e ≡ (n, item)
  chosen-is e is =
      let child = set_eof_chosen v dir name len e is in
      let id : e.0 ≡ n = made.only e.0 e.1 child.has child.under child.named in
      let same : e.1 ≡ item = same_some e.1 item (sym child.has ∙ ap (map.get v.items) id ∙ made.has) in
      λ i. (id i, same i)

  -- the file with that end
  abbrev pub ended : FileRecord
  ended = with_fork v.block_size fork (resized len (fork_bytes fork (File file))) file

  abbrev pub changed : ℕ → Kind → Kind
  changed = changed_file n ended

  pub ended-is : changed n (File file) ≡ File ended
  ended-is = ap (λ (b : Bool). cond b (with_content ended (File file)) (File file)) (eq-eqb n n refl)
      ∙ content-is v.block_size fork (resized len (fork_bytes fork (File file))) file

  kind-ended : kind_with_fork v.block_size fork (resized len (fork_bytes fork item.kind)) item.kind ≡ File ended
  kind-ended = ap (λ (k : Kind). kind_with_fork v.block_size fork (resized len (fork_bytes fork k)) k) made.kind

  items-ended : edits v.block_size fork (resized len) now (n, item) v.items ≡ mapped_items changed v.items
  items-ended =
      (λ i. map.insert v.items n (record item { modified = sym made.modified i; kind = kind-ended i }))
      ∙ ap (λ (m : Items). map.insert m n (record item { kind = File ended })) (sym (mapped-none v.items))
      ∙ insert-is-mapped (λ (q : ℕ) (k : Kind). k) changed v.items n item (File ended) made.has (ap (changed n) made.kind ∙ ended-is)
      (λ q j there other. sym (ap (λ (b : Bool). cond b (with_content ended j.kind) j.kind) (ne_eqb q n other)))

  -- what the call makes of the volume
  pub end-set : (e : Entry) → to_set_eof v dir name len ≡ Ok e → step v (call.SetEof dir name fork len now)
      ≡ (mapped changed v, success value.Nothing)
  unfolding set_eof
  end-set e is =
      ap (λ (r : Result Entry ℤ). change v r (edits v.block_size fork (resized len) now) now) (is ∙ ap (λ (x : Entry). Ok x) (chosen-is e is))
      ∙ (λ i. (record v { items = items-ended i; changed = sym made.changed i }, success value.Nothing))

  pub end-made : IsMade (mapped changed v) dir name now n (mapped_item changed n item) ended
  end-made = made-mapped changed v dir name now n item file ended made ended-is

  -- with other bytes in the forks of other files the call does the same
  module _ (forks : List FileForks) (none : forks_of forks n ≡ None) where
    abbrev g : ℕ → Kind → Kind
    g = by_forks forks

    plain : (e : Entry) → to_set_eof v dir name len ≡ Ok e → (k : Kind) → g e.0 k ≡ k
    plain e is k = ap (λ (x : Entry). g x.0 k) (chosen-is e is) ∙ ap (λ (o : Option FileForks). kind_with_forks o k) none

    pub end-mapped : step (mapped g v) (call.SetEof dir name fork len now) ≡ mapped_outcome g (step v (call.SetEof dir name fork len now))
    unfolding set_eof
    end-mapped =
        change-mapped g (tells-forks forks) v now (to_set_eof (mapped g v) dir name len) (to_set_eof v dir name len) (edits v.block_size fork
        (resized len) now)
        (to_set_eof-mapped g (tells-forks forks) v dir name len)
        (λ e is.
        let x : Item = edited v.block_size fork (resized len) now e.1 in
        ap (λ (k : Kind). map.insert (mapped_items g v.items) e.0 (edited v.block_size fork (resized len) now (record e.1 { kind = k })))
        (plain e is e.1.kind)
        ∙ ap (λ (k : Kind). map.insert (mapped_items g v.items) e.0 (record x { kind = k })) (sym (plain e is x.kind))
        ∙ insert-mapped g v.items e.0 x)
