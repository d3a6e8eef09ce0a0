-- What a store is after a change of a file's fork.
use Rattle.std.proofs.Common.{◌≡◌, ℕ, ◌<◌, List, length, get_or, set, refl, sym, ◌∙◌, ap, subst, Result, Ok, ℤ}
use Rattle.std.specs.Ordering.{nat_cmp}
use Rattle.std.specs.FinMap as map
use Rattle.hfs_store.specs.declared.plain_volume.PlainVolume.TheInside.{Inside}
use Rattle.hfs_model.specs.declared.item.Item.{Item}
use Rattle.hfs_model.specs.declared.item.Kind.{Kind}
use Rattle.hfs_model.specs.declared.call.Fork.{Fork}
use Rattle.hfs_model.specs.declared.reply.Reply.{Reply}
use Rattle.hfs_model.specs.declared.reply.Value.TheVariants as value
use Rattle.hfs_model.specs.Volume.{Volume, Entry, Items}
use Rattle.hfs_model.specs.Children.{entries_of}
use Rattle.hfs_model.specs.Lawful.{IsLawful}
use Rattle.hfs_model.specs.Replies.{success}
use Rattle.hfs_model.specs.Changes.{Outcome, change}
use Rattle.hfs_model.specs.Forks.{fork_bytes, kind_with_fork, item_with_fork}
use Rattle.hfs_store.specs.Found.{IsPlaceOf}
use Rattle.hfs_store.specs.PlainVolume.{AreEntries, Becomes, ItemBecomes, IsPlainVolume, volume_of}
use Rattle.hfs_store.proofs.Kept.{becomes_read_edited}
use Rattle.hfs_store.proofs.Outcomes.{entries_are, within, still_entries}

-- an item's fork, made anew of its bytes
abbrev pub edits : ℕ → Fork → (List ℕ → List ℕ) → ℕ → Entry → Items → Items
edits size fork make now e m = map.insert m e.0 (item_with_fork size fork (make (fork_bytes fork e.1.kind)) now e.1)

-- a fork of the item at a place, where the code has read the entry e
pub becomes_read_fork : (es : List Entry) (i : ℕ) (e d : Entry) (size : ℕ) (fork : Fork) (bytes : List ℕ) (now : ℕ) (k : Kind) → k ≡ kind_with_fork size fork bytes e.1.kind → e ≡ get_or es i e → i < length es
    → Becomes es (set es i (e.0, record e.1 { modified = now; kind = k })) (λ m. map.insert m (get_or es i d).0 (item_with_fork size fork bytes now (get_or es i d).1))
becomes_read_fork es i e d size fork bytes now k is value lt =
    subst (λ (x : Kind). Becomes es (set es i (e.0, record e.1 { modified = now; kind = x })) (λ m. map.insert m (get_or es i d).0 (item_with_fork size fork bytes now (get_or es i d).1))) (sym is)
    (becomes_read_edited es i e d (λ (x : Item). item_with_fork size fork bytes now x) value lt (λ x. refl))

module _ (a : Inside) (v : Volume) (is : volume_of a ≡ v) (h : IsPlainVolume a) (chosen : Result Entry ℤ) (at : ℕ) (place : IsPlaceOf (entries_of v) chosen (Ok at)) where
  pub fork_entries : (fork : Fork) (bytes : List ℕ) (now : ℕ) (new : List Entry) → ItemBecomes a.items.items new at (item_with_fork a.block_size fork bytes now) → AreEntries new a.next_id
  fork_entries fork bytes now new becomes = still_entries a v is h chosen at place (λ (e : Entry) (m : Items). map.insert m e.0 (item_with_fork a.block_size fork bytes now e.1)) new becomes

  pub fork_changes : (fork : Fork) (make : List ℕ → List ℕ) (now : ℕ) (es : List Entry) (e : Entry) (old bytes : List ℕ) (new : List Entry) (reply : Reply)
      → es ≡ entries_of v → e ≡ get_or es at e → old ≡ fork_bytes fork (get_or es at e).1.kind → bytes ≡ make old → ItemBecomes a.items.items new at (item_with_fork a.block_size fork bytes now) → reply ≡ success value.Nothing
      → ◌≡◌ {A = Outcome} (record (volume_of a) { items = map.from_sorted new; changed = now }, reply) (change v chosen (edits v.block_size fork make now) now)
  fork_changes fork make now es e old bytes new reply same read old_is bytes_is becomes answered =
      let size = a.block_size in
      let here : e ≡ get_or a.items.items at e = read ∙ ap (λ (l : List Entry). get_or l at e) (same ∙ entries_are a v is h) in
      let chosen_is : chosen ≡ Ok e = (subst (λ (l : List Entry). IsPlaceOf l chosen (Ok at)) (entries_are a v is h) place).1 e ∙ ap (λ (x : Entry). Ok x) (sym here) in
      let put = subst (λ (x : Entry). map.from_sorted {R = nat_cmp} new ≡ map.insert (map.from_sorted {R = nat_cmp} a.items.items) x.0 (item_with_fork size fork bytes now x.1)) (sym here) ((becomes e).is a.next_id h) in
      let items_are = put ∙ ap (λ (b : List ℕ). map.insert (map.from_sorted {R = nat_cmp} a.items.items) e.0 (item_with_fork size fork b now e.1)) (bytes_is ∙ ap make (old_is ∙ ap (λ (x : Entry). fork_bytes fork x.1.kind) (sym read))) in
      let made : ◌≡◌ {A = Outcome} (record (volume_of a) { items = map.from_sorted new; changed = now }, reply) (change (volume_of a) (Ok e) (edits size fork make now) now) = λ i. (record (volume_of a) { items = items_are i; changed = now }, answered i) in
      made ∙ (λ i. change (is i) (sym chosen_is i) (edits (is i).block_size fork make now) now)

-- a volume that a call made of a lawful one is lawful
pub kept_lawful : (v new : Volume) (reply : Reply) (made : Outcome) → ◌≡◌ {A = Outcome} (new, reply) made → (IsLawful v → IsLawful made.0) → IsLawful v → IsLawful new
kept_lawful v new reply made is keeps h = subst (λ (o : Outcome). IsLawful o.0) (sym is) (keeps h)
