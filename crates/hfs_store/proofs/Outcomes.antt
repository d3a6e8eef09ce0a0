-- What a store is after a change of its entries.
use Rattle.std.proofs.Common.{◌≡◌, ℕ, ◌+◌, ◌<◌, List, [], ◌∷◌, length, get_or, sym, ◌∙◌, ap, subst, arith, Result, Ok, ℤ}
use Rattle.std.specs.FinMap as map
use Rattle.hfs_store.specs.declared.plain_volume.PlainVolume.TheInside.{Inside}
use Rattle.hfs_model.specs.declared.reply.Reply.{Reply}
use Rattle.hfs_model.specs.declared.reply.Value.TheVariants as value
use Rattle.hfs_model.specs.Volume.{Volume, Entry, Items}
use Rattle.hfs_model.specs.Children.{entries_of}
use Rattle.hfs_store.specs.Found.{IsPlaceOf}
use Rattle.hfs_model.specs.Replies.{success}
use Rattle.hfs_model.specs.Changes.{Outcome, change, add}
use Rattle.hfs_model.specs.FileIds.{change_to_id}
use Rattle.hfs_store.specs.PlainVolume.{AreEntries, Becomes, IsPlainVolume, volume_of}
use Rattle.hfs_store.proofs.ById.{entries_back}

pub entries_are : (a : Inside) (v : Volume) → volume_of a ≡ v → IsPlainVolume a → entries_of v ≡ a.items.items
entries_are a v is h = ap entries_of (sym is) ∙ entries_back a.next_id a.items.items h.rise

pick : (es : List Entry) (at : ℕ) → at < length es → Entry
pick [] at lt = absurd (omega arith)
pick (e ∷ es) at lt = e

module _ (a : Inside) (v : Volume) (is : volume_of a ≡ v) (h : IsPlainVolume a) (chosen : Result Entry ℤ) (at : ℕ) (place : IsPlaceOf (entries_of v) chosen (Ok at)) where
  place_here : (at < length a.items.items) × ((d : Entry) → chosen ≡ Ok (get_or a.items.items at d))
  place_here = subst (λ (l : List Entry). IsPlaceOf l chosen (Ok at)) (entries_are a v is h) place

  pub within : at < length a.items.items
  within = place_here.0

  pub still_entries : (make : Entry → Items → Items) (new : List Entry) → ((d : Entry) → Becomes a.items.items new (make (get_or a.items.items at d))) → AreEntries new a.next_id
  still_entries make new becomes = (becomes (pick a.items.items at within)).kept a.next_id h

  pub changes : (make : Entry → Items → Items) (new : List Entry) (now : ℕ) (reply : Reply) → ((d : Entry) → Becomes a.items.items new (make (get_or a.items.items at d))) → reply ≡ success value.Nothing
      → ◌≡◌ {A = Outcome} (record (volume_of a) { items = map.from_sorted new; changed = now }, reply) (change v chosen make now)
  changes make new now reply becomes answered =
      let d = pick a.items.items at within in
      let e = get_or a.items.items at d in
      let items_are = (becomes d).is a.next_id h in
      let here : ◌≡◌ {A = Outcome} (record (volume_of a) { items = map.from_sorted new; changed = now }, reply) (change (volume_of a) (Ok e) make now) = λ i. (record (volume_of a) { items = items_are i; changed = now }, answered i) in
      here ∙ (λ i. change (is i) (sym (place_here.1 d) i) make now)

  -- the same, where the ID of the item is answered, as the code has read it
  pub changes_to_id : (make : Entry → Items → Items) (new : List Entry) (now : ℕ) (reply : Reply) (es : List Entry) (e : Entry) → es ≡ entries_of v → ((d : Entry) → Becomes a.items.items new (make (get_or a.items.items at d))) → reply ≡ success (value.Id (get_or es at e).0)
      → ◌≡◌ {A = Outcome} (record (volume_of a) { items = map.from_sorted new; changed = now }, reply) (change_to_id v chosen make now)
  changes_to_id make new now reply es e same becomes answered =
      let items_are = (becomes e).is a.next_id h in
      let id_is = answered ∙ ap (λ (l : List Entry). success (value.Id (get_or l at e).0)) (same ∙ entries_are a v is h) in
      let here : ◌≡◌ {A = Outcome} (record (volume_of a) { items = map.from_sorted new; changed = now }, reply) (change_to_id (volume_of a) (Ok (get_or a.items.items at e)) make now) = λ i. (record (volume_of a) { items = items_are i; changed = now }, id_is i) in
      here ∙ (λ i. change_to_id (is i) (sym (place_here.1 e) i) make now)

-- ---- a new item

module _ (a : Inside) (v : Volume) (is : volume_of a ≡ v) (h : IsPlainVolume a) (chosen : Result ℕ ℤ) (here : chosen ≡ Ok v.next_id) where
  next_is : v.next_id ≡ a.next_id
  next_is = ap (λ (w : Volume). w.next_id) (sym is)

  pub adds : (make : ℕ → Items → Items) (new : List Entry) (now : ℕ) (reply : Reply) → map.from_sorted new ≡ make a.next_id (map.from_sorted a.items.items) → reply ≡ success (value.Id a.next_id)
      → ◌≡◌ {A = Outcome} (record (volume_of a) { items = map.from_sorted new; next_id = a.next_id + 1; changed = now }, reply) (add v chosen make now)
  adds make new now reply items_are answered =
      let first : ◌≡◌ {A = Outcome} (record (volume_of a) { items = map.from_sorted new; next_id = a.next_id + 1; changed = now }, reply) (add (volume_of a) (Ok a.next_id) make now) = λ i. (record (volume_of a) { items = items_are i; next_id = a.next_id + 1; changed = now }, answered i) in
      first ∙ (λ i. add (is i) (Ok ((sym next_is) i)) make now) ∙ ap (λ (r : Result ℕ ℤ). add v r make now) (sym here)
