-- A store with one item more.
use Rattle.std.proofs.Common.{◌≡◌, ℕ, ◌+◌, ◌<◌, ◌≤◌, Bool, cond, List, [], ◌∷◌, ◌++◌, sym, ◌∙◌, ap, subst, arith}
use Rattle.std.specs.Ordering.{nat_cmp}
use Rattle.std.specs.FinMap as map
use Rattle.std.proofs.lemmas.Bool.{eq-eqb}
use Rattle.std.proofs.lemmas.List.Sums.{sum_by-append}
use Rattle.std.proofs.Common.{refl, eqb}
use Rattle.hfs_store.specs.declared.plain_volume.PlainVolume.TheInside.{Inside}
use Rattle.hfs_model.specs.declared.item.Item.{Item}
use Rattle.hfs_model.specs.Volume.{Volume, Entry}
use Rattle.hfs_model.specs.Children.{entries_of, valence, is_child}
use Rattle.hfs_store.specs.PlainVolume.{AreEntries, IsPlainVolume, Rises, volume_of}
use Rattle.hfs_store.proofs.ById.{add_entry, entries_back}
use Rattle.hfs_store.proofs.Kept.{kept_push}
use Rattle.hfs_store.proofs.Outcomes.{entries_are}

rises_to : (low high higher : ℕ) (es : List Entry) → high ≤ higher → Rises low high es → Rises low higher es
rises_to low high higher [] le h = omega arith
rises_to low high higher (e ∷ es) le h = (h.0, rises_to (e.0 + 1) high higher es le h.1)

module _ (a : Inside) (v : Volume) (is : volume_of a ≡ v) (h : IsPlainVolume a) (id : ℕ) (x : Item) (free : v.next_id ≤ id) (room : valence (entries_of v) x.parent < 65535) (new : List Entry) (new_is : new ≡ a.items.items ++ (id, x) ∷ []) where
  next_is : a.next_id ≡ v.next_id
  next_is = ap (λ (w : Volume). w.next_id) is

  below : a.next_id ≤ id
  below = omega (arith, next_is, free)

  before : AreEntries a.items.items id
  before = record { rise = rises_to 0 a.next_id id a.items.items below h.rise; room = h.room }

  pub laid_entries : AreEntries new (id + 1)
  laid_entries = subst (λ (l : List Entry). AreEntries l (id + 1)) (sym new_is) (kept_push id a.items.items x (subst (λ (l : List Entry). valence l x.parent < 65535) (entries_are a v is h) room) before)

  laid_items : map.from_sorted new ≡ map.insert v.items id x
  laid_items = ap (λ (l : List Entry). map.from_sorted l) new_is ∙ sym (add_entry id a.items.items before.rise x) ∙ ap (λ (w : Volume). map.insert w.items id x) is

  pub laid : ◌≡◌ {A = Volume} (record (volume_of a) { items = map.from_sorted new; next_id = id + 1 }) (record v { items = map.insert v.items id x; next_id = id + 1 })
  laid = λ i. record (is i) { items = laid_items i; next_id = id + 1 }

  pub counted : valence (map.entries (map.from_sorted {R = nat_cmp} new)) x.parent ≡ valence (entries_of v) x.parent + 1
  counted =
      let one : ◌≡◌ {A = ℕ} (cond (eqb x.parent x.parent) 1 0) 1 = ap (λ (b : Bool). cond b 1 0) (eq-eqb x.parent x.parent refl) in
      ap (λ (l : List Entry). valence l x.parent) (entries_back (id + 1) new laid_entries.rise ∙ new_is)
      ∙ sum_by-append (λ (e : Entry). cond (is_child x.parent e) 1 0) a.items.items ((id, x) ∷ [])
      ∙ ap (λ (n : ℕ). valence a.items.items x.parent + (0 + n)) one
      ∙ ap (λ (l : List Entry). valence l x.parent + 1) (sym (entries_are a v is h))
