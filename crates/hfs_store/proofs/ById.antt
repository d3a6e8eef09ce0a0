-- Entries in the order of their IDs, as the finite map that they are.
use Rattle.std.proofs.Common.{◌≡◌, ℕ, zero, suc, ◌+◌, ◌<◌, ◌≤◌, cond, not, List, [], ◌∷◌, ◌++◌, length, get_or, set, refl, sym, ◌∙◌, ap, subst, arith, Option, Some, None}
use Rattle.std.specs.Prelude.{T}
use Rattle.std.specs.Ordering.{nat_cmp, is_lt, is_eq}
use Rattle.std.specs.Cmp.{nat_cmp_total}
use Rattle.std.specs.List.{remove}
use Rattle.std.specs.Option.{option_map_or}
use Rattle.std.specs.FinMap as map
use Rattle.std.specs.FinMap.Entries.{by_order, put, below_all, is_sorted, is_sorted-put}
use Rattle.hfs_model.specs.Volume.{Entry}
use Rattle.hfs_model.specs.Children.{entry_at}
use Rattle.hfs_model.specs.Changes.{touched}
use Rattle.hfs_model.proofs.OtherLemmas.{others, remove_is}
use Rattle.hfs_store.specs.PlainVolume.{Rises}
use Rattle.hfs_model.specs.declared.item.Item.{Item}
use Rattle.hfs_fields.proofs.KeyOrder.{same}
use Rattle.hfs_fields.proofs.OrderLemmas.{less, more}
use Rattle.hfs_model.proofs.Folders.{both}

-- ---- entries that rise

pub rises_within : (low high : ℕ) (es : List Entry) → Rises low high es → low ≤ high
rises_within low high [] h = h
rises_within low high (e ∷ es) h = omega (arith, rises_within (e.0 + 1) high es h.1, h.0)

pub rises_from : (low lower high : ℕ) (es : List Entry) → lower ≤ low → Rises low high es → Rises lower high es
rises_from low lower high [] le h = omega arith
rises_from low lower high (e ∷ es) le h = (omega (arith, h.0), h.1)

pub rises_at : (low high : ℕ) (es : List Entry) (i : ℕ) (d : Entry) → i < length es → Rises low high es → (low ≤ (get_or es i d).0) × ((get_or es i d).0 < high)
rises_at low high [] i d lt h = absurd (omega arith)
rises_at low high (e ∷ es) zero d lt h = (h.0, omega (arith, rises_within (e.0 + 1) high es h.1))
rises_at low high (e ∷ es) (suc i) d lt h = let rest = rises_at (e.0 + 1) high es i d (omega arith) h.1 in (omega (arith, rest.0, h.0), rest.1)

rises_above : (low high : ℕ) (es : List Entry) (i : ℕ) (d : Entry) → i < length es → Rises low high es → low ≤ (get_or es i d).0
rises_above low high es i d lt h = (rises_at low high es i d lt h).0

pub rises_push : (low high : ℕ) (es : List Entry) (x : Item) → Rises low high es → Rises low (high + 1) (es ++ (high, x) ∷ [])
rises_push low high [] x h = (h, omega arith)
rises_push low high (e ∷ es) x h = (h.0, rises_push (e.0 + 1) high es x h.1)

pub rises_set : (low high : ℕ) (es : List Entry) (i : ℕ) (d : Entry) (x : Item) → Rises low high es → Rises low high (set es i ((get_or es i d).0, x))
rises_set low high [] i d x h = h
rises_set low high (e ∷ es) zero d x h = h
rises_set low high (e ∷ es) (suc i) d x h = (h.0, rises_set (e.0 + 1) high es i d x h.1)

pub rises_remove : (low high : ℕ) (es : List Entry) (i : ℕ) → Rises low high es → Rises low high (remove es i)
rises_remove low high [] zero h = h
rises_remove low high [] (suc i) h = h
rises_remove low high (e ∷ es) zero h = rises_from (e.0 + 1) low high es (omega (arith, h.0)) h.1
rises_remove low high (e ∷ es) (suc i) h = (h.0, rises_remove (e.0 + 1) high es i h.1)

within : (low high : ℕ) → low ≤ high → (n : ℕ) → low ≡ n + 1 → n < high
within low high h n e = omega arith

below : (x low high : ℕ) (es : List Entry) → x < low → Rises low high es → T (below_all nat_cmp x es)
below x low high [] lt h = tt
below x low high (e ∷ es) lt h = both _ _ (subst (λ r. T (is_lt r)) (sym (less x e.0 (omega (arith, h.0)))) tt) (below x (e.0 + 1) high es (omega (arith, h.0)) h.1)

pub in_order : (low high : ℕ) (es : List Entry) → Rises low high es → T (is_sorted nat_cmp es)
in_order low high [] h = tt
in_order low high (e ∷ es) h = both _ _ (below e.0 (e.0 + 1) high es (omega arith) h.1) (in_order (e.0 + 1) high es h.1)

pub entries_back : (high : ℕ) (es : List Entry) → Rises 0 high es → map.entries (map.from_sorted {R = nat_cmp} es) ≡ es
entries_back high es h = map.entries-from_sorted nat_cmp es (in_order 0 high es h)

pub insert_is : (es : List Entry) (k : ℕ) (x : Item) → T (is_sorted nat_cmp es) → map.insert (map.from_sorted {R = nat_cmp} es) k x ≡ map.from_sorted (put nat_cmp k x es)
insert_is es k x h = map.same_entries_map _ _ (map.entries-insert nat_cmp_total _ k x ∙ ap (put nat_cmp k x) (map.entries-from_sorted nat_cmp es h) ∙ sym (map.entries-from_sorted nat_cmp (put nat_cmp k x es) (is_sorted-put nat_cmp nat_cmp_total k x es h)))

-- ---- an entry written, added and taken away

put_set : (low high : ℕ) (es : List Entry) (i : ℕ) (d : Entry) (x : Item) → i < length es → Rises low high es → put nat_cmp (get_or es i d).0 x es ≡ set es i ((get_or es i d).0, x)
put_set low high [] i d x lt h = absurd (omega arith)
put_set low high (e ∷ es) zero d x lt h = ap (λ r. by_order r ((e.0, x) ∷ e ∷ es) ((e.0, x) ∷ es) (e ∷ put nat_cmp e.0 x es)) (same e.0 e.0 refl)
put_set low high (e ∷ es) (suc i) d x lt h =
    let k = (get_or es i d).0 in
    let above : e.0 < k = omega (arith, rises_above (e.0 + 1) high es i d (omega arith) h.1) in
    ap (λ r. by_order r ((k, x) ∷ e ∷ es) ((e.0, x) ∷ es) (e ∷ put nat_cmp k x es)) (more k e.0 above) ∙ ap (λ l. e ∷ l) (put_set (e.0 + 1) high es i d x (omega arith) h.1)

put_push : (low high : ℕ) (es : List Entry) (x : Item) → Rises low high es → put nat_cmp high x es ≡ es ++ (high, x) ∷ []
put_push low high [] x h = refl
put_push low high (e ∷ es) x h =
    let above : e.0 < high = within (e.0 + 1) high (rises_within (e.0 + 1) high es h.1) e.0 refl in
    ap (λ r. by_order r ((high, x) ∷ e ∷ es) ((e.0, x) ∷ es) (e ∷ put nat_cmp high x es)) (more high e.0 above) ∙ ap (λ l. e ∷ l) (put_push (e.0 + 1) high es x h.1)

others_all : (k low high : ℕ) (es : List Entry) → k < low → Rises low high es → others k es ≡ es
others_all k low high [] lt h = refl
others_all k low high (e ∷ es) lt h =
    ap (λ r. cond (not (is_eq r)) (e ∷ others k es) (others k es)) (less k e.0 (omega (arith, h.0))) ∙ ap (λ l. e ∷ l) (others_all k (e.0 + 1) high es (omega (arith, h.0)) h.1)

others_remove : (low high : ℕ) (es : List Entry) (i : ℕ) (d : Entry) → i < length es → Rises low high es → others (get_or es i d).0 es ≡ remove es i
others_remove low high [] i d lt h = absurd (omega arith)
others_remove low high (e ∷ es) zero d lt h =
    ap (λ r. cond (not (is_eq r)) (e ∷ others e.0 es) (others e.0 es)) (same e.0 e.0 refl) ∙ others_all e.0 (e.0 + 1) high es (omega arith) h.1
others_remove low high (e ∷ es) (suc i) d lt h =
    let k = (get_or es i d).0 in
    let above : e.0 < k = omega (arith, rises_above (e.0 + 1) high es i d (omega arith) h.1) in
    ap (λ r. cond (not (is_eq r)) (e ∷ others k es) (others k es)) (more k e.0 above) ∙ ap (λ l. e ∷ l) (others_remove (e.0 + 1) high es i d (omega arith) h.1)

-- ---- the same of the map

module _ (high : ℕ) (es : List Entry) (h : Rises 0 high es) where
  pub set_entry : (i : ℕ) (d : Entry) (x : Item) → i < length es → map.insert (map.from_sorted {R = nat_cmp} es) (get_or es i d).0 x ≡ map.from_sorted (set es i ((get_or es i d).0, x))
  set_entry i d x lt = insert_is es _ x (in_order 0 high es h) ∙ ap (λ (l : List Entry). map.from_sorted l) (put_set 0 high es i d x lt h)

  pub add_entry : (x : Item) → map.insert (map.from_sorted {R = nat_cmp} es) high x ≡ map.from_sorted (es ++ (high, x) ∷ [])
  add_entry x = insert_is es high x (in_order 0 high es h) ∙ ap (λ (l : List Entry). map.from_sorted l) (put_push 0 high es x h)

  pub remove_entry : (i : ℕ) (d : Entry) → i < length es → map.remove (map.from_sorted {R = nat_cmp} es) (get_or es i d).0 ≡ map.from_sorted (remove es i)
  remove_entry i d lt = remove_is es _ (in_order 0 high es h) ∙ ap (λ (l : List Entry). map.from_sorted l) (others_remove 0 high es i d lt h)

  pub touched_at : (dir now i : ℕ) (d : Entry) → i < length es → entry_at es dir ≡ Some (get_or es i d) → touched (map.from_sorted es) dir now ≡ map.from_sorted (set es i ((get_or es i d).0, record (get_or es i d).1 { modified = now }))
  touched_at dir now i d lt is =
      ap (λ (l : List Entry). option_map_or (λ (e : Entry). map.insert (map.from_sorted {R = nat_cmp} es) e.0 (record e.1 { modified = now })) (entry_at l dir) (map.from_sorted es)) (entries_back high es h)
      ∙ ap (λ (o : Option Entry). option_map_or (λ (e : Entry). map.insert (map.from_sorted {R = nat_cmp} es) e.0 (record e.1 { modified = now })) o (map.from_sorted es)) is
      ∙ set_entry i d (record (get_or es i d).1 { modified = now }) lt

  pub touched_nowhere : (dir now : ℕ) → entry_at es dir ≡ None → touched (map.from_sorted es) dir now ≡ map.from_sorted es
  touched_nowhere dir now is =
      ap (λ (l : List Entry). option_map_or (λ (e : Entry). map.insert (map.from_sorted {R = nat_cmp} es) e.0 (record e.1 { modified = now })) (entry_at l dir) (map.from_sorted es)) (entries_back high es h)
      ∙ ap (λ (o : Option Entry). option_map_or (λ (e : Entry). map.insert (map.from_sorted {R = nat_cmp} es) e.0 (record e.1 { modified = now })) o (map.from_sorted es)) is
