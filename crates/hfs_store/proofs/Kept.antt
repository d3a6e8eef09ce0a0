-- Changes of entries keep their order and their room.
use Rattle.std.proofs.Common.{◌≡◌, ℕ, zero, suc, ◌+◌, ◌<◌, ◌≤◌, Bool, true, false, cond, List, [], ◌∷◌, ◌++◌, length, get_or, set, refl, sym, ◌∙◌, ap, subst, arith, eqb, Some, None}
use Rattle.std.specs.List.{remove, sum_by}
use Rattle.std.specs.FinMap as map
use Rattle.std.proofs.lemmas.Bool.{eqb-true}
use Rattle.std.proofs.lemmas.List.Sums.{sum_by-set, sum_by-remove, sum_by-append}
use Rattle.hfs_model.specs.declared.item.Item.{Item}
use Rattle.hfs_model.specs.Volume.{Entry, Items}
use Rattle.hfs_model.specs.Children.{entry_at, valence, is_child}
use Rattle.hfs_model.specs.declared.item.Kind.{Kind}
use Rattle.hfs_model.specs.Changes.{touched, with_lock}
use Rattle.hfs_model.specs.FileIds.{with_thread, set_thread}
use Rattle.hfs_store.specs.PlainVolume.{AreEntries, Becomes}
use Rattle.hfs_store.proofs.ById.{rises_set, rises_remove, rises_push, set_entry, add_entry, remove_entry, touched_at, touched_nowhere}
use Rattle.hfs_model.proofs.ChildCounts.{one_child}

at_most_one : (dir : ℕ) (e : Entry) → one_child dir e ≤ 1
at_most_one dir e = elim (is_child dir e) as (λ b. cond b 1 0 ≤ 1) [ true ↦ omega arith | false ↦ omega arith ]

-- an item with the same parent in its place
same_valence : (es : List Entry) (i : ℕ) (d : Entry) (x : Item) → i < length es → x.parent ≡ (get_or es i d).1.parent → (dir : ℕ) → valence (set es i ((get_or es i d).0, x)) dir ≡ valence es dir
same_valence es i d x lt is dir =
    let sums = sum_by-set (one_child dir) es i ((get_or es i d).0, x) d lt in
    let same : one_child dir ((get_or es i d).0, x) ≡ one_child dir (get_or es i d) = ap (λ (p : ℕ). cond (eqb p dir) 1 0) is in
    equal _ _ _ _ sums same
  where
    equal : (a b c d : ℕ) → a + b ≡ c + d → d ≡ b → a ≡ c
    equal a b c d e f = omega arith

pub kept_set : (n : ℕ) (es : List Entry) (i : ℕ) (d : Entry) (x : Item) → i < length es → x.parent ≡ (get_or es i d).1.parent → AreEntries es n → AreEntries (set es i ((get_or es i d).0, x)) n
kept_set n es i d x lt is h = record {
  rise = rises_set 0 n es i d x h.rise;
  room = λ dir. subst (λ (k : ℕ). k ≤ 65535) (sym (same_valence es i d x lt is dir)) (h.room dir);
}

pub kept_remove : (n : ℕ) (es : List Entry) (i : ℕ) (d : Entry) → i < length es → AreEntries es n → AreEntries (remove es i) n
kept_remove n es i d lt h = record {
  rise = rises_remove 0 n es i h.rise;
  room = λ dir. less _ _ _ (sum_by-remove (one_child dir) es i d lt) (h.room dir);
}
  where
    less : (a b c : ℕ) → a + b ≡ c → c ≤ 65535 → a ≤ 65535
    less a b c e f = omega arith

-- under a parent with room
pub kept_push : (n : ℕ) (es : List Entry) (x : Item) → valence es x.parent < 65535 → AreEntries es n → AreEntries (es ++ (n, x) ∷ []) (n + 1)
kept_push n es x room h = record {
  rise = rises_push 0 n es x h.rise;
  room = λ dir. subst (λ (k : ℕ). k ≤ 65535) (sym (sum_by-append (one_child dir) es ((n, x) ∷ []))) (fits dir);
}
  where
    fits : (dir : ℕ) → sum_by (one_child dir) es + sum_by (one_child dir) ((n, x) ∷ []) ≤ 65535
    fits dir = elim (eqb x.parent dir) as (λ b. eqb x.parent dir ≡ b → valence es dir + (0 + cond b 1 0) ≤ 65535) [
      | true ↦ λ e. let here : valence es dir < 65535 = subst (λ (p : ℕ). valence es p < 65535) (eqb-true x.parent dir e) room in omega arith
      | false ↦ λ e. omega (arith, h.room dir)
    ] refl

-- under another parent with room
pub kept_move : (n : ℕ) (es : List Entry) (i : ℕ) (d : Entry) (x : Item) → i < length es → valence es x.parent < 65535 → AreEntries es n → AreEntries (set es i ((get_or es i d).0, x)) n
kept_move n es i d x lt room h = record { rise = rises_set 0 n es i d x h.rise; room = fits }
  where
    more : (a b c d : ℕ) → a + b ≡ c + d → a ≤ c + d
    more a b c d e = omega arith

    fits : (dir : ℕ) → valence (set es i ((get_or es i d).0, x)) dir ≤ 65535
    fits dir =
        let at_most = more _ _ _ _ (sum_by-set (one_child dir) es i ((get_or es i d).0, x) d lt) in
        elim (eqb x.parent dir) as (λ b. eqb x.parent dir ≡ b → valence (set es i ((get_or es i d).0, x)) dir ≤ valence es dir + cond b 1 0 → valence (set es i ((get_or es i d).0, x)) dir ≤ 65535) [
          | true ↦ λ e le. let here : valence es dir < 65535 = subst (λ (p : ℕ). valence es p < 65535) (eqb-true x.parent dir e) room in omega arith
          | false ↦ λ e le. omega (arith, h.room dir)
        ] refl at_most

-- ---- changes one after another

pub becomes_itself : (es : List Entry) → Becomes es es (λ m. m)
becomes_itself es = record { kept = λ n h. h; is = λ n h. refl }

pub becomes_more : (a b c : List Entry) (f g : Items → Items) → Becomes a b f → Becomes b c g → Becomes a c (λ m. g (f m))
becomes_more a b c f g p q = record { kept = λ n h. q.kept n (p.kept n h); is = λ n h. q.is n (p.kept n h) ∙ ap g (p.is n h) }

pub becomes_set : (es : List Entry) (i : ℕ) (d : Entry) (x : Item) → i < length es → x.parent ≡ (get_or es i d).1.parent → Becomes es (set es i ((get_or es i d).0, x)) (λ m. map.insert m (get_or es i d).0 x)
becomes_set es i d x lt is = record { kept = λ n h. kept_set n es i d x lt is h; is = λ n h. sym (set_entry n es h.rise i d x lt) }

pub becomes_moved : (es : List Entry) (i : ℕ) (d : Entry) (x : Item) → i < length es → valence es x.parent < 65535 → Becomes es (set es i ((get_or es i d).0, x)) (λ m. map.insert m (get_or es i d).0 x)
becomes_moved es i d x lt room = record { kept = λ n h. kept_move n es i d x lt room h; is = λ n h. sym (set_entry n es h.rise i d x lt) }

pub becomes_removed : (es : List Entry) (i : ℕ) (d : Entry) → i < length es → Becomes es (remove es i) (λ m. map.remove m (get_or es i d).0)
becomes_removed es i d lt = record { kept = λ n h. kept_remove n es i d lt h; is = λ n h. sym (remove_entry n es h.rise i d lt) }

pub becomes_touched : (es : List Entry) (i : ℕ) (d : Entry) (dir now : ℕ) → i < length es → entry_at es dir ≡ Some (get_or es i d) → Becomes es (set es i ((get_or es i d).0, record (get_or es i d).1 { modified = now })) (λ m. touched m dir now)
becomes_touched es i d dir now lt is = record { kept = λ n h. kept_set n es i d (record (get_or es i d).1 { modified = now }) lt refl h; is = λ n h. sym (touched_at n es h.rise dir now i d lt is) }

pub becomes_untouched : (es : List Entry) (dir now : ℕ) → entry_at es dir ≡ None → Becomes es es (λ m. touched m dir now)
becomes_untouched es dir now is = record { kept = λ n h. h; is = λ n h. sym (touched_nowhere n es h.rise dir now is) }

-- ---- an item edited, seen at another default

same_entry : (es : List Entry) (i : ℕ) (d r : Entry) → i < length es → get_or es i d ≡ get_or es i r
same_entry [] i d r lt = absurd (omega arith)
same_entry (e ∷ es) zero d r lt = refl
same_entry (e ∷ es) (suc i) d r lt = same_entry es i d r (omega arith)

pub becomes_edited : (es : List Entry) (i : ℕ) (r d : Entry) (f : Item → Item) → i < length es → ((x : Item) → (f x).parent ≡ x.parent) → Becomes es (set es i ((get_or es i r).0, f (get_or es i r).1)) (λ m. map.insert m (get_or es i d).0 (f (get_or es i d).1))
becomes_edited es i r d f lt keeps =
    subst (λ (e : Entry). Becomes es (set es i ((get_or es i r).0, f (get_or es i r).1)) (λ m. map.insert m e.0 (f e.1))) (same_entry es i r d lt) (becomes_set es i r (f (get_or es i r).1) lt (keeps (get_or es i r).1))

pub becomes_put_under : (es : List Entry) (i : ℕ) (r d : Entry) (dir : ℕ) → i < length es → valence es dir < 65535 → Becomes es (set es i ((get_or es i r).0, record (get_or es i r).1 { parent = dir })) (λ m. map.insert m (get_or es i d).0 (record (get_or es i d).1 { parent = dir }))
becomes_put_under es i r d dir lt room =
    subst (λ (e : Entry). Becomes es (set es i ((get_or es i r).0, record (get_or es i r).1 { parent = dir })) (λ m. map.insert m e.0 (record e.1 { parent = dir }))) (same_entry es i r d lt) (becomes_moved es i r (record (get_or es i r).1 { parent = dir }) lt room)

-- the same, where the code has read the entry e
pub becomes_read_edited : (es : List Entry) (i : ℕ) (e d : Entry) (f : Item → Item) → e ≡ get_or es i e → i < length es → ((x : Item) → (f x).parent ≡ x.parent) → Becomes es (set es i (e.0, f e.1)) (λ m. map.insert m (get_or es i d).0 (f (get_or es i d).1))
becomes_read_edited es i e d f is lt keeps =
    subst (λ (x : Entry). Becomes es (set es i (x.0, f x.1)) (λ m. map.insert m (get_or es i d).0 (f (get_or es i d).1))) (sym is) (becomes_edited es i e d f lt keeps)

pub becomes_read_under : (es : List Entry) (i : ℕ) (e d : Entry) (dir : ℕ) → e ≡ get_or es i e → i < length es → valence es dir < 65535 → Becomes es (set es i (e.0, record e.1 { parent = dir })) (λ m. map.insert m (get_or es i d).0 (record (get_or es i d).1 { parent = dir }))
becomes_read_under es i e d dir is lt room =
    subst (λ (x : Entry). Becomes es (set es i (x.0, record x.1 { parent = dir })) (λ m. map.insert m (get_or es i d).0 (record (get_or es i d).1 { parent = dir }))) (sym is) (becomes_put_under es i e d dir lt room)

pub becomes_read_touched : (es fs : List Entry) (i : ℕ) (e : Entry) (dir now : ℕ) → e ≡ get_or es i e → fs ≡ es → i < length fs → entry_at fs dir ≡ Some (get_or fs i e) → Becomes es (set es i (e.0, record e.1 { modified = now })) (λ m. touched m dir now)
becomes_read_touched es fs i e dir now is alike lt found =
    subst (λ (x : Entry). Becomes es (set es i (x.0, record x.1 { modified = now })) (λ m. touched m dir now)) (sym is)
    (becomes_touched es i e dir now (subst (λ (l : List Entry). i < length l) alike lt) (subst (λ (l : List Entry). entry_at l dir ≡ Some (get_or l i e)) alike found))

-- ---- an entry added

pub added : (es fs gs : List Entry) (n now : ℕ) (x : Item) → AreEntries es n → valence es x.parent < 65535 → fs ≡ es ++ (n, x) ∷ [] → Becomes fs gs (λ m. touched m x.parent now) → AreEntries gs (n + 1) × (map.from_sorted gs ≡ touched (map.insert (map.from_sorted es) n x) x.parent now)
added es fs gs n now x h room is then =
    let pushed = subst (λ (l : List Entry). AreEntries l (n + 1)) (sym is) (kept_push n es x room h) in
    (then.kept (n + 1) pushed, then.is (n + 1) pushed ∙ ap (λ (m : Items). touched m x.parent now) (ap (λ (l : List Entry). map.from_sorted l) is ∙ sym (add_entry n es h.rise x)))

pub becomes_read_locked : (es : List Entry) (i : ℕ) (e d : Entry) (locked : Bool) (k : Kind) → k ≡ with_lock locked e.1.kind → e ≡ get_or es i e → i < length es → Becomes es (set es i (e.0, record e.1 { kind = k })) (λ m. map.insert m (get_or es i d).0 (record (get_or es i d).1 { kind = with_lock locked (get_or es i d).1.kind }))
becomes_read_locked es i e d locked k is value lt =
    subst (λ (x : Kind). Becomes es (set es i (e.0, record e.1 { kind = x })) (λ m. map.insert m (get_or es i d).0 (record (get_or es i d).1 { kind = with_lock locked (get_or es i d).1.kind }))) (sym is)
    (becomes_read_edited es i e d (λ (x : Item). record x { kind = with_lock locked x.kind }) value lt (λ x. refl))

pub becomes_read_thread : (es : List Entry) (i : ℕ) (e d : Entry) (there : Bool) (k : Kind) → k ≡ with_thread there e.1.kind → e ≡ get_or es i e → i < length es → Becomes es (set es i (e.0, record e.1 { kind = k })) (set_thread there (get_or es i d))
becomes_read_thread es i e d there k is value lt =
    subst (λ (x : Kind). Becomes es (set es i (e.0, record e.1 { kind = x })) (set_thread there (get_or es i d))) (sym is)
    (becomes_read_edited es i e d (λ (x : Item). record x { kind = with_thread there x.kind }) value lt (λ x. refl))
