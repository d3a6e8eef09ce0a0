-- Maps by paths, as they are looked up by bytes.
use Rattle.std.proofs.Common.{◌≡◌, ◌∙◌, sym, ap, subst, ℕ, Bool, true, false, List, Option, Some, None, Vec, Global, inl, inr, bytes_eq}
use Rattle.std.specs.BTreeMap.{BTreeMap, UpdatesBy, is_at}
use Rattle.std.specs.Cmp.{eq_by_cmp_equiv}
use Rattle.std.specs.Cmp.Lexicographic.{slice_cmp, nat_list_cmp_total, nat_list_eq_equiv, bytes_decides}
use Rattle.std.specs.Map.{AreApart, IsKeyTest, KeepsOthers, lookup}
use Rattle.std.specs.Option.{option_or}
use Rattle.std.specs.Ordering.{eq_by_cmp, nat_cmp}
use Rattle.std.specs.declared.cmp.Ordering.{Ordering}
use Rattle.std.proofs.lemmas.Bool.{cases_Bool, cond-true, cond-false}
use Rattle.std.proofs.lemmas.Map.Text.{is_eq-slice_cmp}
use Rattle.hfs_put_sources.specs.Later.{Entries, Tells, told_at, told_of}

-- the order of paths
abbrev pub path_cmp : Vec ℕ Global → Vec ℕ Global → Ordering
path_cmp a b = slice_cmp nat_cmp a.items b.items

apart : (bs cs ks : List ℕ) → bytes_eq bs cs ≡ false → is_at (slice_cmp nat_cmp bs) ks ≡ true → is_at (slice_cmp nat_cmp cs) ks ≡ false
apart bs cs ks n y =
    is_eq-slice_cmp cs ks ∙ nat_list_eq_equiv.symm cs ks
    ∙ sym (nat_list_eq_equiv.congr bs ks cs (sym (is_eq-slice_cmp bs ks) ∙ y)) ∙ n

module _ {X : Type 0} where
  pub path-there : (entries : Entries X) (path : List ℕ) → lookup (is_at (λ (k : Vec ℕ Global). slice_cmp nat_cmp path k.items)) entries ≡ told_at entries path
  path-there entries path = λ t. lookup (λ (k : Vec ℕ Global). is_eq-slice_cmp path k.items t) entries

  kept : (test other : Vec ℕ Global → Bool) (old new : Entries X) → KeepsOthers (eq_by_cmp path_cmp) test old new → IsKeyTest (eq_by_cmp path_cmp) other
      → AreApart test other → lookup other new ≡ lookup other old
  unfolding KeepsOthers
  kept test other old new keeps one apart = keeps other one apart

  pub path-put : (m n : BTreeMap (Vec ℕ Global) X) (key : Vec ℕ Global) (value : X) → UpdatesBy path_cmp (path_cmp key) m n (Some value)
      → Tells (told_of key.items value) m.entries n.entries
  path-put m n key value is path = elim (cases_Bool (bytes_eq key.items path)) [
    | inl same ↦
        let here : told_at n.entries key.items ≡ Some value = sym (path-there n.entries key.items) ∙ is.1 in
        let there : told_at n.entries path ≡ Some value = subst (λ (l : List ℕ). told_at n.entries l ≡ Some value) ((bytes_decides key.items path).0 same) here in
        there ∙ sym (ap (λ (o : Option X). option_or o (told_at m.entries path)) (cond-true (bytes_eq key.items path) (Some value) None same))
    | inr other ↦
        sym (path-there n.entries path)
        ∙ kept (is_at (path_cmp key)) (is_at (λ (k : Vec ℕ Global). slice_cmp nat_cmp path k.items)) m.entries n.entries is.3
        (λ x y. (eq_by_cmp_equiv nat_list_cmp_total).congr path x.items y.items) (λ k. apart key.items path k.items other)
        ∙ path-there m.entries path
        ∙ sym (ap (λ (o : Option X). option_or o (told_at m.entries path)) (cond-false (bytes_eq key.items path) (Some value) None other))
  ]
