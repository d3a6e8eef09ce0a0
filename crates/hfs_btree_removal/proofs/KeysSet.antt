-- The keys of several steps, set one after the other from the last one upwards.
use Rattle.std.proofs.Common.{◌≡◌, ◌≢◌, ℕ, zero, suc, ◌+◌, ◌-◌, ◌<◌, ◌≤◌, List, [], ◌∷◌, ◌++◌, length, get_or, take, drop, refl, sym, ap, ◌∙◌, subst, arith}
use Rattle.std.specs.Prelude.{true}
use Rattle.std.proofs.lemmas.List.{drop_more, drop_all}
use Rattle.hfs_btree_removal.specs.declared.down.Step.{Step}
use Rattle.hfs_btree.specs.declared.key.Key.{Ghosts}
use Rattle.hfs_fields.specs.Each.{Each}
use Rattle.hfs_btree.specs.Tree.{Store, node_in, records_in, records_of}
use Rattle.hfs_btree_removal.specs.Removal.{HasKeySet, AreSettable, AreKeysSet, IsEnded, IsPassedUp, AreBehindFirst}

abbrev pub no-step : Step
no-step = record { node = 0; place = 0; count = 0 }

abbrev AreFirst : List Step → Type 0
AreFirst ss = Each (λ s. s.place ≡ 0) ss

pub whole : (n : ℕ) (xs : List Step) → xs ≡ take n xs ++ drop n xs
whole zero xs = refl
whole (suc n) [] = refl
whole (suc n) (x ∷ xs) = ap (λ (ys : List Step). x ∷ ys) (whole n xs)

ended-at : (above : List Step) (s : Step) (ss : List Step) → 0 < s.place → IsEnded above (s ∷ ss)
ended-at [] s ss lt = tt
ended-at (a ∷ above) s ss lt = lt

behind-first : (ss : List Step) → AreFirst ss → AreBehindFirst ss
behind-first [] h = tt
behind-first (s ∷ ss) h = h.1

module _ {K : Type 0} (g : Ghosts K) (t : K) where
  -- nodes of other steps are the same
  pub set-kept : (ss : List Step) (old new : Store) → AreKeysSet g t ss old new → (m : ℕ) → Each (λ s. m ≢ s.node) ss → node_in new m ≡ node_in old m
  set-kept [] old new h m o = ap (λ (s : Store). node_in s m) (sym h)
  set-kept (s ∷ ss) old new h m o = h.2.stored.rest m o.0 ∙ set-kept ss old h.0 h.1 m o.1

  pub set-len : (ss : List Step) (old new : Store) → AreKeysSet g t ss old new → length new ≡ length old
  set-len [] old new h = ap (λ (s : Store). length s) (sym h)
  set-len (s ∷ ss) old new h = h.2.stored.len ∙ set-len ss old h.0 h.1

  settable-drop : (nodes : Store) (n : ℕ) (ss : List Step) → AreSettable g nodes ss → AreSettable g nodes (drop n ss)
  settable-drop nodes zero ss h = h
  settable-drop nodes (suc n) [] h = h
  settable-drop nodes (suc n) (s ∷ ss) h = settable-drop nodes n ss h.2

  -- after i steps from the last upwards, each of which leads on by its node's first record
  pub record IsPassing (steps : List Step) (old : Store) (i : ℕ) (now : Store) : Type 0 where
    pub set : AreKeysSet g t (drop (length steps - i) steps) old now
    pub firsts : AreFirst (drop (length steps - i) steps)

  module _ (steps : List Step) (old : Store) (can : AreSettable g old steps) where
    pub passing-none : IsPassing steps old 0 old
    passing-none =
        let P : List Step → Type 0 = λ ss. AreKeysSet g t ss old old in
        let none = sym (drop_all (length steps - 0) steps (omega arith)) in
        record { set = subst P none refl; firsts = subst AreFirst none tt }

    module _ (i : ℕ) (now : Store) (p : IsPassing steps old i now) (lt : i < length steps) where
      abbrev at : ℕ
      at = length steps - 1 - i

      abbrev s : Step
      s = get_or steps at no-step

      parted : drop at steps ≡ s ∷ drop (at + 1) steps
      parted = drop_more steps at no-step (omega arith)

      past : length steps - i ≡ at + 1
      past = omega arith

      set : AreKeysSet g t (drop (at + 1) steps) old now
      set = let P : ℕ → Type 0 = λ n. AreKeysSet g t (drop n steps) old now in subst P past p.set

      firsts : AreFirst (drop (at + 1) steps)
      firsts = let P : ℕ → Type 0 = λ n. AreFirst (drop n steps) in subst P past p.firsts

      here : AreSettable g old (s ∷ drop (at + 1) steps)
      here = let P : List Step → Type 0 = λ ss. AreSettable g old ss in subst P parted (settable-drop old at steps can)

      same : records_in old s.node ≡ records_in now s.node
      same = ap records_of (sym (set-kept (drop (at + 1) steps) old now set s.node here.1))

      pub can-within : s.node < length now
      can-within = let e = set-len (drop (at + 1) steps) old now set in let w = here.0.within in omega arith

      pub can-place : s.place < length (records_in now s.node)
      can-place = let P : List (List ℕ) → Type 0 = λ rs. s.place < length rs in subst P same here.0.place

      pub can-index : g.is_index (get_or (records_in now s.node) s.place []) ≡ true
      can-index = let P : List (List ℕ) → Type 0 = λ rs. g.is_index (get_or rs s.place []) ≡ true in subst P same here.0.index

      module _ (new : Store) (key : HasKeySet g s.node s.place t now new) where
        pub passing-more : s.place ≤ 0 → IsPassing steps old (i + 1) new
        passing-more none =
            let e : at ≡ length steps - (i + 1) = omega arith in
            let P : List Step → Type 0 = λ ss. AreKeysSet g t ss old new in
            let Q : ℕ → Type 0 = λ n. AreKeysSet g t (drop n steps) old new in
            let R : ℕ → Type 0 = λ n. AreFirst (drop n steps) in
            let zero' : s.place ≡ 0 = omega arith in
            record { set = subst Q e (subst P (sym parted) (now, set, key)); firsts = subst R e (subst AreFirst (sym parted) (zero', firsts)) }

        pub passed-here : 0 < s.place → IsPassedUp g t steps old new
        passed-here some = record {
          above = take at steps;
          told = s ∷ drop (at + 1) steps;
          split = whole at steps ∙ ap (λ (ss : List Step). take at steps ++ ss) parted;
          set = (now, set, key);
          firsts = firsts;
          ended = ended-at (take at steps) s (drop (at + 1) steps) some;
        }

    pub passed-all : (i : ℕ) (now : Store) → IsPassing steps old i now → length steps ≤ i → IsPassedUp g t steps old now
    passed-all i now p le =
        let e : length steps - i ≡ 0 = omega arith in
        let P : ℕ → Type 0 = λ n. AreKeysSet g t (drop n steps) old now in
        let Q : ℕ → Type 0 = λ n. AreFirst (drop n steps) in
        record { above = []; told = steps; split = refl; set = subst P e p.set; firsts = behind-first steps (subst Q e p.firsts); ended = tt }
