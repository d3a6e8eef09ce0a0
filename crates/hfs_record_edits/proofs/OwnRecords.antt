-- A record of a fork that comes or changes among those of the extents tree.
use Rattle.std.proofs.Common.{◌≡◌, ℕ, suc, ◌<◌, inl, inr, Bool, true, false, cond, ◌&&◌, eqb, List, [], ◌∷◌, ◌++◌, Option, Some, None, length, refl, sym, ap, ◌∙◌, subst, arith}
use Rattle.std.specs.declared.cmp.Ordering.TheVariants.{Less, Equal, Greater}
use Rattle.std.specs.Ordering.{nat_cmp, ordering_then, is_eq, is_gt}
use Rattle.std.proofs.lemmas.Cmp.{ranked, by_ranked, tied_itself}
use Rattle.std.proofs.lemmas.Bool.{eqb-true, eq-eqb, cases_Bool, and_parts, true≢false}
use Rattle.hfs_fields.proofs.DecisionLemmas.{both_true}
use Rattle.hfs_fields.specs.declared.key.ExtKey.{ExtKey}
use Rattle.hfs_fields.specs.Keys.{ext_cmp, ext_cmp_total}
use Rattle.hfs_fields.proofs.KeyOrder.{ext_key_order, same}
use Rattle.hfs_fields.proofs.OrderLemmas.{eq_is, more}
use Rattle.hfs_fields.specs.Each.{Each}
use Rattle.hfs_fields.proofs.ElementLemmas.{each-mono}
use Rattle.hfs_btree.specs.Pairs.{lookup, Rises}
use Rattle.hfs_btree.proofs.LookupLemmas.{lookup-none, le-lt}
use Rattle.hfs_btree_edits.specs.Conditions.{IsThere}
use Rattle.hfs_btree_edits.specs.Edits.{with_pair, with_replaced}
use Rattle.hfs_space.specs.Extents.{Overflow}
use Rattle.hfs_space.specs.Runs.{is_of_fork}
use Rattle.hfs_space.proofs.RunSteps.{Record}
use Rattle.hfs_record_edits.specs.Records.{of_fork}

-- ---- keys

-- the record is of the fork of its own key
key-own : (key : ExtKey) (body : List ℕ) → is_of_fork key.file key.fork (key, body) ≡ true
key-own key body = both_true (eqb key.file key.file) (eqb key.fork key.fork) (eq-eqb key.file key.file refl) (eq-eqb key.fork key.fork refl)

key-other : (f k : ℕ) (key : ExtKey) (body : List ℕ) → (f ≡ key.file → k ≡ key.fork → ⊥) → is_of_fork f k (key, body) ≡ false
key-other f k key body apart = elim (cases_Bool (is_of_fork f k (key, body))) [
  | inl own ↦ (let parts = and_parts (eqb key.file f) (eqb key.fork k) own in absurd (apart (sym (eqb-true key.file f parts.0)) (sym (eqb-true key.fork k parts.1))))
  | inr none ↦ none
]

-- a record of the fork that begins before the key's block is below the key
pub own-above : (key : ExtKey) (r : Record) → is_of_fork key.file key.fork r ≡ true → r.0.block < key.block → ext_cmp key r.0 ≡ Greater
own-above key r own lt =
    let parts = and_parts (eqb r.0.file key.file) (eqb r.0.fork key.fork) own in
    let a = same key.file r.0.file (sym (eqb-true r.0.file key.file parts.0)) in
    let b = same key.fork r.0.fork (sym (eqb-true r.0.fork key.fork parts.1)) in
    let c = more key.block r.0.block lt in
    λ i. ordering_then (a i) (ordering_then (b i) (c i))

-- a record with an equal key has the same key
same-key : (key : ExtKey) (r : Record) → is_eq (ext_cmp key r.0) ≡ true → key ≡ r.0
same-key key r e = (ext_key_order.equal key r.0).0 (eq_is (ext_cmp key r.0) e)

module _ (key : ExtKey) (body : List ℕ) where
  abbrev of : Overflow → Overflow
  of xs = of_fork key.file key.fork xs

  abbrev IsEarlier : Record → Type 0
  IsEarlier r = r.0.block < key.block

  -- the key stands for itself
  key-first : (xs : Overflow) → of ((key, body) ∷ xs) ≡ (key, body) ∷ of xs
  key-first xs = ap (λ (b : Bool). cond b ((key, body) ∷ of xs) (of xs)) (key-own key body)

  -- ---- one that comes

  -- where all of the fork's records are earlier, none is more the key
  none-above : (ys : Overflow) → Each (λ (y : Record). is_gt (ext_cmp key y.0) ≡ false) ys → Each IsEarlier (of ys) → of ys ≡ []
  none-above [] high early = refl
  none-above (y ∷ ys) high early = elim (is_of_fork key.file key.fork y)
      as (λ (b : Bool). is_of_fork key.file key.fork y ≡ b → Each IsEarlier (cond b (y ∷ of ys) (of ys)) → cond b (y ∷ of ys) (of ys) ≡ []) [
        | true ↦ λ own h. absurd (true≢false (sym (ap is_gt (own-above key y own h.0)) ∙ high.0))
        | false ↦ λ other h. none-above ys high.1 h
      ] refl early

  pub put-own : (xs : Overflow) → Rises ext_cmp xs → Each IsEarlier (of xs) → of (with_pair ext_cmp key body xs) ≡ of xs ++ (key, body) ∷ []
  put-own [] rises early = key-first []
  put-own (x ∷ xs) rises early = by (λ e. put-own xs rises.1 e) (is_gt (ext_cmp key x.0)) (is_of_fork key.file key.fork x) refl refl
    where
      by : (Each IsEarlier (of xs) → of (with_pair ext_cmp key body xs) ≡ of xs ++ (key, body) ∷ []) → (g o : Bool) → is_gt (ext_cmp key x.0) ≡ g → is_of_fork key.file key.fork x ≡ o
          → of (cond g (x ∷ with_pair ext_cmp key body xs) ((key, body) ∷ x ∷ xs)) ≡ of (x ∷ xs) ++ (key, body) ∷ []
      by next true true e p =
          let here : of (x ∷ xs) ≡ x ∷ of xs = ap (λ (b : Bool). cond b (x ∷ of xs) (of xs)) p in
          let rest = next (subst (λ (l : Overflow). Each IsEarlier l) here early).1 in
          ap (λ (b : Bool). cond b (x ∷ of (with_pair ext_cmp key body xs)) (of (with_pair ext_cmp key body xs))) p ∙ ap (λ (l : Overflow). x ∷ l) rest ∙ ap (λ (l : Overflow). l ++ (key, body) ∷ []) (sym here)
      by next true false e p =
          let here : of (x ∷ xs) ≡ of xs = ap (λ (b : Bool). cond b (x ∷ of xs) (of xs)) p in
          let rest = next (subst (λ (l : Overflow). Each IsEarlier l) here early) in
          ap (λ (b : Bool). cond b (x ∷ of (with_pair ext_cmp key body xs)) (of (with_pair ext_cmp key body xs))) p ∙ rest ∙ ap (λ (l : Overflow). l ++ (key, body) ∷ []) (sym here)
      by next false o e p =
          let later = each-mono (λ (y : Record). ext_cmp x.0 y.0 ≡ Less) (λ (y : Record). is_gt (ext_cmp key y.0) ≡ false) xs (λ y less. ap is_gt (le-lt ext_cmp ext_cmp_total key x.0 y.0 e less)) rises.0 in
          let none = none-above (x ∷ xs) (e, later) early in
          key-first (x ∷ xs) ∙ ap (λ (l : Overflow). (key, body) ∷ l) none ∙ ap (λ (l : Overflow). l ++ (key, body) ∷ []) (sym none)

  differs : (x : Record) → (is_of_fork key.file key.fork x ≡ true → IsEarlier x) → is_eq (ext_cmp key x.0) ≡ false
  differs x early = elim (cases_Bool (is_eq (ext_cmp key x.0))) [
    | inl is ↦
        (let same = same-key key x is in
        let own = subst (λ (k : ExtKey). is_of_fork key.file key.fork (k, x.1) ≡ true) same (key-own key x.1) in
        let block = ap (λ (k : ExtKey). k.block) same in
        let lt = early own in
        absurd (omega (arith, block, lt)))
    | inr not ↦ not
  ]

  each-differs : (xs : Overflow) → Each IsEarlier (of xs) → Each (λ (x : Record). is_eq (ext_cmp key x.0) ≡ false) xs
  each-differs [] early = tt
  each-differs (x ∷ xs) early = elim (is_of_fork key.file key.fork x)
      as (λ (b : Bool). is_of_fork key.file key.fork x ≡ b → Each IsEarlier (cond b (x ∷ of xs) (of xs)) → Each (λ (y : Record). is_eq (ext_cmp key y.0) ≡ false) (x ∷ xs)) [
        | true ↦ λ own h. (differs x (λ _. h.0), each-differs xs h.1)
        | false ↦ λ other h. (differs x (λ own. absurd (true≢false (sym own ∙ other))), each-differs xs h)
      ] refl early

  pub own-absent : (xs : Overflow) → Each IsEarlier (of xs) → lookup ext_cmp key xs ≡ None
  own-absent xs early = lookup-none ext_cmp ext_cmp_total key xs (each-differs xs early)

  pub put-others : (f k : ℕ) → (f ≡ key.file → k ≡ key.fork → ⊥) → (xs : Overflow) → of_fork f k (with_pair ext_cmp key body xs) ≡ of_fork f k xs
  put-others f k apart [] = ap (λ (b : Bool). cond b ((key, body) ∷ []) []) (key-other f k key body apart)
  put-others f k apart (x ∷ xs) = elim (is_gt (ext_cmp key x.0)) as (λ (g : Bool). of_fork f k (cond g (x ∷ with_pair ext_cmp key body xs) ((key, body) ∷ x ∷ xs)) ≡ of_fork f k (x ∷ xs)) [
    | true ↦ λ i. cond (is_of_fork f k x) (x ∷ put-others f k apart xs i) (put-others f k apart xs i)
    | false ↦ ap (λ (b : Bool). cond b ((key, body) ∷ of_fork f k (x ∷ xs)) (of_fork f k (x ∷ xs))) (key-other f k key body apart)
  ]

  -- ---- one that changes

  pub set-others : (f k : ℕ) → (f ≡ key.file → k ≡ key.fork → ⊥) → (xs : Overflow) → of_fork f k (with_replaced ext_cmp key body xs) ≡ of_fork f k xs
  set-others f k apart [] = refl
  set-others f k apart (x ∷ xs) = elim (is_eq (ext_cmp key x.0)) as (λ (e : Bool). is_eq (ext_cmp key x.0) ≡ e → of_fork f k (cond e ((key, body) ∷ xs) (x ∷ with_replaced ext_cmp key body xs)) ≡ of_fork f k (x ∷ xs)) [
    | true ↦ λ e.
        (let other = subst (λ (q : ExtKey). is_of_fork f k (q, x.1) ≡ false) (same-key key x e) (key-other f k key x.1 apart) in
        ap (λ (b : Bool). cond b ((key, body) ∷ of_fork f k xs) (of_fork f k xs)) (key-other f k key body apart) ∙ sym (ap (λ (b : Bool). cond b (x ∷ of_fork f k xs) (of_fork f k xs)) other))
    | false ↦ λ e. λ i. cond (is_of_fork f k x) (x ∷ set-others f k apart xs i) (set-others f k apart xs i)
  ] refl

  pub set-own : (xs : Overflow) → of (with_replaced ext_cmp key body xs) ≡ with_replaced ext_cmp key body (of xs)
  set-own [] = refl
  set-own (x ∷ xs) = by (set-own xs) (is_eq (ext_cmp key x.0)) (is_of_fork key.file key.fork x) refl refl
    where
      by : of (with_replaced ext_cmp key body xs) ≡ with_replaced ext_cmp key body (of xs) → (e o : Bool) → is_eq (ext_cmp key x.0) ≡ e → is_of_fork key.file key.fork x ≡ o
          → of (cond e ((key, body) ∷ xs) (x ∷ with_replaced ext_cmp key body xs)) ≡ with_replaced ext_cmp key body (of (x ∷ xs))
      by next true o e p =
          let own = subst (λ (q : ExtKey). is_of_fork key.file key.fork (q, x.1) ≡ true) (same-key key x e) (key-own key x.1) in
          key-first xs ∙ sym (ap (λ (b : Bool). with_replaced ext_cmp key body (cond b (x ∷ of xs) (of xs))) own ∙ ap (λ (b : Bool). cond b ((key, body) ∷ of xs) (x ∷ with_replaced ext_cmp key body (of xs))) e)
      by next false true e p =
          ap (λ (b : Bool). cond b (x ∷ of (with_replaced ext_cmp key body xs)) (of (with_replaced ext_cmp key body xs))) p ∙ ap (λ (l : Overflow). x ∷ l) next
          ∙ sym (ap (λ (b : Bool). with_replaced ext_cmp key body (cond b (x ∷ of xs) (of xs))) p ∙ ap (λ (b : Bool). cond b ((key, body) ∷ of xs) (x ∷ with_replaced ext_cmp key body (of xs))) e)
      by next false false e p =
          ap (λ (b : Bool). cond b (x ∷ of (with_replaced ext_cmp key body xs)) (of (with_replaced ext_cmp key body xs))) p ∙ next
          ∙ sym (ap (λ (b : Bool). with_replaced ext_cmp key body (cond b (x ∷ of xs) (of xs))) p)

  there-or : (b : Bool) (old : List ℕ) (o : Option (List ℕ)) → IsThere o → IsThere (cond b (Some old) o)
  there-or true old o h = tt
  there-or false old o h = h

  there-by : (b : Bool) (old : List ℕ) (o q : Option (List ℕ)) → (IsThere o → IsThere q) → IsThere (cond b (Some old) o) → IsThere (cond b (Some old) q)
  there-by true old o q f h = tt
  there-by false old o q f h = f h

  -- what is found among the fork's records is found among all
  pub there-whole : (xs : Overflow) → IsThere (lookup ext_cmp key (of xs)) → IsThere (lookup ext_cmp key xs)
  there-whole [] there = there
  there-whole (x ∷ xs) there = elim (is_of_fork key.file key.fork x) as (λ (b : Bool). IsThere (lookup ext_cmp key (cond b (x ∷ of xs) (of xs))) → IsThere (lookup ext_cmp key (x ∷ xs))) [
    | true ↦ λ h. there-by (is_eq (ext_cmp key x.0)) x.1 (lookup ext_cmp key (of xs)) (lookup ext_cmp key xs) (there-whole xs) h
    | false ↦ λ h. there-or (is_eq (ext_cmp key x.0)) x.1 (lookup ext_cmp key xs) (there-whole xs h)
  ] there

  pub length-set : (xs : Overflow) → length (with_replaced ext_cmp key body xs) ≡ length xs
  length-set [] = refl
  length-set (x ∷ xs) = elim (is_eq (ext_cmp key x.0)) as (λ (e : Bool). length (cond e ((key, body) ∷ xs) (x ∷ with_replaced ext_cmp key body xs)) ≡ length (x ∷ xs)) [
    | true ↦ refl
    | false ↦ ap suc (length-set xs)
  ]

  -- the last of the fork's records is the one that changes
  pub set-last : (xs : Overflow) (last : Record) → last.0 ≡ key → Each (λ (r : Record). is_of_fork key.file key.fork r ≡ true) xs → Each IsEarlier xs
      → with_replaced ext_cmp key body (xs ++ last ∷ []) ≡ xs ++ (key, body) ∷ []
  set-last [] last is own early =
      let same : is_eq (ext_cmp key last.0) ≡ true = ap (λ (q : ExtKey). is_eq (ext_cmp key q)) is ∙ ap is_eq (tied_itself ext_cmp_total key) in
      ap (λ (e : Bool). cond e ((key, body) ∷ []) (last ∷ [])) same
  set-last (x ∷ xs) last is own early =
      let not : is_eq (ext_cmp key x.0) ≡ false = ap is_eq (own-above key x own.0 early.0) in
      ap (λ (e : Bool). cond e ((key, body) ∷ (xs ++ last ∷ [])) (x ∷ with_replaced ext_cmp key body (xs ++ last ∷ []))) not ∙ ap (λ (l : Overflow). x ∷ l) (set-last xs last is own.1 early.1)

  pub last-there : (xs : Overflow) (last : Record) → last.0 ≡ key → IsThere (lookup ext_cmp key (xs ++ last ∷ []))
  last-there [] last is =
      let same : is_eq (ext_cmp key last.0) ≡ true = ap (λ (q : ExtKey). is_eq (ext_cmp key q)) is ∙ ap is_eq (tied_itself ext_cmp_total key) in
      subst (λ (e : Bool). IsThere (cond e (Some last.1) None)) (sym same) tt
  last-there (x ∷ xs) last is = there-or (is_eq (ext_cmp key x.0)) x.1 (lookup ext_cmp key (xs ++ last ∷ [])) (last-there xs last is)
