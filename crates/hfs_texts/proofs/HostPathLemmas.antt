-- The laws of host paths: a path is parted at its slashes, since no host name has one.
use Rattle.std.proofs.Common.{◌≡◌, ◌∙◌, sym, ap, refl, ℕ, true, List, [], ◌∷◌, ◌++◌, length, map, arith, inl, inr, ◌⊎◌}
use Rattle.std.specs.Prelude.{codes, flat_map}
use Rattle.std.specs.List.{list_all}
use Rattle.std.proofs.lemmas.Bool.{and_parts}
use Rattle.std.proofs.lemmas.List.{map-append}
use Rattle.hfs_fields.specs.Order.{fold_letter, folded}
use Rattle.hfs_texts.specs.HostNames.{host_name}
use Rattle.hfs_texts.specs.MacPaths.{host_path}
use Rattle.hfs_texts.specs.NameLaws.{is_bytes, AreHostPaths}
use Rattle.hfs_texts.proofs.HostNameLemmas.{is-safe-byte, safe-byte, one-name, one-folded, text-safe, folded-safe, begun, folded-begun}

-- each of these texts behind a slash
behind-slashes : (List ℕ → List ℕ) → List (List ℕ) → List ℕ
behind-slashes text [] = []
behind-slashes text (name ∷ names) = 47 ∷ (text name ++ behind-slashes text names)

-- nothing, or a slash and more
Begins : List ℕ → Type 0
Begins t = (t ≡ []) ⊎ ((rest : List ℕ) × (t ≡ 47 ∷ rest))

begins : (text : List ℕ → List ℕ) (names : List (List ℕ)) → Begins (behind-slashes text names)
unfolding Begins behind-slashes
begins text [] = inl refl
begins text (name ∷ names) = inr (text name ++ behind-slashes text names, refl)

no-cons : (x : ℕ) (xs : List ℕ) → [] ≡ x ∷ xs → ⊥
no-cons x xs e = absurd (omega (arith, ap length e))

pub first-is : (x y : ℕ) (xs ys : List ℕ) → x ∷ xs ≡ y ∷ ys → x ≡ y
first-is x y xs ys e = cc

pub rest-is : (x y : ℕ) (xs ys : List ℕ) → x ∷ xs ≡ y ∷ ys → xs ≡ ys
rest-is x y xs ys e = cc

no-slash : (y : ℕ) (v s : List ℕ) → is-safe-byte y ≡ true → Begins s → s ≡ y ∷ v → ⊥
unfolding Begins
no-slash y v s safe (inl none) e = no-cons y v (sym none ∙ e)
no-slash y v s safe (inr more) e = (safe-byte y safe).0 (sym (first-is 47 y more.0 v (sym more.1 ∙ e)))

record Parts (u v s t : List ℕ) : Type 0 where
  pub front : u ≡ v
  pub back : s ≡ t

-- two texts without slashes, with what begins with one behind them
parted : (u v s t : List ℕ) → list_all is-safe-byte u ≡ true → list_all is-safe-byte v ≡ true → Begins s → Begins t → u ++ s ≡ v ++ t → Parts u v s t
parted [] [] s t p q bs bt e = record { front = refl; back = e }
parted [] (y ∷ v) s t p q bs bt e = absurd (no-slash y (v ++ t) s (and_parts _ _ q).0 bs e)
parted (x ∷ u) [] s t p q bs bt e = absurd (no-slash x (u ++ s) t (and_parts _ _ p).0 bt (sym e))
parted (x ∷ u) (y ∷ v) s t p q bs bt e =
    let others = parted u v s t (and_parts _ _ p).1 (and_parts _ _ q).1 bs bt (rest-is x y (u ++ s) (v ++ t) e) in
    record { front = λ i. first-is x y (u ++ s) (v ++ t) e i ∷ others.front i; back = others.back }

-- texts without slashes, of these names
record AreParted (text : List ℕ → List ℕ) : Type 0 where
  pub safe : (name : List ℕ) → is_bytes name ≡ true → list_all is-safe-byte (text name) ≡ true
  pub some : (name : List ℕ) → is_bytes name ≡ true → text name ≡ [] → ⊥

texts-behind : (text : List ℕ → List ℕ) → AreParted text → (a b : List (List ℕ)) → list_all is_bytes a ≡ true → list_all is_bytes b ≡ true
    → behind-slashes text a ≡ behind-slashes text b → map text a ≡ map text b
unfolding behind-slashes
texts-behind text are [] [] p q e = refl
texts-behind text are [] (y ∷ b) p q e = absurd (no-cons _ _ e)
texts-behind text are (x ∷ a) [] p q e = absurd (no-cons _ _ (sym e))
texts-behind text are (x ∷ a) (y ∷ b) p q e =
    let pp = and_parts _ _ p in
    let qq = and_parts _ _ q in
    let two = parted (text x) (text y) (behind-slashes text a) (behind-slashes text b) (are.safe x pp.0) (are.safe y qq.0) (begins text a) (begins text b)
    (rest-is 47 47 _ _ e) in
    let others = texts-behind text are a b pp.1 qq.1 two.back in
    λ i. two.front i ∷ others i

-- the texts with slashes between
joined : (List ℕ → List ℕ) → List (List ℕ) → List ℕ
joined text [] = []
joined text (name ∷ names) = text name ++ behind-slashes text names

no-front : (u s : List ℕ) → [] ≡ u ++ s → u ≡ []
no-front [] s e = refl
no-front (x ∷ u) s e = absurd (no-cons x (u ++ s) e)

texts-joined : (text : List ℕ → List ℕ) → AreParted text → (a b : List (List ℕ)) → list_all is_bytes a ≡ true → list_all is_bytes b ≡ true
    → joined text a ≡ joined text b → map text a ≡ map text b
unfolding joined
texts-joined text are [] [] p q e = refl
texts-joined text are [] (y ∷ b) p q e = absurd (are.some y (and_parts _ _ q).0 (no-front (text y) (behind-slashes text b) e))
texts-joined text are (x ∷ a) [] p q e = absurd (are.some x (and_parts _ _ p).0 (no-front (text x) (behind-slashes text a) (sym e)))
texts-joined text are (x ∷ a) (y ∷ b) p q e =
    let pp = and_parts _ _ p in
    let qq = and_parts _ _ q in
    let two = parted (text x) (text y) (behind-slashes text a) (behind-slashes text b) (are.safe x pp.0) (are.safe y qq.0) (begins text a) (begins text b) e in
    let others = texts-behind text are a b pp.1 qq.1 two.back in
    λ i. two.front i ∷ others i

-- ---- host paths are such texts

path-behind : (names : List (List ℕ)) → flat_map (λ (name : List ℕ). codes "/" ++ host_name name) names ≡ behind-slashes host_name names
unfolding behind-slashes
path-behind [] = refl
path-behind (name ∷ names) = ap (λ t. 47 ∷ (host_name name ++ t)) (path-behind names)

path-joined : (names : List (List ℕ)) → host_path names ≡ joined host_name names
unfolding host_path joined
path-joined [] = refl
path-joined (name ∷ names) = ap (λ t. host_name name ++ t) (path-behind names)

folded-name : List ℕ → List ℕ
folded-name name = folded (host_name name)

folded-behind : (names : List (List ℕ)) → folded (behind-slashes host_name names) ≡ behind-slashes folded-name names
unfolding behind-slashes folded-name
folded-behind [] = refl
folded-behind (name ∷ names) =
    ap (λ t. 47 ∷ t) (map-append fold_letter (host_name name) (behind-slashes host_name names) ∙ ap (λ t. folded (host_name name) ++ t) (folded-behind names))

folded-joined : (names : List (List ℕ)) → folded (joined host_name names) ≡ joined folded-name names
unfolding joined folded-name
folded-joined [] = refl
folded-joined (name ∷ names) =
    map-append fold_letter (host_name name) (behind-slashes host_name names) ∙ ap (λ t. folded (host_name name) ++ t) (folded-behind names)

names-parted : AreParted host_name
names-parted = record { safe = text-safe; some = begun }

folded-parted : AreParted folded-name
unfolding folded-name
folded-parted = record { safe = folded-safe; some = folded-begun }

head-is : (x y : List ℕ) (xs ys : List (List ℕ)) → x ∷ xs ≡ y ∷ ys → x ≡ y
head-is x y xs ys e = cc

tail-is : (x y : List ℕ) (xs ys : List (List ℕ)) → x ∷ xs ≡ y ∷ ys → xs ≡ ys
tail-is x y xs ys e = cc

no-names : (x : List ℕ) (xs : List (List ℕ)) → [] ≡ x ∷ xs → ⊥
no-names x xs e = absurd (omega (arith, ap length e))

same-names : (a b : List (List ℕ)) → list_all is_bytes a ≡ true → list_all is_bytes b ≡ true → map host_name a ≡ map host_name b → a ≡ b
same-names [] [] p q e = refl
same-names [] (y ∷ b) p q e = absurd (no-names _ _ e)
same-names (x ∷ a) [] p q e = absurd (no-names _ _ (sym e))
same-names (x ∷ a) (y ∷ b) p q e =
    let pp = and_parts _ _ p in
    let qq = and_parts _ _ q in
    let here = one-name x y pp.0 qq.0 (head-is _ _ _ _ e) in
    let others = same-names a b pp.1 qq.1 (tail-is _ _ _ _ e) in
    λ i. here i ∷ others i

same-folded : (a b : List (List ℕ)) → list_all is_bytes a ≡ true → list_all is_bytes b ≡ true → map folded-name a ≡ map folded-name b
    → map folded a ≡ map folded b
unfolding folded-name
same-folded [] [] p q e = refl
same-folded [] (y ∷ b) p q e = absurd (no-names _ _ e)
same-folded (x ∷ a) [] p q e = absurd (no-names _ _ (sym e))
same-folded (x ∷ a) (y ∷ b) p q e =
    let pp = and_parts _ _ p in
    let qq = and_parts _ _ q in
    let here = one-folded x y pp.0 qq.0 (head-is _ _ _ _ e) in
    let others = same-folded a b pp.1 qq.1 (tail-is _ _ _ _ e) in
    λ i. here i ∷ others i

pub host-paths : AreHostPaths host_path
host-paths = record {
  one_path = λ a b p q e. same-names a b p q (texts-joined host_name names-parted a b p q (sym (path-joined a) ∙ e ∙ path-joined b));
  one_in_case = λ a b p q e.
      same-folded a b p q (texts-joined folded-name folded-parted a b p q
      (sym (folded-joined a) ∙ sym (ap folded (path-joined a)) ∙ e ∙ ap folded (path-joined b) ∙ folded-joined b));
}
