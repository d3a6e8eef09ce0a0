-- Keys that are lowered level by level, from the root down.
use Rattle.std.proofs.Common.{◌≡◌, ℕ, zero, suc, ◌+◌, ◌-◌, ◌<◌, ◌≤◌, true, false, List, [], length, map, get_or, refl, sym, ap, ◌∙◌, subst, arith, inl, inr}
use Rattle.std.specs.Ordering.{is_gt}
use Rattle.std.specs.Cmp.{IsTotalOrder}
use Rattle.std.specs.List.{prefix_len}
use Rattle.std.specs.Prelude.{Bool}
use Rattle.std.proofs.lemmas.Bool.{cases_Bool, cases_eq, cases_lt}
use Rattle.hfs_btree.specs.Node.{node_of}
use Rattle.hfs_btree.specs.declared.header.Header.{Header}
use Rattle.hfs_btree.specs.declared.key.Key.{Ghosts}
use Rattle.hfs_btree.specs.Pairs.{Pairs}
use Rattle.hfs_fields.specs.Each.{Each}
use Rattle.hfs_btree.specs.Tree.{Store, Spot, records_in, records_of}
use Rattle.hfs_btree.proofs.DecodedLemmas.{records-read}
use Rattle.hfs_btree.specs.Header.{header_in, record_in, depth_of, tree_turn, tree_content}
use Rattle.hfs_btree.specs.Sound.{IsOther, IsSound}
use Rattle.hfs_btree.specs.Search.{is_not_above, child_for}
use Rattle.hfs_btree.proofs.DescentLemmas.{way-some, content-none}
use Rattle.hfs_btree_edits.specs.Edits.{IsAboveFirst, node_for}
use Rattle.hfs_btree_edits.specs.KeptKeys.{EachKey, IsKeyOr}
use Rattle.hfs_btree_edits.proofs.KeptKeyLemmas.{own-keys, keys-hold_with, each-key-mono}
use Rattle.hfs_btree_insertion.specs.Growth.{NodesStay}
use Rattle.hfs_btree_insertion.specs.Lowering.{HasFirstKey, HasLowFirst, HasLowered}
use Rattle.hfs_btree_insertion.proofs.Steps.{keeps-same, keeps-then}
use Rattle.hfs_btree_insertion.proofs.WayTo.{IsAt, at-root, at-next, at-level}
use Rattle.hfs_btree_insertion.proofs.FirstKeys.{first-low, lowered-content, lowered-turn, lowered-header, lowered-keeps, lowered-keys, lowered-levels, lowered-way, lowered-size, lowered-here, lowered-there}

module _ {K : Type 0} (g : Ghosts K) where
  -- the same nodes
  pub turn-stay : (b c : Store) → tree_turn g c ≡ tree_turn g b → NodesStay g b c
  turn-stay b c same x other = let P : List Spot → Type 0 = λ ss. Each (IsOther x) (map (λ (y : Spot). y.n) ss) in subst P same other

  pub lowered-none : (key : K) (nodes : Store) (above : ℕ) → IsSound g nodes → depth_of nodes ≤ above + 1 → HasLowered g key above nodes nodes
  lowered-none key nodes above sound le = record {
    keeps = keeps-same g nodes sound;
    content = refl;
    keys = each-key-mono g nodes nodes (λ k. Rattle.hfs_fields.specs.Members.In k (Rattle.hfs_btree_edits.specs.KeptKeys.tree_keys g nodes)) (IsKeyOr g nodes key) (λ k is. inr is) (own-keys g nodes);
    header = refl;
    turn = refl;
    levels = λ k. refl;
    way = λ k. refl;
    size = λ n. refl;
    low = λ k lt less. absurd (omega (arith, le, lt, less));
  }

module _ {K : Type 0} (g : Ghosts K) (total : IsTotalOrder g.compare) (key : K) (old mid new : Store) (k n : ℕ) (a : HasLowered g key (suc k) old mid) (at : IsAt g mid key (suc k) n)
    (index_len : (e : List ℕ) → g.is_index e ≡ true → length e ≡ g.INDEX_KEY_LEN + 5) (first : IsAboveFirst g.compare key (tree_content g old)) where
  abbrev IsLowAt : Store → ℕ → Type 0
  IsLowAt nodes x = 0 < prefix_len (is_not_above g key) (records_in nodes x)

  at-old : n ≡ node_for g old key (suc k)
  at-old = at.is ∙ a.way (suc k)

  above-mid : IsAboveFirst g.compare key (tree_content g mid)
  above-mid = let P : Pairs K → Type 0 = λ ps. IsAboveFirst g.compare key ps in subst P (sym a.content) first

  low-next : (nodes : Store) → IsLowAt nodes n → ((x : ℕ) → IsLowAt mid x → IsLowAt nodes x) → (j : ℕ) → k < j → j < depth_of old → IsLowAt nodes (node_for g old key j)
  low-next nodes here there j lt less =
      let P : ℕ → Type 0 = λ x. IsLowAt nodes x in
      let Q : ℕ → Type 0 = λ i. IsLowAt nodes (node_for g old key i) in
      elim (cases_lt (suc k) j) [
        | inl more ↦ there (node_for g old key j) (a.low j more less)
        | inr le ↦ (let is : suc k ≡ j = omega (arith, lt, le) in subst Q is (subst P at-old here))
      ]

  lowered-yes : is_gt (g.compare (g.index_key (record_in mid n 0)) key) ≡ true → HasFirstKey g n key mid new → HasLowered g key k old new
  lowered-yes gt h =
      let turned = lowered-turn g total mid new key n k a.keeps.sound at gt h index_len in
      let own : IsKeyOr g old key key = inl refl in
      record {
        keeps = keeps-then g old mid new a.keeps (lowered-keeps g total mid new key n k a.keeps.sound at gt h index_len above-mid) (turn-stay g mid new turned);
        content = lowered-content g total mid new key n k a.keeps.sound at gt h index_len ∙ a.content;
        keys = keys-hold_with g mid new key (lowered-keys g total mid new key n k a.keeps.sound at gt h index_len) (IsKeyOr g old key) a.keys own;
        header = lowered-header g total mid new key n k a.keeps.sound at gt h index_len ∙ a.header;
        turn = turned ∙ a.turn;
        levels = λ j. lowered-levels g total mid new key n k a.keeps.sound at gt h index_len j ∙ a.levels j;
        way = λ j. lowered-way g total mid new key n k a.keeps.sound at gt h index_len j ∙ a.way j;
        size = λ m. lowered-size g total mid new key n k a.keeps.sound at gt h index_len m ∙ a.size m;
        low = low-next new (lowered-here g total mid new key n k a.keeps.sound at gt h index_len) (lowered-there g total mid new key n k a.keeps.sound at gt h index_len);
      }

  lowered-no : is_gt (g.compare (g.index_key (record_in mid n 0)) key) ≡ false → HasLowered g key k old mid
  lowered-no le = record {
    keeps = a.keeps;
    content = a.content;
    keys = a.keys;
    header = a.header;
    turn = a.turn;
    levels = a.levels;
    way = a.way;
    size = a.size;
    low = low-next mid (first-low g key (records_in mid n) (way-some g mid (suc k) n at.way) le) (λ x is. is);
  }

  -- one level more
  pub lowered-next : HasLowFirst g n key mid new → HasLowered g key k old new
  lowered-next h =
      let P : Store → Type 0 = λ s. HasLowered g key k old s in
      elim (cases_Bool (is_gt (g.compare (g.index_key (record_in mid n 0)) key))) [
        | inl gt ↦ lowered-yes gt (h.lowered gt)
        | inr le ↦ subst P (sym (h.same le)) (lowered-no le)
      ]

  pub at-lower : HasLowFirst g n key mid new → (m : ℕ) → m ≡ child_for g key (records_in mid n) → IsAt g new key k m
  at-lower h m is =
      let b = lowered-next h in
      let lt = at.within in
      let one : suc k - 1 ≡ k = omega arith in
      let deep = ap (λ (x : Header). x.depth) a.header in
      let deep' = ap (λ (x : Header). x.depth) b.header in
      let next = at-next g mid key (suc k) n (omega arith) at in
      let P : ℕ → Type 0 = λ x. IsAt g new key k x in
      let to : node_for g new key k ≡ m = b.way k ∙ sym (a.way k) ∙ ap (node_for g mid key) (sym one) ∙ sym next.is ∙ sym is in
      subst P to (at-level g new key k b.keeps.sound.structure (omega (arith, lt, deep, deep')))

-- ---- the loop

-- a tree with a pair has a level
pub some-levels_above : {K : Type 0} (g : Ghosts K) (key : K) (nodes : Store) → IsAboveFirst g.compare key (tree_content g nodes) → 0 < depth_of nodes
some-levels_above g key nodes above =
    elim (cases_eq (depth_of nodes) 0) [
      | inl none ↦ absurd (let P : Pairs _ → Type 0 = λ ps. IsAboveFirst g.compare key ps in subst P (content-none g nodes none) above)
      | inr some ↦ omega (arith, some)
    ]

pub lower-init : {K : Type 0} (g : Ghosts K) (key : K) (nodes : Store) (h : Header) (here : ℕ) → IsSound g nodes → IsAboveFirst g.compare key (tree_content g nodes) → h ≡ header_in nodes → here ≡ h.depth - 1
    → IsAt g nodes key here h.root × HasLowered g key here nodes nodes
lower-init g key nodes h here sound above is at =
    let some = some-levels_above g key nodes above in
    let same : here ≡ depth_of nodes - 1 = at ∙ ap (λ (x : Header). x.depth - 1) is in
    let P : ℕ → Type 0 = λ j. IsAt g nodes key j (header_in nodes).root in
    let Q : ℕ → Type 0 = λ r. IsAt g nodes key here r in (
      subst Q (sym (ap (λ (x : Header). x.root) is)) (subst P (sym same) (at-root g nodes key sound.structure some)),
      lowered-none g key nodes here sound (omega (arith, same, some)),
    )

module _ {K : Type 0} (g : Ghosts K) (total : IsTotalOrder g.compare) (key : K) (old mid : Store) (index_len : (e : List ℕ) → g.is_index e ≡ true → length e ≡ g.INDEX_KEY_LEN + 5)
    (first : IsAboveFirst g.compare key (tree_content g old)) where
  pub lower-step : (here n : ℕ) → 0 < here → HasLowered g key here old mid → IsAt g mid key here n → (new : Store) → HasLowFirst g n key mid new → HasLowered g key (here - 1) old new
  lower-step zero n some a at new h = absurd (omega (arith, some))
  lower-step (suc k) n some a at new h =
      let one : k ≡ suc k - 1 = omega arith in
      let P : ℕ → Type 0 = λ j. HasLowered g key j old new in
      subst P one (lowered-next g total key old mid new k n a at index_len first h)

  pub at-step : (here n m : ℕ) (bytes : List ℕ) → 0 < here → HasLowered g key here old mid → IsAt g mid key here n → bytes ≡ get_or mid n [] → m ≡ child_for g key (records_of (node_of bytes)) → (new : Store)
      → HasLowFirst g n key mid new → IsAt g new key (here - 1) m
  at-step zero n m bytes some a at read is new h = absurd (omega (arith, some))
  at-step (suc k) n m bytes some a at read is new h =
      let one : k ≡ suc k - 1 = omega arith in
      let P : ℕ → Type 0 = λ j. IsAt g new key j m in
      subst P one (at-lower g total key old mid new k n a at index_len first h m (is ∙ ap (child_for g key) (records-read mid n bytes read)))

-- ---- one node

module _ {K : Type 0} (g : Ghosts K) (key : K) (nodes : Store) (n : ℕ) (bytes : List ℕ) (read : bytes ≡ get_or nodes n []) where
  pub entry-there : 0 < length (records_in nodes n) → length (records_of (node_of bytes)) ≤ 0 → ⊥
  entry-there some none = let same = ap (λ (es : List (List ℕ)). length es) (records-read nodes n bytes read) in omega (arith, same, some, none)

  pub entry-index : (first : List ℕ) → first ≡ get_or (records_of (node_of bytes)) 0 [] → g.is_index (get_or (records_in nodes n) 0 []) ≡ true → g.is_index first ≡ true
  entry-index first at is = ap g.is_index (at ∙ ap (λ (es : List (List ℕ)). get_or es 0 []) (records-read nodes n bytes read)) ∙ is

  pub entry-above : (first : List ℕ) (b : Bool) → first ≡ get_or (records_of (node_of bytes)) 0 [] → b ≡ is_gt (g.compare (g.index_key first) key) → b ≡ is_gt (g.compare (g.index_key (record_in nodes n 0)) key)
  entry-above first b at is = is ∙ ap (λ (e : List ℕ). is_gt (g.compare (g.index_key e) key)) (at ∙ ap (λ (es : List (List ℕ)). get_or es 0 []) (records-read nodes n bytes read))

  pub was-lowered : (new : Store) → true ≡ is_gt (g.compare (g.index_key (record_in nodes n 0)) key) → HasFirstKey g n key nodes new → HasLowFirst g n key nodes new
  was-lowered new gt h = record { lowered = λ e. h; same = λ e. (let no : true ≡ false = gt ∙ e in cc) }

  pub was-low : false ≡ is_gt (g.compare (g.index_key (record_in nodes n 0)) key) → HasLowFirst g n key nodes nodes
  was-low le = record { lowered = λ e. (let no : false ≡ true = le ∙ e in cc); same = λ e. refl }
