-- A pair that is taken out together with the nodes that held nothing else.
use Rattle.std.proofs.Common.{◌≡◌, ◌≢◌, ℕ, zero, suc, ◌<◌, ◌≤◌, List, [], ◌∷◌, ◌++◌, length, map, get_or, refl, sym, ap, ◌∙◌, subst, arith, length-append}
use Rattle.std.specs.Prelude.{Ok, remove, Option, Some, None, ◌==◌, if◌then◌else◌}
use Rattle.std.specs.List.{flat_map}
use Rattle.std.specs.Cmp.{IsTotalOrder}
use Rattle.std.specs.declared.cmp.Ordering.TheVariants.{Less, Equal}
use Rattle.hfs_btree.specs.declared.node.Node.{Node}
use Rattle.hfs_btree.specs.declared.kind.NodeKind.TheVariants.{Leaf, Index}
use Rattle.hfs_btree_removal.specs.declared.down.Step.{Step}
use Rattle.hfs_btree.specs.declared.header.Header.{Header}
use Rattle.hfs_btree.specs.declared.key.Key.{Ghosts}
use Rattle.hfs_btree.specs.Pairs.{Pairs}
use Rattle.hfs_fields.specs.Each.{Each}
use Rattle.hfs_fields.specs.Members.{In}
use Rattle.hfs_fields.proofs.MemberLemmas.{each_in}
use Rattle.hfs_btree.specs.Tree.{Store, Spot, node_in, records_in, records_of, children, pair_of, pairs, first_of, last_of, spots, under}
use Rattle.hfs_btree.specs.Header.{header_in, record_in, depth_of, leaves, own_nodes, tree_turn, tree_nodes}
use Rattle.hfs_btree.specs.Sound.{IsOther, IsRight, IsSound, IsExact, AreKeysInOrder, first_key}
use Rattle.hfs_btree_removal.proofs.RemovalLemmas.{HasTold}
use Rattle.hfs_btree_removal.specs.Removal.{IsPassedUp, HasTakenOut, HasDetached, AreUnlinkable, AreStepsUnlinked, AreReleased, AreSettable, AreStray, IsWayBelow, fewer, last_left, last_right, backward_of}
use Rattle.hfs_btree_edits.proofs.StoredLemmas.{HasNewHeader}
use Rattle.hfs_btree_edits.specs.Stored.{bytes_in}
use Rattle.hfs_fields.proofs.ElementLemmas.{each-left, each-right, each-unmap}
use Rattle.hfs_btree_removal.specs.Ways.{IsWayTo}
use Rattle.hfs_btree.proofs.LevelLemmas.{each-spots}
use Rattle.hfs_btree_removal.proofs.Chains.{Cut, with_node, IsChain, bottom}
use Rattle.hfs_btree_removal.proofs.CutsUnlinked.{AreAt, beside-all, cuts-unlinked, all-can, left-is, right-is}
use Rattle.hfs_btree_removal.proofs.Detached.{IsDetached, others, old-numbers}
use Rattle.hfs_btree_removal.proofs.DetachedOrder.{at-bottom, new-leaves, old-leaves, old-content, gone, sound-is}
use Rattle.hfs_btree_removal.proofs.ExactBut.{IsExactBut, detached-exact, exact-for}
use Rattle.hfs_btree_removal.proofs.Firsts.{at-level}
use Rattle.hfs_btree_edits.specs.LevelParts.{lift}
use Rattle.hfs_btree_edits.proofs.LevelPartLemmas.{lift-is, numbers}
use Rattle.hfs_btree_removal.proofs.Links.{last_or}
use Rattle.hfs_btree_removal.proofs.Overs.{in-flat, in-chain, parts-second}
use Rattle.hfs_btree_removal.proofs.Parting.{CS, bc, hc, levels, some-below, distinct-below, same-p, fields, has-header, was-p, is-p, kept-U, kept-before, kept-behind, gaps-three, stray-chain}
use Rattle.hfs_btree_removal.proofs.Passed.{high}
use Rattle.hfs_btree_removal.proofs.StepsUnlinked.{unlinked-bytes}
use Rattle.hfs_btree_removal.proofs.Removed.{removed-keeps, removed-gains, removed-content, removed-free, removed-depth}
use Rattle.hfs_btree_removal.proofs.ReleasedSteps.{nodes-of}
use Rattle.hfs_btree_removal.proofs.Unlinked.{HasGaps, Some as IsSome, all-gaps}
use Rattle.hfs_btree_removal.proofs.WayLevels.{high-is, chain-of, at-cuts, bottom-is, final, left-final, right-final}
use Rattle.hfs_btree_removal.proofs.WayOut.{parts, deep-by, at, within, many, equal-final, settable3, told4, exact4, first-stays}
use Rattle.hfs_btree_removal.proofs.Ends.{first-end, last-end, CanTake, can-take, at-nodes, stray-steps}

module _ {K : Type 0} (g : Ghosts K) (total : IsTotalOrder g.compare) (old : Store) (sound : IsSound g old) (above : List Step) (p s : Step) (bs : List Step) (w : IsWayBelow g old above p (s ∷ bs)) where
  abbrev ss : List Step
  ss = s ∷ bs

  abbrev i : ℕ
  i = high above zero

  abbrev k : ℕ
  k = high bs zero

  abbrev c : ℕ
  c = g.child (get_or (records_in old p.node) p.place [])

  pub deep : depth_of old ≡ suc (lift i (suc k))
  deep = deep-by g old above p ss w (suc k) (let e = high-is bs zero in omega arith)

  abbrev b : List ℕ
  b = (at g old above p ss w).before

  abbrev h : List ℕ
  h = (at g old above p ss w).behind

  pub chain : IsChain g old k c
  chain = chain-of g old s bs c (parts g old above p ss w).2 w.ones

  abbrev cuts' : List Cut
  cuts' = CS g old sound.structure i k deep b p.node h (at g old above p ss w).split p.place (within g old above p ss w) chain

  abbrev front : List ℕ
  front = bc g old sound.structure i k deep b p.node h (at g old above p ss w).split p.place (within g old above p ss w) chain

  abbrev back : List ℕ
  back = hc g old sound.structure i k deep b p.node h (at g old above p ss w).split p.place (within g old above p ss w) chain

  at-chain : AreAt cuts' ss
  at-chain = at-cuts g old s bs c front back (parts g old above p ss w).2 w.ones

  are-levels : Each (λ cut. Each (IsRight g old) (with_node cut)) cuts'
  are-levels = levels g old sound.structure i k deep b p.node h (at g old above p ss w).split p.place (within g old above p ss w) chain

  are-some : Each IsSome (Rattle.hfs_btree_edits.proofs.LevelPartLemmas.numbers (flat_map with_node cuts'))
  are-some = some-below g old sound.structure i k deep b p.node h (at g old above p ss w).split p.place (within g old above p ss w) chain

  are-distinct : Rattle.hfs_btree.specs.Sound.IsDistinct (Rattle.hfs_btree_edits.proofs.LevelPartLemmas.numbers (flat_map with_node cuts'))
  are-distinct = distinct-below g old sound.structure i k deep b p.node h (at g old above p ss w).split p.place (within g old above p ss w) chain

  pub chain-can : AreUnlinkable old ss
  chain-can = all-can g old cuts' ss at-chain are-levels are-some are-distinct

  module _ (one : Store) (u : AreStepsUnlinked old ss old one) where
    pub gaps : HasGaps cuts' old one
    gaps = all-gaps cuts' old one are-some are-distinct (cuts-unlinked g old cuts' ss old one at-chain are-levels u)

    spot : (l : ℕ) × IsRight g old (record { left = l; n = p.node; right = first_of h; above = suc k })
    spot = at-level g old i (suc k) deep b p.node h (at g old above p ss w).split (IsRight g old) sound.structure.levels.each

    pub one-p : node_in one p.node ≡ node_in old p.node
    one-p = same-p g old sound.structure i k deep b p.node h (at g old above p ss w).split p.place (within g old above p ss w) chain one gaps

    pub chain-take : CanTake g one p
    chain-take = can-take g old one p (parts g old above p ss w).1 w.more one-p spot.0 (first_of h) (suc k) spot.1

  module _ (three : Store) (changed : Option K) (d : HasDetached g p ss old three changed) where
    gaps' : HasGaps cuts' old d.one
    gaps' = gaps d.one d.links

    abbrev left : ℕ
    left = last_left old ss

    abbrev right : ℕ
    right = last_right old ss

    abbrev head : Header
    head = fewer (header_in old) left right (length ss)

    head3 : header_in three ≡ head
    head3 = fields g old sound.structure i k deep b p.node h (at g old above p ss w).split p.place (within g old above p ss w) chain d.one gaps' d.two three d.taken head d.put

    new-head : HasNewHeader g old three
    new-head = has-header g old sound.structure i k deep b p.node h (at g old above p ss w).split p.place (within g old above p ss w) chain d.one gaps' d.two three d.taken head d.put refl refl refl (omega arith)

    own-was : node_in old p.node ≡ Ok d.taken.value
    own-was = was-p g old sound.structure i k deep b p.node h (at g old above p ss w).split p.place (within g old above p ss w) chain d.one gaps' d.two three d.taken head d.put

    own-records : records_in old p.node ≡ d.taken.value.records
    own-records = ap records_of own-was

    abbrev det : IsDetached g old three i k p.node p.place
    det = record {
      deep = deep;
      before = b;
      behind = h;
      level = (at g old above p ss w).split;
      value = d.taken.value;
      was = own-was;
      within = (let P : List (List ℕ) → Type 0 = λ rs. p.place < length rs in subst P own-records (within g old above p ss w));
      more = (let P : List (List ℕ) → Type 0 = λ rs. 2 ≤ length rs in subst P own-records (many g old above p ss w));
      chain = chain;
      is = is-p g old sound.structure i k deep b p.node h (at g old above p ss w).split p.place (within g old above p ss w) chain d.one gaps' d.two three d.taken head d.put;
      uppers = kept-U g old sound.structure i k deep b p.node h (at g old above p ss w).split p.place (within g old above p ss w) chain d.one gaps' d.two three d.taken head d.put;
      before_kept = kept-before g old sound.structure i k deep b p.node h (at g old above p ss w).split p.place (within g old above p ss w) chain d.one gaps' d.two three d.taken head d.put;
      behind_kept = kept-behind g old sound.structure i k deep b p.node h (at g old above p ss w).split p.place (within g old above p ss w) chain d.one gaps' d.two three d.taken head d.put;
      gaps = gaps-three g old sound.structure i k deep b p.node h (at g old above p ss w).split p.place (within g old above p ss w) chain d.one gaps' d.two three d.taken head d.put;
      head = new-head;
      depth = ap (λ (x : Header). x.depth) head3;
      root = ap (λ (x : Header). x.root) head3;
    }

    abbrev bot : Cut
    bot = bottom g old k front c back

    -- ---- the ends

    bottom-level : Each (IsRight g old) (with_node bot)
    bottom-level = at-bottom g old (λ cut. Each (IsRight g old) (with_node cut)) k front c back are-levels

    bottom-final : (bot.n ≡ (final s bs).node) × ((final s bs).place ≡ 0)
    bottom-final = bottom-is g old s bs c front back (parts g old above p ss w).2 w.ones

    left-end : left ≡ last_or 0 bot.front
    left-end = left-final old s bs ∙ ap (λ (n : ℕ). backward_of (node_in old n)) (sym bottom-final.0) ∙ left-is g old bot bottom-level

    right-end : right ≡ first_of bot.back
    right-end = right-final old s bs ∙ ap (λ (n : ℕ). Rattle.hfs_btree.specs.Tree.forward_of (node_in old n)) (sym bottom-final.0) ∙ right-is g old bot bottom-level

    some-bottom : Each IsSome (bot.front ++ bot.n ∷ bot.back)
    some-bottom = each-spots (IsRight g old) IsSome bot.above (λ l n r x e. absurd (let a = x.within.0 in omega arith)) 0 (bot.front ++ bot.n ∷ bot.back) bottom-level

    leaves-old : leaves g old ≡ bot.front ++ bot.n ∷ bot.back
    leaves-old = old-leaves g total old three i k p.node p.place det sound

    leaves-new : leaves g three ≡ bot.front ++ bot.back
    leaves-new = new-leaves g total old three i k p.node p.place det sound

    first-is : (header_in three).first_leaf ≡ first_of (leaves g three)
    first-is =
        ap (λ (x : Header). x.first_leaf) head3
        ∙ ap (λ (m : ℕ). if m == 0 then right else (header_in old).first_leaf) left-end
        ∙ ap (λ (m : ℕ). if last_or 0 bot.front == 0 then m else (header_in old).first_leaf) right-end
        ∙ first-end bot.front bot.n bot.back (header_in old).first_leaf some-bottom (sound.structure.ends.first ∙ ap first_of leaves-old)
        ∙ sym (ap first_of leaves-new)

    last-is : (header_in three).last_leaf ≡ last_of (leaves g three)
    last-is =
        ap (λ (x : Header). x.last_leaf) head3
        ∙ ap (λ (m : ℕ). if m == 0 then left else (header_in old).last_leaf) right-end
        ∙ ap (λ (m : ℕ). if first_of bot.back == 0 then m else (header_in old).last_leaf) left-end
        ∙ last-end bot.front bot.n bot.back (header_in old).last_leaf some-bottom (sound.structure.ends.last ∙ ap last_of leaves-old)
        ∙ sym (ap last_of leaves-new)

    abbrev x : K × List ℕ
    x = gone g total old three i k p.node p.place det sound

    some-records : 1 ≤ (header_in old).records
    some-records =
        let a = sound.counts.records in
        let e = ap (λ (ps : Pairs K). length ps) (old-content g total old three i k p.node p.place det sound) in
        omega (arith, a, e, length-append (flat_map (pairs g old) bot.front) (x ∷ flat_map (pairs g old) bot.back))

    pub chain-sound : IsSound g three
    chain-sound =
        sound-is g total old three i k p.node p.place det sound first-is last-is (let e = ap (λ (y : Header). y.records) head3 in let a = some-records in omega arith)
        (ap (λ (y : Header). y.free_nodes) head3)

    -- ---- the key that is told

    in-x : In x (under g old (suc k) p.node)
    in-x = in-flat g old x (under g old k) (records_in old p.node) p.place (within g old above p ss w) (in-chain g old k front c back chain)

    pub chain-settable : AreSettable g three above
    chain-settable = settable3 g old above p ss w total sound (suc k) deep three chain-sound det.depth det.root det.uppers

    keys-p : AreKeysInOrder g old (suc k) p.node
    keys-p = (at-level g old i (suc k) deep b p.node h (at g old above p ss w).split (λ spot. AreKeysInOrder g old spot.above spot.n) sound.ordered.keys).1

    spot-p : (l : ℕ) × IsRight g old (record { left = l; n = p.node; right = first_of h; above = suc k })
    spot-p = at-level g old i (suc k) deep b p.node h (at g old above p ss w).split (IsRight g old) sound.structure.levels.each

    same-es : records_in old p.node ≡ det.value.records
    same-es = ap records_of det.was

    not-leaf : det.value.kind ≢ Leaf
    not-leaf e = index-leaf (sym spot-p.1.kind ∙ ap (λ (v : Node). v.kind) (Rattle.hfs_btree_removal.proofs.Ends.same-value spot-p.1.value det.value (node_in old p.node) spot-p.1.decodes det.was) ∙ e)
      where
        index-leaf : Index ≡ Leaf → ⊥
        index-leaf e' = cc

    module _ (t : K) (is : changed ≡ Some t) where
      told-key : (p.place ≡ 0) × ((v : Node) → node_in d.two p.node ≡ Ok v → (v.kind ≡ Leaf → t ≡ g.leaf_key (get_or v.records 0 [])) × (v.kind ≢ Leaf → t ≡ g.index_key (get_or v.records 0 [])))
      told-key = let P : Option K → Type 0 = λ o. Rattle.hfs_btree_removal.specs.Removal.IsNewFirst g p d.two o in subst P is d.first

      key-is : t ≡ g.index_key (get_or (remove det.value.records p.place) 0 [])
      key-is = (told-key.1 (record (d.taken.value) { records = remove d.taken.value.records p.place }) d.taken.stored.here).1 not-leaf

      first-key : t ≡ first_key g three (suc k) p.node
      first-key = key-is ∙ sym (ap (λ r. g.index_key (get_or (records_of r) 0 [])) det.is)

      past : g.compare x.0 t ≡ Less
      past =
          let rs = records_in old p.node in
          let all = parts-second g.compare g.index_key (λ e. under g old k (g.child e)) [] rs keys-p (many g old above p ss w) in
          let P : ℕ → Type 0 = λ q. In x (under g old k (g.child (get_or rs q []))) in
          let here = each_in (λ y. g.compare y.0 (g.index_key (get_or (remove rs 0) 0 [])) ≡ Less) (under g old k (g.child (get_or rs 0 []))) x all (subst P told-key.0 (in-chain g old k front c back chain)) in
          let Q : K → Type 0 = λ y. g.compare x.0 y ≡ Less in
          let e : g.index_key (get_or (remove rs 0) 0 []) ≡ t =
          ap (λ (es : List (List ℕ)). g.index_key (get_or (remove es 0) 0 [])) same-es
          ∙ ap (λ (q : ℕ). g.index_key (get_or (remove det.value.records q) 0 [])) (sym told-key.0)
          ∙ sym key-is in
          subst Q e here

      module _ (four : Store) (up : IsPassedUp g t above three four) where
        pub chain-told : HasTold g three four
        chain-told = told4 g old above p ss w total sound (suc k) deep three chain-sound det.depth det.root det.uppers x in-x t past first-key four up

        but : IsExact g old → IsExactBut g three p.node
        but e = detached-exact g old three i k p.node p.place det sound e (λ n. n ≢ p.node) (λ ne. absurd (ne refl))

        pub chain-exact : IsExact g old → IsExact g four
        chain-exact e = exact4 g old above p ss w total sound (suc k) deep three chain-sound det.depth det.root det.uppers x in-x t past first-key four up (but e)

    pub chain-same : changed ≡ None → IsExact g old → IsExact g three
    chain-same is e =
        let P : Option K → Type 0 = λ o. Rattle.hfs_btree_removal.specs.Removal.IsNewFirst g p d.two o in
        let later : 0 < p.place = subst P is d.first in
        let same : record_in three p.node 0 ≡ record_in old p.node 0 =
        ap (λ r. get_or (records_of r) 0 []) det.is ∙ first-stays det.value.records p.place later ∙ sym (ap (λ (es : List (List ℕ)). get_or es 0 []) same-es) in
        exact-for g three (λ n. Unit {0}) (λ n. tt) (detached-exact g old three i k p.node p.place det sound e (λ n. Unit {0}) (λ u. same))

    len3 : length three ≡ length old
    len3 = d.put.stored.len ∙ d.taken.stored.len ∙ gaps'.len

    -- beside header node and levels nothing was written
    beside : (m : ℕ) → Each (IsOther m) (own_nodes old ++ tree_nodes g old) → bytes_in three m ≡ bytes_in old m
    beside m o =
        let own = each-left (IsOther m) (own_nodes old) (tree_nodes g old) o in
        let levels = each-unmap (IsOther m) (λ (u : Spot). u.n) (tree_turn g old) (each-right (IsOther m) (own_nodes old) (tree_nodes g old) o) in
        let at-p = at-level g old i (suc k) deep b p.node h (at g old above p ss w).split (λ (u : Spot). IsOther m u.n) levels in
        let P : List ℕ → Type 0 = λ ns. Each (IsOther m) ns in
        let below = each-right (IsOther m) (others g old three i k p.node p.place det sound.structure) (numbers (flat_map with_node cuts')) (subst P (old-numbers g old three i k p.node p.place det sound.structure) o) in
        let some : m ≢ 0 = λ e. own.0 (sym e) in
        d.put.stored.bytes m some
        ∙ d.taken.stored.bytes m (λ e. at-p.1 (sym e))
        ∙ unlinked-bytes old ss old d.one d.links m (beside-all g old m some cuts' ss at-chain are-levels are-distinct below)

    -- ---- the chain is given back

    module _ (four : Store) (told : HasTold g three four) where
      each-stray : (cs : List Cut) → Each (λ (cut : Cut). Rattle.hfs_btree.specs.Sound.IsStray g three cut.n) cs → Each (λ (cut : Cut). Rattle.hfs_btree.specs.Sound.IsStray g four cut.n) cs
      each-stray [] a = tt
      each-stray (cut ∷ cs) a = ((told.frame.stray cut.n).1 a.0, each-stray cs a.1)

      pub chain-stray : AreStray g four ss
      chain-stray = stray-steps g old four (told.frame.file ∙ len3) cuts' ss at-chain chain-can (each-stray cuts' (stray-chain g old three i k p.node p.place det sound.structure)) are-distinct

      module _ (exact : IsExact g old → IsExact g four) (new : Store) (given : AreReleased g (nodes-of ss) four new) where
        given' : AreReleased g (map (λ (cut : Cut). cut.n) cuts') four new
        given' = let P : List ℕ → Type 0 = λ ns. AreReleased g ns four new in subst P (at-nodes cuts' ss at-chain) given

        equal : (t : K) → IsWayTo g old t (above ++ p ∷ ss) → g.compare t x.0 ≡ Equal
        equal t way =
            let P : ℕ → Type 0 = λ n. g.compare t (g.leaf_key (get_or (records_in old n) 0 [])) ≡ Equal in
            let Q : ℕ → Type 0 = λ q. g.compare t (g.leaf_key (get_or (records_in old (final s bs).node) q [])) ≡ Equal in
            subst P (sym bottom-final.0) (subst Q bottom-final.1 (equal-final g old above p ss w t way))

        pub chain-out : HasTakenOut g (above ++ p ∷ ss) old new
        chain-out = record {
          gains = removed-gains g total old three four new i k p.node p.place det sound len3 told exact given' beside;
          keeps = removed-keeps g total old three four new i k p.node p.place det sound len3 told exact given';
          content = λ t way. removed-content g total old three four new i k p.node p.place det sound len3 told exact given' t (equal t way);
          depth = let e = removed-depth g total old three four new i k p.node p.place det sound len3 told exact given' in omega arith;
          free = removed-free g total old three four new i k p.node p.place det sound len3 told exact given';
        }
