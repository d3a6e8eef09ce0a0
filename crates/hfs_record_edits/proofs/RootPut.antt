-- A record that was put into the root of a tree of one level.
use Rattle.std.proofs.Common.{◌≡◌, ℕ, ◌+◌, ◌-◌, ◌<◌, ◌≤◌, List, [], length, get_or, drop, sym, ap, ◌∙◌, subst, arith, None}
use Rattle.std.specs.Prelude.{true}
use Rattle.std.specs.Cmp.{IsTotalOrder}
use Rattle.hfs_btree.specs.Node.{node_of, size_of}
use Rattle.hfs_btree.specs.declared.header.Header.{Header}
use Rattle.hfs_btree.specs.declared.key.Key.{Ghosts}
use Rattle.hfs_fields.specs.Each.{Each}
use Rattle.hfs_btree.specs.Pairs.{lookup, pairs_from}
use Rattle.hfs_btree.specs.LeafPairs.{IsPlaceFrom}
use Rattle.hfs_btree.specs.Tree.{Store, records_in, records_of}
use Rattle.hfs_btree.specs.Header.{header_in, record_in, depth_of, tree_content}
use Rattle.hfs_btree.specs.Sound.{IsSound}
use Rattle.hfs_btree.specs.Search.{leaf_for, leaf_under, IsLowWay}
use Rattle.hfs_btree.proofs.SearchLemmas.{IsLeafFor}
use Rattle.hfs_btree.proofs.DecodedLemmas.{records-read}
use Rattle.hfs_btree.proofs.DescentLemmas.{leaf-found, leaf-node}
use Rattle.hfs_btree.proofs.FoundLemmas.{found-entries}
use Rattle.hfs_btree_edits.specs.Stored.{Decodes, HasHeaderPut}
use Rattle.hfs_btree_edits.proofs.DecodesLemmas.{decodes-as, decodes-within}
use Rattle.hfs_btree_edits.proofs.OwnLemmas.{own-header}
use Rattle.hfs_btree_insertion.specs.Stored.{HasRecordPut, HasPut}
use Rattle.hfs_btree_insertion.proofs.PutWhole.{put-whole, mid-own, mid-long, from-read}

module _ {K : Type 0} (g : Ghosts K) (total : IsTotalOrder g.compare) (key : K) (old : Store) (sound : IsSound g old) (one : depth_of old ≡ 1) (h : Header) (is : h ≡ header_in old) where
  some : 0 < depth_of old
  some = omega (arith, one)

  pub root-is : h.root ≡ leaf_for g old key
  root-is =
      let top : 0 ≡ depth_of old - 1 = omega (arith, one) in
      ap (λ (x : Header). x.root) is ∙ ap (λ (j : ℕ). leaf_under g old key j (header_in old).root) top

  at : IsLeafFor g old key h.root
  at = let P : ℕ → Type 0 = λ n. IsLeafFor g old key n in subst P (sym root-is) (leaf-found g old sound total key some)

  low : IsLowWay g old key (depth_of old - 1) (header_in old).root
  low =
      let top : 0 ≡ depth_of old - 1 = omega (arith, one) in
      let P : ℕ → Type 0 = λ j. IsLowWay g old key j (header_in old).root in
      subst P top tt

  pub root-decodes : Decodes old h.root
  root-decodes = let leaf = leaf-node g old sound.structure at.before h.root at.behind at.split in decodes-as old h.root leaf.1.value leaf.1.decodes

  pub root-within : h.root < length old
  root-within = decodes-within old h.root root-decodes

  module _ (bytes : List ℕ) (read : bytes ≡ get_or old h.root []) where
    pub root-entries : Each (λ e. g.is_leaf e ≡ true) (records_of (node_of bytes))
    root-entries = found-entries g total old key sound some h.root root-is bytes read

    pub root-place : (place : ℕ) → place ≤ length (records_of (node_of bytes)) → place ≤ length (records_in old h.root)
    root-place place le = let same = ap (λ (es : List (List ℕ)). length es) (records-read old h.root bytes read) in omega (arith, same, le)

    pub root-room : (len : ℕ) → size_of (records_in old (header_in old).root) + (len + 2) ≤ 496 → size_of (records_in old h.root) + (len + 2) ≤ 496
    root-room len room = let same = ap (λ (x : Header). size_of (records_in old x.root)) is in omega (arith, same, room)

    module _ (place : ℕ) (entry : List ℕ) (leaf : g.is_leaf entry ≡ true) (keyed : g.leaf_key entry ≡ key) (absent : lookup g.compare key (tree_content g old) ≡ None)
        (within : place ≤ length (records_of (node_of bytes))) (from : IsPlaceFrom g bytes key place) (mid : Store) (put : HasRecordPut h.root place entry old mid) where
      inside : place ≤ length (records_in old h.root)
      inside = root-place place within

      abbrev behind : drop place (Rattle.hfs_btree.specs.Tree.pairs g old h.root) ≡ pairs_from g.compare key (Rattle.hfs_btree.specs.Tree.pairs g old h.root)
      behind = from-read g old key h.root place bytes read from

      pub root-long : (0 < length mid) × (30 ≤ length (record_in mid 0 0))
      root-long = mid-long g total key old mid old h.root place entry sound some at (sym root-is) low leaf keyed absent inside behind put

      pub root-put : (c : Header) (new : Store) → c ≡ record h { records = h.records + 1 } → HasHeaderPut c mid new → HasPut g key (drop (g.body_start entry) entry) old new
      root-put c new counted header =
          let same = own-header old mid (mid-own g total key old mid old h.root place entry sound some at (sym root-is) low leaf keyed absent inside behind put) in
          let to = counted ∙ ap (λ (x : Header). record x { records = x.records + 1 }) (is ∙ sym same) in
          let P : Header → Type 0 = λ x. HasHeaderPut x mid new in
          put-whole g total key old mid new h.root place entry sound some at (sym root-is) low leaf keyed absent inside behind put (subst P to header)
