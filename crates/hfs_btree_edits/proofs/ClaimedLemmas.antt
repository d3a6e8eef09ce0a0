-- A free node that was marked, and a stray node that was given back.
use Rattle.std.proofs.Common.{◌≡◌, ◌≢◌, ℕ, ◌+◌, ◌-◌, ◌<◌, Bool, true, false, List, ◌++◌, length, get_or, sym, ap, ◌∙◌, subst, arith}
use Rattle.std.specs.Prelude.{not}
use Rattle.std.specs.List.{count_by}
use Rattle.std.proofs.lemmas.List.{get_or-set_same}
use Rattle.std.proofs.lemmas.List.FromFn.{length-map-range_with_len}
use Rattle.hfs_btree.specs.declared.key.Key.{Ghosts}
use Rattle.hfs_fields.specs.Each.{Each}
use Rattle.hfs_fields.proofs.ElementLemmas.{each-mono, each-append, each-map}
use Rattle.hfs_btree.specs.Tree.{Store, Spot}
use Rattle.hfs_btree.specs.Header.{header_in, own_nodes, map_bytes, bit_of, marks, is_marked, free_nodes, tree_turn, tree_nodes}
use Rattle.hfs_btree.specs.Sound.{IsOther, IsRight, IsMarked, IsSound}
use Rattle.hfs_btree_edits.specs.Stored.{HasClaimed}
use Rattle.hfs_btree_edits.proofs.PartBitLemmas.{count-set}
use Rattle.hfs_btree_edits.proofs.RemarkedLemmas.{IsRemarked}
use Rattle.hfs_btree_edits.proofs.ResoundedLemmas.{nodes-same, turn-same, content-same, all-same, remarked-sound, remarked-exact, remarked-strays}

pub marks-long : (nodes : Store) → length (marks nodes) ≡ (header_in nodes).nodes
unfolding marks
marks-long nodes = length-map-range_with_len (bit_of (map_bytes nodes)) 0 (header_in nodes).nodes

module _ {K : Type 0} (g : Ghosts K) (n free : ℕ) (old new : Store) (sound : IsSound g old) (d : IsRemarked g n true free old new) (clear : is_marked old n ≡ false) (lt : n < (header_in old).nodes)
    (less : free + 1 ≡ (header_in old).free_nodes) where
  not-free : (m : ℕ) → IsMarked old m → m ≢ n
  not-free m h e = let bad : true ≡ false = sym h ∙ ap (is_marked old) e ∙ clear in cc

  others : Each (λ m. m ≢ n) (own_nodes old ++ tree_nodes g old)
  others =
      each-append (λ m. m ≢ n) (own_nodes old) (tree_nodes g old) (each-mono (IsMarked old) (λ m. m ≢ n) (own_nodes old) not-free sound.structure.map.marked)
      (each-map (λ m. m ≢ n) (λ (s : Spot). s.n) (tree_turn g old) (each-mono (IsRight g old) (λ (s : Spot). s.n ≢ n) (tree_turn g old) (λ s r. not-free s.n r.marked) sound.structure.levels.each))

  within : n < length (marks old)
  within = let long = marks-long old in omega (arith, lt, long)

  one-less : free_nodes old ≡ free_nodes new + 1
  unfolding free_nodes
  one-less = count-set (marks old) n within clear ∙ ap (λ (bs : List Bool). count_by not bs + 1) (sym d.marks)

  counted : free ≡ free_nodes new
  counted = let a = one-less in let c = sound.counts.free in omega (arith, a, c, less)

  fresh-mark : IsMarked new n
  fresh-mark = ap (λ (bs : List Bool). get_or bs n false) d.marks ∙ get_or-set_same (marks old) n true false within

  pub claimed : HasClaimed g n old new
  claimed =
      let P : List ℕ → Type 0 = λ ns. Each (IsOther n) ns in
      let gone : free ≡ (header_in old).free_nodes - 1 = omega (arith, less) in
      record {
        sound = remarked-sound g n true free old new d sound others counted;
        exact = remarked-exact g n true free old new d sound others;
        content = content-same g n true free old new d sound others;
        len = d.len;
        header = d.header ∙ ap (λ (f : ℕ). record (header_in old) { free_nodes = f }) gone;
        free = sym one-less;
        turn = turn-same g n true free old new d sound others;
        nodes = nodes-same g n true free old new d sound others;
        map = d.map;
        map_length = d.map_length;
        stray = record { marked = fresh-mark; other = subst P (sym (all-same g n true free old new d sound others)) others };
        fresh = λ s. let bad : true ≡ false = sym s.marked ∙ clear in cc;
        strays = λ m ne. remarked-strays g n true free old new d sound others m ne;
        bytes = d.bytes;
      }
