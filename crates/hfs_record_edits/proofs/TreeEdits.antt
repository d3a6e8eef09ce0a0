-- What edits of a fork's records keep of the tree, one after the other.
use Rattle.std.proofs.Common.{◌≡◌, ℕ, ◌++◌, drop, refl, ap, ◌∙◌, subst, inl, inr}
use Rattle.hfs_fields.specs.declared.key.ExtKey.{ExtKey}
use Rattle.hfs_fields.specs.Members.{In}
use Rattle.hfs_fields.proofs.ElementLemmas.{each-append, each-left, each-right}
use Rattle.hfs_btree.specs.Tree.{Store}
use Rattle.hfs_btree.specs.Header.{own_nodes, tree_nodes}
use Rattle.hfs_btree.specs.Sound.{IsOther, IsStray}
use Rattle.hfs_btree_edits.specs.Edits.{KeepsTree}
use Rattle.hfs_btree_edits.specs.KeptKeys.{tree_keys, EachKey, IsKeyOr}
use Rattle.hfs_btree_edits.specs.Stored.{bytes_in}
use Rattle.hfs_btree_edits.proofs.BehindLemmas.{nodes-behind}
use Rattle.hfs_btree_edits.proofs.KeptKeyLemmas.{own-keys, key-holds, each-key-mono}
use Rattle.hfs_btree_insertion.proofs.Steps.{frame-then}
use Rattle.hfs_space.specs.TreeKeys.{ext_keys, IsExtentsTree, overflow_of}
use Rattle.hfs_record_edits.specs.Dropped.{HasShrunk}
use Rattle.hfs_record_edits.specs.Whole.{KeepsOtherRecords, IsKeyOfOr, EditsFork}
use Rattle.hfs_record_edits.proofs.RecordLemmas.{same-records}

module _ (file fork : ℕ) where
  pub edits-none : (nodes : Store) → IsExtentsTree nodes → EditsFork file fork nodes nodes
  edits-none nodes sound = record {
    sound = sound;
    exact = λ e. e;
    frame = record { file = refl; nodes = refl; map = refl; map_length = refl; stray = λ m. (λ s. s, λ s. s) };
    keys = each-key-mono ext_keys nodes nodes (λ k. In k (tree_keys ext_keys nodes)) (IsKeyOfOr file fork nodes) (λ k is. inr is) (own-keys ext_keys nodes);
    nodes = refl;
    stray = λ n is. refl;
    behind = refl;
    records = λ f k apart. refl;
    others = λ f k first apart. refl;
  }

  key-then : (old mid : Store) → EachKey ext_keys (IsKeyOfOr file fork old) mid → (k : ExtKey) → IsKeyOfOr file fork mid k → IsKeyOfOr file fork old k
  key-then old mid keys k (inl own) = inl own
  key-then old mid keys k (inr is) = key-holds ext_keys mid (IsKeyOfOr file fork old) keys k is

  pub edits-then : (old mid new : Store) → EditsFork file fork old mid → EditsFork file fork mid new → EditsFork file fork old new
  edits-then old mid new a b = record {
    sound = b.sound;
    exact = λ e. b.exact (a.exact e);
    frame = frame-then ext_keys old mid new a.frame b.frame;
    keys = each-key-mono ext_keys mid new (IsKeyOfOr file fork mid) (IsKeyOfOr file fork old) (key-then old mid a.keys) b.keys;
    nodes = b.nodes ∙ a.nodes;
    stray = λ n is. b.stray n ((a.frame.stray n).1 is) ∙ a.stray n is;
    behind = subst (λ (n : ℕ). drop n new ≡ drop n mid) a.frame.nodes b.behind ∙ a.behind;
    records = λ f k apart. b.records f k apart ∙ a.records f k apart;
    others = λ f k first apart. b.others f k first apart ∙ a.others f k first apart;
  }

  -- a stray node is of no level before or afterwards
  stray-stays : (old new : Store) → KeepsTree ext_keys old new → (n : ℕ) → IsStray ext_keys old n → bytes_in new n ≡ bytes_in old n
  stray-stays old new keeps n is =
      let was = is.other in
      let still = ((keeps.frame.stray n).1 is).other in
      keeps.rest n
      (each-append (IsOther n) (own_nodes old) (tree_nodes ext_keys old ++ tree_nodes ext_keys new) (each-left (IsOther n) (own_nodes old) (tree_nodes ext_keys old) was)
      (each-append (IsOther n) (tree_nodes ext_keys old) (tree_nodes ext_keys new) (each-right (IsOther n) (own_nodes old) (tree_nodes ext_keys old) was)
      (each-right (IsOther n) (own_nodes new) (tree_nodes ext_keys new) still)))

  key-of : (old : Store) (key : ExtKey) → key.file ≡ file → key.fork ≡ fork → (k : ExtKey) → IsKeyOr ext_keys old key k → IsKeyOfOr file fork old k
  key-of old key f g k (inl e) = inl (ap (λ (x : ExtKey). x.file) e ∙ f, ap (λ (x : ExtKey). x.fork) e ∙ g)
  key-of old key f g k (inr is) = inr is

  -- an edit under a key of the fork
  pub edits-kept : (old new : Store) (key : ExtKey) → IsExtentsTree old → KeepsTree ext_keys old new → EachKey ext_keys (IsKeyOr ext_keys old key) new → key.file ≡ file → key.fork ≡ fork
      → KeepsOtherRecords file fork old new → EditsFork file fork old new
  edits-kept old new key sound keeps keys f g records = record {
    sound = keeps.sound;
    exact = keeps.exact;
    frame = keeps.frame;
    keys = each-key-mono ext_keys old new (IsKeyOr ext_keys old key) (IsKeyOfOr file fork old) (key-of old key f g) keys;
    nodes = keeps.free;
    stray = stray-stays old new keeps;
    behind = nodes-behind ext_keys old new sound keeps;
    records = records;
    others = λ f k first apart. same-records f k (overflow_of new) (overflow_of old) first (records f k apart);
  }

  -- records of the fork that went
  pub edits-shrunk : (old new : Store) → HasShrunk ext_keys old new → KeepsOtherRecords file fork old new → EditsFork file fork old new
  edits-shrunk old new shrunk records = record {
    sound = shrunk.sound;
    exact = shrunk.exact;
    frame = shrunk.frame;
    keys = each-key-mono ext_keys old new (λ k. In k (tree_keys ext_keys old)) (IsKeyOfOr file fork old) (λ k is. inr is) shrunk.keys;
    nodes = shrunk.nodes;
    stray = shrunk.stray;
    behind = shrunk.behind;
    records = records;
    others = λ f k first apart. same-records f k (overflow_of new) (overflow_of old) first (records f k apart);
  }
