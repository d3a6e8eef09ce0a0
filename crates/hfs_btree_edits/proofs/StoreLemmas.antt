-- One node that is written.
use Rattle.std.proofs.Common.{◌≡◌, ℕ, ◌<◌, ◌≤◌, arith, List, [], ◌∷◌, length, get_or, set, sym, ap, ◌∙◌, subst, get_or-set_same, get_or-set_other}
use Rattle.std.specs.Prelude.{Ok, Err, Result, OnOk}
use Rattle.std.proofs.Math.ListN.{length-set}
use Rattle.hfs_btree.specs.declared.node.Node.{Node}
use Rattle.hfs_btree.specs.Node.{node_of, size_of}
use Rattle.hfs_btree.specs.Laid.{IsClear}
use Rattle.hfs_btree.proofs.SizeLemmas.{size_of-set}
use Rattle.hfs_btree.specs.Tree.{Store, node_in, records_of}
use Rattle.hfs_btree.specs.Header.{header_of}
use Rattle.hfs_btree.specs.declared.header.Header.{Header}
use Rattle.hfs_btree_edits.specs.Stored.{HasStored, HasHeaderPut, HasBackward}

pub stored : (n : ℕ) (value : Node) (bytes : List ℕ) (old new : Store) → n < length old → node_of bytes ≡ Ok value → IsClear value.records bytes → new ≡ set old n bytes → HasStored n value old new
unfolding node_in
stored n value bytes old new lt is clear e = record {
  len = ap (λ (s : Store). length s) e ∙ length-set old n bytes;
  here = ap (λ (s : Store). node_of (get_or s n [])) e ∙ ap node_of (get_or-set_same old n bytes [] lt) ∙ is;
  clear = (let P : List ℕ → Type 0 = λ bs. IsClear value.records bs in subst P (sym (ap (λ (s : Store). get_or s n []) e ∙ get_or-set_same old n bytes [] lt)) clear);
  rest = λ m ne. ap (λ (s : Store). node_of (get_or s m [])) e ∙ ap node_of (get_or-set_other old n m bytes [] ne);
  bytes = λ m ne. ap (λ (s : Store). get_or s m []) e ∙ get_or-set_other old n m bytes [] ne;
}

pub some-of : (xs : List (List ℕ)) → 30 ≤ length (get_or xs 0 []) → 0 < length xs
some-of [] long = absurd (omega arith)
some-of (x ∷ xs) long = omega arith

-- what follows at Ok
pub on-ok : {T E : Type 0} (A B : Type 0) (r : Result T E) → (A → B) → OnOk r A → OnOk r B
on-ok A B (Ok x) f h = f h
on-ok A B (Err e) f h = tt

-- records of which one is as long as the one that it stands for
pub fits-set : (records : List (List ℕ)) (i : ℕ) (entry : List ℕ) → i < length records → length entry ≡ length (get_or records i []) → size_of records ≤ 496 → size_of (set records i entry) ≤ 496
fits-set records i entry lt same fits = let size = size_of-set records i entry lt in omega arith

pub fits-as : (xs ys : List (List ℕ)) → xs ≡ ys → size_of ys ≤ 496 → size_of xs ≤ 496
fits-as xs ys e h = let P : List (List ℕ) → Type 0 = λ zs. size_of zs ≤ 496 in subst P (sym e) h

-- a header record that was written
pub header-put : (header : Header) (head : Node) (entry : List ℕ) (records : List (List ℕ)) (old new : Store) → node_in old 0 ≡ Ok head → 0 < length head.records → records ≡ set head.records 0 entry
    → length entry ≡ length (get_or head.records 0 []) → header_of entry ≡ header → HasStored 0 (record head { records = records }) old new → HasHeaderPut header old new
header-put header head entry records old new was some is long fields stored =
    let P : List (List ℕ) → Type 0 = λ xs. HasStored 0 (record head { records = xs }) old new in
    record { head = head; entry = entry; was = was; stored = subst P is stored; long = long; some = omega arith; fields = fields }

pub some-records : (nodes : Store) (n : ℕ) (v : Node) → node_in nodes n ≡ Ok v → 30 ≤ length (get_or (records_of (node_in nodes n)) 0 []) → 0 < length v.records
some-records nodes n v is long =
    let P : List (List ℕ) → Type 0 = λ xs. 30 ≤ length (get_or xs 0 []) in
    some-of v.records (subst P (ap records_of is) long)
