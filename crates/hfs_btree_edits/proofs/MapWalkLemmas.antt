-- The walk over the parts of the node map.
use Rattle.std.proofs.Common.{◌≡◌, ◌≢◌, ℕ, zero, suc, ◌+◌, ◌*◌, ◌<◌, ◌⊎◌, Bool, List, [], ◌∷◌, ◌++◌, length, get_or, set, refl, sym, ap, ◌∙◌, subst, arith, inl, inr, length-append, append_assoc}
use Rattle.std.specs.Prelude.{Ok}
use Rattle.std.specs.List.{flat_map}
use Rattle.std.proofs.lemmas.Bool.{cases_lt}
use Rattle.std.proofs.lemmas.List.{get_or_past}
use Rattle.std.proofs.lemmas.List.Concat.{flat_map-append}
use Rattle.hfs_btree.specs.declared.node.Node.{Node}
use Rattle.hfs_btree.specs.Node.{node_of}
use Rattle.hfs_fields.specs.Each.{Each}
use Rattle.hfs_fields.proofs.ElementLemmas.{each-mono, each-right}
use Rattle.hfs_btree.specs.Tree.{Store, node_in, records_in, records_of, forward_of}
use Rattle.hfs_btree.specs.Header.{header_in, record_in, chain_from, map_nodes, own_nodes, bit_of}
use Rattle.hfs_btree.specs.Sound.{IsMapNode, HasMap}
use Rattle.hfs_btree_edits.specs.Stored.{Decodes, HasStored}
use Rattle.hfs_btree_edits.specs.MapPlaces.{entry_of, part_in, IsPlaced, HasBitPut}
use Rattle.hfs_btree_edits.proofs.MapPlaceLemmas.{IsPart}
use Rattle.hfs_btree_edits.proofs.DecodesLemmas.{decodes-some}
use Rattle.hfs_btree.proofs.DecodedLemmas.{decoded-within, records-within, records-read}
use Rattle.hfs_btree.proofs.ChainLemmas.{chain-step}

pub first-part : (nodes : Store) (count : ℕ) → count ≡ (header_in nodes).nodes → IsPart nodes count 0 2 0
unfolding map_nodes
first-part nodes count counted = record {
  done = [];
  split = ap (λ (k : ℕ). 0 ∷ chain_from nodes k (forward_of (node_in nodes 0))) (sym counted);
  which = refl;
  bits = refl;
}

entry-next : (n : ℕ) → n ≢ 0 → 0 ≡ entry_of n
entry-next zero ne = absurd (ne refl)
entry-next (suc n) ne = refl

pub next-part : (nodes : Store) (most less at entry before next bits : ℕ) → IsPart nodes most at entry before → next ≡ forward_of (node_in nodes at) → next ≢ 0 → most ≡ suc less
    → bits ≡ 8 * length (part_in nodes at) → IsPart nodes less next 0 (before + bits)
next-part nodes most less at entry before next bits p is ne more long =
    let behind : List ℕ = chain_from nodes less (forward_of (node_in nodes next)) in
    let chain : chain_from nodes most (forward_of (node_in nodes at)) ≡ next ∷ behind = ap (chain_from nodes most) (sym is) ∙ chain-step nodes most less next more ne in
    let all = ap (λ (bs : List ℕ). length bs) (flat_map-append (part_in nodes) p.done (at ∷ [])) in
    let had = p.bits in
    record {
      done = p.done ++ at ∷ [];
      split = p.split ∙ ap (λ (ns : List ℕ). p.done ++ at ∷ ns) chain ∙ sym (append_assoc p.done (at ∷ []) (next ∷ behind));
      which = entry-next next ne;
      bits = omega (arith, length-append (flat_map (part_in nodes) p.done) (part_in nodes at ++ []), length-append (part_in nodes at) []);
    }

-- the nodes that have a part are nodes of the file
pub part-within : (nodes : Store) (most at entry before : ℕ) → 0 < length nodes → HasMap nodes → IsPart nodes most at entry before → at < length nodes
part-within nodes most at entry before some m p =
    let P : List ℕ → Type 0 = λ ns. Each (λ n. n < length nodes) ns in
    let own : P (own_nodes nodes) = (some, each-mono (IsMapNode nodes) (λ n. n < length nodes) (map_nodes nodes) (λ n is. decoded-within nodes n is.value is.decodes) m.chain) in
    (each-right (λ n. n < length nodes) p.done (at ∷ chain_from nodes most (forward_of (node_in nodes at))) (subst P p.split own)).0

-- what was read of a node's record
pub entry-read : (nodes : Store) (at entry : ℕ) (bytes part : List ℕ) → bytes ≡ get_or nodes at [] → part ≡ get_or (records_of (node_of bytes)) entry [] → part ≡ record_in nodes at entry
entry-read nodes at entry bytes part read is = is ∙ ap (λ (rs : List (List ℕ)). get_or rs entry []) (records-read nodes at bytes read)

-- what was read is the part
pub part-read : (nodes : Store) (most at entry before : ℕ) (bytes part : List ℕ) → IsPart nodes most at entry before → bytes ≡ get_or nodes at [] → part ≡ get_or (records_of (node_of bytes)) entry []
    → part ≡ part_in nodes at
part-read nodes most at entry before bytes part p read is =
    entry-read nodes at entry bytes part read is ∙ ap (λ (i : ℕ). record_in nodes at i) p.which

pub forward-read : (nodes : Store) (at : ℕ) (bytes : List ℕ) (next : ℕ) → bytes ≡ get_or nodes at [] → next ≡ forward_of (node_of bytes) → next ≡ forward_of (node_in nodes at)
unfolding node_in
forward-read nodes at bytes next read is = is ∙ ap (λ (bs : List ℕ). forward_of (node_of bs)) read

pub placed-in : (nodes : Store) (most at entry before bit n : ℕ) (part : List ℕ) → IsPart nodes most at entry before → part ≡ part_in nodes at → bit < 8 * length part → n ≡ before + bit → IsPlaced nodes at entry bit n
placed-in nodes most at entry before bit n part p is lt e =
    let had = p.bits in
    let long = ap (λ (bs : List ℕ). length bs) is in
    record {
      done = p.done;
      rest = chain_from nodes most (forward_of (node_in nodes at));
      split = p.split;
      which = p.which;
      within = omega (arith, lt, long);
      number = omega (arith, e, had);
    }

some-entry : (xs : List (List ℕ)) (i : ℕ) → 0 < length (get_or xs i []) → i < length xs
some-entry xs i some =
    elim (cases_lt i (length xs)) [
      | inl lt ↦ lt
      | inr ge ↦ absurd (let none = ap (λ (bs : List ℕ). length bs) (get_or_past xs i [] ge) in omega (arith, none, some))
    ]

pub bit-entry : (nodes : Store) (at entry bit : ℕ) → bit < 8 * length (record_in nodes at entry) → entry < length (records_in nodes at)
bit-entry nodes at entry bit lt = some-entry (records_in nodes at) entry (omega (arith, lt))

pub bit-within : (nodes : Store) (at entry bit : ℕ) → bit < 8 * length (record_in nodes at entry) → at < length nodes
bit-within nodes at entry bit lt = records-within nodes at (let h = bit-entry nodes at entry bit lt in omega (arith, h))

pub bit-decodes : (nodes : Store) (at entry bit : ℕ) → bit < 8 * length (record_in nodes at entry) → Decodes nodes at
bit-decodes nodes at entry bit lt = decodes-some nodes at (let h = bit-entry nodes at entry bit lt in omega (arith, h))

pub bit-some : (nodes : Store) (at entry bit : ℕ) (v : Node) → node_in nodes at ≡ Ok v → bit < 8 * length (record_in nodes at entry) → entry < length v.records
bit-some nodes at entry bit v is lt =
    let h = bit-entry nodes at entry bit lt in
    let e = ap (λ r. length (records_of r)) is in
    omega (arith, h, e)

pub bit-put : (at entry bit : ℕ) (b : Bool) (node : Node) (part before : List ℕ) (records : List (List ℕ)) (old new : Store) → node_in old at ≡ Ok node → entry < length node.records
    → records ≡ set node.records entry part → before ≡ get_or node.records entry [] → length part ≡ length before → bit_of part bit ≡ b
    → ((k : ℕ) → (k < bit) ⊎ (bit < k) → bit_of part k ≡ bit_of before k) → HasStored at (record node { records = records }) old new → HasBitPut at entry bit b old new
bit-put at entry bit b node part before records old new was some is start long here others stored =
    let P : List (List ℕ) → Type 0 = λ xs. HasStored at (record node { records = xs }) old new in
    record {
      node = node;
      part = part;
      was = was;
      stored = subst P is stored;
      some = some;
      long = long ∙ ap (λ (bs : List ℕ). length bs) start;
      here = here;
      others = λ k apart. others k apart ∙ ap (λ (bs : List ℕ). bit_of bs k) start;
    }
