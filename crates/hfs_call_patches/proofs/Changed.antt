-- Forks, owners and space of a sound volume of which one fork was changed.
use Rattle.std.proofs.Common.{◌≡◌, inl, inr, ⊎_elim, ◌⊎◌, ℕ, ◌+◌, ◌*◌, ◌<◌, ◌≤◌, true, ◌&&◌, List, [], ◌∷◌, ◌++◌, length, count_by, refl, sym, ◌∙◌, ap, subst, arith, Some}
use Rattle.std.specs.List.{flat_map, sum_by, find}
use Rattle.std.specs.Ordering.{is_eq}
use Rattle.std.proofs.lemmas.Bool.{true≢false, eq-eqb, cases_lt}
use Rattle.std.proofs.lemmas.List.Sums.{sum_by-append, sum_by-cons}
use Rattle.hfs_fields.proofs.MemberLemmas.{in-left, in-right}
use Rattle.hfs_fields.specs.declared.mdb.Mdb.{Mdb}
use Rattle.hfs_fields.specs.declared.extent.Extent.{Extent}
use Rattle.hfs_fields.specs.declared.file_record.FileRecord.{FileRecord}
use Rattle.hfs_fields.specs.Keys.{cat_cmp, cat_cmp_total}
use Rattle.hfs_fields.specs.Records.{is_dir, is_item, item_id, dir_record_of, file_record_of}
use Rattle.hfs_fields.specs.RecordForms.{file_record_bytes}
use Rattle.hfs_fields.proofs.OrderLemmas.{equal-own}
use Rattle.hfs_fields.specs.Each.{Each}
use Rattle.hfs_fields.specs.Members.{In}
use Rattle.hfs_fields.proofs.ElementLemmas.{each-append, each-left, each-right}
use Rattle.hfs_fields.proofs.PartLemmas.{in_parts}
use Rattle.hfs_btree_edits.proofs.KeptKeyLemmas.{each-key-mono, key-holds}
use Rattle.hfs_space.specs.Extents.{Overflow, block_total, extent_blocks, run_on}
use Rattle.hfs_space.specs.Owners.{Fork as ForkOf, forks_of_file, forks_of, catalog_fork, all_forks, extents_in, owned_blocks, owners}
use Rattle.hfs_space.specs.Sound.{IsForkSound, AreForksSound}
use Rattle.hfs_space.specs.TreeKeys.{ext_keys}
use Rattle.hfs_space.proofs.LawTypes.{AreBlocksWithin, OwnedAreWithin}
use Rattle.hfs_space.proofs.OwnerLemmas.{append}
use Rattle.hfs_space.proofs.RunSteps.{Record as ExtRecord}
use Rattle.hfs_model.specs.declared.call.Fork.{Fork}
use Rattle.hfs_model.specs.declared.call.Fork.TheVariants.{DataFork, ResFork}
use Rattle.hfs_catalog.proofs.FileRecords.{not-dir}
use Rattle.hfs_catalog.specs.Records.{Record, Catalog, has_id, item_with}
use Rattle.hfs_catalog.specs.Sound.{IsSoundCatalog}
use Rattle.hfs_catalog.proofs.Held.{with_id}
use Rattle.hfs_record_edits.specs.Swaps.{Swaps}
use Rattle.hfs_record_edits.proofs.EditedLemmas.{at_equal_key, with_replaced-swaps}
use Rattle.hfs_check.specs.Parts.{Blocks, mdb_in, extents_nodes, overflow_in, catalog_extents, catalog_in, owned_in}
use Rattle.hfs_check.specs.Sound.{IsForkKey, EachKey, AreBlocksSound}
use Rattle.hfs_check.proofs.LawTypes.{CatalogIsSound}
use Rattle.hfs_record_edits.proofs.ChangesLaws.{IsAlike}
use Rattle.hfs_record_edits.proofs.Linked.{sound_once}
use Rattle.hfs_record_edits.proofs.Made.{file_alike, file-is, file-read}
use Rattle.hfs_record_edits.proofs.Space.{record_has, forks_have, others_have, owners_sum, each_owned, owned_each}
use Rattle.hfs_record_edits.specs.Whole.{IsKeyOfOr}
use Rattle.hfs_record_edits.specs.Records.{of_fork}
use Rattle.hfs_call_patches.specs.Files.{fork_of}
use Rattle.hfs_call_patches.specs.Edits.{byte_of, extents_of, blocks_of, ChangesFork}
use Rattle.hfs_call_patches.proofs.TreeKeys.{content_keys}
use Rattle.hfs_call_patches.proofs.Overflows.{in_flat, flat_in, same_extents, same_bad, records_sound}
use Rattle.hfs_call_patches.proofs.Rooms.{extents_within, has_room}
use Rattle.hfs_call_patches.proofs.SoundForks as sound_forks
use Rattle.hfs_call_patches.proofs.Beside.{fork_in, other_fork, other_byte, which_fork, each_fork, one_each, fork_there, both_have, file_forks, other_same, id_same, len_same, IsOtherFile, others_before, others_behind, fork_carried, record_carried, sum_carried}

fork_key : (fork : Fork) → (byte_of fork ≡ 0) ⊎ (byte_of fork ≡ 255)
fork_key DataFork = inl refl
fork_key ResFork = inr refl

module _ (catalogs : CatalogIsSound) (total id : ℕ) (fork : Fork) (r : Record) (bytes : List ℕ) (now : ℕ) (written : List ℕ) (old new : Blocks) (h : AreBlocksSound total old)
    (was : item_with (catalog_in old) id ≡ Some r) (d : ChangesFork fork r bytes now written old new) where
  abbrev pub mdb : Mdb
  mdb = mdb_in old

  abbrev pub m : Mdb
  m = record mdb { modified = now; free_blocks = d.volume.free }

  abbrev pub f : FileRecord
  f = file_record_of r.1

  abbrev pub g : FileRecord
  g = d.file

  abbrev pub s : Record
  s = (r.0, file_record_bytes g)

  abbrev o : Overflow
  o = overflow_in old

  abbrev p : Overflow
  p = overflow_in new

  sound : IsSoundCatalog mdb.next_id (catalog_in old)
  sound = catalogs total old h

  pub own : In r (catalog_in old) × (is_item r.1 ≡ true) × (item_id r.1 ≡ id)
  own = with_id (catalog_in old) id r was

  pub f_id : f.id ≡ id
  f_id = sound_forks.f_id catalogs total id fork r old h was d.was

  pub g_id : g.id ≡ f.id
  g_id = ap (λ (x : FileRecord). x.id) d.file_is ∙ id_same mdb.allocation_block_size fork (length bytes) d.first now f

  pub given : 16 ≤ g.id
  given = let one = g_id in let low = sound_forks.given catalogs total id fork r old h was d.was in omega (arith, low, one)

  -- ---- the catalog

  stands : find (λ q. is_eq (cat_cmp r.0 q.0)) (catalog_in old) ≡ Some r
  stands = at_equal_key cat_cmp cat_cmp_total r.0 (catalog_in old) r h.places.records.rises own.0 (equal-own (cat_cmp r.0 r.0) (cat_cmp_total.antisymm r.0 r.0))

  pub swap : Swaps (Some r) (Some s) (catalog_in old) (catalog_in new)
  swap = subst (Swaps (Some r) (Some s) (catalog_in old)) (sym d.set.content) (with_replaced-swaps cat_cmp r.0 (file_record_bytes g) (catalog_in old) r stands)

  pub alike : IsAlike r s
  alike = file_alike r g d.was d.set.value g_id

  pub valence : is_dir r.1 ≡ true → (dir_record_of s.1).valence ≡ (dir_record_of r.1).valence
  valence e = absurd (true≢false (sym e ∙ not-dir r.1 d.was))

  abbrev before : Catalog
  before = swap.before

  abbrev behind : Catalog
  behind = swap.behind

  own_id : has_id id r ≡ true
  own_id = λ i. own.1 i && eq-eqb (item_id r.1) id own.2 i

  once_id : count_by (has_id id) (before ++ (r ∷ behind)) ≤ 1
  once_id = subst (λ (c : Catalog). count_by (has_id id) c ≤ 1) swap.was ((sound_once mdb.next_id (catalog_in old) sound).items id)

  named : (xs : Catalog) → Each (IsOtherFile id) xs → Each (IsOtherFile g.id) xs
  named xs e = subst (λ (k : ℕ). Each (IsOtherFile k) xs) (sym (g_id ∙ f_id)) e

  beside_before : Each (IsOtherFile g.id) before
  beside_before = named before (others_before id r before behind own_id once_id)

  beside_behind : Each (IsOtherFile g.id) behind
  beside_behind = named behind (others_behind id r before behind own_id once_id)

  forks_r : forks_of r ≡ forks_of_file f
  forks_r = sound_forks.forks_r catalogs total id fork r old h was d.was

  pub forks_s : forks_of s ≡ forks_of_file g
  forks_s = file_forks s (file-is g d.set.value) ∙ ap forks_of_file (file-read g d.set.value)

  pub other_is : fork_in (other_fork fork) g ≡ fork_in (other_fork fork) f
  other_is = ap (fork_in (other_fork fork)) d.file_is ∙ other_same mdb.allocation_block_size fork (length bytes) d.first now f

  pub keeps : (k j : ℕ) → (k ≡ g.id → j ≡ byte_of fork → ⊥) → of_fork k j p ≡ of_fork k j o
  unfolding overflow_in
  keeps = d.extents.edits.records

  -- ---- forks

  old_right : Each (IsForkSound mdb o) (forks_of_file f)
  old_right = sound_forks.own_right catalogs total id fork r old h was d.was

  pub other_far : (fork_in (other_fork fork) f).file ≡ g.id → (fork_in (other_fork fork) f).fork ≡ byte_of fork → ⊥
  other_far e k = other_byte fork k

  owned_low : OwnedAreWithin → AreBlocksWithin mdb (owned_in old)
  unfolding owned_in catalog_extents
  owned_low law = law mdb o (catalog_in old) h.extents.file h.catalog.file h.forks

  pub old_owns : (b : ℕ) → owners (blocks_of old fork f) b ≤ owners (owned_in old) b
  old_owns = sound_forks.own_owns catalogs total id fork r old h was d.was

  pub moved : (b : ℕ) → owners (blocks_of old fork f) b ≡ owners d.moves.stay b + owners d.go b
  moved b = ap (λ (l : List ℕ). owners l b) d.moves.before ∙ append b d.moves.stay d.go

  pub moved_new : (b : ℕ) → owners (blocks_of new fork g) b ≡ owners d.moves.stay b + owners d.come b
  moved_new b = ap (λ (l : List ℕ). owners l b) d.moves.after ∙ append b d.moves.stay d.come

  module _ (law : OwnedAreWithin) where
    pub low : (b : ℕ) → 0 < owners (owned_in old) b → b < mdb.allocation_blocks
    low b some = owned_each (λ (x : ℕ). x < mdb.allocation_blocks) (owned_in old) (owned_low law) b some

    new_low : Each (λ (b : ℕ). b < mdb.allocation_blocks) (blocks_of new fork g)
    new_low = each_owned _ (blocks_of new fork g) (λ b some.
        elim (zero_or (owners d.come b)) [
          | inl none ↦ low b (let a = moved b in let c = moved_new b in let e = old_owns b in omega (arith, none, some, a, c, e))
          | inr one ↦ d.moves.within b one
        ])
      where
        zero_or : (n : ℕ) → (n ≡ 0) ⊎ (0 < n)
        zero_or n = elim (cases_lt 0 n) [ inl some ↦ inr some | inr none ↦ inl (omega (arith, none)) ]

    changed_right : IsForkSound m p (fork_in fork g)
    changed_right = record {
      within = extents_within mdb.allocation_blocks (extents_of new fork g) new_low;
      room =
          let len : (fork_of fork g).length ≡ length bytes = ap (λ (x : FileRecord). (fork_of fork x).length) d.file_is ∙ len_same mdb.allocation_block_size fork (length bytes) d.first now f in
          let least = h.mdb.least_size in
          subst (λ (n : ℕ). n ≤ block_total (extents_of new fork g) * mdb.allocation_block_size) (sym len) (has_room mdb.allocation_block_size (length bytes) (extents_of new fork g) (omega (arith, least)) d.exact);
    }

    other_right : IsForkSound m p (fork_in (other_fork fork) g)
    other_right = subst (IsForkSound m p) (sym other_is) (fork_carried g.id (byte_of fork) o p keeps mdb m refl refl (fork_in (other_fork fork) f) other_far (one_each (IsForkSound mdb o) (other_fork fork) f old_right))

    abbrev AreRight : Record → Type 0
    AreRight x = Each (IsForkSound m p) (forks_of x)

    abbrev WereRight : Record → Type 0
    WereRight x = Each (IsForkSound mdb o) (forks_of x)

    carried : (xs : Catalog) → Each (IsOtherFile g.id) xs → Each WereRight xs → Each AreRight xs
    carried [] other right = tt
    carried (x ∷ xs) other right = (record_carried g.id (byte_of fork) o p keeps mdb m refl refl x other.0 right.0, carried xs other.1 right.1)

    files : Each AreRight (catalog_in new)
    files =
        let parts : Each WereRight (before ++ (r ∷ behind)) = subst (Each WereRight) swap.was h.forks.files in
        let one = carried before beside_before (each-left WereRight before (r ∷ behind) parts) in
        let two = carried behind beside_behind (each-right WereRight before (r ∷ behind) parts).1 in
        let here : AreRight s = subst (Each (IsForkSound m p)) (sym forks_s) (each_fork (IsForkSound m p) fork g changed_right other_right) in
        subst (Each AreRight) (sym swap.is) (each-append AreRight before (s ∷ behind) one (here, two))

    -- ---- the records of the extents tree

    of_new : (x : ForkOf) (y : Record) → In y (before ++ (s ∷ behind)) → In x (forks_of y) → In x (flat_map forks_of (catalog_in new))
    of_new x y there is = flat_in forks_of (catalog_in new) y x (subst (In y) (sym swap.is) there) is

    carry_file : (x : ForkOf) → (x.file ≡ g.id → x.fork ≡ byte_of fork → ⊥) → (y : Record) → In y (before ++ (r ∷ behind)) → In x (forks_of y) → In x (flat_map forks_of (catalog_in new))
    carry_file x far y there is = ⊎_elim
        (λ (front : In y before). of_new x y (in-left y before (s ∷ behind) front) is)
        (λ (rest : In y (r ∷ behind)). ⊎_elim
        (λ (here : r ≡ y). let of_f : In x (forks_of_file f) = subst (In x) forks_r (subst (λ (z : Record). In x (forks_of z)) (sym here) is) in ⊎_elim
        (λ (one : fork_in fork f ≡ x). absurd (far (sym (ap (λ (z : ForkOf). z.file) one) ∙ sym g_id) (sym (ap (λ (z : ForkOf). z.fork) one))))
        (λ (two : fork_in (other_fork fork) f ≡ x).
        of_new x s (in-right s before (s ∷ behind) (inl refl))
        (subst (λ (z : ForkOf). In z (forks_of s)) (other_is ∙ two) (subst (In (fork_in (other_fork fork) g)) (sym forks_s) (fork_there (other_fork fork) g))))
        (which_fork fork f x of_f))
        (λ (back : In y behind). of_new x y (in-right y before (s ∷ behind) (inr back)) is)
        rest)
        (in_parts y before (r ∷ behind) there)

    same_catalog_fork : catalog_fork m ≡ catalog_fork mdb
    unfolding catalog_fork
    same_catalog_fork = refl

    carry : (x : ForkOf) → In x (all_forks mdb (catalog_in old)) → (x.file ≡ g.id → x.fork ≡ byte_of fork → ⊥) → In x (all_forks m (catalog_in new))
    carry x there far = ⊎_elim
        (λ (first : catalog_fork mdb ≡ x). inl (same_catalog_fork ∙ first))
        (λ (rest : In x (flat_map forks_of (catalog_in old))).
        let found = in_flat forks_of (catalog_in old) x rest in
        inr (carry_file x far found.0 (subst (In found.0) swap.was found.1) found.2))
        there

    own_there : In (fork_in fork g) (all_forks m (catalog_in new))
    own_there = inr (of_new (fork_in fork g) s (in-right s before (s ∷ behind) (inl refl)) (subst (In (fork_in fork g)) (sym forks_s) (fork_there fork g)))

    whole_run : of_fork g.id (byte_of fork) p ≡ run_on g.id (byte_of fork) (block_total (fork_of fork g).extents) p
    unfolding overflow_in
    whole_run = d.extents.whole

    pub forks : AreForksSound m p (catalog_in new)
    forks = record {
      files = files;
      records = records_sound g.id (byte_of fork) o p keeps given mdb m refl (all_forks mdb (catalog_in old)) (all_forks m (catalog_in new)) h.forks.records carry (fork_in fork g) own_there whole_run;
    }

  -- ---- keys of the extents tree

  pub fork_keys : EachKey ext_keys IsForkKey (extents_nodes new)
  fork_keys = each-key-mono ext_keys (extents_nodes old) (extents_nodes new) (IsKeyOfOr g.id (byte_of fork) (extents_nodes old)) IsForkKey
      (λ k is. ⊎_elim
      (λ own. ⊎_elim (λ (zero_byte : byte_of fork ≡ 0). inl (own.1 ∙ zero_byte)) (λ (other : byte_of fork ≡ 255). inr (own.1 ∙ other)) (fork_key fork))
      (λ there. key-holds ext_keys (extents_nodes old) IsForkKey h.extents.forks k there)
      is)
      d.extents.edits.keys

  old_keys : Each (λ (q : ExtRecord). IsForkKey q.0) o
  unfolding overflow_in
  old_keys = content_keys ext_keys (extents_nodes old) IsForkKey h.extents.forks

  new_keys : Each (λ (q : ExtRecord). IsForkKey q.0) p
  unfolding overflow_in
  new_keys = content_keys ext_keys (extents_nodes new) IsForkKey fork_keys

  -- ---- owners

  catalog_far : (catalog_fork mdb).file ≡ g.id → (catalog_fork mdb).fork ≡ byte_of fork → ⊥
  unfolding catalog_fork
  catalog_far e k = let low_id = given in omega (arith, e, low_id)

  pub catalog_stays : extents_in p (catalog_fork mdb) ≡ extents_in o (catalog_fork mdb)
  catalog_stays = same_extents g.id (byte_of fork) o p keeps (catalog_fork mdb) catalog_far

  others_stay : (b : ℕ) → others_have m p b ≡ others_have mdb o b
  unfolding catalog_fork
  others_stay b =
      let one : owners (extent_blocks (extents_in p (catalog_fork mdb))) b ≡ owners (extent_blocks (extents_in o (catalog_fork mdb))) b = ap (λ (es : List Extent). owners (extent_blocks es) b) catalog_stays in
      λ i. one i + (owners (extent_blocks mdb.extents_file) b + same_bad g.id (byte_of fork) o p keeps given old_keys new_keys b i)

  sums : (b : ℕ) → sum_by (record_has m p b) (catalog_in new) + record_has mdb o b r ≡ sum_by (record_has mdb o b) (catalog_in old) + record_has m p b s
  sums b =
      let one = sum_carried g.id (byte_of fork) o p keeps mdb m refl refl b before beside_before in
      let two = sum_carried g.id (byte_of fork) o p keeps mdb m refl refl b behind beside_behind in
      omega (
        arith,
        one,
        two,
        ap (sum_by (record_has mdb o b)) swap.was,
        ap (sum_by (record_has m p b)) swap.is,
        sum_by-append (record_has mdb o b) before (r ∷ behind),
        sum_by-cons (record_has mdb o b) r behind,
        sum_by-append (record_has m p b) before (s ∷ behind),
        sum_by-cons (record_has m p b) s behind,
      )

  pub other_extents : extents_in p (fork_in (other_fork fork) g) ≡ extents_in o (fork_in (other_fork fork) f)
  other_extents = ap (extents_in p) other_is ∙ same_extents g.id (byte_of fork) o p keeps (fork_in (other_fork fork) f) other_far

  records_differ : (b : ℕ) → record_has m p b s + owners (blocks_of old fork f) b ≡ record_has mdb o b r + owners (blocks_of new fork g) b
  records_differ b =
      let now_has : record_has m p b s ≡ forks_have m p b (forks_of_file g) = ap (forks_have m p b) forks_s in
      let had : record_has mdb o b r ≡ forks_have mdb o b (forks_of_file f) = ap (forks_have mdb o b) forks_r in
      let other : owners (extent_blocks (extents_in p (fork_in (other_fork fork) g))) b ≡ owners (extent_blocks (extents_in o (fork_in (other_fork fork) f))) b = ap (λ (es : List Extent). owners (extent_blocks es) b) other_extents in
      omega (arith, now_has, had, other, both_have m p b fork g, both_have mdb o b fork f)

  -- who owned a block owns it still, but for what went and what came
  pub owned_after : (b : ℕ) → owners (owned_blocks m p (catalog_in new)) b + owners d.go b ≡ owners (owned_in old) b + owners d.come b
  unfolding owned_in
  owned_after b =
      let a = sums b in
      let c = records_differ b in
      let e = moved b in
      let k = moved_new b in
      omega (arith, a, c, e, k, owners_sum m p b (catalog_in new), owners_sum mdb o b (catalog_in old), others_stay b)
