-- Bodies that were found under a key.
use Rattle.std.proofs.Common.{◌≡◌, ℕ, true, ◌&&◌, eqb, List, length, sym, ap, ◌∙◌, subst, refl, arith, Option, Some, None}
use Rattle.std.specs.Option.{option_map, unwrap_or}
use Rattle.std.proofs.lemmas.Bool.{le-leb, and_parts}
use Rattle.hfs_fields.specs.declared.key.CatKey.{CatKey}
use Rattle.hfs_fields.specs.Keys.{cat_cmp}
use Rattle.hfs_fields.specs.Records.{is_dir, begins_dir, type_byte}
use Rattle.hfs_btree.specs.Pairs.{lookup}
use Rattle.hfs_catalog.specs.Records.{Record, Catalog}
use Rattle.hfs_record_edits.specs.Bodies.{IfBody}
use Rattle.hfs_record_edits.proofs.BodyLemmas.{dir_length}
use Rattle.hfs_record_edits.specs.Finds.{record_at}
use Rattle.hfs_record_edits.proofs.FindLemmas.{body_at}
use Rattle.hfs_catalog.proofs.Held.{none_some}

-- the body that is there has what a body there has
pub body_has : (P : List ℕ → Type 0) (o : Option (List ℕ)) (body : List ℕ) → IfBody P o → o ≡ Some body → P body
body_has P None body h e = absurd h
body_has P (Some other) body h e = subst P (ap (λ (o : Option (List ℕ)). unwrap_or o body) e) h

pub is_dir-begins : (body : List ℕ) → is_dir body ≡ true → begins_dir body ≡ true
unfolding begins_dir
is_dir-begins body is =
    λ i. le-leb 70 (length body) (omega (arith, dir_length body is)) i && (and_parts (eqb (type_byte body) 1) (eqb (length body) 70) is).0 i

pub record_with : (key : CatKey) (catalog : Catalog) (body : List ℕ) → lookup cat_cmp key catalog ≡ Some body → (r : Record) × (record_at key catalog ≡ Some r) × (r.1 ≡ body)
record_with key catalog body found = by (record_at key catalog) refl
  where
    by : (o : Option Record) → record_at key catalog ≡ o → (r : Record) × (record_at key catalog ≡ Some r) × (r.1 ≡ body)
    by None e = absurd (none_some body (sym (ap (λ (o : Option Record). option_map (λ (r : Record). r.1) o) e) ∙ body_at key catalog ∙ found))
    by (Some r) e =
        let same : Some r.1 ≡ Some body = sym (ap (λ (o : Option Record). option_map (λ (q : Record). q.1) o) e) ∙ body_at key catalog ∙ found in
        (r, e, ap (λ (o : Option (List ℕ)). unwrap_or o body) same)

pub no_record : (key : CatKey) (catalog : Catalog) → lookup cat_cmp key catalog ≡ None → record_at key catalog ≡ None
no_record key catalog none = by (record_at key catalog) refl
  where
    by : (o : Option Record) → record_at key catalog ≡ o → o ≡ None
    by None e = refl
    by (Some r) e = absurd (none_some r.1 (sym none ∙ sym (body_at key catalog) ∙ ap (λ (o : Option Record). option_map (λ (q : Record). q.1) o) e))
