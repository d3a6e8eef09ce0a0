-- The head is the whole buffer, and the block is what follows its first 1,024 bytes.
use Rattle.std.proofs.Common.{◌≡◌, ◌≢◌, ◌≤◌, ℕ, List, Option, length, length-drop, take, drop, rules, arith, sym, ap, ◌∙◌, subst, take_all, le_refl}
use Rattle.std.specs.Io.KnownBytes.{Consumes, Appends}
use Rattle.std.proofs.KnownBytes.{Appends-kept}
use Rattle.hfs_fields.specs.Mdb.{mdb_of}
use Rattle.hfs_fields.specs.declared.mdb.Mdb.{Mdb}
use Rattle.hfs_texts.proofs.FrontLemmas.{all_front}
use Rattle.hfs_texts.specs.Info.{info_lines}
use Rattle.hfs_texts.specs.Reading.{GaveHead, HasSignature, info_text}
use Rattle.hfs_texts.specs.Writing.{AppendsFront}
use Rattle.hfs_texts.proofs.info.run_info.Goals as goal

gave : (old new : Option (List ℕ)) (head : List ℕ) (count : ℕ) → length head ≡ 1536 → 1536 ≤ count → Consumes old new (take count head) → GaveHead old new head
gave old new head count len whole taken = record { len = len; consumed = subst (Consumes old new) (take_all count head (omega arith)) taken }

-- the block that is read has the head's fields
of_head : (head block : List ℕ) (mdb : Mdb) → length head ≡ 1536 → block ≡ take 512 (drop 1024 head) → mdb ≡ mdb_of (take 162 block) → mdb ≡ mdb_of (take 162 (drop 1024 head))
of_head head block mdb len same read =
    let whole = take_all 512 (drop 1024 head) (omega (arith, length-drop 1024 head)) in
    read ∙ ap (λ b. mdb_of (take 162 b)) (same ∙ whole)

is_signed : (head : List ℕ) (mdb : Mdb) → mdb ≡ mdb_of (take 162 (drop 1024 head)) → mdb.signature ≡ 0x4244 → HasSignature head
unfolding HasSignature
is_signed head mdb read signed = sym (ap (λ (m : Mdb). m.signature) read) ∙ signed

is_unsigned : (head : List ℕ) (mdb : Mdb) → mdb ≡ mdb_of (take 162 (drop 1024 head)) → mdb.signature ≢ 0x4244 → HasSignature head → ⊥
unfolding HasSignature
is_unsigned head mdb read other signed = other (ap (λ (m : Mdb). m.signature) read ∙ signed)

pub returns-then-mdb-ne-SIGNATURE-clause-no_mac_disk : goal.returns-then-mdb-ne-SIGNATURE-clause-no_mac_disk
returns-then-mdb-ne-SIGNATURE-clause-no_mac_disk g c _ =
    let head = c.fill.new.buffer in
    let read = of_head head _ c.read-mdb.result (search rules) c.copy_from_slice.ensures.after c.read-mdb.ensures in
    (head, gave _ _ head _ (search rules) (search rules) c.in-Ok.ensures.taken, is_unsigned head _ read c.if-mdb-ne-SIGNATURE.true)

pub returns-in_default-info_lines-clause-memory : goal.returns-in_default-info_lines-clause-memory
returns-in_default-info_lines-clause-memory g c _ =
    let head = c.fill.new.buffer in
    let read = of_head head _ c.read-mdb.result (search rules) c.copy_from_slice.ensures.after c.read-mdb.ensures in
    (head, gave _ _ head _ (search rules) (search rules) c.in-Ok.ensures.taken, is_signed head _ read c.if-mdb-ne-SIGNATURE.false)

pub returns-in_default-put-clause-write_failed : goal.returns-in_default-put-clause-write_failed
unfolding info_text
returns-in_default-put-clause-write_failed g c _ =
    let head = c.fill.new.buffer in
    let read = of_head head _ c.read-mdb.result (search rules) c.copy_from_slice.ensures.after c.read-mdb.ensures in (
      head,
      gave _ _ head _ (search rules) (search rules) c.in-Ok.ensures.taken,
      is_signed head _ read c.if-mdb-ne-SIGNATURE.false,
      subst (AppendsFront _ _) (c.as_bytes.ensures.value ∙ c.in-Ok-info_lines.ensures ∙ ap info_lines read) c.in_default-put.ensures.err,
    )

pub returns-in_default-flush-clause-write_failed : goal.returns-in_default-flush-clause-write_failed
unfolding info_text
returns-in_default-flush-clause-write_failed g c _ =
    let head = c.fill.new.buffer in
    let read = of_head head _ c.read-mdb.result (search rules) c.copy_from_slice.ensures.after c.read-mdb.ensures in (
      head,
      gave _ _ head _ (search rules) (search rules) c.in-Ok.ensures.taken,
      is_signed head _ read c.if-mdb-ne-SIGNATURE.false,
      all_front _ _ (info_text head) (subst (Appends _ _) (c.as_bytes.ensures.value ∙ c.in-Ok-info_lines.ensures ∙ ap info_lines read)
          (Appends-kept _ _ _ _ c.in-Ok-put.ensures.ok c.flush.ensures.bytes)),
    )

pub returns-clause-ok : goal.returns-clause-ok
unfolding info_text
returns-clause-ok g c =
    let head = c.fill.new.buffer in
    let read = of_head head _ c.read-mdb.result (search rules) c.copy_from_slice.ensures.after c.read-mdb.ensures in (
      head,
      gave _ _ head _ (search rules) (search rules) c.in-Ok.ensures.taken,
      is_signed head _ read c.if-mdb-ne-SIGNATURE.false,
      subst (Appends _ _) (c.as_bytes.ensures.value ∙ c.in-Ok-info_lines.ensures ∙ ap info_lines read)
          (Appends-kept _ _ _ _ c.in-Ok-put.ensures.ok c.in-Ok-flush.ensures.bytes),
    )
