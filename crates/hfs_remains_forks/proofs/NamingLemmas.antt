-- Folders that a thread names.
use Rattle.std.proofs.Common.{◌≡◌, ℕ, Bool, true, false, ◌&&◌, ◌||◌, ◌==◌, if◌then◌else◌, List, length, Option, Some, None, refl, sym, ap, ◌∙◌, arith}
use Rattle.std.specs.Prelude.{nat_le}
use Rattle.std.specs.Option.{SomeIff}
use Rattle.std.proofs.lemmas.Bool.{and_parts, eqb-true, le-leb}
use Rattle.hfs_fields.specs.declared.thread_record.ThreadRecord.{ThreadRecord}
use Rattle.hfs_fields.specs.Records.{begins_thread, has_short_name, is_dir_thread, type_byte}

pub begins-short : (body : List ℕ) → is_dir_thread body ≡ true → begins_thread body ≡ has_short_name body
unfolding begins_thread
begins-short body is =
    let parts = and_parts (type_byte body == 3) (length body == 46) is in
    let long : nat_le 46 (length body) ≡ true = le-leb 46 (length body) (omega (arith, eqb-true (length body) 46 parts.1)) in
    λ t. long t && (parts.0 t || (type_byte body == 4)) && has_short_name body

-- a record that is read is there where it can be
pub read-is : (o : Option ThreadRecord) (b h : Bool) (v : ThreadRecord) → b ≡ h → SomeIff o (b ≡ true) v → o ≡ (if h then Some v else None)
read-is (Some x) b true v same is = ap Some is.1
read-is (Some x) b false v same is = let wrong : false ≡ true = sym same ∙ is.0 in cc
read-is None b true v same is = absurd (is same)
read-is None b false v same is = refl
