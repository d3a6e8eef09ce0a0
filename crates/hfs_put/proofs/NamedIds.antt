-- What is told of an item by its name has its ID.
use Rattle.std.proofs.Common.{◌≡◌, refl, ℕ, Bool, true, false, not, List, Option, Some, None}
use Rattle.std.specs.Prelude.{if◌then◌else◌, IfSome}
use Rattle.std.specs.Option.{option_map_or}
use Rattle.hfs_fields.specs.Names.{is_item_name}
use Rattle.hfs_model.specs.declared.codes.TheConstants.{BAD_NAME, NOT_A_FOLDER, NOT_FOUND}
use Rattle.hfs_model.specs.Children.{child_named, entries_of, is_folder}
use Rattle.hfs_model.specs.Reading.{get_cat_info, one}
use Rattle.hfs_model.specs.Replies.{refusal, info_of}
use Rattle.hfs_model.specs.Volume.{Entry, Volume}
use Rattle.hfs_put_plan.specs.Put.{id_named}
use Rattle.hfs_put.specs.Laying.{id_in}

pub named : (v : Volume) (dir : ℕ) (name : List ℕ) → IfSome (id_in (get_cat_info (entries_of v) dir name).value) (λ id. id ≡ id_named v dir name)
unfolding get_cat_info info_of
named v dir name = by (is_item_name name) (is_folder (entries_of v) dir) (child_named (entries_of v) dir name)
  where
    by : (a b : Bool) (o : Option Entry) → IfSome (id_in (if not a then refusal BAD_NAME else if not b then refusal NOT_A_FOLDER else option_map_or (one (entries_of v)) o (refusal NOT_FOUND)).value)
        (λ id. id ≡ option_map_or (λ (e : Entry). e.0) o 0)
    by false b o = tt
    by true false o = tt
    by true true None = tt
    by true true (Some e) = refl
