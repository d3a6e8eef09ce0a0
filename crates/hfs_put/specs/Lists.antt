-- Lists put on volumes that are the same except for the bytes of forks. The law is what a function of src/laws.rt ensures.
use Rattle.std.specs.Prelude.{◌≡◌, ℕ, List, [], Result, Ok, Err}
use Rattle.hfs_fields.specs.Each.{Each}
use Rattle.hfs_model.specs.Volume.{Volume}
use Rattle.hfs_model.specs.Alike.{AreAlike, no_file}
use Rattle.hfs_put_plan.specs.Laws.{IsWhole}
use Rattle.hfs_put_plan.specs.Put.{Arrival, Put, Refused, put_volume, came}
use Rattle.hfs_put.specs.Forks.{has_forks}

-- the items have the same IDs, and the volumes are the same except for the bytes of forks of files that aren't of the list
pub record ArePutAlike (arrivals : List Arrival) (a b : Put) : Type 0 where
  pub ids : b.ids ≡ a.ids
  pub volumes : AreAlike (has_forks (came arrivals a.ids [])) a.volume b.volume

-- the list was put on both so, or the same call was refused on both, with the same reply
abbrev pub EndAlike : List Arrival → Result Put Refused → Result Put Refused → Type 0
EndAlike arrivals (Ok a) (Ok b) = ArePutAlike arrivals a b
EndAlike arrivals (Err a) (Err b) = b ≡ a
EndAlike arrivals (Ok a) (Err b) = ⊥
EndAlike arrivals (Err a) (Ok b) = ⊥

abbrev pub AlikeVolumesArePutAlike : Type 0
AlikeVolumesArePutAlike =
    (v w : Volume) (target now : ℕ) (arrivals : List Arrival) → Each IsWhole arrivals → AreAlike no_file v w
    → EndAlike arrivals (put_volume v target now arrivals) (put_volume w target now arrivals)
