-- Volumes that are the same but for the bytes of forks, when a list was put on them.
use Rattle.std.proofs.Common.{ℕ, List, [], map, sym, subst, Result, Ok, Err}
use Rattle.hfs_model.specs.Alike.{AreAlike, no_file}
use Rattle.hfs_put_plan.specs.Laws.{with_bytes}
use Rattle.hfs_put_plan.specs.Put.{Arrival, Put, Refused, put_volume, laid_volume, without_bytes, came}
use Rattle.hfs_put_plan.specs.WithForks.{with_forks}
use Rattle.hfs_put_plan.proofs.PutLists.{put_is_laid}
use Rattle.hfs_put.specs.Forks.{has_forks}
use Rattle.hfs_put.specs.Lists.{EndAlike, AlikeVolumesArePutAlike}
use Rattle.hfs_put.proofs.AlikeForks.{with-alike}
use Rattle.hfs_put.proofs.AlikeLists.{SamePut, put-alike}
use Rattle.hfs_put.proofs.Results.{Related}

-- with the bytes of the files that came
bytes-alike : (arrivals : List Arrival) (r s : Result Put Refused) → Related (SamePut no_file) r s → EndAlike arrivals (with_bytes arrivals r) (with_bytes arrivals s)
bytes-alike arrivals (Ok a) (Ok b) same = record {
  ids = same.ids;
  volumes = subst (λ (ids : List ℕ). AreAlike (has_forks (came arrivals a.ids [])) (with_forks (came arrivals a.ids []) a.volume) (with_forks (came arrivals ids []) b.volume))
      (sym same.ids) (with-alike (came arrivals a.ids []) a.volume b.volume same.volumes);
}
bytes-alike arrivals (Err x) (Err y) same = same
bytes-alike arrivals (Ok a) (Err y) same = absurd same
bytes-alike arrivals (Err x) (Ok b) same = absurd same

pub alike_volumes_are_put_alike : AlikeVolumesArePutAlike
alike_volumes_are_put_alike v w target now arrivals whole alike =
    subst (λ (r : Result Put Refused). EndAlike arrivals r (put_volume w target now arrivals)) (sym (put_is_laid v target now arrivals whole))
    (subst (λ (s : Result Put Refused). EndAlike arrivals (with_bytes arrivals (laid_volume v target now arrivals)) s) (sym (put_is_laid w target now arrivals whole))
    (bytes-alike arrivals (laid_volume v target now arrivals) (laid_volume w target now arrivals) (put-alike no_file target now (map without_bytes arrivals) v w alike)))
