-- `judging::good_interval` meets its contract. Assumes nothing.
use Rattle.std.proofs.Common.{◌≡◌, refl, arith}
use Rattle.model.specs.Judging.{distance, good_times, good_interval}
use Rattle.judging.proofs.good_interval.Goals as goal

pub returns : goal.returns
unfolding good_interval good_times distance
returns c =
    λ m name.
    let t = c.args.t in
    let is : c.wrapping_sub_u32-distance.result ≡ distance t.inception t.expiration = omega (arith, c.wrapping_sub_u32-distance.ensures) in
    rw is refl
