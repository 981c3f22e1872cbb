-- A KEY that fits, or that is not looked at. Assumes nothing.
use Rattle.std.proofs.Common.{◌≡◌, Bool, true, refl}
use Rattle.std.specs.Prelude.{None}
use Rattle.model.specs.declared.Scheme.{Scheme}
use Rattle.model.specs.declared.Scheme.TheVariants.{DiffieHellman, ServerAssignment, ResolverAssignment}
use Rattle.model.specs.declared.Decision.{Decision}
use Rattle.model.specs.Judging.{check_fit}
use Rattle.judging.specs.Judged.{FitError}

fit_passes : (s : Scheme) (d : Decision) → check_fit s true d ≡ d
fit_passes DiffieHellman d = refl
fit_passes ServerAssignment d = refl
fit_passes ResolverAssignment d = refl

pub fits_all : (s : Scheme) (fits : Bool) → fits ≡ true → FitError s fits None
fits_all s fits e = rw e (fit_passes s)

pub none_needed : (fits : Bool) → FitError ServerAssignment fits None
none_needed fits = λ d. refl
