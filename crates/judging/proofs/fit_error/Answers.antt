-- `judging::fit_error` meets its contract. Assumes nothing.
use Rattle.std.proofs.Common.{refl}
use Rattle.model.specs.Judging.{form_err, bad_key}
use Rattle.judging.proofs.Fits.{fits_all, none_needed}
use Rattle.judging.proofs.fit_error.Goals as goal

pub returns-then-fits : goal.returns-then-fits
returns-then-fits c = fits_all _ _ c.if-fits.true

pub returns-in-DiffieHellman : goal.returns-in-DiffieHellman
unfolding bad_key
returns-in-DiffieHellman c = rw (c.in-DiffieHellman.is, c.if-fits.false) (λ d. refl)

pub returns-in-ServerAssignment : goal.returns-in-ServerAssignment
returns-in-ServerAssignment c = rw c.in-ServerAssignment.is (none_needed c.args.fits)

pub returns-in-ResolverAssignment : goal.returns-in-ResolverAssignment
unfolding form_err
returns-in-ResolverAssignment c = rw (c.in-ResolverAssignment.is, c.if-fits.false) (λ d. refl)
