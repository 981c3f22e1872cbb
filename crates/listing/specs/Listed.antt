-- What a listing answers, and what it leaves in the buffer. Assumes nothing.
use Rattle.std.specs.Prelude.{ℕ, ◌≡◌, List, length, Result, Ok, Err}
use Rattle.model.specs.Tables.{Table}
use Rattle.model.specs.Listing.{listing}
use Rattle.model.specs.Loading as model
use Rattle.octets.specs.Wrote.{Wrote}
use Rattle.listing.specs.declared.ListError.{ListError}
use Rattle.listing.specs.declared.ListError.TheVariants.{Broken, Long}

-- The ending of the definitions (02, CR 7) that each answer stands for.
abbrev pub shown : Table → Result ℕ ListError → model.Listed
shown t (Ok n) = model.lists (listing t)
shown t (Err Broken) = model.bad_table
shown t (Err Long) = model.too_long

-- The listing stands at the front of the buffer, n octets; or the buffer is as it was.
abbrev pub Left : Table → List ℕ → List ℕ → Result ℕ ListError → Type 0
Left t entry exit (Ok n) = Wrote (listing t) 0 entry exit n
Left t entry exit (Err Broken) = exit ≡ entry
Left t entry exit (Err Long) = exit ≡ entry

pub record Lists (t : Table) (entry exit : List ℕ) (r : Result ℕ ListError) : Type 0 where
  pub says : model.list_in (length entry) t ≡ shown t r
  pub left : Left t entry exit r
