-- What a writing call of the resolver leaves, against model's Writing. Assumes nothing.
use Rattle.std.specs.Prelude.{ℕ, ◌≡◌, List, Result, Ok, Err}
use Rattle.model.specs.declared.Resolver.{Resolver}
use Rattle.model.specs.declared.SignWith.{SignWith}
use Rattle.model.specs.declared.Sending.{Sending}
use Rattle.model.specs.Resolver.{Writing, unwritten, written_into}
use Rattle.resolver_requests.specs.declared.Refusal.{Refusal}
use Rattle.resolver_requests.specs.declared.Refusal.TheVariants.{Room, NoKey}

-- The number of a refusal; and what is returned: a request of this length with who signs it, `after` being the state with the request open, or a refusal,
-- which writes nothing.
abbrev pub number_of : Refusal → ℕ
number_of Room = 5
number_of NoKey = 6

abbrev pub sending_by : Resolver → SignWith → Resolver → Result ℕ Refusal → Sending
sending_by s signer after (Ok n) = record { number = 0; length = n; signer = signer; state = after }
sending_by s signer after (Err r) = (unwritten s (number_of r)).result

-- What it returns, and the lent buffer afterwards.
pub record Sent (w : Writing) (entry exit : List ℕ) (r : Sending) : Type 0 where
  pub result : r ≡ w.result
  pub left : exit ≡ written_into w entry
