-- What an inquiry that writes words or octets leaves, against the crate model's Inquiries. Assumes nothing.
use Rattle.std.specs.Prelude.{ℕ, ◌≡◌, List, length}
use Rattle.model.specs.declared.ShownPair.{ShownPair}
use Rattle.model.specs.Octets.{put}
use Rattle.model.specs.Inquiries.{Spelt}
use Rattle.store.specs.Layout.{pair_words}
use Rattle.inquiries.specs.declared.Spelling.{Spelling}

-- The pair is told as fourteen words: lifetime, fresh period, next serial, keys. Where the inquiry is refused, they are zeros.
pub record PairTold (a : ShownPair) (words : List ℕ) (r : ℕ) : Type 0 where
  pub number : r ≡ a.number
  pub told : words ≡ pair_words a.pair

-- What is returned, and the lent buffer afterwards: a refusal leaves it as it was.
pub record Spells (a : Spelt) (entry exit : List ℕ) (r : Spelling) : Type 0 where
  pub number : r.number ≡ a.number
  pub length : r.length ≡ length a.octets
  pub left : exit ≡ put a.octets entry
