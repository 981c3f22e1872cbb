-- What the reader of a request says, against the crate model's asks_of. Assumes nothing.
use Rattle.std.specs.Prelude.{ℕ, ◌≡◌, List, Option, None, Some, Result, Ok, Err, option_map}
use Rattle.model.specs.declared.Span.{Span}
use Rattle.model.specs.Inquiries.{Asks, content_of, unasked_at}
use Rattle.records.specs.Record.{Within, cut}
use Rattle.tkey.specs.declared.OnlyKey.{OnlyKey}
use Rattle.tkey.specs.Key.{key_shown}
use Rattle.contents.specs.declared.Unread.TheVariants.{Size, Broken}
use Rattle.asking.specs.declared.Asked.{Asked}
use Rattle.asking.specs.declared.Unasked.{Unasked}
use Rattle.asking.specs.declared.Unasked.TheVariants.{Unread, NotQuery}

-- What a refusal says: its number, and the place beside FORMAT.
abbrev pub refused_as : Unasked → Asks
refused_as (Unread Size) = unasked_at 4 0
refused_as (Unread (Broken place)) = unasked_at 6 place
refused_as NotQuery = unasked_at 7 0

-- What the answer says the message m asks for.
abbrev pub asked_shown : List ℕ → Result Asked Unasked → Asks
asked_shown m (Ok a) =
    record {
      number = 0;
      place = 0;
      mode = a.mode;
      algorithm = a.algorithm;
      inception = a.inception;
      expiration = a.expiration;
      key = cut m a.key;
      second = option_map (cut m) a.second;
    }
asked_shown m (Err e) = refused_as e

-- The parts of the message m that it names lie there.
abbrev pub SpanIn : List ℕ → Option Span → Type 0
SpanIn m None = Unit {0}
SpanIn m (Some p) = Within m p

abbrev pub PartsIn : List ℕ → Result Asked Unasked → Type 0
PartsIn m (Ok a) = Within m a.key × SpanIn m a.second
PartsIn m (Err e) = Unit {0}

-- The KEY that a message has, as its data.
pub record DataRead (m : List ℕ) (k : Option OnlyKey) (d : Option Span) : Type 0 where
  pub says : content_of (key_shown m k) ≡ option_map (cut m) d
  pub within : SpanIn m d

-- The answer is this, and its parts lie in the message.
pub record Shows (m : List ℕ) (asks : Asks) (a : Result Asked Unasked) : Type 0 where
  pub says : asks ≡ asked_shown m a
  pub within : PartsIn m a
