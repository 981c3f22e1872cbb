-- What a call of the resolver for C leaves: at entry the words w and the octets n show a state, at exit they are w' and n'; the number r is returned. Each
-- call is the definition's, of the state that was shown. Assumes nothing.
use Rattle.model.specs.declared.Span.{Span}
use Rattle.std.specs.Prelude.{ℕ, ◌+◌, ◌≤◌, Bool, cond, List, [], ◌∷◌, ◌≡◌, length, Option, None, Some}
use Rattle.model.specs.declared.Resolver.{Resolver}
use Rattle.model.specs.declared.SignWith.{SignWith}
use Rattle.model.specs.declared.SignWith.TheVariants.{Nobody, AdoptedKey, OfferedKey}
use Rattle.model.specs.declared.Heard.{Heard}
use Rattle.model.specs.Octets.{part}
use Rattle.model.specs.Resolver.{Writing, written_into}
use Rattle.model.specs.Granted.{Hold}
use Rattle.resolver_state.specs.State.{resolver_of}

-- The state and the number that a call ends with.
pub record Moved (number : ℕ) (after : Resolver) (w n w' n' : List ℕ) (r : ℕ) : Type 0 where
  pub state : resolver_of w' n' ≡ after
  pub returned : r ≡ number
  -- a refusal leaves every word and every octet
  pub refused : (r ≡ 0 → ⊥) → (w' ≡ w) × (n' ≡ n)

-- Holding a key.
abbrev pub HoldLent : Hold → List ℕ → List ℕ → List ℕ → List ℕ → ℕ → Type 0
HoldLent x w n w' n' r = Moved x.number x.state w n w' n' r

-- The key to sign with, as it is told.
abbrev pub signer_word : SignWith → ℕ
signer_word Nobody = 0
signer_word AdoptedKey = 1
signer_word OfferedKey = 2

-- A writing call: it tells how many octets it wrote and the key to sign them with. The lent buffer is b at entry and b' at exit.
pub record SentLent (x : Writing) (w n w' n' t b b' : List ℕ) (r : ℕ) : Type 0 where
  pub moved : Moved x.result.number x.result.state w n w' n' r
  pub told : t ≡ x.result.length ∷ signer_word x.result.signer ∷ []
  pub left : b' ≡ written_into x b

-- The reading call tells whether renewal is due, whether a renewal was granted, and where in the message m its key data stands, and how many octets it has.
abbrev pub due_word : Bool → ℕ
due_word due = cond due 1 0

abbrev pub DataTold : List ℕ → ℕ → Option (List ℕ) → List ℕ → Type 0
DataTold m due None told = told ≡ due ∷ 0 ∷ 0 ∷ 0 ∷ []
DataTold m due (Some d) told = (from : ℕ) × (size : ℕ) × (told ≡ due ∷ 1 ∷ from ∷ size ∷ []) × (from + size ≤ length m) × (part m from size ≡ d)

pub record HeardLent (h : Heard) (m : List ℕ) (x : Option (List ℕ)) (w n w' n' t : List ℕ) (r : ℕ) : Type 0 where
  pub moved : Moved h.number h.state w n w' n' r
  pub told : DataTold m (due_word h.due) x t

-- ── Steps ───────────────────────────────────────────────────────────────────────────────────────────────────────────

-- What a call ends with is stored, unless it refused.
pub record Kept (number : ℕ) (after : Resolver) (w n w' n' : List ℕ) (r : ℕ) : Type 0 where
  pub returned : r ≡ number
  pub done : number ≡ 0 → resolver_of w' n' ≡ after
  pub refused : (number ≡ 0 → ⊥) → (w' ≡ w) × (n' ≡ n)

-- What the reading call tells, by where the key data was found.
abbrev pub heard_words : Bool → Option Span → List ℕ
heard_words due None = due_word due ∷ 0 ∷ 0 ∷ 0 ∷ []
heard_words due (Some p) = due_word due ∷ 1 ∷ p.from ∷ p.size ∷ []
