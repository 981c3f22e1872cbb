-- What a signing call for C leaves: the number that it returns, the lent buffer, and its words. Assumes nothing.
use Rattle.std.specs.Prelude.{ℕ, ◌+◌, ◌≤◌, ◌≡◌, cond, List, [], ◌∷◌, eqb, length, take, get_or, None, Some, Result, Ok, Err}
use Rattle.model.specs.Octets.{part, put}
use Rattle.model.specs.Tsig.{Tsig}
use Rattle.model.specs.Signing.{Stamp, Assembled, assembled_into, read_back}
use Rattle.digests.specs.declared.Refusal.{Refusal}
use Rattle.digests.specs.Left.{number_in, length_in}
use Rattle.receiving.specs.declared.TsigParts.{TsigParts}
use Rattle.receiving.specs.Receiving.{owner_of, hash_of}

-- The TSIG that a call is asked for.
abbrev pub stamp : ℕ → ℕ → ℕ → ℕ → List ℕ → List ℕ → List ℕ → Stamp
stamp signed fudge original_id error algorithm mac other =
    record { algorithm = algorithm; signed = signed; fudge = fudge; mac = mac; original_id = original_id; error = error; other = other }

-- The answer a is told: how many octets were written is the word, and its number is returned.
pub record Counted (a : Result ℕ Refusal) (words : List ℕ) (r : ℕ) : Type 0 where
  pub written : words ≡ length_in a ∷ []
  pub returned : r ≡ number_in a

-- The number is returned, the word says how many octets are written, and the lent buffer has them at its front, the rest as it was.
pub record LeftTo (a : Assembled) (entry exit words : List ℕ) (r : ℕ) : Type 0 where
  pub number : r ≡ a.number
  pub written : words ≡ length a.octets ∷ []
  pub left : exit ≡ assembled_into a entry

-- The ten words of a TSIG; those of a refusal are 0.
abbrev pub no_words : List ℕ
no_words = 0 ∷ 0 ∷ 0 ∷ 0 ∷ 0 ∷ 0 ∷ 0 ∷ 0 ∷ 0 ∷ 0 ∷ []

abbrev pub words_in : Result TsigParts Refusal → List ℕ
words_in (Ok p) =
    p.named
    ∷ p.fields.algorithm.size
    ∷ p.fields.signed
    ∷ p.fields.fudge
    ∷ p.fields.mac.from
    ∷ p.fields.mac.size
    ∷ p.fields.id
    ∷ p.fields.error
    ∷ p.fields.other.from
    ∷ p.fields.other.size
    ∷ []
words_in (Err r) = no_words

-- The TSIG that ten words say the message m has: its names are the first octets of the two arrays.
abbrev pub tsig_told : List ℕ → List ℕ → List ℕ → List ℕ → Tsig
tsig_told m name algorithm words =
    record {
      name = take (get_or words 0 0) name;
      algorithm = take (get_or words 1 0) algorithm;
      signed = get_or words 2 0;
      fudge = get_or words 3 0;
      mac = part m (get_or words 4 0) (get_or words 5 0);
      original_id = get_or words 6 0;
      error = get_or words 7 0;
      other = part m (get_or words 8 0) (get_or words 9 0);
    }

-- The number and the ten words tell the TSIG of the message m. The arrays are `name` and `algorithm` at entry, and these at exit.
pub record ReadTo (m name algorithm name' algorithm' words : List ℕ) (r : ℕ) : Type 0 where
  pub ten : length words ≡ 10
  -- the number, and the TSIG where it is 0
  pub says : read_back m ≡ record { number = r; tsig = cond (eqb r 0) (Some (tsig_told m name' algorithm' words)) None }
  -- the names are written at the front of the arrays, and nothing else is; nothing at all where the call is refused
  pub named : name' ≡ put (owner_of (read_back m).tsig) name
  pub hashed : algorithm' ≡ put (hash_of (read_back m).tsig) algorithm
  -- a refusal says its number alone
  pub refused : (r ≡ 0 → ⊥) → words ≡ no_words
  -- the names lie in the arrays, the MAC and other data in the message
  pub name_fits : get_or words 0 0 ≤ length name
  pub hash_fits : get_or words 1 0 ≤ length algorithm
  pub mac_fits : get_or words 4 0 + get_or words 5 0 ≤ length m
  pub other_fits : get_or words 8 0 + get_or words 9 0 ≤ length m
