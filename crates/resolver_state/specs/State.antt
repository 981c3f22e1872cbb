-- Where the resolver's state lies, in 12 words of 64 bits and 510 octets that a caller lends (02, CR 1).
--
--   word      holds
--   0         which keys are held: 1 the adopted one, 2 the adopted and the offered one; every other value: none
--   1 .. 4    the adopted key: its name's length, its algorithm (256, 384 or 512), inception, expiration
--   5 .. 8    the offered key, likewise
--   9         the open request: 1 an ordinary message, 2 a renewal, 3 an adoption, 4 a deletion; every other value: none is open
--   10        its ID
--   11        1: the next adoption is signed with the offered key; every other value: with the adopted one
--
-- The adopted key's name lies in the octets 0 .. 254, the offered key's in 255 .. 509. Every content of words and octets is a state: times are read modulo
-- 2^32, IDs modulo 2^16, and a key whose algorithm's word is none of the three is not held. Assumes nothing.
use Rattle.std.specs.Prelude.{ℕ, ◌+◌, ◌%◌, ◌<◌, ◌≡◌, Bool, cond, List, [], ◌∷◌, ◌++◌, length, get_or, eqb, is_some, unwrap_or, Option, Some, None}
use Rattle.model.specs.declared.Algorithm.TheVariants.{Sha512}
use Rattle.model.specs.declared.ResolverKey.{ResolverKey}
use Rattle.model.specs.declared.Holding.{Holding}
use Rattle.model.specs.declared.Asking.{Asking}
use Rattle.model.specs.declared.Asking.TheVariants.{Ordinary, Renewal, Adoption, Deletion}
use Rattle.model.specs.declared.Resolver.{Resolver}
use Rattle.model.specs.Octets.{part}
use Rattle.model.specs.Names.{algorithm_numbered, algorithm_number}
use Rattle.model.specs.declared.OpenRequest.{OpenRequest}

-- ── What they show ──────────────────────────────────────────────────────────────────────────────────────────────────

-- The key in the four words from the word i on, its name in the 255 octets from the place `at` on. The algorithm of a key that is not held has no meaning.
unfoldable pub key_in : List ℕ → ℕ → List ℕ → ℕ → ResolverKey
key_in w i names at =
    record {
      name = part names at 255;
      length = get_or w i 0;
      algorithm = unwrap_or (algorithm_numbered (get_or w (i + 1) 0)) Sha512;
      inception = get_or w (i + 2) 0 % 4294967296;
      expiration = get_or w (i + 3) 0 % 4294967296;
    }

-- Which keys are held, by word 0 and whether the algorithms of the adopted and of the offered key are known: what is left without a key that is not.
unfoldable pub holding_by : ℕ → Bool → Bool → Holding
holding_by tag adopted offered =
    cond adopted
    (cond (eqb tag 1) Holding.Adopted
    (cond (eqb tag 2) (cond offered Holding.AdoptedAndOffered Holding.Adopted)
    Holding.Nothing))
    Holding.Nothing

-- The open request, by words 9 and 10.
unfoldable pub request_by : ℕ → ℕ → Option OpenRequest
request_by tag id =
    cond (eqb tag 1) (Some (record { id = (id % 65536); asking = Ordinary }))
    (cond (eqb tag 2) (Some (record { id = (id % 65536); asking = Renewal }))
    (cond (eqb tag 3) (Some (record { id = (id % 65536); asking = Adoption }))
    (cond (eqb tag 4) (Some (record { id = (id % 65536); asking = Deletion }))
    None)))

-- THE VIEW: the state that the words w and the octets `names` show.
unfoldable pub resolver_of : List ℕ → List ℕ → Resolver
resolver_of w names =
    record {
      holding = holding_by (get_or w 0 0) (is_some (algorithm_numbered (get_or w 2 0))) (is_some (algorithm_numbered (get_or w 6 0)));
      adopted = key_in w 1 names 0;
      offered = key_in w 5 names 255;
      awaited = request_by (get_or w 9 0) (get_or w 10 0);
      offered_signs = eqb (get_or w 11 0) 1;
    }

-- ── A state as words and octets ─────────────────────────────────────────────────────────────────────────────────────

abbrev pub holding_word : Holding → ℕ
holding_word Holding.Nothing = 0
holding_word Holding.Adopted = 1
holding_word Holding.AdoptedAndOffered = 2

abbrev pub asking_word : Asking → ℕ
asking_word Ordinary = 1
asking_word Renewal = 2
asking_word Adoption = 3
asking_word Deletion = 4

-- Where no request is open, the words of one are 0.
abbrev pub request_word : Option OpenRequest → ℕ
request_word None = 0
request_word (Some q) = asking_word q.asking

abbrev pub id_word : Option OpenRequest → ℕ
id_word None = 0
id_word (Some q) = q.id

unfoldable pub state_words : Resolver → List ℕ
state_words s =
    holding_word s.holding
    ∷ s.adopted.length ∷ algorithm_number s.adopted.algorithm ∷ s.adopted.inception ∷ s.adopted.expiration
    ∷ s.offered.length ∷ algorithm_number s.offered.algorithm ∷ s.offered.inception ∷ s.offered.expiration
    ∷ request_word s.awaited ∷ id_word s.awaited ∷ cond s.offered_signs 1 0 ∷ []

unfoldable pub state_names : Resolver → List ℕ
state_names s = s.adopted.name ++ s.offered.name

-- What the types say: times and the ID lie in their fields, and a name has 255 octets.
pub record TimesFit (k : ResolverKey) : Type 0 where
  pub inception : k.inception < 4294967296
  pub expiration : k.expiration < 4294967296

pub record WordsStored (s : Resolver) (w : List ℕ) : Type 0 where
  pub says : w ≡ state_words s
  pub adopted : TimesFit s.adopted
  pub offered : TimesFit s.offered
  pub id : id_word s.awaited < 65536

pub record NamesStored (s : Resolver) (names : List ℕ) : Type 0 where
  pub says : names ≡ state_names s
  pub adopted : length s.adopted.name ≡ 255
  pub offered : length s.offered.name ≡ 255

-- A state was stored: these are the words and the octets, and they show it.
pub record Stored (s : Resolver) (w names : List ℕ) : Type 0 where
  pub words : w ≡ state_words s
  pub octets : names ≡ state_names s
  pub shows : resolver_of w names ≡ s
