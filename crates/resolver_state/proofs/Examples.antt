-- Worked examples of the view, computed by antt. Assumes nothing.
use Prim.Native.Nat.{ℕ}
use mathlib.Core.Path.{◌≡◌, refl}
use mathlib.Core.Bool.{Bool, true, false}
use mathlib.Core.List.{List, [], ◌∷◌, ◌++◌}
use lib.ListN.{replicate}
use Rattle.std.specs.Prelude.{Option, Some, None}
use Rattle.model.specs.declared.Algorithm.{Algorithm}
use Rattle.model.specs.declared.Algorithm.TheVariants.{Sha256, Sha384, Sha512}
use Rattle.model.specs.declared.ResolverKey.{ResolverKey}
use Rattle.model.specs.declared.Holding.{Holding}
use Rattle.model.specs.declared.Asking.TheVariants.{Ordinary, Renewal, Adoption, Deletion}
use Rattle.model.specs.declared.Resolver.{Resolver}
use Rattle.model.specs.Octets.{part}
use Rattle.model.specs.Names.{algorithm_numbered}
use Rattle.resolver_state.specs.State.{key_in, holding_by, request_by, resolver_of, state_words, state_names}
use Rattle.model.specs.declared.OpenRequest.{OpenRequest}

unfoldable open_all : ℕ → ℕ
unfolding part algorithm_numbered key_in holding_by request_by resolver_of state_words state_names
open_all n = n

-- The names 1.a. and 2.b. in their places.
abbrev first : List ℕ
first = 1 ∷ 49 ∷ 1 ∷ 97 ∷ 0 ∷ replicate 250 0

abbrev second : List ℕ
second = 1 ∷ 50 ∷ 1 ∷ 98 ∷ 0 ∷ replicate 250 9

abbrev octets : List ℕ
octets = first ++ second

abbrev key : List ℕ → Algorithm → ℕ → ℕ → ResolverKey
key name g inception expiration = record { name = name; length = 5; algorithm = g; inception = inception; expiration = expiration }

abbrev state : Holding → Algorithm → Algorithm → Option OpenRequest → Bool → Resolver
state holding g h awaited signs =
    record { holding = holding; adopted = key first g 1000 1600; offered = key second h 1200 1800; awaited = awaited; offered_signs = signs }

-- These words, but for word 0, the two algorithms, words 9, 10 and 11.
abbrev words : ℕ → ℕ → ℕ → ℕ → ℕ → ℕ → List ℕ
words held g h asking id signs = held ∷ 5 ∷ g ∷ 1000 ∷ 1600 ∷ 5 ∷ h ∷ 1200 ∷ 1800 ∷ asking ∷ id ∷ signs ∷ []

-- Both keys, an adoption open, the offered key's turn; as it is stored.
abbrev both : Resolver
both = state Holding.AdoptedAndOffered Sha256 Sha384 (Some (record { id = 4660; asking = Adoption })) true

pub shown : resolver_of (words 2 256 384 3 4660 1) octets ≡ both
unfolding open_all
shown = refl

pub laid : (state_words both ≡ words 2 256 384 3 4660 1) × (state_names both ≡ octets)
unfolding open_all
laid = (refl, refl)

-- Word 0, and an algorithm that is none of the three.
pub held :
    ((resolver_of (words 1 256 384 0 0 0) octets).holding ≡ Holding.Adopted)
    × ((resolver_of (words 0 256 384 0 0 0) octets).holding ≡ Holding.Nothing)
    × ((resolver_of (words 3 256 384 0 0 0) octets).holding ≡ Holding.Nothing)
    × ((resolver_of (words 2 512 1 0 0 0) octets).holding ≡ Holding.Adopted)
    × ((resolver_of (words 2 1 512 0 0 0) octets).holding ≡ Holding.Nothing)
    × ((resolver_of (words 1 1 512 0 0 0) octets).holding ≡ Holding.Nothing)
unfolding open_all
held = (refl, refl, refl, refl, refl, refl)

-- The open request; an ID is read modulo 2^16.
pub awaited :
    ((resolver_of (words 2 256 384 0 7 0) octets).awaited ≡ None)
    × ((resolver_of (words 2 256 384 1 7 0) octets).awaited ≡ Some (record { id = 7; asking = Ordinary }))
    × ((resolver_of (words 2 256 384 2 65535 0) octets).awaited ≡ Some (record { id = 65535; asking = Renewal }))
    × ((resolver_of (words 2 256 384 4 65537 0) octets).awaited ≡ Some (record { id = 1; asking = Deletion }))
    × ((resolver_of (words 2 256 384 5 7 0) octets).awaited ≡ None)
unfolding open_all
awaited = (refl, refl, refl, refl, refl)

-- Only 1 gives the offered key its turn. Times are read modulo 2^32, lengths as they are.
pub signs : ((resolver_of (words 2 256 384 0 0 0) octets).offered_signs ≡ false) × ((resolver_of (words 2 256 384 0 0 2) octets).offered_signs ≡ false)
unfolding open_all
signs = (refl, refl)

pub read :
    (resolver_of (1 ∷ 256 ∷ 512 ∷ 4294967296 ∷ 4294967295 ∷ []) octets).adopted
    ≡ record { name = first; length = 256; algorithm = Sha512; inception = 0; expiration = 4294967295 }
unfolding open_all
read = refl
