-- Edges of Granted, computed by antt: 02, CR 1. Where a reply brings key data and where none, a state to start from, and an algorithm by its number. Assumes
-- nothing.
use mathlib.Core.Path.{◌≡◌, refl}
use mathlib.Core.Bool.{true, false}
use Rattle.std.specs.Prelude.{None, Some}
use mathlib.Core.List.{[], ◌∷◌, ◌++◌}
use lib.ListN.{replicate}
use Rattle.model.specs.declared.Algorithm.TheVariants.{Sha256, Sha384}
use Rattle.model.specs.declared.Holding.TheVariants as Holding
use Rattle.model.specs.declared.Asking.TheVariants.{Ordinary, Renewal, Adoption, Deletion}
use Rattle.model.specs.declared.Resolver.{Resolver}
use Rattle.model.specs.Names.{key_name, algorithm_name}
use Rattle.model.specs.Resolver.{unwritten}
use Rattle.model.specs.Granted.{key_named, starting_with, unheld, held, numbered_renewal, key_data_of, accepted_data, no_data, granted_data}
use Rattle.model.proofs.Requests.{suffix, key_record}
use Rattle.model.proofs.ResolverEdges.{open_all, first, state, awaiting, reply, tkey, good, lost, other_id, bare, before}

unfoldable open_granted : Resolver → Resolver
unfolding open_all key_named starting_with unheld held numbered_renewal key_data_of accepted_data no_data granted_data
open_granted s = s

-- The TKEYs of ResolverEdges bring the octets 7 and 7. A key offered before makes no difference.
pub brought :
    (granted_data (awaiting Renewal) true (good 4098) ≡ Some (7 ∷ 7 ∷ []))
    × (granted_data (state Holding.Adopted (Some (record { id = 4660; asking = Renewal })) true) true (reply 0x80f0 1 0 (tkey 4098 0 (algorithm_name Sha384) []) 0)
    ≡ Some (7 ∷ 7 ∷ []))
unfolding open_granted
brought = (refl, refl)

-- A refusal brings none: LOST, WRONGID, UNSIGNED for its two reasons, FORMAT.
pub refused :
    (granted_data lost true (good 4098) ≡ None)
    × (granted_data other_id true (good 4098) ≡ None)
    × (granted_data (awaiting Renewal) true bare ≡ None)
    × (granted_data (awaiting Renewal) false (good 4098) ≡ None)
    × (granted_data (awaiting Renewal) true (replicate 11 0) ≡ None)
    × (granted_data (awaiting Renewal) true (good 4098 ++ (0 ∷ [])) ≡ None)
unfolding open_granted
refused = (refl, refl, refl, refl, refl, refl)

-- Nor does the reply to another request, or one of another mode.
pub other_requests :
    (granted_data (awaiting Adoption) true (good 4100) ≡ None)
    × (granted_data (awaiting Deletion) true (good 5) ≡ None)
    × (granted_data (awaiting Ordinary) true (good 4098) ≡ None)
    × (granted_data (awaiting Renewal) true (good 4100) ≡ None)
unfolding open_granted
other_requests = (refl, refl, refl, refl)

-- Nor one with an error (TKEY, RCODE, TSIG; QR 0), an unknown algorithm, two TKEYs, or to a resolver with no key.
pub ungranted :
    (granted_data (awaiting Renewal) true (reply 0x8000 1 0 (tkey 4098 21 (algorithm_name Sha256) []) 0) ≡ None)
    × (granted_data (awaiting Renewal) true (reply 0x8001 1 0 (tkey 4098 0 (algorithm_name Sha256) []) 0) ≡ None)
    × (granted_data (awaiting Renewal) true (reply 0x8000 1 0 (tkey 4098 0 (algorithm_name Sha256) []) 18) ≡ None)
    × (granted_data (awaiting Renewal) true (reply 0 1 0 (tkey 4098 0 (algorithm_name Sha256) []) 0) ≡ None)
    × (granted_data (awaiting Renewal) true (reply 0x8000 1 0 (tkey 4098 0 (1 ∷ 120 ∷ 0 ∷ []) []) 0) ≡ None)
    × (granted_data (awaiting Renewal) true (reply 0x8000 2 0 (tkey 4098 0 (algorithm_name Sha256) [] ++ tkey 4098 0 (algorithm_name Sha256) []) 0) ≡ None)
    × (granted_data (state Holding.Nothing (Some (record { id = 4660; asking = Renewal })) true) true (good 4098) ≡ None)
unfolding open_granted
ungranted = (refl, refl, refl, refl, refl, refl, refl)

-- A state to start from, whatever was there before; NOKEY for an empty name, a name with an octet too many, and an algorithm that is none of the three.
pub starts :
    held lost (key_name 1 suffix) 256 1000 1600
    ≡ record {
      number = 0;
      state = record { holding = Holding.Adopted; adopted = first; offered = first; awaited = None; offered_signs = false };
    }
unfolding open_granted
starts = refl

pub not_held :
    (held before [] 256 1000 1600 ≡ record { number = 6; state = before })
    × (held before (key_name 1 suffix ++ (0 ∷ [])) 256 1000 1600 ≡ record { number = 6; state = before })
    × (held before (key_name 1 suffix) 255 1000 1600 ≡ record { number = 6; state = before })
unfolding open_granted
not_held = (refl, refl, refl)

pub numbered :
    ((numbered_renewal before 4660 [] 384 1200 1800 key_record 512).result.length ≡ 98)
    × (numbered_renewal before 4660 [] 0 1200 1800 key_record 512 ≡ unwritten before 6)
unfolding open_granted
numbered = (refl, refl)
