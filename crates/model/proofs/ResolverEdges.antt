-- Edges of the resolver's half, computed by antt: 02, CR 1. Each refusal alone and in its order, what a reply moves and what it does not, what each call
-- writes, and the turn of adoptions. Assumes nothing.
use Prim.Native.Nat.{ℕ, suc}
use mathlib.Core.Path.{◌≡◌, refl}
use mathlib.Core.Bool.{Bool, true, false}
use mathlib.Core.List.{List, [], ◌∷◌, ◌++◌}
use lib.ListN.{replicate}
use Rattle.std.specs.Prelude.{Option, Some, None}
use Rattle.model.specs.declared.Algorithm.{Algorithm}
use Rattle.model.specs.declared.Algorithm.TheVariants.{Sha256, Sha384}
use Rattle.model.specs.declared.ResolverKey.{ResolverKey}
use Rattle.model.specs.declared.Holding.{Holding}
use Rattle.model.specs.declared.Asking.{Asking}
use Rattle.model.specs.declared.Asking.TheVariants.{Ordinary, Renewal, Adoption, Deletion}
use Rattle.model.specs.declared.Resolver.{Resolver}
use Rattle.model.specs.declared.SignWith.{SignWith}
use Rattle.model.specs.declared.SignWith.TheVariants.{Nobody, AdoptedKey, OfferedKey}
use Rattle.model.specs.declared.Heard.{Heard}
use Rattle.model.specs.Names.{key_name, algorithm_name}
use Rattle.model.specs.Replies.{record_octets, tkey_data}
use Rattle.model.specs.Resolver.{LOST, WRONGID, UNSIGNED, FORMAT, ROOM, NOKEY, name_of, usable, adopted_key, offered_key, opened, noted, closed, Writing, unwritten, sent, request_octets, old_key, renewal_octets, adoption_octets, deletion_octets, written_renewal, written_adoption, written_deletion, written_into, answer_other, answer_key, answer_times, answer_of, answers, only_answer, keyless, unheard, rcode_of, accepted, heard, read_reply}
use Rattle.model.proofs.Requests.{suffix, header_of, question, stamp_for, key_record}
use Rattle.model.proofs.Running.{after}
use Rattle.model.specs.declared.OpenRequest.{OpenRequest}

-- Every definition of the resolver's half opened.
unfoldable pub open_all : Resolver → Resolver
unfolding after LOST WRONGID UNSIGNED FORMAT ROOM NOKEY name_of usable adopted_key offered_key opened noted closed unwritten sent request_octets old_key renewal_octets adoption_octets deletion_octets written_renewal written_adoption written_deletion written_into answer_other answer_key answer_times answer_of answers only_answer keyless unheard rcode_of accepted heard read_reply
open_all s = s

-- ── States and replies ──────────────────────────────────────────────────────────────────────────────────────────────

-- A key of a.example., its name in the first 13 octets.
abbrev pub key_of : ℕ → Algorithm → ℕ → ℕ → ResolverKey
key_of serial g inception expiration =
    record { name = key_name serial suffix ++ replicate 242 0; length = 13; algorithm = g; inception = inception; expiration = expiration }

abbrev pub first : ResolverKey
first = key_of 1 Sha256 1000 1600

abbrev pub second : ResolverKey
second = key_of 2 Sha256 1200 1800

-- Keys 1 and 2, this request open, and whether the offered key signs next; with what is asked open under ID 4660, and with that closed.
abbrev pub state : Holding → Option OpenRequest → Bool → Resolver
state holding awaited signs = record { holding = holding; adopted = first; offered = second; awaited = awaited; offered_signs = signs }

abbrev pub awaiting : Asking → Resolver
awaiting asking = state Holding.AdoptedAndOffered (Some (record { id = 4660; asking = asking })) true

abbrev pub settled : Resolver
settled = state Holding.AdoptedAndOffered None true

-- A reply of ID 4660 with these flags, so many answers and additional records, these, and a TSIG of key 1 with this error.
abbrev pub reply : ℕ → ℕ → ℕ → List ℕ → ℕ → List ℕ
reply flags answers additionals records error =
    header_of 4660 flags 1 answers 0 (suc additionals)
    ++ (question (0 ∷ []) 249 255 ++ (records ++ record_octets (key_name 1 suffix) 250 255 0 (algorithm_name Sha256 ++ stamp_for 1300 300 32 error)))

-- A TKEY of key 3, 1300 to 1900: its mode, its error, its algorithm, and octets behind its data.
abbrev pub tkey : ℕ → ℕ → List ℕ → List ℕ → List ℕ
tkey mode error algorithm more = record_octets (key_name 3 suffix) 249 255 0 (tkey_data algorithm 1300 1900 mode error (7 ∷ 7 ∷ []) [] ++ more)

abbrev pub good : ℕ → List ℕ
good mode = reply 0x8000 1 0 (tkey mode 0 (algorithm_name Sha256) []) 0

-- ── Reading: refusals ───────────────────────────────────────────────────────────────────────────────────────────────

-- "Each changes no key": the state is as it was, its request open, and nothing is due.
abbrev left : Resolver → ℕ → Heard
left s n = record { number = n; due = false; state = s }

abbrev pub lost : Resolver
lost = state Holding.AdoptedAndOffered None true

abbrev pub other_id : Resolver
other_id = state Holding.AdoptedAndOffered (Some (record { id = 4661; asking = Renewal })) true

-- A reply with no TSIG.
abbrev pub bare : List ℕ
bare = header_of 4660 0x8000 1 1 0 0 ++ (question (0 ∷ []) 249 255 ++ tkey 4098 0 (algorithm_name Sha256) [])

-- A reply of 65,558 octets, with one record.
abbrev huge : List ℕ
huge = header_of 4660 0x8000 0 0 0 1 ++ ((0 ∷ 0 ∷ 1 ∷ 0 ∷ 1 ∷ 0 ∷ 0 ∷ 0 ∷ 0 ∷ 255 ∷ 255 ∷ []) ++ replicate 65535 0)

-- "1 LOST (no request open), 2 WRONGID, 3 UNSIGNED (no TSIG or a bad verdict), 4 FORMAT": 11 octets, octets left over, and more than a message may have; a TSIG
-- that is not the last record is none.
pub reading_refusals :
    (read_reply lost true (good 4098) ≡ left lost 1)
    × (read_reply other_id true (good 4098) ≡ left other_id 2)
    × (read_reply (awaiting Renewal) true bare ≡ left (awaiting Renewal) 3)
    × (read_reply (awaiting Renewal) true (reply 0x8000 2 0 (tkey 4098 0 (algorithm_name Sha256) [] ++ record_octets (key_name 1 suffix) 250 255 0 []) 0)
    ≡ left (awaiting Renewal) 3)
    × (read_reply (awaiting Renewal) false (good 4098) ≡ left (awaiting Renewal) 3)
    × (read_reply (awaiting Renewal) true (replicate 11 0) ≡ left (awaiting Renewal) 4)
    × (read_reply (awaiting Renewal) true (good 4098 ++ (0 ∷ [])) ≡ left (awaiting Renewal) 4)
    × (read_reply (awaiting Renewal) true huge ≡ left (awaiting Renewal) 4)
unfolding open_all
reading_refusals = (refl, refl, refl, refl, refl, refl, refl, refl)

-- "Reading checks 4, 1, 2, 3", each with all that follow it; UNSIGNED for its two reasons.
pub reading_order :
    (read_reply lost false (replicate 11 0) ≡ left lost 4)
    × (read_reply lost false (bare ++ (0 ∷ [])) ≡ left lost 4)
    × (read_reply lost false bare ≡ left lost 1)
    × (read_reply other_id true bare ≡ left other_id 2)
    × (read_reply other_id false (good 4098) ≡ left other_id 2)
unfolding open_all
reading_order = (refl, refl, refl, refl, refl)

-- ── Reading: what moves and what does not ───────────────────────────────────────────────────────────────────────────

abbrev heard_as : Bool → Resolver → Heard
heard_as due s = record { number = 0; due = due; state = s }

-- "PartialRevoke alone makes the reading call answer that renewal is due": to an ordinary message and to a deletion; BADKEY does not, nor does a TKEY error of
-- its number, nor a message that is no reply (QR 0, decision 27). "A reply past the checks closes its request."
pub due :
    (read_reply (awaiting Ordinary) true (reply 0x8009 0 0 [] 3841) ≡ heard_as true settled)
    × (read_reply (awaiting Deletion) true (reply 0x8009 0 0 [] 3841) ≡ heard_as true settled)
    × (read_reply (awaiting Ordinary) true (reply 0x8009 0 0 [] 17) ≡ heard_as false settled)
    × (read_reply (awaiting Deletion) true (reply 0x8000 1 0 (tkey 5 3841 (algorithm_name Sha256) []) 0) ≡ heard_as false settled)
    × (read_reply (awaiting Ordinary) true (reply 0x8000 0 0 [] 0) ≡ heard_as false settled)
    × (read_reply (awaiting Ordinary) true (reply 9 0 0 [] 3841) ≡ heard_as false settled)
unfolding open_all
due = (refl, refl, refl, refl, refl, refl)

-- A granted renewal: the offered key, whose first adoption the old key signs; also where there was none. Other flags beside the RCODE are free.
abbrev offered : Algorithm → Resolver
offered g =
    record { holding = Holding.AdoptedAndOffered; adopted = first; offered = key_of 3 g 1300 1900; awaited = None; offered_signs = false }

pub renewed :
    (read_reply (awaiting Renewal) true (good 4098) ≡ heard_as false (offered Sha256))
    × (read_reply (state Holding.Adopted (Some (record { id = 4660; asking = Renewal })) true) true (reply 0x80f0 1 0 (tkey 4098 0 (algorithm_name Sha384) []) 0)
    ≡ heard_as false (offered Sha384))
unfolding open_all
renewed = (refl, refl)

-- An adoption: the offered key, and the old one is gone. A deletion: no key.
pub adopted :
    read_reply (awaiting Adoption) true (good 4100)
    ≡ heard_as false record { holding = Holding.Adopted; adopted = second; offered = second; awaited = None; offered_signs = true }
unfolding open_all
adopted = refl

pub deleted : read_reply (awaiting Deletion) true (good 5) ≡ heard_as false (state Holding.Nothing None true)
unfolding open_all
deleted = refl

-- "Moves only on a reply without errors, with one TKEY answer of its request's mode": each reply of another mode closes the request and moves nothing.
pub other_modes :
    (read_reply (awaiting Renewal) true (good 4100) ≡ heard_as false settled)
    × (read_reply (awaiting Adoption) true (good 4098) ≡ heard_as false settled)
    × (read_reply (awaiting Deletion) true (good 4100) ≡ heard_as false settled)
    × (read_reply (awaiting Ordinary) true (good 5) ≡ heard_as false settled)
unfolding open_all
other_modes = (refl, refl, refl, refl)

-- a TKEY error; an RCODE; a TSIG error; QR 0
pub errors :
    (read_reply (awaiting Renewal) true (reply 0x8000 1 0 (tkey 4098 21 (algorithm_name Sha256) []) 0) ≡ heard_as false settled)
    × (read_reply (awaiting Renewal) true (reply 0x8001 1 0 (tkey 4098 0 (algorithm_name Sha256) []) 0) ≡ heard_as false settled)
    × (read_reply (awaiting Renewal) true (reply 0x8000 1 0 (tkey 4098 0 (algorithm_name Sha256) []) 18) ≡ heard_as false settled)
    × (read_reply (awaiting Renewal) true (reply 0 1 0 (tkey 4098 0 (algorithm_name Sha256) []) 0) ≡ heard_as false settled)
unfolding open_all
errors = (refl, refl, refl, refl)

-- no TKEY; two; one in the additional section alone; one whose data has an octet too many; one of an unknown algorithm
pub no_answers :
    (read_reply (awaiting Adoption) true (reply 0x8000 0 0 [] 0) ≡ heard_as false settled)
    × (read_reply (awaiting Adoption) true (reply 0x8000 2 0 (tkey 4100 0 (algorithm_name Sha256) [] ++ tkey 4100 0 (algorithm_name Sha256) []) 0)
    ≡ heard_as false settled)
    × (read_reply (awaiting Adoption) true (reply 0x8000 0 1 (tkey 4100 0 (algorithm_name Sha256) []) 0) ≡ heard_as false settled)
    × (read_reply (awaiting Adoption) true (reply 0x8000 1 0 (tkey 4100 0 (algorithm_name Sha256) (0 ∷ [])) 0) ≡ heard_as false settled)
    × (read_reply (awaiting Renewal) true (reply 0x8000 1 0 (tkey 4098 0 (1 ∷ 120 ∷ 0 ∷ []) []) 0) ≡ heard_as false settled)
unfolding open_all
no_answers = (refl, refl, refl, refl, refl)

-- ── Writing ─────────────────────────────────────────────────────────────────────────────────────────────────────────

abbrev written : List ℕ → ℕ → SignWith → Resolver → Writing
written octets length signer s = record { result = record { number = 0; length = length; signer = signer; state = s }; octets = octets }

-- Each below has an ordinary message open. "A new request replaces the open one."
abbrev pub before : Resolver
before = state Holding.AdoptedAndOffered (Some (record { id = 1; asking = Ordinary })) true

-- A renewal for the root's name, hmac-sha384, 1200 to 1800, with the KEY record lent; it is signed with the adopted key and takes no turn.
pub renewal_written :
    written_renewal before 4660 [] Sha384 1200 1800 key_record 512
    ≡ written
    (18 ∷ 52 ∷ 0 ∷ 0 ∷ 0 ∷ 1 ∷ 0 ∷ 0 ∷ 0 ∷ 0 ∷ 0 ∷ 2 ∷ 0 ∷ 0 ∷ 249 ∷ 0 ∷ 255
    ∷ 0 ∷ 0 ∷ 249 ∷ 0 ∷ 255 ∷ 0 ∷ 0 ∷ 0 ∷ 0 ∷ 0 ∷ 55
    ∷ 11 ∷ 104 ∷ 109 ∷ 97 ∷ 99 ∷ 45 ∷ 115 ∷ 104 ∷ 97 ∷ 51 ∷ 56 ∷ 52 ∷ 0 ∷ 0 ∷ 0 ∷ 4 ∷ 176 ∷ 0 ∷ 0 ∷ 7 ∷ 8 ∷ 16 ∷ 2 ∷ 0 ∷ 0 ∷ 0 ∷ 0
    ∷ 0 ∷ 26 ∷ 1 ∷ 49 ∷ 1 ∷ 97 ∷ 7 ∷ 101 ∷ 120 ∷ 97 ∷ 109 ∷ 112 ∷ 108 ∷ 101 ∷ 0 ∷ 11 ∷ 104 ∷ 109 ∷ 97 ∷ 99 ∷ 45 ∷ 115 ∷ 104 ∷ 97 ∷ 50 ∷ 53 ∷ 54 ∷ 0
    ∷ 0 ∷ 0 ∷ 25 ∷ 0 ∷ 255 ∷ 0 ∷ 0 ∷ 0 ∷ 0 ∷ 0 ∷ 4 ∷ 2 ∷ 0 ∷ 3 ∷ 1 ∷ [])
    98 AdoptedKey (state Holding.AdoptedAndOffered (Some (record { id = 4660; asking = Renewal })) true)
unfolding open_all
renewal_written = refl

-- An adoption of key 2, its times and both names; here the offered key's turn, and the old one's next.
pub adoption_written :
    written_adoption before 4660 512
    ≡ written
    (18 ∷ 52 ∷ 0 ∷ 0 ∷ 0 ∷ 1 ∷ 0 ∷ 0 ∷ 0 ∷ 0 ∷ 0 ∷ 1 ∷ 1 ∷ 50 ∷ 1 ∷ 97 ∷ 7 ∷ 101 ∷ 120 ∷ 97 ∷ 109 ∷ 112 ∷ 108 ∷ 101 ∷ 0 ∷ 0 ∷ 249 ∷ 0 ∷ 255
    ∷ 1 ∷ 50 ∷ 1 ∷ 97 ∷ 7 ∷ 101 ∷ 120 ∷ 97 ∷ 109 ∷ 112 ∷ 108 ∷ 101 ∷ 0 ∷ 0 ∷ 249 ∷ 0 ∷ 255 ∷ 0 ∷ 0 ∷ 0 ∷ 0 ∷ 0 ∷ 55
    ∷ 11 ∷ 104 ∷ 109 ∷ 97 ∷ 99 ∷ 45 ∷ 115 ∷ 104 ∷ 97 ∷ 50 ∷ 53 ∷ 54 ∷ 0 ∷ 0 ∷ 0 ∷ 4 ∷ 176 ∷ 0 ∷ 0 ∷ 7 ∷ 8 ∷ 16 ∷ 4 ∷ 0 ∷ 0 ∷ 0 ∷ 0
    ∷ 0 ∷ 26 ∷ 1 ∷ 49 ∷ 1 ∷ 97 ∷ 7 ∷ 101 ∷ 120 ∷ 97 ∷ 109 ∷ 112 ∷ 108 ∷ 101 ∷ 0 ∷ 11 ∷ 104 ∷ 109 ∷ 97 ∷ 99 ∷ 45 ∷ 115 ∷ 104 ∷ 97 ∷ 50 ∷ 53 ∷ 54 ∷ 0 ∷ [])
    107 OfferedKey (state Holding.AdoptedAndOffered (Some (record { id = 4660; asking = Adoption })) false)
unfolding open_all
adoption_written = refl

-- A deletion of the adopted key, signed with it.
pub deletion_written :
    written_deletion before 4660 512
    ≡ written
    (18 ∷ 52 ∷ 0 ∷ 0 ∷ 0 ∷ 1 ∷ 0 ∷ 0 ∷ 0 ∷ 0 ∷ 0 ∷ 1 ∷ 1 ∷ 49 ∷ 1 ∷ 97 ∷ 7 ∷ 101 ∷ 120 ∷ 97 ∷ 109 ∷ 112 ∷ 108 ∷ 101 ∷ 0 ∷ 0 ∷ 249 ∷ 0 ∷ 255
    ∷ 1 ∷ 49 ∷ 1 ∷ 97 ∷ 7 ∷ 101 ∷ 120 ∷ 97 ∷ 109 ∷ 112 ∷ 108 ∷ 101 ∷ 0 ∷ 0 ∷ 249 ∷ 0 ∷ 255 ∷ 0 ∷ 0 ∷ 0 ∷ 0 ∷ 0 ∷ 29
    ∷ 11 ∷ 104 ∷ 109 ∷ 97 ∷ 99 ∷ 45 ∷ 115 ∷ 104 ∷ 97 ∷ 50 ∷ 53 ∷ 54 ∷ 0 ∷ 0 ∷ 0 ∷ 0 ∷ 0 ∷ 0 ∷ 0 ∷ 0 ∷ 0 ∷ 0 ∷ 5 ∷ 0 ∷ 0 ∷ 0 ∷ 0 ∷ 0 ∷ 0 ∷ [])
    81 AdoptedKey (state Holding.AdoptedAndOffered (Some (record { id = 4660; asking = Deletion })) true)
unfolding open_all
deletion_written = refl

-- "An ordinary message's ID may be noted as an open request."
pub noted_id : noted (awaiting Adoption) 77 ≡ state Holding.AdoptedAndOffered (Some (record { id = 77; asking = Ordinary })) true
unfolding open_all
noted_id = refl

-- "An adoption without a good reply is sent again, signed first with the offered key, next with the old one, and so on in turn."
abbrev again : Resolver → Resolver
again s = (written_adoption s 4660 512).result.state

abbrev signer : Resolver → SignWith
signer s = (written_adoption s 4660 512).result.signer

abbrev fresh : Resolver
fresh = state Holding.AdoptedAndOffered None false

pub turns :
    (signer fresh ≡ AdoptedKey)
    × (signer (again fresh) ≡ OfferedKey)
    × (signer (again (again fresh)) ≡ AdoptedKey)
    × (signer (again (again (again fresh))) ≡ OfferedKey)
unfolding open_all
turns = (refl, refl, refl, refl)

-- The buffer behind what is written stays.
pub rest_kept : written_into (written (1 ∷ 2 ∷ []) 2 AdoptedKey before) (7 ∷ 7 ∷ 7 ∷ []) ≡ 1 ∷ 2 ∷ 7 ∷ []
unfolding open_all
rest_kept = refl

-- ── Writing: refusals ───────────────────────────────────────────────────────────────────────────────────────────────

-- "Each changes no key and writes nothing": the request that was open is open still.
abbrev nothing : Resolver → ℕ → Writing
nothing s n = record { result = record { number = n; length = 0; signer = Nobody; state = s }; octets = [] }

abbrev empty : Resolver
empty = state Holding.Nothing (Some (record { id = 1; asking = Ordinary })) true

abbrev single : Resolver
single = state Holding.Adopted (Some (record { id = 1; asking = Ordinary })) true

-- A state whose adopted, or offered, key has a name that is cut.
abbrev cut_key : ResolverKey
cut_key = record { name = key_name 1 suffix ++ replicate 242 0; length = 12; algorithm = Sha256; inception = 1000; expiration = 1600 }

abbrev cut_adopted : Resolver
cut_adopted = record { holding = Holding.AdoptedAndOffered; adopted = cut_key; offered = second; awaited = Some (record { id = 1; asking = Ordinary }); offered_signs = true }

abbrev cut_offered : Resolver
cut_offered = record { holding = Holding.AdoptedAndOffered; adopted = first; offered = cut_key; awaited = Some (record { id = 1; asking = Ordinary }); offered_signs = true }

-- "6 NOKEY (no key for that request": no adopted key; no offered key.
pub no_key :
    (written_renewal empty 4660 [] Sha256 1200 1800 key_record 512 ≡ nothing empty 6)
    × (written_adoption empty 4660 512 ≡ nothing empty 6)
    × (written_adoption single 4660 512 ≡ nothing single 6)
    × (written_deletion empty 4660 512 ≡ nothing empty 6)
    × ((written_deletion single 4660 512).result.number ≡ 0)
unfolding open_all
no_key = (refl, refl, refl, refl, refl)

-- ", or its name no wire name)": of the adopted key, of the offered one, of the new one
pub no_wire_name :
    (written_renewal cut_adopted 4660 [] Sha256 1200 1800 key_record 512 ≡ nothing cut_adopted 6)
    × (written_adoption cut_adopted 4660 512 ≡ nothing cut_adopted 6)
    × (written_adoption cut_offered 4660 512 ≡ nothing cut_offered 6)
    × (written_deletion cut_adopted 4660 512 ≡ nothing cut_adopted 6)
    × (written_renewal before 4660 (1 ∷ 97 ∷ []) Sha256 1200 1800 key_record 512 ≡ nothing before 6)
    × ((written_renewal before 4660 (1 ∷ 97 ∷ 0 ∷ []) Sha256 1200 1800 key_record 512).result.number ≡ 0)
unfolding open_all
no_wire_name = (refl, refl, refl, refl, refl, refl)

-- what is lent is one KEY record: nothing, another type, an octet too many, one too few, a pointer for its owner
pub no_key_record :
    (written_renewal before 4660 [] Sha256 1200 1800 [] 512 ≡ nothing before 6)
    × (written_renewal before 4660 [] Sha256 1200 1800 (record_octets (0 ∷ []) 48 255 0 (2 ∷ 0 ∷ 3 ∷ 1 ∷ [])) 512 ≡ nothing before 6)
    × (written_renewal before 4660 [] Sha256 1200 1800 (key_record ++ (0 ∷ [])) 512 ≡ nothing before 6)
    × (written_renewal before 4660 [] Sha256 1200 1800 (0 ∷ 0 ∷ 25 ∷ 0 ∷ 255 ∷ 0 ∷ 0 ∷ 0 ∷ 0 ∷ 0 ∷ 1 ∷ []) 512 ≡ nothing before 6)
    × (written_renewal before 4660 [] Sha256 1200 1800 (record_octets (192 ∷ 12 ∷ []) 25 255 0 (0 ∷ 0 ∷ [])) 512 ≡ nothing before 6)
unfolding open_all
no_key_record = (refl, refl, refl, refl, refl)

-- "5 ROOM": the exact room, and an octet less
pub room :
    ((written_renewal before 4660 [] Sha256 1200 1800 key_record 98).result.number ≡ 0)
    × (written_renewal before 4660 [] Sha256 1200 1800 key_record 97 ≡ nothing before 5)
    × ((written_adoption before 4660 107).result.number ≡ 0)
    × (written_adoption before 4660 106 ≡ nothing before 5)
    × ((written_deletion before 4660 81).result.number ≡ 0)
    × (written_deletion before 4660 80 ≡ nothing before 5)
unfolding open_all
room = (refl, refl, refl, refl, refl, refl)

-- "Writing 6, 5"
pub writing_order :
    (written_renewal empty 4660 [] Sha256 1200 1800 key_record 0 ≡ nothing empty 6)
    × (written_renewal before 4660 (1 ∷ []) Sha256 1200 1800 key_record 0 ≡ nothing before 6)
    × (written_renewal before 4660 [] Sha256 1200 1800 [] 0 ≡ nothing before 6)
    × (written_adoption single 4660 0 ≡ nothing single 6)
    × (written_deletion empty 4660 0 ≡ nothing empty 6)
unfolding open_all
writing_order = (refl, refl, refl, refl, refl)
