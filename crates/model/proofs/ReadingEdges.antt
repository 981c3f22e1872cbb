-- Edges of reading, computed by antt: 01, "Reading": names, messages, what makes a TSIG or a TKEY ill formed, and what is a TKEY request. Assumes nothing.
use Prim.Native.Nat.{ℕ}
use mathlib.Core.Path.{◌≡◌, refl}
use mathlib.Core.Bool.{true, false}
use Rattle.std.specs.Prelude.{Option, None, Some}
use mathlib.Core.List.{List, [], ◌∷◌, ◌++◌}
use lib.ListN.{replicate}
use lib.IntN.{pos}
use Rattle.model.specs.declared.Algorithm.TheVariants.{Sha256, Sha384, Sha512}
use Rattle.model.specs.declared.Scheme.TheVariants.{DiffieHellman, ServerAssignment, ResolverAssignment}
use Rattle.model.specs.declared.Mode.TheVariants.{Deletion, Renewal, Adoption, Reserved, Unsupported}
use Rattle.model.specs.declared.Keys.TheVariants.{Adopted}
use Rattle.model.specs.Octets.{be16, be48, Reading, stops, reads}
use Rattle.model.specs.Names.{read_name, same_name, key_name, algorithm_name, algorithm_named}
use Rattle.model.specs.Messages.{Message, read_message}
use Rattle.model.specs.Tsig.{Signature, misplaced, signature, tsig_of}
use Rattle.model.specs.Tkey.{Tkey, mode_of, tkey_of}
use Rattle.model.specs.Replies.{record_octets, tkey_data}
use Rattle.model.specs.Runs.{operated}
use Rattle.model.proofs.Requests.{suffix, header_of, question, root_query, stamp, tsig, old}
use Rattle.model.proofs.Running.{after}
use Rattle.model.proofs.Day.{seen, at, first, passes}
use Rattle.model.proofs.Edges.{enrolled, number}

-- ── Names ───────────────────────────────────────────────────────────────────────────────────────────────────────────

-- The name at a place of a message: a header, then these octets.
abbrev read : List ℕ → ℕ → Reading (List ℕ)
read octets place = read_name (replicate 12 0 ++ octets) place

abbrev label : ℕ → List ℕ
label n = n ∷ replicate n 97

-- "A label's first octet: 0 ends, 1–63 is a label, 64–191 is refused, 192–255 starts a pointer." Behind the name a., which a pointer of 12 would lead to; 193
-- and 255 lead to octets 256 and 16,383.
pub first_octets :
    (read (0 ∷ []) 12 ≡ reads (0 ∷ []) 13)
    × (read (label 63 ++ (0 ∷ [])) 12 ≡ reads (label 63 ++ (0 ∷ [])) 77)
    × (read (label 64 ++ (0 ∷ [])) 12 ≡ stops 12)
    × (read (1 ∷ 97 ∷ 0 ∷ 128 ∷ 12 ∷ []) 15 ≡ stops 15)
    × (read (1 ∷ 97 ∷ 0 ∷ 191 ∷ 12 ∷ []) 15 ≡ stops 15)
    × (read (1 ∷ 97 ∷ 0 ∷ 192 ∷ 12 ∷ []) 15 ≡ reads (1 ∷ 97 ∷ 0 ∷ []) 17)
    × (read (replicate 244 0 ++ (1 ∷ 97 ∷ 0 ∷ 193 ∷ 0 ∷ [])) 259 ≡ reads (1 ∷ 97 ∷ 0 ∷ []) 261)
    × (read (255 ∷ 255 ∷ []) 12 ≡ stops 12)
unfolding after
first_octets = (refl, refl, refl, refl, refl, refl, refl, refl)

-- "A pointer's target is 12 or more and below the place where the label run that holds the pointer began": the place before, that place, and a run that began
-- where a pointer led.
pub targets :
    (read (0 ∷ 192 ∷ 12 ∷ []) 13 ≡ reads (0 ∷ []) 15)
    × (read (0 ∷ 1 ∷ 97 ∷ 192 ∷ 13 ∷ []) 13 ≡ stops 15)
    × (read (0 ∷ 1 ∷ 97 ∷ 192 ∷ 12 ∷ []) 13 ≡ reads (1 ∷ 97 ∷ 0 ∷ []) 17)
    × (read (1 ∷ 97 ∷ 192 ∷ 12 ∷ 192 ∷ 12 ∷ []) 16 ≡ stops 14)
unfolding after
targets = (refl, refl, refl, refl)

-- "Labels lead to pointers and pointers back to labels, so a name has both kinds of step": three labels in three runs.
pub both_steps : read (1 ∷ 97 ∷ 0 ∷ 1 ∷ 98 ∷ 192 ∷ 12 ∷ 1 ∷ 99 ∷ 192 ∷ 15 ∷ []) 19 ≡ reads (1 ∷ 99 ∷ 1 ∷ 98 ∷ 1 ∷ 97 ∷ 0 ∷ []) 23
unfolding after
both_steps = refl

-- "Expanded it is at most 255 octets": a label, and a pointer to a name of 253 octets, and of 254.
abbrev long : ℕ → List ℕ
long n = label 63 ++ (label 63 ++ (label 63 ++ (label n ++ (0 ∷ []))))

pub expanded :
    (read (long 59 ++ (1 ∷ 98 ∷ 192 ∷ 12 ∷ [])) 265 ≡ reads (1 ∷ 98 ∷ long 59) 269) × (read (long 60 ++ (1 ∷ 98 ∷ 192 ∷ 12 ∷ [])) 266 ≡ stops 204)
unfolding after
expanded = (refl, refl)

-- Names of other lengths differ.
pub lengths : (same_name (1 ∷ 97 ∷ 0 ∷ []) (1 ∷ 97 ∷ []) ≡ false) × (same_name (1 ∷ 97 ∷ []) (1 ∷ 97 ∷ 0 ∷ []) ≡ false)
unfolding after
lengths = (refl, refl)

-- "hmac-sha256, hmac-sha384 or hmac-sha512": one label on the wire, and nothing more.
abbrev hmac : List ℕ → List ℕ
hmac digits = 11 ∷ 104 ∷ 109 ∷ 97 ∷ 99 ∷ 45 ∷ 115 ∷ 104 ∷ 97 ∷ (digits ++ (0 ∷ []))

pub algorithms :
    (algorithm_named (hmac (50 ∷ 53 ∷ 54 ∷ [])) ≡ Some Sha256)
    × (algorithm_named (hmac (51 ∷ 56 ∷ 52 ∷ [])) ≡ Some Sha384)
    × (algorithm_named (hmac (53 ∷ 49 ∷ 50 ∷ [])) ≡ Some Sha512)
    × (algorithm_named (hmac (53 ∷ 49 ∷ 51 ∷ [])) ≡ None)
    × (algorithm_named (0 ∷ []) ≡ None)
unfolding after
algorithms = (refl, refl, refl, refl, refl)

-- ── Messages ────────────────────────────────────────────────────────────────────────────────────────────────────────

-- "Header, then questions, then records, as counted": a question, and a record of each section, the first with a pointer for its owner.
pub message_read :
    read_message
    (header_of 258 0xe97f 1 1 1 1
    ++ (1 ∷ 97 ∷ 0 ∷ 0 ∷ 1 ∷ 0 ∷ 3
    ∷ 192 ∷ 12 ∷ 0 ∷ 2 ∷ 0 ∷ 1 ∷ 1 ∷ 2 ∷ 3 ∷ 4 ∷ 0 ∷ 2 ∷ 9 ∷ 8
    ∷ 0 ∷ 0 ∷ 6 ∷ 0 ∷ 254 ∷ 0 ∷ 0 ∷ 0 ∷ 5 ∷ 0 ∷ 0
    ∷ 0 ∷ 1 ∷ 41 ∷ 4 ∷ 208 ∷ 0 ∷ 0 ∷ 0 ∷ 0 ∷ 0 ∷ 1 ∷ 7 ∷ []))
    ≡ reads
    (record {
      id = 258;
      response = true;
      opcode = 13;
      desired = 1;
      asked = 1;
      questions = record { name = 1 ∷ 97 ∷ 0 ∷ []; type = 1; class = 3 } ∷ [];
      question_octets = 1 ∷ 97 ∷ 0 ∷ 0 ∷ 1 ∷ 0 ∷ 3 ∷ [];
      records =
          record { section = 1; owner = 1 ∷ 97 ∷ 0 ∷ []; type = 2; class = 1; ttl = 16909060; content = 9 ∷ 8 ∷ [] }
          ∷ record { section = 2; owner = 0 ∷ []; type = 6; class = 254; ttl = 5; content = [] }
          ∷ record { section = 3; owner = 0 ∷ []; type = 297; class = 1232; ttl = 0; content = 7 ∷ [] }
          ∷ [];
    })
    56
unfolding after
message_read = refl

-- "Octets left over are FORMAT", and so are octets that are missing: in the header, of a question, of 256 questions, of a record's fixed part, of its data.
pub cut_messages :
    (read_message (header_of 1 0 0 0 0 0 ++ (0 ∷ [])) ≡ stops 12)
    × (read_message (replicate 11 0) ≡ stops 11)
    × (read_message (header_of 1 0 1 0 0 0) ≡ stops 12)
    × (read_message (header_of 1 0 1 0 0 0 ++ (0 ∷ 0 ∷ 1 ∷ 0 ∷ [])) ≡ stops 16)
    × (read_message (header_of 1 0 256 0 0 0) ≡ stops 12)
    × (read_message (header_of 1 0 0 0 1 0) ≡ stops 12)
    × (read_message (header_of 1 0 0 0 0 1 ++ (0 ∷ 0 ∷ 1 ∷ 0 ∷ 1 ∷ 0 ∷ 0 ∷ 0 ∷ 0 ∷ 0 ∷ [])) ≡ stops 22)
    × (read_message (header_of 1 0 0 0 0 1 ++ (0 ∷ 0 ∷ 1 ∷ 0 ∷ 1 ∷ 0 ∷ 0 ∷ 0 ∷ 0 ∷ 0 ∷ 2 ∷ 9 ∷ [])) ≡ stops 24)
unfolding after
cut_messages = (refl, refl, refl, refl, refl, refl, refl, refl)

-- "A pointer to itself, or to octet 11: FORMAT"
pub pointed :
    (number enrolled (at 1000 (header_of 1 0 1 0 0 0 ++ (192 ∷ 12 ∷ 0 ∷ 1 ∷ 0 ∷ 1 ∷ []))) ≡ 6)
    × (number enrolled (at 1000 (header_of 1 0 1 0 0 0 ++ (192 ∷ 11 ∷ 0 ∷ 1 ∷ 0 ∷ 1 ∷ []))) ≡ 6)
unfolding after
pointed = (refl, refl)

-- ── TSIGs ───────────────────────────────────────────────────────────────────────────────────────────────────────────

abbrev signing : Reading Message → Option Signature
signing (stops place) = None
signing (reads m next) = Some (signature m.records)

abbrev is_misplaced : List ℕ → Type 0
is_misplaced octets = signing (read_message octets) ≡ Some misplaced

-- "TSIG (type 250): algorithm, time signed 48 bits, fudge 16, MAC size 16, MAC, original ID 16, error 16, other length 16, other data."
pub tsig_fields :
    tsig_of
    record {
      section = 3;
      owner = 1 ∷ 98 ∷ 0 ∷ [];
      type = 250;
      class = 255;
      ttl = 0;
      content = 1 ∷ 97 ∷ 0 ∷ 1 ∷ 2 ∷ 3 ∷ 4 ∷ 5 ∷ 6 ∷ 7 ∷ 8 ∷ 0 ∷ 2 ∷ 9 ∷ 10 ∷ 11 ∷ 12 ∷ 13 ∷ 14 ∷ 0 ∷ 1 ∷ 15 ∷ [];
    }
    ≡ Some
    record {
      name = 1 ∷ 98 ∷ 0 ∷ [];
      algorithm = 1 ∷ 97 ∷ 0 ∷ [];
      signed = 1108152157446;
      fudge = 1800;
      mac = 9 ∷ 10 ∷ [];
      original_id = 2828;
      error = 3342;
      other = 15 ∷ [];
    }
unfolding after
tsig_fields = refl

abbrev tsig_with : ℕ → List ℕ → List ℕ
tsig_with ttl content = header_of 4660 0 1 0 0 1 ++ (root_query ++ record_octets (key_name 1 suffix) 250 255 ttl content)

-- More than `Examples` has of "ill formed, not FORMAT": a TSIG in the authority section; a TTL of 2^16; data that ends in the MAC, behind it, and in other
-- data; "a bad or compressed name in its data": 64 as first octet, with the other fields behind it and as the first of them, a name that is cut, a pointer to a
-- 0 within the data.
pub ill_formed_tsigs :
    is_misplaced (header_of 4660 0 1 0 1 0 ++ (root_query ++ tsig 1 1000))
    × is_misplaced (tsig_with 65536 (algorithm_name Sha256 ++ stamp 1000))
    × is_misplaced (tsig_with 0 (algorithm_name Sha256 ++ (be48 1000 ++ (be16 300 ++ (be16 32 ++ replicate 31 170)))))
    × is_misplaced (tsig_with 0 (algorithm_name Sha256 ++ (be48 1000 ++ (be16 300 ++ (be16 32 ++ (replicate 32 170 ++ (be16 4660 ++ be16 0)))))))
    × is_misplaced (tsig_with 0 (algorithm_name Sha256 ++ (be48 1000 ++ (be16 300 ++ (be16 32 ++ (replicate 32 170 ++ (be16 4660 ++ (be16 0 ++ be16 1))))))))
    × is_misplaced (tsig_with 0 (64 ∷ stamp 1000))
    × is_misplaced (tsig_with 0 (stamp 0x4000_0000_0000))
    × is_misplaced (tsig_with 0 (11 ∷ 104 ∷ []))
    × is_misplaced (tsig_with 0 (192 ∷ 46 ∷ stamp 1000))
unfolding after
ill_formed_tsigs = (refl, refl, refl, refl, refl, refl, refl, refl, refl)

-- ── TKEYs ───────────────────────────────────────────────────────────────────────────────────────────────────────────

abbrev tkey_in : List ℕ → Option Tkey
tkey_in content = tkey_of record { section = 3; owner = 1 ∷ 98 ∷ 0 ∷ []; type = 249; class = 1; ttl = 7; content = content }

-- "TKEY (249): algorithm, inception 32, expiration 32, mode 16, error 16, key size 16, key data, other size 16, other data"; its "class and TTL are ignored".
pub tkey_fields_lem :
    (tkey_in
    (1 ∷ 97 ∷ 0 ∷ 1 ∷ 2 ∷ 3 ∷ 4 ∷ 5 ∷ 6 ∷ 7 ∷ 8 ∷ 16 ∷ 4 ∷ 9 ∷ 10 ∷ 0 ∷ 2 ∷ 11 ∷ 12 ∷ 0 ∷ 6 ∷ 1 ∷ 99 ∷ 0 ∷ 1 ∷ 100 ∷ 0 ∷ [])
    ≡ Some
    record {
      name = 1 ∷ 98 ∷ 0 ∷ [];
      algorithm = 1 ∷ 97 ∷ 0 ∷ [];
      inception = 16909060;
      expiration = 84281096;
      mode = 4100;
      key = 11 ∷ 12 ∷ [];
      other = 1 ∷ 99 ∷ 0 ∷ 1 ∷ 100 ∷ 0 ∷ [];
      old_name = 1 ∷ 99 ∷ 0 ∷ [];
      old_algorithm = 1 ∷ 100 ∷ 0 ∷ [];
    })
    × (tkey_in (0 ∷ 0 ∷ 0 ∷ 0 ∷ 1 ∷ 0 ∷ 0 ∷ 0 ∷ 2 ∷ 0 ∷ 5 ∷ 0 ∷ 0 ∷ 0 ∷ 0 ∷ 0 ∷ 1 ∷ 64 ∷ [])
    ≡ Some
    record {
      name = 1 ∷ 98 ∷ 0 ∷ [];
      algorithm = 0 ∷ [];
      inception = 1;
      expiration = 2;
      mode = 5;
      key = [];
      other = 64 ∷ [];
      old_name = [];
      old_algorithm = [];
    })
unfolding after
tkey_fields_lem = (refl, refl)

-- "Modes: 5 deletion. .. 4098 server assignment for renewal, 4100 adoption. 0 and 65535 are reserved, the rest unsupported here."
-- 02, CR 10: "Add them as modes 4097 and 4099."
pub modes :
    (mode_of 5 ≡ Deletion)
    × (mode_of 4097 ≡ Renewal DiffieHellman)
    × (mode_of 4098 ≡ Renewal ServerAssignment)
    × (mode_of 4099 ≡ Renewal ResolverAssignment)
    × (mode_of 4100 ≡ Adoption)
    × (mode_of 0 ≡ Reserved)
    × (mode_of 65535 ≡ Reserved)
    × (mode_of 1 ≡ Unsupported)
    × (mode_of 4096 ≡ Unsupported)
    × (mode_of 4101 ≡ Unsupported)
    × (mode_of 65534 ≡ Unsupported)
unfolding after
modes = (refl, refl, refl, refl, refl, refl, refl, refl, refl, refl, refl)

-- "Both fill RDLENGTH exactly": an octet too many; other size too large; data that ends before other size, and in the fixed fields. "A bad or compressed name
-- in its data": 64 as first octet, with the other fields behind it and as the first of them, a name that is cut, a pointer to a 0 within the data.
pub ill_formed_tkeys :
    (tkey_in (tkey_data (algorithm_name Sha256) 1 2 5 0 [] [] ++ (0 ∷ [])) ≡ None)
    × (tkey_in (0 ∷ 0 ∷ 0 ∷ 0 ∷ 1 ∷ 0 ∷ 0 ∷ 0 ∷ 2 ∷ 0 ∷ 5 ∷ 0 ∷ 0 ∷ 0 ∷ 0 ∷ 0 ∷ 1 ∷ []) ≡ None)
    × (tkey_in (0 ∷ 0 ∷ 0 ∷ 0 ∷ 1 ∷ 0 ∷ 0 ∷ 0 ∷ 2 ∷ 0 ∷ 5 ∷ 0 ∷ 0 ∷ 0 ∷ 0 ∷ []) ≡ None)
    × (tkey_in (0 ∷ 0 ∷ 0 ∷ 0 ∷ 1 ∷ 0 ∷ 0 ∷ 0 ∷ 2 ∷ 0 ∷ 5 ∷ 0 ∷ 0 ∷ []) ≡ None)
    × (tkey_in (tkey_data (64 ∷ []) 1 2 5 0 [] []) ≡ None)
    × (tkey_in (tkey_data [] 0x4000_0000 2 5 0 [] []) ≡ None)
    × (tkey_in (11 ∷ 104 ∷ []) ≡ None)
    × (tkey_in (tkey_data (192 ∷ 12 ∷ []) 1 2 5 0 [] []) ≡ None)
unfolding after
ill_formed_tkeys = (refl, refl, refl, refl, refl, refl, refl, refl)

-- "For renewal and adoption TKEY's other data is OldName, OldAlgorithm and nothing more": no names, one, two and an octet; OldName bad, and a pointer to the 0
-- that ends OldAlgorithm; OldAlgorithm bad, and a pointer to the 0 that ends OldName.
abbrev Neither : List ℕ → Type 0
Neither other =
    (tkey_in (tkey_data (algorithm_name Sha256) 1 2 4098 0 [] other) ≡ None) × (tkey_in (tkey_data (algorithm_name Sha256) 1 2 4100 0 [] other) ≡ None)

pub ill_formed_old_keys :
    Neither []
    × Neither (key_name 1 suffix)
    × Neither (old 1 ++ (0 ∷ []))
    × Neither (64 ∷ algorithm_name Sha256)
    × Neither (192 ∷ 14 ∷ algorithm_name Sha256)
    × Neither (key_name 1 suffix ++ (64 ∷ []))
    × Neither (key_name 1 suffix ++ (192 ∷ 12 ∷ []))
unfolding after
ill_formed_old_keys = ((refl, refl), (refl, refl), (refl, refl), (refl, refl), (refl, refl), (refl, refl), (refl, refl))

-- ── TKEY requests ───────────────────────────────────────────────────────────────────────────────────────────────────

-- A message with these flags, questions and the TKEY of a deletion, signed by key 1: passed up.
abbrev Ordinary : ℕ → ℕ → List ℕ → Type 0
Ordinary flags count questions =
    seen
    (operated enrolled
    (at 1000
    (header_of 4660 flags count 0 0 2
    ++ (questions ++ (record_octets (key_name 1 suffix) 249 255 0 (tkey_data (algorithm_name Sha256) 0 0 5 0 [] []) ++ tsig 1 1000)))))
    ≡ passes (pos 0) 1 (Adopted first)

-- "A TKEY request has opcode 0 and one question, of type 249 and class 255. .. All else is ordinary": opcodes 1 and 8, type 250, class 1, two questions, none.
pub ordinary_ones :
    Ordinary 0x0800 1 (question (0 ∷ []) 249 255)
    × Ordinary 0x4000 1 (question (0 ∷ []) 249 255)
    × Ordinary 0 1 (question (0 ∷ []) 250 255)
    × Ordinary 0 1 (question (0 ∷ []) 249 1)
    × Ordinary 0 2 (question (0 ∷ []) 249 255 ++ question (0 ∷ []) 249 255)
    × Ordinary 0 0 []
unfolding seen after
ordinary_ones = (refl, refl, refl, refl, refl, refl)

-- "Its QNAME is not compared": a name of no key.
pub any_name :
    (operated enrolled
    (at 1000
    (header_of 4660 0 1 0 0 2
    ++ (question (1 ∷ 122 ∷ 0 ∷ []) 249 255
    ++ (record_octets (key_name 1 suffix) 249 255 0 (tkey_data (algorithm_name Sha256) 0 0 5 0 [] []) ++ tsig 1 1000))))).outcome.answer
    ≡ record { number = 0; length = 71; error = 0; skew = pos 0; pair = 1; serial = 1; place = 0 }
unfolding after
any_name = refl
