-- The resolver's requests, in the pieces that the code writes: model's definitions (Resolver), cut where other data begins. Assumes nothing.
use Rattle.std.specs.Prelude.{ℕ, ◌+◌, List, ◌++◌}
use Rattle.model.specs.declared.Algorithm.{Algorithm}
use Rattle.model.specs.Octets.{be16, be32}
use Rattle.model.specs.Names.{algorithm_name}
use Rattle.model.specs.Tkey.{tkey_type}
use Rattle.model.specs.Tsig.{any_class}
use Rattle.replies.specs.Parts.{record_front}

-- The header: opcode 0, one question, and this many additional records.
unfoldable pub header_octets : ℕ → ℕ → List ℕ
header_octets id additionals = be16 id ++ (be16 0 ++ (be16 1 ++ (be16 0 ++ (be16 0 ++ be16 additionals))))

unfoldable pub question_octets : List ℕ → List ℕ
question_octets name = name ++ (be16 tkey_type ++ be16 any_class)

-- A TKEY's data before its other data: error 0, and no key data.
unfoldable pub asked_octets : Algorithm → ℕ → ℕ → ℕ → List ℕ
asked_octets g inception expiration mode = algorithm_name g ++ (be32 inception ++ (be32 expiration ++ (be16 mode ++ (be16 0 ++ be16 0))))

-- A request before the other data of its TKEY, which has this many octets.
unfoldable pub request_front : ℕ → ℕ → List ℕ → Algorithm → ℕ → ℕ → ℕ → ℕ → List ℕ
request_front id additionals name g inception expiration mode size =
    header_octets id additionals
    ++ (question_octets name ++ (record_front name tkey_type any_class 0 (29 + size) ++ (asked_octets g inception expiration mode ++ be16 size)))
