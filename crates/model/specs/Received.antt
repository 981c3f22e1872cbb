-- The octets under the MAC of a message as it was received (RFC 8945, 4.3 and 5.2), and those of the later messages of a stream (5.3.1). For each call, on
-- every input: its number and what it writes. Assumes nothing.
use Rattle.std.specs.Prelude.{ℕ, ◌^◌, List, ◌++◌, length, leb, ltb}
use Rattle.model.specs.Octets.{be16, be48}
use Rattle.model.specs.Messages.{read_message}
use Rattle.model.specs.Tsig.{Tsig, signature}
use Rattle.model.specs.Checks.{check, check_read}
use Rattle.model.specs.Calls.{TIME, SIZE, FORMAT, ROOM, size_ok}
use Rattle.model.specs.Signing.{MACSIZE, Stamp, with_id, request_digest, reply_digest, Assembled, unassembled, is_unsigned, mac_ok, check_signed, removed}

-- ── What is under the MAC of a received message ─────────────────────────────────────────────────────────────────────

-- What a TSIG says besides its owner name.
abbrev pub stamp_in : Tsig → Stamp
stamp_in t =
    record {
      algorithm = t.algorithm;
      signed = t.signed;
      fudge = t.fudge;
      mac = t.mac;
      original_id = t.original_id;
      error = t.error;
      other = t.other;
    }

-- SIZE, FORMAT (also where no TSIG is well placed): the message's own TSIG is handed on.
unfoldable pub received : List ℕ → (Tsig → Assembled) → Assembled
received m next =
    check unassembled SIZE (size_ok m)
    (check_read unassembled FORMAT (read_message m) λ q.
    check_signed unassembled FORMAT (signature q.records) next)

-- ROOM, for the lent buffer alone.
unfoldable pub in_room : ℕ → List ℕ → Assembled
in_room room octets = check unassembled ROOM (leb (length octets) room) (record { number = 0; octets = octets })

-- 4.3.2 and 4.3.3: the message without its TSIG, under the TSIG's original ID, and the TSIG's own variables.
unfoldable pub received_request : List ℕ → ℕ → Assembled
received_request m room = received m λ t. in_room room (request_digest (removed m) t.name (stamp_in t))

-- 4.3.1: of a reply to a request with this MAC, which stands in front. MACSIZE: "a given MAC over 64 octets".
unfoldable pub received_reply : List ℕ → List ℕ → ℕ → Assembled
received_reply mac m room = received m λ t. check unassembled MACSIZE (mac_ok mac) (in_room room (reply_digest mac (removed m) t.name (stamp_in t)))

-- ── The later messages of a stream (RFC 8945, 5.3.1) ────────────────────────────────────────────────────────────────

-- "TSIG Timers (current message)": time signed 48 bits, fudge 16 bits.
unfoldable pub timers : Stamp → List ℕ
timers t = be48 t.signed ++ be16 t.fudge

-- "Prior MAC (running)": the MAC of the last message that had a TSIG, its 16-bit length first, as a request's MAC has it. "DNS Messages (any unsigned messages
-- since the last TSIG)": `before` is the octets of these, one after another as they came, most often none; then this message, without its TSIG, under its
-- original ID. "TSIG Timers (current message)". No names: of this TSIG nothing else is under its MAC.
unfoldable pub later_digest : List ℕ → List ℕ → List ℕ → Stamp → List ℕ
later_digest prior before m t = be16 (length prior) ++ (prior ++ (before ++ (with_id t.original_id m ++ timers t)))

-- Of a message as it was received. `before` may have any length.
unfoldable pub received_later : List ℕ → List ℕ → List ℕ → ℕ → Assembled
received_later prior before m room = received m λ t. check unassembled MACSIZE (mac_ok prior) (in_room room (later_digest prior before (removed m) (stamp_in t)))

-- Of a message that has no TSIG yet, for its sender: SIZE, FORMAT (also where a TSIG stands already), TIME from 2^48, MACSIZE, ROOM.
unfoldable pub digested_later : List ℕ → List ℕ → List ℕ → Stamp → ℕ → Assembled
digested_later prior before m t room =
    check unassembled SIZE (size_ok m)
    (check_read unassembled FORMAT (read_message m) λ q.
    check unassembled FORMAT (is_unsigned (signature q.records))
    (check unassembled TIME (ltb t.signed (2 ^ 48))
    (check unassembled MACSIZE (mac_ok prior) (in_room room (later_digest prior before m t)))))
