-- The messages of `Sample` as they were received, and a later message of a stream, through the calls of `Received`, computed. The HMAC-SHA256 of `under_later`
-- under the same key's secret is `later_mac`. Assumes nothing.
use Prim.Native.Nat.{ℕ, ◌^◌}
use mathlib.Core.Path.{◌≡◌, refl}
use mathlib.Core.List.{List, [], ◌∷◌}
use lib.ListN.{length, drop, replicate}
use Rattle.model.specs.Calls.{TIME, SIZE, FORMAT, ROOM}
use Rattle.model.specs.Signing.{MACSIZE, Stamp, Assembled, unassembled, finished_in}
use Rattle.model.specs.Received.{received, in_room, received_request, received_reply, timers, later_digest, received_later, digested_later}
use Rattle.model.proofs.Sample.{query, name, algorithm, sent, digest, asked, reply_mac, under_reply, opened}

-- Every definition of received messages opened.
unfoldable through : Assembled → Assembled
unfolding opened received in_room received_request received_reply timers later_digest received_later digested_later
through a = a

-- ── A request and a reply ───────────────────────────────────────────────────────────────────────────────────────────

pub request_received : received_request sent 512 ≡ record { number = 0; octets = digest }
unfolding through
request_received = refl

-- a forwarder put another ID into the header: the original ID is under the MAC
pub forwarded_received : received_request (0 ∷ 7 ∷ drop 2 sent) 512 ≡ record { number = 0; octets = digest }
unfolding through
forwarded_received = refl

-- the TSIG's owner name is compressed: its last label stands in the question
abbrev compressed : List ℕ
compressed =
    242 ∷ 141 ∷ 0 ∷ 32 ∷ 0 ∷ 1 ∷ 0 ∷ 0 ∷ 0 ∷ 0 ∷ 0 ∷ 1 ∷ 1 ∷ 122 ∷ 7 ∷ 101 ∷ 120 ∷ 97 ∷ 109 ∷ 112 ∷ 108 ∷ 101 ∷ 0 ∷ 0 ∷ 6 ∷ 0 ∷ 1 ∷ 1 ∷ 49 ∷ 1 ∷ 97 ∷ 192 ∷ 14 ∷ 0 ∷ 250 ∷ 0 ∷ 255 ∷ 0 ∷ 0 ∷ 0 ∷
    0 ∷ 0 ∷ 61 ∷ 11 ∷ 104 ∷ 109 ∷ 97 ∷ 99 ∷ 45 ∷ 115 ∷ 104 ∷ 97 ∷ 50 ∷ 53 ∷ 54 ∷ 0 ∷ 0 ∷ 0 ∷ 106 ∷ 249 ∷ 196 ∷ 138 ∷ 1 ∷ 44 ∷ 0 ∷ 32 ∷ 175 ∷ 10 ∷ 205 ∷ 136 ∷ 119 ∷ 7 ∷ 220 ∷ 176 ∷ 172 ∷ 11 ∷ 28 ∷ 27 ∷ 153 ∷ 145 ∷
    30 ∷ 116 ∷ 78 ∷ 128 ∷ 36 ∷ 184 ∷ 168 ∷ 5 ∷ 102 ∷ 137 ∷ 107 ∷ 38 ∷ 180 ∷ 231 ∷ 169 ∷ 192 ∷ 108 ∷ 16 ∷ 242 ∷ 141 ∷ 0 ∷ 0 ∷ 0 ∷ 0 ∷ []

pub compressed_received : received_request compressed 512 ≡ record { number = 0; octets = digest }
unfolding through
compressed_received = refl

-- the reply of a real server as it was sent: knotd-06
abbrev reply_sent : List ℕ
reply_sent =
    75 ∷ 17 ∷ 129 ∷ 9 ∷ 0 ∷ 1 ∷ 0 ∷ 0 ∷ 0 ∷ 0 ∷ 0 ∷ 2 ∷ 1 ∷ 122 ∷ 7 ∷ 101 ∷ 120 ∷ 97 ∷ 109 ∷ 112 ∷ 108 ∷ 101 ∷ 0 ∷ 0 ∷ 6 ∷ 0 ∷ 1 ∷ 0 ∷ 0 ∷ 41 ∷ 4 ∷ 208 ∷ 0 ∷ 0 ∷ 0 ∷ 0 ∷ 0 ∷ 0 ∷ 1 ∷ 49 ∷ 1 ∷
    97 ∷ 7 ∷ 101 ∷ 120 ∷ 97 ∷ 109 ∷ 112 ∷ 108 ∷ 101 ∷ 0 ∷ 0 ∷ 250 ∷ 0 ∷ 255 ∷ 0 ∷ 0 ∷ 0 ∷ 0 ∷ 0 ∷ 67 ∷ 11 ∷ 104 ∷ 109 ∷ 97 ∷ 99 ∷ 45 ∷ 115 ∷ 104 ∷ 97 ∷ 50 ∷ 53 ∷ 54 ∷ 0 ∷ 0 ∷ 0 ∷ 106 ∷ 250 ∷ 225 ∷ 8 ∷ 1 ∷
    44 ∷ 0 ∷ 32 ∷ 141 ∷ 39 ∷ 169 ∷ 133 ∷ 166 ∷ 21 ∷ 80 ∷ 189 ∷ 80 ∷ 167 ∷ 189 ∷ 189 ∷ 6 ∷ 224 ∷ 103 ∷ 176 ∷ 154 ∷ 32 ∷ 60 ∷ 242 ∷ 137 ∷ 46 ∷ 123 ∷ 77 ∷ 189 ∷ 67 ∷ 135 ∷ 147 ∷ 2 ∷ 186 ∷ 200 ∷ 243 ∷ 75 ∷ 17 ∷ 0 ∷ 18 ∷ 0 ∷
    6 ∷ 0 ∷ 0 ∷ 106 ∷ 250 ∷ 239 ∷ 25 ∷ []

pub reply_received : received_reply asked reply_sent 512 ≡ record { number = 0; octets = under_reply }
unfolding through
reply_received = refl

-- ── A later message of a stream ─────────────────────────────────────────────────────────────────────────────────────

-- After a message with the MAC `reply_mac` came one without a TSIG, ns.z.example. A 192.0.2.1, and then this one, ns.z.example. A 192.0.2.2.
abbrev between : List ℕ
between =
    75 ∷ 17 ∷ 132 ∷ 0 ∷ 0 ∷ 0 ∷ 0 ∷ 1 ∷ 0 ∷ 0 ∷ 0 ∷ 0 ∷ 2 ∷ 110 ∷ 115 ∷ 1 ∷ 122 ∷ 7 ∷ 101 ∷ 120 ∷ 97 ∷ 109 ∷ 112 ∷ 108 ∷ 101 ∷ 0 ∷ 0 ∷ 1 ∷ 0 ∷ 1 ∷ 0 ∷ 0 ∷ 1 ∷ 44 ∷ 0 ∷ 4 ∷ 192 ∷ 0 ∷ 2 ∷ 1 ∷ []

abbrev later : List ℕ
later =
    75 ∷ 17 ∷ 132 ∷ 0 ∷ 0 ∷ 0 ∷ 0 ∷ 1 ∷ 0 ∷ 0 ∷ 0 ∷ 0 ∷ 2 ∷ 110 ∷ 115 ∷ 1 ∷ 122 ∷ 7 ∷ 101 ∷ 120 ∷ 97 ∷ 109 ∷ 112 ∷ 108 ∷ 101 ∷ 0 ∷ 0 ∷ 1 ∷ 0 ∷ 1 ∷ 0 ∷ 0 ∷ 1 ∷ 44 ∷ 0 ∷ 4 ∷ 192 ∷ 0 ∷ 2 ∷ 2 ∷ []

abbrev later_mac : List ℕ
later_mac =
    120 ∷ 111 ∷ 152 ∷ 112 ∷ 9 ∷ 201 ∷ 209 ∷ 171 ∷ 167 ∷ 155 ∷ 38 ∷ 250 ∷ 128 ∷ 255 ∷ 168 ∷ 16 ∷ 158 ∷ 38 ∷ 83 ∷ 47 ∷ 31 ∷ 110 ∷ 145 ∷ 42 ∷ 40 ∷ 87 ∷ 13 ∷ 190 ∷ 182 ∷ 170 ∷ 89 ∷ 64 ∷ []

abbrev later_stamp : Stamp
later_stamp = record { algorithm = algorithm; signed = 1794826505; fudge = 300; mac = later_mac; original_id = 19217; error = 0; other = [] }

abbrev later_sent : List ℕ
later_sent =
    75 ∷ 17 ∷ 132 ∷ 0 ∷ 0 ∷ 0 ∷ 0 ∷ 1 ∷ 0 ∷ 0 ∷ 0 ∷ 1 ∷ 2 ∷ 110 ∷ 115 ∷ 1 ∷ 122 ∷ 7 ∷ 101 ∷ 120 ∷ 97 ∷ 109 ∷ 112 ∷ 108 ∷ 101 ∷ 0 ∷ 0 ∷ 1 ∷ 0 ∷ 1 ∷ 0 ∷ 0 ∷ 1 ∷ 44 ∷ 0 ∷ 4 ∷ 192 ∷ 0 ∷ 2 ∷ 2 ∷
    1 ∷ 49 ∷ 1 ∷ 97 ∷ 7 ∷ 101 ∷ 120 ∷ 97 ∷ 109 ∷ 112 ∷ 108 ∷ 101 ∷ 0 ∷ 0 ∷ 250 ∷ 0 ∷ 255 ∷ 0 ∷ 0 ∷ 0 ∷ 0 ∷ 0 ∷ 61 ∷ 11 ∷ 104 ∷ 109 ∷ 97 ∷ 99 ∷ 45 ∷ 115 ∷ 104 ∷ 97 ∷ 50 ∷ 53 ∷ 54 ∷ 0 ∷ 0 ∷ 0 ∷ 106 ∷ 250 ∷
    225 ∷ 9 ∷ 1 ∷ 44 ∷ 0 ∷ 32 ∷ 120 ∷ 111 ∷ 152 ∷ 112 ∷ 9 ∷ 201 ∷ 209 ∷ 171 ∷ 167 ∷ 155 ∷ 38 ∷ 250 ∷ 128 ∷ 255 ∷ 168 ∷ 16 ∷ 158 ∷ 38 ∷ 83 ∷ 47 ∷ 31 ∷ 110 ∷ 145 ∷ 42 ∷ 40 ∷ 87 ∷ 13 ∷ 190 ∷ 182 ∷ 170 ∷ 89 ∷ 64 ∷ 75 ∷ 17 ∷
    0 ∷ 0 ∷ 0 ∷ 0 ∷ []

-- The prior MAC, its length first; the message before; this one; time signed and fudge.
abbrev under_later : List ℕ
under_later =
    0 ∷ 32 ∷ 141 ∷ 39 ∷ 169 ∷ 133 ∷ 166 ∷ 21 ∷ 80 ∷ 189 ∷ 80 ∷ 167 ∷ 189 ∷ 189 ∷ 6 ∷ 224 ∷ 103 ∷ 176 ∷ 154 ∷ 32 ∷ 60 ∷ 242 ∷ 137 ∷ 46 ∷ 123 ∷ 77 ∷ 189 ∷ 67 ∷ 135 ∷ 147 ∷ 2 ∷ 186 ∷ 200 ∷ 243 ∷ 75 ∷ 17 ∷ 132 ∷ 0 ∷ 0 ∷ 0 ∷
    0 ∷ 1 ∷ 0 ∷ 0 ∷ 0 ∷ 0 ∷ 2 ∷ 110 ∷ 115 ∷ 1 ∷ 122 ∷ 7 ∷ 101 ∷ 120 ∷ 97 ∷ 109 ∷ 112 ∷ 108 ∷ 101 ∷ 0 ∷ 0 ∷ 1 ∷ 0 ∷ 1 ∷ 0 ∷ 0 ∷ 1 ∷ 44 ∷ 0 ∷ 4 ∷ 192 ∷ 0 ∷ 2 ∷ 1 ∷ 75 ∷ 17 ∷ 132 ∷ 0 ∷ 0 ∷ 0 ∷
    0 ∷ 1 ∷ 0 ∷ 0 ∷ 0 ∷ 0 ∷ 2 ∷ 110 ∷ 115 ∷ 1 ∷ 122 ∷ 7 ∷ 101 ∷ 120 ∷ 97 ∷ 109 ∷ 112 ∷ 108 ∷ 101 ∷ 0 ∷ 0 ∷ 1 ∷ 0 ∷ 1 ∷ 0 ∷ 0 ∷ 1 ∷ 44 ∷ 0 ∷ 4 ∷ 192 ∷ 0 ∷ 2 ∷ 2 ∷ 0 ∷ 0 ∷ 106 ∷ 250 ∷ 225 ∷ 9 ∷
    1 ∷ 44 ∷ []

pub later_finished : finished_in later name later_stamp 512 ≡ record { number = 0; octets = later_sent }
unfolding through
later_finished = refl

pub later_digested : digested_later reply_mac between later later_stamp 512 ≡ record { number = 0; octets = under_later }
unfolding through
later_digested = refl

pub later_received : received_later reply_mac between later_sent 512 ≡ record { number = 0; octets = under_later }
unfolding through
later_received = refl

-- under the original ID here too, whatever ID the header has
pub later_forwarded : received_later reply_mac between (0 ∷ 7 ∷ drop 2 later_sent) 512 ≡ record { number = 0; octets = under_later }
unfolding through
later_forwarded = refl

-- ── Refusals ────────────────────────────────────────────────────────────────────────────────────────────────────────

abbrev late : Stamp
late = record { algorithm = []; signed = 2 ^ 48; fudge = 0; mac = []; original_id = 0; error = 0; other = [] }

pub no_size : (received_request [] 0 ≡ unassembled SIZE) × (digested_later (replicate 65 0) [] [] late 0 ≡ unassembled SIZE)
unfolding through
no_size = (refl, refl)

-- no TSIG to digest under; and, to sign a later message, one that stands there already
pub bare_received : received_later (replicate 65 0) [] query 0 ≡ unassembled FORMAT
unfolding through
bare_received = refl

pub signed_already : digested_later (replicate 65 0) [] sent late 0 ≡ unassembled FORMAT
unfolding through
signed_already = refl

pub too_late : digested_later (replicate 65 0) [] later late 0 ≡ unassembled TIME
unfolding through
too_late = refl

pub long_mac : received_reply (replicate 65 0) sent 0 ≡ unassembled MACSIZE
unfolding through
long_mac = refl

pub long_prior : (received_later (replicate 65 0) [] sent 0 ≡ unassembled MACSIZE) × (digested_later (replicate 65 0) [] later later_stamp 0 ≡ unassembled MACSIZE)
unfolding through
long_prior = (refl, refl)

pub request_fits : received_request sent (length digest) ≡ record { number = 0; octets = digest }
unfolding through
request_fits = refl

pub one_short : received_request sent 70 ≡ unassembled ROOM
unfolding through
one_short = refl

pub later_fits : received_later reply_mac between later_sent (length under_later) ≡ record { number = 0; octets = under_later }
unfolding through
later_fits = refl

pub later_short : (received_later reply_mac between later_sent 121 ≡ unassembled ROOM) × (digested_later reply_mac between later later_stamp 121 ≡ unassembled ROOM)
unfolding through
later_short = (refl, refl)
