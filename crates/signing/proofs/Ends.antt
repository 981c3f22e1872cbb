-- Each way that a writing call ends: refused, no room, written. And the lengths of what it writes. Assumes nothing.
use Prim.Native.Nat.{ℕ, ◌+◌, ◌-◌, ◌≤◌, ◌<◌}
use mathlib.Core.Path.{◌≡◌, refl, sym}
use mathlib.Core.Bool.{false, and-false}
use mathlib.Core.List.{List, ◌++◌, append_assoc}
use native.Mathlib.Omega.{arith}
use borrow.Author.Tests.{le-leb, lt-leb, ne_eqb}
use lib.Dec.{leb}
use lib.ListN.{length, length-append, length-drop, length-take}
use Rattle.std.specs.Prelude.{Result, Ok, Err}
use Rattle.model.specs.Octets.{be16, be32, be48, u16_at, part}
use Rattle.model.specs.Tsig.{tsig_type, any_class}
use Rattle.model.specs.Replies.{record_octets}
use Rattle.model.specs.Checks.{check}
use Rattle.model.specs.Calls.{ROOM, room_for}
use Rattle.model.specs.Signing.{MACSIZE, Stamp, tsig_data, finished, request_digest, reply_digest, Assembled, unassembled, signable, mac_ok, assembled, digested_request, digested_reply, finished_in}
use Rattle.octets.specs.Wrote.{Wrote}
use Rattle.replies.specs.Parts.{record_front}
use Rattle.replies.proofs.Laws.{record_octets_lem}
use Rattle.digests.specs.declared.Refusal.{Refusal}
use Rattle.digests.specs.declared.Refusal.TheVariants.{Room, MacSize}
use Rattle.digests.specs.Left.{number_of, Left}
use Rattle.digests.proofs.Laws.{to_end}
use Rattle.digests.proofs.Ends.{refused, refusal_numbered, written}
use Rattle.signing.specs.Assembling.{Passes, counted_octets}

-- ── Ends ────────────────────────────────────────────────────────────────────────────────────────────────────────────

-- ROOM of a digest
module _ (t : Stamp) (xs b : List ℕ) where
  pub too_much : 65535 < length t.other → Left (assembled (length b) t xs) b b (Err Room)
  unfolding assembled ROOM
  too_much h = rw (lt-leb (length t.other) 65535 h) (refused Room b)

  module _ (few : length t.other ≤ 65535) where
    pub no_room : length b < length xs → Left (assembled (length b) t xs) b b (Err Room)
    unfolding assembled ROOM
    no_room h = rw (le-leb (length t.other) 65535 few, lt-leb (length xs) (length b) h) (refused Room b)

    pub in_room_lem : (b' : List ℕ) (end : ℕ) → Wrote xs 0 b b' end → Left (assembled (length b) t xs) b b' (Ok end)
    unfolding assembled
    in_room_lem b' end w = rw (le-leb (length t.other) 65535 few, le-leb (length xs) (length b) (omega arith)) (written w)

-- ROOM of the finished message xs
module _ (xs b : List ℕ) where
  abbrev sent : Assembled
  sent = check unassembled ROOM (room_for (length b) xs) (record { number = 0; octets = xs })

  unsent : room_for (length b) xs ≡ false → Left sent b b (Err Room)
  unfolding ROOM
  unsent f = rw f (refused Room b)

  pub too_long : 65535 < length xs → Left sent b b (Err Room)
  unfolding room_for
  too_long h = unsent (rw (lt-leb (length xs) 65535 h) (and-false (leb (length xs) (length b))))

  pub too_tight : length b < length xs → Left sent b b (Err Room)
  unfolding room_for
  too_tight h = unsent (rw (lt-leb (length xs) (length b) h) refl)

  pub fits : (b' : List ℕ) (end : ℕ) → end ≤ 65535 → Wrote xs 0 b b' end → Left sent b b' (Ok end)
  unfolding room_for
  fits b' end h w = rw (le-leb (length xs) (length b) (omega arith), le-leb (length xs) 65535 (omega arith)) (written w)

-- ── The calls ───────────────────────────────────────────────────────────────────────────────────────────────────────

-- stopped by the first refusal
module _ (m name : List ℕ) (t : Stamp) (r : Refusal) (p : Passes m name t.algorithm t.signed (number_of r)) (b : List ℕ) where
  stops : (next : Assembled) → Left (signable m name t next) b b (Err r)
  stops next = rw (p.says t next refl refl, ne_eqb (number_of r) 0 (refusal_numbered r)) (refused r b)

  pub request_stops : Left (digested_request m name t (length b)) b b (Err r)
  unfolding digested_request
  request_stops = stops _

  pub reply_stops : (mac : List ℕ) → Left (digested_reply mac m name t (length b)) b b (Err r)
  unfolding digested_reply
  reply_stops mac = stops _

  pub finish_stops : Left (finished_in m name t (length b)) b b (Err r)
  unfolding finished_in
  finish_stops = stops _

-- behind it
module _ (m name : List ℕ) (t : Stamp) (p : Passes m name t.algorithm t.signed 0) (b b' : List ℕ) (r : Result ℕ Refusal) where
  goes : (next : Assembled) → Left next b b' r → Left (signable m name t next) b b' r
  goes next w = rw (p.says t next refl refl) w

  pub request_goes : Left (assembled (length b) t (request_digest m name t)) b b' r → Left (digested_request m name t (length b)) b b' r
  unfolding digested_request
  request_goes w = goes _ w

  pub reply_goes : (mac : List ℕ) → length mac ≤ 64 → Left (assembled (length b) t (reply_digest mac m name t)) b b' r
      → Left (digested_reply mac m name t (length b)) b b' r
  unfolding digested_reply mac_ok
  reply_goes mac h w = goes _ (rw (le-leb (length mac) 64 h) w)

  pub finish_goes : length t.mac ≤ 64 → Left (sent (finished m name t) b) b b' r → Left (finished_in m name t (length b)) b b' r
  unfolding finished_in mac_ok
  finish_goes h w = goes _ (rw (le-leb (length t.mac) 64 h) w)

-- MACSIZE
module _ (m name : List ℕ) (t : Stamp) (p : Passes m name t.algorithm t.signed 0) (b : List ℕ) where
  pub reply_mac_lem : (mac : List ℕ) → 64 < length mac → Left (digested_reply mac m name t (length b)) b b (Err MacSize)
  unfolding digested_reply mac_ok MACSIZE
  reply_mac_lem mac h = goes m name t p b b _ _ (rw (lt-leb (length mac) 64 h) (refused MacSize b))

  pub finish_mac : 64 < length t.mac → Left (finished_in m name t (length b)) b b (Err MacSize)
  unfolding finished_in mac_ok MACSIZE
  finish_mac h = goes m name t p b b _ _ (rw (lt-leb (length t.mac) 64 h) (refused MacSize b))

-- ── What is written ─────────────────────────────────────────────────────────────────────────────────────────────────

data_length : (t : Stamp) → length (tsig_data t) ≡ length t.algorithm + length t.mac + 16 + length t.other
unfolding tsig_data be16 be32 be48
data_length t = simp length-append (omega arith)

module _ (m name : List ℕ) (t : Stamp) (from : 12 ≤ length m) where
  pub finished_length : length (finished m name t) ≡ length m + length name + length t.algorithm + length t.mac + 26 + length t.other
  unfolding finished record_octets be16 be32
  finished_length = let l = data_length t in simp (length-append, length-drop, length-take) (omega arith)

-- the message with one more additional record counted, and its TSIG
pub counted_octets_lem : (m : List ℕ) (k : ℕ) → k ≡ u16_at m 10 + 1 → part m 0 10 ++ (be16 k ++ part m 12 (length m - 12)) ≡ counted_octets m
unfolding counted_octets part
counted_octets_lem m k e = rw (e, to_end) refl

pub tsig_octets : (name : List ℕ) (t : Stamp) → record_front name 250 255 0 (length t.algorithm + length t.mac + 16 + length t.other) ++ tsig_data t
    ≡ record_octets name tsig_type any_class 0 (tsig_data t)
unfolding tsig_type any_class
tsig_octets name t = record_octets_lem name 250 255 0 _ (tsig_data t) (sym (data_length t))

pub finished_octets : (m name : List ℕ) (t : Stamp) → counted_octets m ++ record_octets name tsig_type any_class 0 (tsig_data t) ≡ finished m name t
unfolding counted_octets finished
finished_octets m name t = simp append_assoc
