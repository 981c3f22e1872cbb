-- The items of a reply, joined as the code writes them, are model's; and their lengths. Assumes nothing.
use Prim.Native.Nat.{ℕ, ◌+◌, ◌-◌, ◌*◌, ◌≤◌, ◌<◌}
use mathlib.Core.Path.{◌≡◌, refl, ap₂}
use mathlib.Core.List.{List, [], ◌∷◌, ◌++◌, append_assoc}
use mathlib.Core.Bool.{Bool, true, false, ◌&&◌}
use native.Mathlib.Omega.{arith}
use borrow.Author.Tests.{le-leb, lt-leb}
use lib.Dec.{leb}
use lib.ListN.{length, length-append}
use Rattle.std.specs.Prelude.{Option, Some, None}
use Rattle.model.specs.Octets.{be16, be32, put}
use Rattle.model.specs.Messages.{message_of}
use Rattle.model.specs.Replies.{flags, heading, record_octets, tkey_data, tkey_record}
use Rattle.model.specs.Calls.{room_for}
use Rattle.octets.specs.Wrote.{Wrote}
use Rattle.octets.proofs.Laws.{part_length, part_slice, wrote_put}
use Rattle.model.specs.declared.Span.{Span}
use Rattle.replies.specs.declared.Fields.{Fields}
use Rattle.replies.specs.declared.Grant.{Grant}
use Rattle.records.specs.Record.{cut}
use Rattle.replies.specs.Parts.{framed, key_data, heading_front, heading_back, sized_octets, record_front, tkey_front, repeated_octets, renewed_octets, repeated_size, renewed_size, Replied, FieldsIn, EchoIn, Read}

-- two octets as one number
pub two_octets : (high low : ℕ) → low < 256 → be16 (high * 256 + low) ≡ high ∷ low ∷ []
unfolding be16
two_octets high low h = ap₂ (λ (x y : ℕ). x ∷ y ∷ []) (omega arith) (omega arith)

pub heading_octets : (m : List ℕ) (end rcode answers additionals : ℕ) → heading_front m rcode ++ heading_back m end answers additionals ≡ heading (framed m end) rcode answers additionals
unfolding heading_front heading_back heading flags message_of
heading_octets m end rcode answers additionals = simp append_assoc

pub record_octets_lem : (owner : List ℕ) (type class ttl n : ℕ) (content : List ℕ) → n ≡ length content
    → record_front owner type class ttl n ++ content ≡ record_octets owner type class ttl content
unfolding record_front record_octets
record_octets_lem owner type class ttl n content e = rw e (simp append_assoc)

pub tkey_octets : (algorithm : List ℕ) (inception expiration mode error : ℕ) (key other : List ℕ)
    → tkey_front algorithm inception expiration mode error ++ (sized_octets key ++ sized_octets other) ≡ tkey_data algorithm inception expiration mode error key other
unfolding tkey_front sized_octets tkey_data
tkey_octets algorithm inception expiration mode error key other = simp append_assoc

-- ── Lengths ─────────────────────────────────────────────────────────────────────────────────────────────────────────

module _ (m : List ℕ) where
  pub heading_length : (end rcode answers additionals : ℕ) → Read m end → length (heading (framed m end) rcode answers additionals) ≡ end
  unfolding heading flags message_of be16
  heading_length end rcode answers additionals h = rw (part_length m 12 (end - 12) (omega arith)) (omega arith)

  pub repeated_length : (end answers additionals : ℕ) (t : Fields) (owner key : List ℕ) → Read m end → FieldsIn m t
      → length (repeated_octets m end answers additionals t owner key) ≡ repeated_size end (length owner) t (length key)
  unfolding repeated_octets tkey_record record_octets tkey_data be16 be32
  repeated_length end answers additionals t owner key h f =
      let l₁ = heading_length end 0 answers additionals h in
      let l₂ = part_length m t.algorithm.from t.algorithm.size f.algorithm in
      let l₃ = part_length m t.other.from t.other.size f.other in
      simp (length-append, l₁, l₂, l₃) (omega arith)

  pub renewed_length : (g : Grant) (owner key second subject : List ℕ) → Read m g.end → FieldsIn m g.fields → EchoIn m g.echo
      → length (renewed_octets m g owner key second subject) ≡ renewed_size g (length owner) (length key) (length second) (length subject)
  unfolding renewed_octets record_octets be16 be32
  renewed_length g owner key second subject h f e =
      let l₁ = repeated_length g.end g.answers 1 g.fields owner key h f in
      let l₂ = part_length m g.echo.content.from g.echo.content.size e.content in
      simp (length-append, l₁, l₂) (omega arith)

-- ── Room ────────────────────────────────────────────────────────────────────────────────────────────────────────────

no_more_lem : (x : Bool) → (x && false) ≡ false
no_more_lem true = refl
no_more_lem false = refl

refused : (reply b : List ℕ) → room_for (length b) reply ≡ false → Replied reply b b None
refused reply b e = record { says = (e, refl) }

-- too long for the buffer, and for any message
pub no_room : (reply b : List ℕ) → length b < length reply → Replied reply b b None
unfolding room_for
no_room reply b h = refused reply b (rw (lt-leb (length reply) (length b) h) refl)

pub too_long : (reply b : List ℕ) → 65535 < length reply → Replied reply b b None
unfolding room_for
too_long reply b h = refused reply b (rw (lt-leb (length reply) 65535 h) (no_more_lem (leb (length reply) (length b))))

accepted : (reply b b' : List ℕ) (r : ℕ) → room_for (length b) reply ≡ true → r ≡ length reply → b' ≡ put reply b → Replied reply b b' (Some r)
accepted reply b b' r e s l = record { says = (e, s, l) }

pub in_room_lem : {reply b b' : List ℕ} {r : ℕ} → Wrote reply 0 b b' r → r ≤ 65535 → Replied reply b b' (Some r)
unfolding room_for
in_room_lem {reply} {b} {b'} {r} w h =
    let p = wrote_put w in
    let e : room_for (length b) reply ≡ true = rw (le-leb (length reply) (length b) (omega arith), le-leb (length reply) 65535 (omega arith)) refl in
    accepted reply b b' r e p.0 p.1

pub replied_as : {xs ys b b' : List ℕ} {r : Option ℕ} → xs ≡ ys → Replied xs b b' r → Replied ys b b' r
replied_as e w = rw e at w

-- ── Key data ────────────────────────────────────────────────────────────────────────────────────────────────────────

pub key_part : (m : List ℕ) (p : Span) (offer : List ℕ) → key_data false m p.from (p.from + p.size) offer ≡ cut m p
key_part m p offer = part_slice m p.from p.size

-- either has a length that fits
pub key_short : (b : Bool) (m : List ℕ) (p : Span) (offer : List ℕ) → length m < 65536 → p.from + p.size ≤ length m → length offer < 65536
    → length (key_data b m p.from (p.from + p.size) offer) < 65536
key_short true m p offer h w o = o
key_short false m p offer h w o = rw (key_part m p offer) (rw (part_length m p.from p.size w) (omega arith))
