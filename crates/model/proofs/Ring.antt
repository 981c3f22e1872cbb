-- Requested times (02, CR 5) are compared by the order of RFC 1982. Assumes nothing.
use Prim.Native.Nat.{ℕ, ◌-◌, ◌^◌, ◌≤◌, ◌<◌}
use mathlib.Core.Path.{◌≡◌, refl, sym, ◌∙◌}
use mathlib.Core.Bool.{true, false, or-false}
use native.Mathlib.Omega.{arith}
use lib.Dec.{leb, ltb}
use borrow.Author.Tests.{ltb-true, ltb-false, leb-true, lt-ltb, le-ltb, le-leb}
use Rattle.model.specs.Tkey.{Tkey}
use Rattle.model.specs.Judging.{distance, good_times, good_interval}
use Rattle.model.specs.Serial.{ring_less}
use Rattle.model.proofs.Tests.{left, right, both, not_so, by_test, same_tests}

module _ (a b : ℕ) (fits-a : a < 2 ^ 32) (fits-b : b < 2 ^ 32) where
  record Good : Type 0 where
    low : 1 ≤ distance a b
    high : distance a b < 2 ^ 31

  good : good_times a b ≡ true → Good
  unfolding good_times
  good e =
      let low = leb 1 (distance a b) in
      let high = leb (distance a b) 0x7fff_ffff in
      record { low = leb-true 1 (distance a b) (left low high e); high = omega (arith, leb-true (distance a b) 0x7fff_ffff (right low high e)) }

  good_test : Good → good_times a b ≡ true
  unfolding good_times
  good_test g =
      both (leb 1 (distance a b)) (leb (distance a b) 0x7fff_ffff) (le-leb 1 (distance a b) (omega arith)) (le-leb (distance a b) 0x7fff_ffff (omega arith))

  less : Good → ring_less a b ≡ true
  unfolding distance ring_less
  less g =
      by_test (ltb a b)
      (λ up. let above = ltb-true a b up in rw (up, lt-ltb (b - a) (2 ^ 31) (omega arith)) refl)
      (λ down. let below = ltb-false a b down in rw (down, lt-ltb b a (omega arith), lt-ltb (2 ^ 31) (a - b) (omega arith)) refl)

  from_less : ring_less a b ≡ true → Good
  unfolding distance ring_less
  from_less e =
      by_test (ltb a b)
      (λ up.
      let above = ltb-true a b up in
      let near = ltb-true (b - a) (2 ^ 31) (sym (or-false (ltb (b - a) (2 ^ 31))) ∙ (rw (up, le-ltb b a (omega arith)) at e)) in
      record { low = omega arith; high = omega arith })
      (λ down.
      let both-tests = rw down at e in
      let below = ltb-true b a (left (ltb b a) (ltb (2 ^ 31) (a - b)) both-tests) in
      let far = ltb-true (2 ^ 31) (a - b) (right (ltb b a) (ltb (2 ^ 31) (a - b)) both-tests) in
      record { low = omega arith; high = omega arith })

  -- Of any two times of 32 bits the interval is good exactly when inception is less than expiration on the ring.
  pub good_is_less : good_times a b ≡ ring_less a b
  good_is_less = same_tests (good_times a b) (ring_less a b) (λ e. less (good e)) (λ e. good_test (from_less e))

  half_is_bad : distance a b ≡ 2 ^ 31 → good_times a b ≡ false
  half_is_bad half = not_so (good_times a b) λ e. let g = good e in omega arith

-- Half the ring apart, which RFC 1982 leaves without an order, both are bad, and so they are the other way round.
pub half_the_ring : (a b : ℕ) → a < 2 ^ 32 → b < 2 ^ 32 → distance a b ≡ 2 ^ 31
    → (good_times a b ≡ false) × (ring_less a b ≡ false) × (good_times b a ≡ false) × (ring_less b a ≡ false)
unfolding distance
half_the_ring a b fits-a fits-b half =
    let there = half_is_bad a b fits-a fits-b half in
    let back = half_is_bad b a fits-b fits-a (omega arith) in
    (there, sym (good_is_less a b fits-a fits-b) ∙ there, back, sym (good_is_less b a fits-b fits-a) ∙ back)

-- So of a TKEY with such times: its interval is good by RFC 1982's order.
pub interval_is_less : (k : Tkey) → k.inception < 2 ^ 32 → k.expiration < 2 ^ 32 → good_interval k ≡ ring_less k.inception k.expiration
unfolding good_interval
interval_is_less k fits-a fits-b = good_is_less k.inception k.expiration fits-a fits-b
