-- A call whose answer is told. Assumes nothing.
use Prim.Native.Nat.{ℕ}
use mathlib.Core.Path.{◌≡◌, refl, ap, ◌∙◌}
use mathlib.Core.List.{List, [], ◌∷◌}
use Rattle.std.specs.Prelude.{Result}
use Rattle.model.specs.Signing.{Assembled}
use Rattle.model.specs.Received.{timers, later_digest, digested_later}
use Rattle.digests.specs.declared.Refusal.{Refusal}
use Rattle.digests.specs.Left.{Left}
use Rattle.capi_signing.specs.Written.{stamp, Counted, LeftTo}

pub left_to : {a : Assembled} {entry exit words : List ℕ} {x : Result ℕ Refusal} {r : ℕ} → Left a entry exit x → Counted x words r → LeftTo a entry exit words r
left_to l t =
    record {
      number = t.returned ∙ l.number;
      written = t.written ∙ ap (λ (n : ℕ). n ∷ []) l.length;
      left = l.left;
    }

-- the error of a later message's TSIG is not under its MAC
pub later_error : (prior before m : List ℕ) (signed fudge id error : ℕ) (algorithm mac other : List ℕ) (room : ℕ)
    → digested_later prior before m (stamp signed fudge id 0 algorithm mac other) room ≡ digested_later prior before m (stamp signed fudge id error algorithm mac other) room
unfolding digested_later later_digest timers
later_error prior before m signed fudge id error algorithm mac other room = refl
