-- What `moves_of` tells of each step of a pair that keeps the table rules. Assumes nothing.
use Prim.Native.Nat.{ℕ, ◌≤◌, ◌<◌, max}
use mathlib.Core.Path.{◌≡◌, refl, sym, ap, ◌∙◌}
use mathlib.Core.Bool.{Bool, true, false, cond, ◌||◌}
use Rattle.std.specs.Prelude.{Some}
use Rattle.std.proofs.lemmas.Option.{none-some}
use native.Mathlib.Omega.{arith}
use native.Mathlib.Nat.{zero-max, max-zero}
use lib.Dec.{eqb}
use borrow.Author.Tests.{eqb-true, eq-eqb}
use Rattle.model.specs.declared.Algorithm.{Algorithm}
use Rattle.model.specs.declared.Key.{Key}
use Rattle.model.specs.declared.Keys.{Keys}
use Rattle.model.specs.declared.Keys.TheVariants.{Empty, Adopted, Renewing}
use Rattle.model.specs.declared.Pair.{Pair}
use Rattle.model.specs.Pairs.{with_keys, made, revoked_key, issued, revoked_keys, revoked, renewed_keys, renewed, adopted_keys, adopted, deleted, withdrawn_keys, withdrawn}
use Rattle.model.specs.Tables.{pair_rule}
use Rattle.model.specs.Judging.{adopted_of, waiting_of}
use Rattle.model.specs.declared.Moves.{Moves}
use Rattle.model.specs.Inquiries.{adopted_serial, waiting_serial, is_among, unless, moves_of}
use Rattle.model.proofs.RuleFacts.{KeysOk, pair_sound}

-- ── One serial ──────────────────────────────────────────────────────────────────────────────────────────────────────

or_true : (b : Bool) → (b || true) ≡ true
or_true true = refl
or_true false = refl

cond_same : (b : Bool) (n : ℕ) → cond b n n ≡ n
cond_same true n = refl
cond_same false n = refl

-- None of no key.
unless_none : (ks : Keys) → unless ks 0 ≡ 0
unfolding unless
unless_none ks = cond_same (is_among ks 0) 0

-- None of a key that is there.
unless_adopted : (ks : Keys) (s : ℕ) → s ≡ adopted_serial ks → unless ks s ≡ 0
unfolding unless is_among
unless_adopted ks s e = rw (eq-eqb s (adopted_serial ks) e) refl

unless_waiting : (ks : Keys) (s : ℕ) → s ≡ waiting_serial ks → unless ks s ≡ 0
unfolding unless is_among
unless_waiting ks s e = rw (eq-eqb s (waiting_serial ks) e, or_true (eqb s (adopted_serial ks))) refl

-- The serial of a key that is not there.
unless_gone : (ks : Keys) (s : ℕ) → (s ≡ adopted_serial ks → s ≡ 0) → (s ≡ waiting_serial ks → s ≡ 0) → unless ks s ≡ s
unfolding unless is_among
unless_gone ks s f g = go (eqb s (adopted_serial ks)) refl (eqb s (waiting_serial ks)) refl
  where
    go : (a : Bool) → eqb s (adopted_serial ks) ≡ a → (b : Bool) → eqb s (waiting_serial ks) ≡ b → cond (a || b) 0 s ≡ s
    go true e b d = sym (f (eqb-true _ _ e))
    go false e true d = sym (g (eqb-true _ _ d))
    go false e false d = refl

-- No key is adopted that was not waiting.
none_adopted : (x y : ℕ) → (x ≡ y → x ≡ 0) → cond (eqb x y) x 0 ≡ 0
none_adopted x y f = go (eqb x y) refl
  where
    go : (b : Bool) → eqb x y ≡ b → cond b x 0 ≡ 0
    go true e = f (eqb-true x y e)
    go false e = refl

-- ── The four of them ────────────────────────────────────────────────────────────────────────────────────────────────

abbrev pub moved : ℕ → ℕ → ℕ → ℕ → Moves
moved made adopted ended dropped = record { made = made; adopted = adopted; ended = ended; dropped = dropped }

module _ (before after : Keys) {x y n a e d : ℕ} where
  moves_are :
      unless before (adopted_serial after) ≡ x
      → unless before (waiting_serial after) ≡ y
      → max x y ≡ n
      → cond (eqb (waiting_serial before) (adopted_serial after)) (waiting_serial before) 0 ≡ a
      → unless after (adopted_serial before) ≡ e
      → unless after (waiting_serial before) ≡ d
      → moves_of before after ≡ moved n a e d
  unfolding moves_of
  moves_are x-is y-is n-is a-is e-is d-is = rw (x-is, y-is, n-is, a-is, e-is, d-is) refl

-- What the table rules say of serials: below the next one, and apart.
record Apart (next : ℕ) (ks : Keys) : Type 0 where
  low : adopted_serial ks < next
  high : waiting_serial ks < next
  apart : waiting_serial ks ≡ adopted_serial ks → waiting_serial ks ≡ 0

keys_apart : (l next c : ℕ) (ks : Keys) → 1 ≤ next → KeysOk l next c ks → Apart next ks
unfolding adopted_serial waiting_serial
keys_apart l next c Empty h o = record { low = omega arith; high = omega arith; apart = λ e. refl }
keys_apart l next c (Adopted a) h o = record { low = o.below; high = omega arith; apart = λ e. refl }
keys_apart l next c (Renewing a w) h o = record { low = o.0.below; high = o.1.below; apart = λ e. absurd (omega (arith, o.2)) }

ruled_apart : (c : ℕ) (p : Pair) → pair_rule c p ≡ true → Apart p.next_serial p.keys
ruled_apart c p rule = let o = pair_sound c p rule in keys_apart p.lifetime p.next_serial c p.keys o.one o.keys_ok

module _ {next : ℕ} (before after : Keys) (o : Apart next before) where
  abbrev A : ℕ
  A = adopted_serial before

  abbrev W : ℕ
  W = waiting_serial before

  module _ (adopts : adopted_serial after ≡ A) where
    -- the keys that were
    stay : waiting_serial after ≡ W → moves_of before after ≡ moved 0 0 0 0
    stay waits =
        moves_are before after (unless_adopted before _ adopts) (unless_waiting before _ waits) refl (none_adopted _ _ (λ e. o.apart (e ∙ adopts))) (unless_adopted after _ (sym adopts))
        (unless_waiting after _ (sym waits))

    -- another key waits
    replace : waiting_serial after ≡ next → moves_of before after ≡ moved next 0 0 W
    replace waits =
        moves_are before after (unless_adopted before _ adopts)
        (unless_gone before _ (λ e. absurd (omega (arith, o.low, waits, e))) (λ e. absurd (omega (arith, o.high, waits, e))) ∙ waits)
        (zero-max next)
        (none_adopted _ _ (λ e. o.apart (e ∙ adopts)))
        (unless_adopted after _ (sym adopts))
        (unless_gone after _ (λ e. o.apart (e ∙ adopts)) (λ e. absurd (omega (arith, o.high, waits, e))))

    -- none waits
    withdraw : waiting_serial after ≡ 0 → moves_of before after ≡ moved 0 0 0 W
    withdraw waits =
        moves_are before after (unless_adopted before _ adopts) (ap (unless before) waits ∙ unless_none before) refl
        (none_adopted _ _ (λ e. o.apart (e ∙ adopts)))
        (unless_adopted after _ (sym adopts))
        (unless_gone after _ (λ e. o.apart (e ∙ adopts)) (λ e. e ∙ waits))

  module _ (waits : waiting_serial after ≡ 0) where
    -- the waiting key is adopted
    adopt : adopted_serial after ≡ W → moves_of before after ≡ moved 0 W A 0
    adopt adopts =
        moves_are before after (unless_waiting before _ adopts) (ap (unless before) waits ∙ unless_none before) refl
        (rw (eq-eqb _ _ (sym adopts)) refl)
        (unless_gone after _ (λ e. e ∙ adopts ∙ o.apart (sym (e ∙ adopts))) (λ e. e ∙ waits))
        (unless_adopted after _ (sym adopts))

    -- a new key is adopted
    fresh : adopted_serial after ≡ next → moves_of before after ≡ moved next 0 A W
    fresh adopts =
        moves_are before after
        (unless_gone before _ (λ e. absurd (omega (arith, o.low, adopts, e))) (λ e. absurd (omega (arith, o.high, adopts, e))) ∙ adopts)
        (ap (unless before) waits ∙ unless_none before)
        (max-zero next)
        (none_adopted W (adopted_serial after) (λ e. absurd (omega (arith, o.high, adopts, e))))
        (unless_gone after _ (λ e. absurd (omega (arith, o.low, adopts, e))) (λ e. e ∙ waits))
        (unless_gone after _ (λ e. absurd (omega (arith, o.high, adopts, e))) (λ e. e ∙ waits))

-- ── The steps of a pair ─────────────────────────────────────────────────────────────────────────────────────────────

module _ (now : ℕ) where
  revoked_adopted : (ks : Keys) → adopted_serial (revoked_keys ks now) ≡ adopted_serial ks
  unfolding adopted_serial revoked_keys revoked_key
  revoked_adopted Empty = refl
  revoked_adopted (Adopted a) = refl
  revoked_adopted (Renewing a w) = refl

  revoked_waiting : (ks : Keys) → waiting_serial (revoked_keys ks now) ≡ waiting_serial ks
  unfolding waiting_serial revoked_keys
  revoked_waiting Empty = refl
  revoked_waiting (Adopted a) = refl
  revoked_waiting (Renewing a w) = refl

  module _ (new : Key) where
    renewed_adopted : (ks : Keys) → adopted_serial (renewed_keys ks now new) ≡ adopted_serial ks
    unfolding adopted_serial renewed_keys revoked_key
    renewed_adopted Empty = refl
    renewed_adopted (Adopted a) = refl
    renewed_adopted (Renewing a w) = refl

    renewed_waiting : (ks : Keys) (k : Key) → adopted_of ks ≡ Some k → waiting_serial (renewed_keys ks now new) ≡ new.serial
    unfolding waiting_serial renewed_keys
    renewed_waiting Empty k e = absurd (none-some k e)
    renewed_waiting (Adopted a) k e = refl
    renewed_waiting (Renewing a w) k e = refl

adopted_adopted : (ks : Keys) (k : Key) → waiting_of ks ≡ Some k → adopted_serial (adopted_keys ks) ≡ waiting_serial ks
unfolding adopted_serial waiting_serial adopted_keys
adopted_adopted Empty k e = absurd (none-some k e)
adopted_adopted (Adopted a) k e = absurd (none-some k e)
adopted_adopted (Renewing a w) k e = refl

adopted_waiting : (ks : Keys) → waiting_serial (adopted_keys ks) ≡ 0
unfolding waiting_serial adopted_keys
adopted_waiting Empty = refl
adopted_waiting (Adopted a) = refl
adopted_waiting (Renewing a w) = refl

withdrawn_adopted : (ks : Keys) → adopted_serial (withdrawn_keys ks) ≡ adopted_serial ks
unfolding adopted_serial withdrawn_keys
withdrawn_adopted Empty = refl
withdrawn_adopted (Adopted a) = refl
withdrawn_adopted (Renewing a w) = refl

withdrawn_waiting : (ks : Keys) → waiting_serial (withdrawn_keys ks) ≡ 0
unfolding waiting_serial withdrawn_keys
withdrawn_waiting Empty = refl
withdrawn_waiting (Adopted a) = refl
withdrawn_waiting (Renewing a w) = refl

-- A DELETION: every key goes.
pub moves_deleted : (p : Pair) → moves_of p.keys (deleted p).keys ≡ moved 0 0 (adopted_serial p.keys) (waiting_serial p.keys)
unfolding deleted with_keys adopted_serial waiting_serial
moves_deleted p =
    let a = adopted_serial p.keys in
    let w = waiting_serial p.keys in
    moves_are p.keys Empty (unless_none p.keys) (unless_none p.keys) refl (none_adopted w 0 (λ e. e)) (unless_gone Empty a (λ e. e) (λ e. e)) (unless_gone Empty w (λ e. e) (λ e. e))

-- Of a pair that keeps the table rules:
module _ (c : ℕ) (p : Pair) (rule : pair_rule c p ≡ true) where
  abbrev keys : Keys
  keys = p.keys

  abbrev next : ℕ
  next = p.next_serial

  ok : Apart next keys
  ok = ruled_apart c p rule

  -- NOTHING CHANGED.
  pub moves_none : moves_of keys keys ≡ moved 0 0 0 0
  moves_none = stay keys keys ok refl refl

  -- REVOKE EARLY makes, adopts and ends no key.
  pub moves_revoked : (now : ℕ) → moves_of keys (revoked p now).keys ≡ moved 0 0 0 0
  unfolding revoked with_keys
  moves_revoked now = stay keys _ ok (revoked_adopted now keys) (revoked_waiting now keys)

  -- ISSUE: the new key is made, and every other goes.
  pub moves_issued : (now : ℕ) (g : Algorithm) → moves_of keys (issued p now g).keys ≡ moved next 0 (adopted_serial keys) (waiting_serial keys)
  unfolding issued with_keys made adopted_serial waiting_serial
  moves_issued now g = fresh keys (Adopted (made p now g)) ok refl refl

  -- A RENEWAL, of a pair with an adopted key: the new key is made, and what waited goes.
  pub moves_renewed : (now : ℕ) (g : Algorithm) (k : Key) → adopted_of keys ≡ Some k → moves_of keys (renewed p now g).keys ≡ moved next 0 0 (waiting_serial keys)
  unfolding renewed with_keys made
  moves_renewed now g k e = replace keys _ ok (renewed_adopted now (made p now g) keys) (renewed_waiting now (made p now g) keys k e)

  -- AN ADOPTION, of a pair with a waiting key: it is adopted, and the old one ends.
  pub moves_adopted : (k : Key) → waiting_of keys ≡ Some k → moves_of keys (adopted p).keys ≡ moved 0 (waiting_serial keys) (adopted_serial keys) 0
  unfolding adopted with_keys
  moves_adopted k e = adopt keys _ ok (adopted_waiting keys) (adopted_adopted keys k e)

  -- A WITHDRAWAL: what waited goes.
  pub moves_withdrawn : moves_of keys (withdrawn p).keys ≡ moved 0 0 0 (waiting_serial keys)
  unfolding withdrawn with_keys
  moves_withdrawn = withdraw keys _ ok (withdrawn_adopted keys) (withdrawn_waiting keys)
