-- Each way that the refusals before the writing end. Assumes nothing.
use Prim.Native.Nat.{ℕ, ◌≤◌, ◌<◌, ◌^◌}
use mathlib.Core.Path.{◌≡◌, refl, ap, subst, ◌∙◌}
use mathlib.Core.Bool.{true, false, ◌&&◌}
use mathlib.Core.List.{List}
use native.Mathlib.Omega.{arith}
use borrow.Author.Tests.{lt-ltb, le-ltb, ne_eqb}
use lib.Dec.{ltb}
use lib.ListN.{length}
use Rattle.model.specs.Octets.{stops}
use Rattle.model.specs.Names.{wire_name}
use Rattle.model.specs.Messages.{read_message}
use Rattle.model.specs.Tsig.{signature}
use Rattle.model.specs.Checks.{check}
use Rattle.model.specs.Calls.{TIME, SIZE, FORMAT, NAME, size_ok}
use Rattle.model.specs.Signing.{Stamp, Assembled, unassembled, is_unsigned, signable}
use Rattle.names.proofs.Wire.{wire_short}
use Rattle.messages.proofs.Sizes.{size_most}
use Rattle.tsig.specs.declared.Signer.{Signer}
use Rattle.tsig.specs.declared.Signer.TheVariants.{Nobody}
use Rattle.tsig.specs.Signature.{shown}
use Rattle.contents.specs.declared.Contents.{Contents}
use Rattle.std.specs.Prelude.{Result, Ok, Err}
use Rattle.contents.specs.declared.Unread.{Unread}
use Rattle.contents.specs.declared.Unread.TheVariants.{Size, Broken}
use Rattle.contents.specs.Contents.{ContentsRead, ReadAs}
use Rattle.digests.specs.declared.Refusal.{Refusal}
use Rattle.digests.specs.Left.{number_of, refusal_of}
use Rattle.digests.proofs.Ends.{refusal_numbered}
use Rattle.signing.specs.Assembling.{Bare, Passes}
use Rattle.signing.proofs.Counts.{counts_one_more}

-- ── SIZE and FORMAT ─────────────────────────────────────────────────────────────────────────────────────────────────

module _ (m : List ℕ) (r : Result Contents Unread) (q : ReadAs m r) where
  pub unread : (u : Unread) → r ≡ Err u → Bare m (number_of (refusal_of u))
  unfolding SIZE FORMAT
  unread Size e = let x : size_ok m ≡ false = subst (ReadAs m) e q in record { says = λ next. rw x refl; sized = λ z. absurd (omega arith) }
  unread (Broken place) e =
      let x : (size_ok m ≡ true) × (read_message m ≡ stops place) = subst (ReadAs m) e q in
      record { says = λ next. rw (x.0, x.1) refl; sized = λ z. absurd (omega arith) }

  module _ (c : Contents) (e : r ≡ Ok c) where
    whole : ContentsRead m c
    whole = subst (ReadAs m) e q

    signs : (s : Signer) → c.signer ≡ s → signature whole.message.records ≡ shown m s
    signs s i = whole.signing ∙ ap (shown m) i

    pub signed_already : (s : Signer) → c.signer ≡ s → is_unsigned (shown m s) ≡ false → Bare m 6
    unfolding FORMAT
    signed_already s i f = record { says = λ next. rw (whole.sized, whole.says, signs s i, f) refl; sized = λ z. absurd (omega arith) }

    pub unsigned_yet : c.signer ≡ Nobody → Bare m 0
    unsigned_yet i =
        let x = whole in
        let to = size_most m x.sized in
        record {
          says = λ next. rw (x.sized, x.says, signs Nobody i) refl;
          sized = λ z. record { from = omega arith; to = to; counted = counts_one_more m x.message (length m) x.says to };
        }

-- ── NAME and TIME ───────────────────────────────────────────────────────────────────────────────────────────────────

module _ (m name algorithm : List ℕ) (signed : ℕ) where
  pub stopped : (r : Refusal) → Bare m (number_of r) → Passes m name algorithm signed (number_of r)
  unfolding signable
  stopped r p =
      let h = refusal_numbered r in
      let z = ne_eqb (number_of r) 0 h in
      record { says = λ t next _ _. p.says _ ∙ rw z refl; fit = λ e. absurd (h e) }

  module _ (p : Bare m 0) where
    passed : (t : Stamp) (next : Assembled) → signable m name t next
        ≡ check unassembled NAME (wire_name name && wire_name t.algorithm) (check unassembled TIME (ltb t.signed (2 ^ 48)) next)
    unfolding signable
    passed t next = p.says _

    pub unnamed : wire_name name ≡ false → Passes m name algorithm signed 12
    unfolding NAME
    unnamed f = record { says = λ t next _ _. passed t next ∙ rw f refl; fit = λ e. absurd (omega arith) }

    module _ (named : wire_name name ≡ true) where
      pub unhashed : wire_name algorithm ≡ false → Passes m name algorithm signed 12
      unfolding NAME
      unhashed f = record { says = λ t next a _. passed t next ∙ rw (named, a, f) refl; fit = λ e. absurd (omega arith) }

      module _ (hashed : wire_name algorithm ≡ true) where
        pub untimed : 2 ^ 48 ≤ signed → Passes m name algorithm signed 2
        unfolding TIME
        untimed h = record { says = λ t next a s. passed t next ∙ rw (named, a, hashed, s, le-ltb signed (2 ^ 48) h) refl; fit = λ e. absurd (omega arith) }

        pub all_pass : signed < 2 ^ 48 → Passes m name algorithm signed 0
        all_pass h =
            record {
              says = λ t next a s. passed t next ∙ rw (named, a, hashed, s, lt-ltb signed (2 ^ 48) h) refl;
              fit = λ e. record { message = p.sized refl; named = wire_short name named; hashed = wire_short algorithm hashed; timed = h };
            }
