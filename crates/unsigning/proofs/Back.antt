-- Laws of reading a TSIG back as the code does, and of the calls that go on with it: they refuse as reading back does. Assumes nothing.
use Prim.Native.Nat.{ℕ}
use mathlib.Core.Path.{◌≡◌, refl, ap, subst, ◌∙◌}
use mathlib.Core.Bool.{Bool, true, false}
use mathlib.Core.List.{List}
use mathlib.Core.Logic.{◌⊎◌, inl, inr}
use Rattle.std.specs.Prelude.{Option, None, Some, Result, Ok, Err}
use Rattle.model.specs.Octets.{Reading, stops, reads}
use Rattle.model.specs.Messages.{Message, read_message}
use Rattle.model.specs.Tsig.{Tsig, Signature, unsigned, misplaced, well_placed, signature}
use Rattle.model.specs.Checks.{check, check_read}
use Rattle.model.specs.Calls.{SIZE, FORMAT, size_ok}
use Rattle.model.specs.Signing.{Assembled, unassembled, ReadBack, unread, read_back, check_signed}
use Rattle.model.specs.Received.{received}
use Rattle.tsig.specs.declared.TsigFields.{TsigFields}
use Rattle.tsig.specs.declared.Signer.{Signer}
use Rattle.tsig.specs.declared.Signer.TheVariants.{Nobody, Ill, Key}
use Rattle.tsig.specs.Signature.{shown, SignerFits}
use Rattle.contents.specs.declared.Contents.{Contents}
use Rattle.contents.specs.declared.Unread.{Unread}
use Rattle.contents.specs.declared.Unread.TheVariants.{Size as BadSize, Broken}
use Rattle.contents.specs.Contents.{ContentsRead, ReadAs, SignerLast}
use Rattle.digests.specs.declared.Refusal.{Refusal}
use Rattle.digests.specs.declared.Refusal.TheVariants.{Format}
use Rattle.digests.specs.Left.{refusal_of, Left}
use Rattle.digests.proofs.Ends.{refused}
use Rattle.unsigning.specs.declared.TsigRead.{TsigRead}
use Rattle.unsigning.specs.Unsigning.{tsig_at, TsigStands, BackRead}

-- ── Reading back ────────────────────────────────────────────────────────────────────────────────────────────────────

module _ (m : List ℕ) (r : Result Contents Unread) (q : ReadAs m r) where
  pub by_unread : (u : Unread) → r ≡ Err u → BackRead m (Err (refusal_of u))
  unfolding read_back unread SIZE FORMAT
  by_unread BadSize e = record { says = rw (subst (ReadAs m) e q) refl; stands = tt }
  by_unread (Broken place) e =
      let x : (size_ok m ≡ true) × (read_message m ≡ stops place) = subst (ReadAs m) e q in
      record { says = rw (x.0, x.1) refl; stands = tt }

  -- by how the message is signed
  module _ (c : Contents) (e : r ≡ Ok c) where
    whole : ContentsRead m c
    whole = subst (ReadAs m) e q

    signs : (s : Signer) → c.signer ≡ s → signature whole.message.records ≡ shown m s
    signs s h = whole.signing ∙ ap (shown m) h

    pub by_none : (c.signer ≡ Nobody) ⊎ (c.signer ≡ Ill) → BackRead m (Err Format)
    unfolding read_back unread FORMAT
    by_none (inl h) = record { says = rw (whole.sized, whole.says, signs Nobody h) refl; stands = tt }
    by_none (inr h) = record { says = rw (whole.sized, whole.says, signs Ill h) refl; stands = tt }

    pub by_key : (place : ℕ) (f : TsigFields) → c.signer ≡ Key place f → BackRead m (Ok (record { place = place; fields = f }))
    unfolding read_back
    by_key place f h =
        let fits : SignerFits m (Key place f) = subst (SignerFits m) h whole.signer_fits in
        let last : SignerLast m (Key place f) = subst (SignerLast m) h whole.last in
        record { says = rw (whole.sized, whole.says, signs (Key place f) h) refl; stands = record { readable = fits.0; fits = fits.1; last = last } }

-- ── Going on ────────────────────────────────────────────────────────────────────────────────────────────────────────

module _ (m : List ℕ) (next : Tsig → Assembled) where
  abbrev after_back : ℕ → Option Tsig → Assembled
  after_back n None = unassembled n
  after_back n (Some t) = next t

  abbrev behind : ReadBack → Assembled
  behind b = after_back b.number b.tsig

  by_signature : (s : Signature) → check_signed unassembled FORMAT s next ≡ behind (check_signed unread FORMAT s (λ t. record { number = 0; tsig = Some t }))
  unfolding unread
  by_signature unsigned = refl
  by_signature misplaced = refl
  by_signature (well_placed t) = refl

  by_message : (x : Reading Message)
      → check_read unassembled FORMAT x (λ q. check_signed unassembled FORMAT (signature q.records) next)
      ≡ behind (check_read unread FORMAT x (λ q. check_signed unread FORMAT (signature q.records) (λ t. record { number = 0; tsig = Some t })))
  unfolding unread
  by_message (stops p) = refl
  by_message (reads q k) = by_signature (signature q.records)

  by_size_lem : (b : Bool) (x : Assembled) (y : ReadBack) → x ≡ behind y → check unassembled SIZE b x ≡ behind (check unread SIZE b y)
  unfolding unread
  by_size_lem true x y e = e
  by_size_lem false x y e = refl

  by_back : received m next ≡ behind (read_back m)
  unfolding received read_back
  by_back = by_size_lem (size_ok m) _ _ (by_message (read_message m))

  -- by the answer of reading back: refused, or the TSIG is handed on
  module _ (s : Result TsigRead Refusal) (q : BackRead m s) where
    pub stopped : (r : Refusal) → s ≡ Err r → (b : List ℕ) → Left (received m next) b b (Err r)
    stopped r h b = rw (by_back, q.says, h) (refused r b)

    pub goes : (t : TsigRead) → s ≡ Ok t → (b b' : List ℕ) (r : Result ℕ Refusal) → Left (next (tsig_at m t)) b b' r → Left (received m next) b b' r
    goes t h b b' r l = rw (by_back, q.says, h) l

pub stands : {m : List ℕ} {s : Result TsigRead Refusal} → BackRead m s → {t : TsigRead} → s ≡ Ok t → TsigStands m t
stands q h = rw h at q.stands
