-- The row of the pair that a message belongs to, by what was read of the message; and such a row. Assumes nothing.
use Prim.Native.Nat.{ℕ, ◌+◌, ◌<◌}
use mathlib.Core.Path.{◌≡◌, refl, ap, ap₂, subst, ◌∙◌}
use mathlib.Core.Bool.{Bool, true, false, cond}
use Rattle.std.specs.Prelude.{Option, None, Some, Result, Ok, Err}
use Rattle.std.proofs.lemmas.Option.{none-some}
use mathlib.Core.List.{List}
use native.Mathlib.Omega.{arith}
use lib.ListN.{length, length-map}
use Rattle.model.specs.declared.Pair.{Pair}
use Rattle.model.specs.Octets.{Reading, stops, reads}
use Rattle.model.specs.Names.{after_label}
use Rattle.model.specs.Messages.{Message, read_message}
use Rattle.model.specs.Tsig.{Signature, unsigned, misplaced, well_placed, signature}
use Rattle.model.specs.Tables.{Table, names_of, pair_at, suffix_at}
use Rattle.model.specs.Judging.{holder}
use Rattle.model.specs.Calls.{size_ok, signed_by, read_by, octets_owner, holder_at}
use Rattle.model.proofs.Rows.{row_below}
use Rattle.model.proofs.CallLaws.{holder_by}
use Rattle.tsig.specs.declared.Signer.{Signer}
use Rattle.tsig.specs.Signature.{shown as signerShown, SignerFits}
use Rattle.contents.specs.declared.Contents.{Contents}
use Rattle.contents.specs.declared.Unread.{Unread}
use Rattle.contents.specs.declared.Unread.TheVariants.{Size, Broken}
use Rattle.contents.specs.Contents.{ContentsRead, ReadAs}
use Rattle.store.specs.Layout.{table_of}

-- ── Whose message ───────────────────────────────────────────────────────────────────────────────────────────────────

module _ (n : List (List ℕ)) (m : List ℕ) (r : Result Contents Unread) (q : ReadAs m r) where
  pub owner_unread : (u : Unread) → r ≡ Err u → octets_owner n m ≡ None
  unfolding octets_owner
  owner_unread Size e = rw (subst (ReadAs m) e q) refl
  owner_unread (Broken place) e = let x : (size_ok m ≡ true) × (read_message m ≡ stops place) = subst (ReadAs m) e q in rw (x.0, x.1) refl

  module _ (c : Contents) (e : r ≡ Ok c) where
    whole : ContentsRead m c
    whole = subst (ReadAs m) e q

    owner_signer : octets_owner n m ≡ signed_by n (signerShown m c.signer)
    unfolding octets_owner
    owner_signer = rw (whole.sized, whole.says, whole.signing) refl

    pub owner_is : (s : Signer) → c.signer ≡ s → (o : Option ℕ) → signed_by n (signerShown m s) ≡ o → octets_owner n m ≡ o
    owner_is s i o w = owner_signer ∙ ap (λ (s : Signer). signed_by n (signerShown m s)) i ∙ w

pub signer_fits : (m : List ℕ) {r : Result Contents Unread} {c : Contents} {s : Signer} → ReadAs m r → r ≡ Ok c → c.signer ≡ s → SignerFits m s
signer_fits m {c = c} q e i = let x : ContentsRead m c = subst (ReadAs m) e q in subst (SignerFits m) i x.signer_fits

module _ (n : List (List ℕ)) (i : ℕ) where
  below_signed : (s : Signature) → signed_by n s ≡ Some i → i < length n
  below_signed unsigned e = absurd (none-some i e)
  below_signed misplaced e = absurd (none-some i e)
  below_signed (well_placed s) e = row_below n (after_label s.name) i e

  below_read : (r : Reading Message) → read_by n r ≡ Some i → i < length n
  below_read (stops place) e = absurd (none-some i e)
  below_read (reads m next) e = below_signed (signature m.records) e

  below : (m : List ℕ) (b : Bool) → cond b (read_by n (read_message m)) None ≡ Some i → i < length n
  below m true e = below_read (read_message m) e
  below m false e = absurd (none-some i e)

  owner_below : (m : List ℕ) → octets_owner n m ≡ Some i → i < length n
  unfolding octets_owner
  owner_below m e = below m (size_ok m) e

-- ── A row that was found ────────────────────────────────────────────────────────────────────────────────────────────

pub row_in : (w s m : List ℕ) (i : ℕ) → octets_owner (names_of (table_of w s)) m ≡ Some i → i < length (table_of w s).rows
unfolding names_of
row_in w s m i owner =
    let h = owner_below (names_of (table_of w s)) i m owner in
    let n : length (names_of (table_of w s)) ≡ length (table_of w s).rows = length-map (table_of w s).rows (λ r. r.suffix) in
    omega arith

-- its pair and its suffix, as a step is handed them
pub row_held : (t : Table) (i : ℕ) {p : Pair} {y : List ℕ} → p ≡ pair_at t i → y ≡ suffix_at t i → holder (i + 1) y p ≡ holder_by t (Some i)
unfolding holder_at
row_held t i is-p is_y = ap₂ (holder (i + 1)) is_y is-p
