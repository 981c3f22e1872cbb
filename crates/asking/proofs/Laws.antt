-- What a message asks for, as code reads it: one law for each way out. Assumes nothing.
use Prim.Native.Nat.{ℕ}
use mathlib.Core.Path.{◌≡◌, refl, sym, ap, subst, ◌∙◌}
use mathlib.Core.Bool.{true, false}
use mathlib.Core.List.{List}
use Rattle.model.specs.declared.Algorithm.{Algorithm}
use Rattle.model.specs.Octets.{stops}
use Rattle.model.specs.Names.{algorithm_number}
use Rattle.model.specs.Messages.{read_message}
use Rattle.model.specs.Calls.{DONE, SIZE, FORMAT, NOTQUERY, size_ok}
use Rattle.model.specs.Inquiries.{Asks, unasked_at, unasked, number_named, asks_with, asks_by, asks_of}
use Rattle.std.specs.Prelude.{Option, None, Some, Result, Ok, Err, MatchOption}
use Rattle.tkey.specs.declared.KeyFields.{KeyFields}
use Rattle.tkey.specs.Key.{key_shown, KeyFits}
use Rattle.tkey.specs.Fields.{tkey_shown, TkeyFits}
use Rattle.contents.specs.declared.Contents.{Contents}
use Rattle.contents.specs.declared.Unread.{Unread}
use Rattle.contents.specs.declared.Unread.TheVariants.{Size, Broken}
use Rattle.contents.specs.Contents.{contents_shown, ContentsRead, ReadAs}
use Rattle.asking.specs.declared.Asked.{Asked}
use Rattle.asking.specs.declared.Unasked.{Unasked}
use Rattle.asking.specs.declared.Unasked.TheVariants.{Unread as Refuses, NotQuery}
use Rattle.asking.specs.Asking.{DataRead, Shows}
use Rattle.tkey.specs.declared.OnlyTkey.{OnlyTkey}
use Rattle.tkey.specs.declared.OnlyKey.{OnlyKey}

-- ── The KEY ─────────────────────────────────────────────────────────────────────────────────────────────────────────

pub data_none : (m : List ℕ) (k : Option OnlyKey) → k ≡ None → DataRead m k None
data_none m k e = subst (λ (k : Option OnlyKey). DataRead m k None) (sym e) (record { says = refl; within = tt })

pub data_one : (m : List ℕ) (k : Option OnlyKey) (place : ℕ) (f : KeyFields) → k ≡ Some (record { place = place; fields = f }) → KeyFits m k → DataRead m k (Some f.content)
data_one m k place f e fits = subst (λ (k : Option OnlyKey). DataRead m k (Some f.content)) (sym e) (record { says = refl; within = (subst (KeyFits m) e fits).content })

-- ── What is asked ───────────────────────────────────────────────────────────────────────────────────────────────────

-- the number of an algorithm, or 0 for none
pub numbered : (named : Option Algorithm) (n : ℕ) → MatchOption named (n ≡ 0) (λ g. n ≡ algorithm_number g) → n ≡ number_named named
unfolding number_named
numbered None n h = h
numbered (Some g) n h = h

pub shows_as : {m : List ℕ} {a b : Asks} {r : Result Asked Unasked} → a ≡ b → Shows m b r → Shows m a r
shows_as e s = record { says = e ∙ s.says; within = s.within }

module _ (m : List ℕ) (c : Contents) where
  pub by_other : c.request ≡ false → asks_by (contents_shown m c) ≡ unasked_at 0 0
  unfolding asks_by unasked DONE
  by_other e = rw e refl

  module _ (asked : c.request ≡ true) where
    pub by_nothing : c.tkey ≡ None → asks_by (contents_shown m c) ≡ unasked_at 0 0
    unfolding asks_by unasked DONE
    by_nothing e = rw (asked, e) refl

    pub by_tkey : (t : Option OnlyTkey) → c.tkey ≡ t → asks_by (contents_shown m c) ≡ asks_with (key_shown m c.key) (tkey_shown m t)
    unfolding asks_by
    by_tkey t e = rw (asked, e) refl

pub tkey_fits : (m : List ℕ) (c : Contents) → ContentsRead m c → (t : Option OnlyTkey) → c.tkey ≡ t → TkeyFits m t
tkey_fits m c read t e = subst (TkeyFits m) e read.tkey_fits

-- ── The message ─────────────────────────────────────────────────────────────────────────────────────────────────────

module _ (m : List ℕ) (r : Result Contents Unread) (read : ReadAs m r) where
  pub asks_unread : (u : Unread) → r ≡ Err u → Shows m (asks_of m) (Err (Refuses u))
  unfolding asks_of unasked SIZE FORMAT
  asks_unread Size e = record { says = rw (subst (ReadAs m) e read) refl; within = tt }
  asks_unread (Broken place) e = let x : (size_ok m ≡ true) × (read_message m ≡ stops place) = subst (ReadAs m) e read in record { says = rw (x.0, x.1) refl; within = tt }

  module _ (c : Contents) (e : r ≡ Ok c) where
    pub whole : ContentsRead m c
    whole = subst (ReadAs m) e read

    pub asks_response : c.response ≡ true → Shows m (asks_of m) (Err NotQuery)
    unfolding asks_of unasked NOTQUERY
    asks_response h = record { says = rw (whole.sized, whole.says, whole.response ∙ h) refl; within = tt }

    pub asks_query : c.response ≡ false → asks_of m ≡ asks_by (contents_shown m c)
    unfolding asks_of
    asks_query h = rw (whole.sized, whole.says, whole.response ∙ h) (ap asks_by whole.contents)
