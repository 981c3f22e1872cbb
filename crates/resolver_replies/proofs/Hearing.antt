-- Laws of reading a reply as the code makes it. Assumes nothing.
use Prim.Native.Nat.{ℕ, ◌%◌, ◌≤◌}
use mathlib.Core.Path.{◌≡◌, refl, ap, sym, subst, ◌∙◌}
use mathlib.Core.Bool.{Bool, true, false, ◌&&◌}
use mathlib.Core.List.{List}
use mathlib.Core.Logic.{◌⊎◌, inl, inr}
use Rattle.model.specs.declared.OpenRequest.{OpenRequest}
use native.Mathlib.Omega.{arith}
use lib.Dec.{eqb}
use lib.ListN.{length, take, get_or, length-take}
use borrow.Author.Tests.{eq-eqb, ne_eqb}
use Rattle.model.specs.declared.Algorithm.{Algorithm}
use Rattle.std.specs.Prelude.{Option, Some, None, Result, Ok, Err}
use Rattle.model.specs.declared.ResolverKey.{ResolverKey}
use Rattle.model.specs.declared.Holding.{Holding}
use Rattle.model.specs.declared.Asking.{Asking}
use Rattle.model.specs.declared.Resolver.{Resolver}
use Rattle.model.specs.declared.Heard.{Heard}
use Rattle.model.specs.Octets.{u16_at, stops}
use Rattle.model.specs.Names.{algorithm_named}
use Rattle.model.specs.Messages.{read_message}
use Rattle.model.specs.Judging.{partial_revoke}
use Rattle.model.specs.Calls.{size_ok}
use Rattle.model.specs.Resolver.{LOST, WRONGID, UNSIGNED, FORMAT, TkeyAnswer, only_answer, answer_in, offered_by, renewed_in, moved, is_mode, moved_by, closed, unheard, rcode_of, accepted, heard, read_reply}
use Rattle.matching.specs.Compare.{name_standing}
use Rattle.messages.specs.declared.Kept.{Kept}
use Rattle.records.specs.Record.{Within}
use Rattle.messages.specs.Answers.{AnswersRead}
use Rattle.tsig.specs.declared.TsigFields.{TsigFields}
use Rattle.tsig.specs.declared.Signer.{Signer}
use Rattle.tsig.specs.declared.Signer.TheVariants.{Nobody, Ill, Key}
use Rattle.tsig.specs.Signature.{tsig_from}
use Rattle.contents.specs.declared.Contents.{Contents}
use Rattle.contents.specs.declared.Unread.{Unread}
use Rattle.contents.specs.declared.Unread.TheVariants.{Size, Broken}
use Rattle.contents.specs.Contents.{ContentsRead, ReadAs}
use Rattle.answers.specs.declared.AnswerFields.{AnswerFields}
use Rattle.answers.specs.Answer.{answer_from, shown, FoundFits, AnswerRead}
use Rattle.resolver_replies.specs.Hearing.{key_from, offering, AnswerMoves, Accepts, Hears, HearsSigned, HearsAwaited, number_of, Passes, Checked}
use Rattle.resolver_replies.specs.declared.Passed.{Passed}
use Rattle.resolver_replies.specs.declared.Refusal.{Refusal}
use Rattle.answers.specs.declared.AnswerFound.{AnswerFound}

-- ── What a TKEY moves ───────────────────────────────────────────────────────────────────────────────────────────────

-- the algorithm's name is x, read as d
module _ (s : Resolver) (t : TkeyAnswer) (x d : List ℕ) (here : d ≡ x) (n : Option Algorithm) (is : n ≡ algorithm_named d) where
  named : algorithm_named x ≡ n
  named = sym (is ∙ ap algorithm_named here)

  pub grants_none : n ≡ None → s ≡ offered_by s t (algorithm_named x)
  grants_none e = rw (named, e) refl

  pub grants : (g : Algorithm) → n ≡ Some g → (k : ResolverKey) → k ≡ key_from t.name g t.inception t.expiration
      → (r : Resolver) → r ≡ offering s k → r ≡ offered_by s t (algorithm_named x)
  grants g e k f r h = h ∙ rw (named, e, f) refl

pub renews : (s : Resolver) (t : TkeyAnswer) (h : Holding) → s.holding ≡ h → renewed_in h s t ≡ renewed_in s.holding s t
renews s t h e = ap (λ (x : Holding). renewed_in x s t) (sym e)

pub by_fits : (m owner : List ℕ) (f : Option AnswerFound) (n : ℕ) (t : AnswerFields) → f ≡ Some (record { name = n; fields = t }) → FoundFits m f
    → (length (take n owner) ≤ 255) × Within m t.algorithm
by_fits m owner f n t e h =
    let g : FoundFits m (Some (record { name = n; fields = t })) = rw e at h in
    let k = g.0 in
    (simp length-take (omega arith), g.1.algorithm)

module _ (asking : Asking) (s : Resolver) (m owner : List ℕ) (f : Option AnswerFound) where
  pub by_none : f ≡ None → s ≡ moved_by asking s (shown m owner f)
  by_none e = rw e refl

  module _ (n : ℕ) (t : AnswerFields) (e : f ≡ Some (record { name = n; fields = t })) where
    module _ (b : Bool) (is : b ≡ is_mode asking t.mode) where
      pub by_mode : b ≡ false → s ≡ moved_by asking s (shown m owner f)
      by_mode h = rw (e, sym is ∙ h) refl

      module _ (h : b ≡ true) where
        pub by_error : (t.error ≡ 0 → ⊥) → s ≡ moved_by asking s (shown m owner f)
        by_error k = rw (e, sym is ∙ h, ne_eqb t.error 0 k) refl

        pub by_moves : t.error ≡ 0 → (r : Resolver) → r ≡ moved asking s (answer_from m (take n owner) t) → r ≡ moved_by asking s (shown m owner f)
        by_moves k r i = i ∙ rw (e, sym is ∙ h, eq-eqb t.error 0 k) refl

pub answer_moves : (s : Resolver) (asking : Asking) (m : List ℕ) (end : ℕ) (k : Kept) → AnswersRead m end k
    → (owner : List ℕ) (f : Option AnswerFound) → AnswerRead m k owner f
    → (r : Resolver) → r ≡ moved_by asking s (shown m owner f) → AnswerMoves s asking m end r
unfolding only_answer
answer_moves s asking m end k a owner f b r e = record {
  says = λ q response w. e ∙ ap (moved_by asking s) (sym (ap answer_in (a.says q w.says w.after w.within w.octets) ∙ b.says));
}

-- ── Errors ──────────────────────────────────────────────────────────────────────────────────────────────────────────

module _ (s : Resolver) (asking : Asking) (m : List ℕ) (end : ℕ) (response : Bool) (error : ℕ) (after : Resolver) (c : after ≡ closed s) where
  pub no_reply : response ≡ false → Accepts s asking m end response error after
  unfolding accepted
  no_reply h = record { says = λ q w t e. c ∙ rw (w.responds ∙ h) refl }

  module _ (h : response ≡ true) (o : ℕ) (here : o ≡ get_or m 3 0) where
    pub bad_rcode : (o % 16 ≡ 0 → ⊥) → Accepts s asking m end response error after
    unfolding accepted rcode_of
    bad_rcode k = record { says = λ q w t e. c ∙ rw (w.responds ∙ h, ← here, ne_eqb (o % 16) 0 k) refl }

    module _ (k : o % 16 ≡ 0) where
      pub bad_tsig : (error ≡ 0 → ⊥) → Accepts s asking m end response error after
      unfolding accepted rcode_of
      bad_tsig j = record { says = λ q w t e. c ∙ rw (w.responds ∙ h, ← here, eq-eqb (o % 16) 0 k, e, ne_eqb error 0 j) refl }

      pub no_error : error ≡ 0 → (r : Resolver) → AnswerMoves after asking m end r → Accepts s asking m end response error r
      unfolding accepted rcode_of
      no_error j r a = record {
        says = λ q w t e. a.says q response w ∙ rw (c, w.responds ∙ h, ← here, eq-eqb (o % 16) 0 k, e, eq-eqb error 0 j) refl;
      }

pub hears : (s : Resolver) (asking : Asking) (m : List ℕ) (end : ℕ) (response : Bool) (error : ℕ) (r : Resolver) → Accepts s asking m end response error r
    → Hears s asking m end response error (record { number = 0; due = response && eqb error 3841; state = r })
unfolding heard partial_revoke
hears s asking m end response error r a = record { says = λ q w t e. rw (a.says q w t e, w.responds, e) refl }

-- ── Checks ──────────────────────────────────────────────────────────────────────────────────────────────────────────

module _ (s : Resolver) (asking : Asking) (good : Bool) (m : List ℕ) (end : ℕ) (response : Bool) (g : Signer) where
  pub by_unsigned : (g ≡ Nobody) ⊎ (g ≡ Ill) → HearsSigned s asking good m end response g (unheard s 3)
  unfolding UNSIGNED
  by_unsigned (inl h) = record { says = λ q w. rw h refl }
  by_unsigned (inr h) = record { says = λ q w. rw h refl }

  module _ (place : ℕ) (t : TsigFields) (h : g ≡ Key place t) where
    pub by_verdict : good ≡ false → HearsSigned s asking good m end response g (unheard s 3)
    unfolding UNSIGNED
    by_verdict v = record { says = λ q w. rw (h, v) refl }

    pub by_signed : (r : Heard) → good ≡ true → Hears s asking m end response t.error r → HearsSigned s asking good m end response g r
    by_signed r v i = record { says = λ q w. i.says q w (tsig_from m (name_standing m place) t) refl ∙ rw (h, v) refl }

module _ (s : Resolver) (good : Bool) (m : List ℕ) (end : ℕ) (response : Bool) (g : Signer) where
  pub lost : s.awaited ≡ None → HearsAwaited s good m end response g (unheard s 1)
  unfolding LOST
  lost h = record { says = λ q w e. rw h refl }

  module _ (p : OpenRequest) (h : s.awaited ≡ Some p) (x : ℕ) (is : x ≡ u16_at m 0) where
    pub wrong_id : (x ≡ p.id → ⊥) → HearsAwaited s good m end response g (unheard s 2)
    unfolding WRONGID
    wrong_id k = record { says = λ q w e. rw (h, w.id ∙ sym is, ne_eqb x p.id k) refl }

    right_reply : (r : Heard) → x ≡ p.id → HearsSigned s p.asking good m end response g r → HearsAwaited s good m end response g r
    right_reply r k i = record { says = λ q w e. i.says q w ∙ rw (h, w.id ∙ sym is, eq-eqb x p.id k, e) refl }

    pub right_id : (o : Result Passed Refusal) → x ≡ p.id → Passes s m (HearsSigned s p.asking good m end response g) o
        → Passes s m (HearsAwaited s good m end response g) o
    right_id (Ok a) k i = λ r j. right_reply r k (i r j)
    right_id (Err e) k i = right_reply (unheard s (number_of e)) k i

module _ (s : Resolver) (good : Bool) (m : List ℕ) (o : Result Contents Unread) (q : ReadAs m o) where
  pub unread : (u : Unread) → o ≡ Err u → unheard s 4 ≡ read_reply s good m
  unfolding read_reply FORMAT
  unread Size e = rw (subst (ReadAs m) e q) refl
  unread (Broken place) e = let x : (size_ok m ≡ true) × (read_message m ≡ stops place) = subst (ReadAs m) e q in rw (x.0, x.1) refl

  well_formed_reply : (c : Contents) → o ≡ Ok c → (r : Heard) → HearsAwaited s good m c.end c.response c.signer r → r ≡ read_reply s good m
  unfolding read_reply
  well_formed_reply c e r i =
      let x : ContentsRead m c = subst (ReadAs m) e q in
      i.says x.message (record { says = x.says; after = x.after; within = x.within; octets = x.octets; id = x.id; responds = x.response }) x.signing
      ∙ rw (x.sized, x.says) refl

  pub whole_from : (c : Contents) → o ≡ Ok c → 12 ≤ length m
  whole_from c e = let x : ContentsRead m c = subst (ReadAs m) e q in omega arith

  pub well_formed_lem : (c : Contents) → o ≡ Ok c → (a : Result Passed Refusal) → Passes s m (HearsAwaited s good m c.end c.response c.signer) a → Checked s good m a
  well_formed_lem c e (Ok p) i = (whole_from c e, λ r j. well_formed_reply c e r (i r j))
  well_formed_lem c e (Err u) i = well_formed_reply c e (unheard s (number_of u)) i

-- ── What is returned ────────────────────────────────────────────────────────────────────────────────────────────────

-- by what the checks answered
module _ (s : Resolver) (good : Bool) (m : List ℕ) (o : Result Passed Refusal) (h : Checked s good m o) where
  pub passed_long : (p : Passed) → o ≡ Ok p → 12 ≤ length m
  passed_long p e = (subst (Checked s good m) e h).0

  pub by_passed : (p : Passed) → o ≡ Ok p → (r : Heard) → Hears s p.asking m p.end p.response p.error r → r ≡ read_reply s good m
  by_passed p e = (subst (Checked s good m) e h).1

  pub by_refusal : (e : Refusal) → o ≡ Err e → unheard s (number_of e) ≡ read_reply s good m
  by_refusal e i = subst (Checked s good m) i h
