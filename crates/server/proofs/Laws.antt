-- Laws of the message call as the code makes it on a lent table. Assumes nothing.
use Prim.Native.Nat.{ℕ, zero, suc, ◌+◌, ◌<◌}
use mathlib.Core.Path.{◌≡◌, refl, sym, ap, ap₂, subst, ◌∙◌}
use mathlib.Core.Bool.{Bool, true, not}
use Rattle.std.specs.Prelude.{Option, None, Some}
use mathlib.Core.List.{List}
use native.Mathlib.Omega.{arith}
use lib.ListN.{length, drop}
use Rattle.model.specs.declared.Answer.{Answer}
use Rattle.model.specs.declared.Pair.{Pair}
use Rattle.model.specs.Messages.{Message, read_message}
use Rattle.model.specs.Tables.{Table, names_of, pair_at, suffix_at, with_clock, with_pair}
use Rattle.model.specs.Checks.{check}
use Rattle.model.specs.Judging.{Holder, held_pair, Given, Judged, judge}
use Rattle.model.specs.Replies.{second_ok}
use Rattle.model.specs.Calls.{DONE, TABLE, SIZE, OFFER, FORMAT, NOTQUERY, ROOM, KEYREC, Result, refusal_at, refusal, refuses, breaks, unchanged, leaves, size_ok, offer_ok, room_for, reply_to, replied, answered, message_step, message, message_on, time_of, octets_owner, owner_of, step_of, holder_at, served, buffer_after, Step as ModelStep}
use Rattle.model.proofs.Tests.{by_check, by_place}
use Rattle.model.proofs.CallLaws.{same_row, holder_by, with_held, buffer_refused, changes_it}
use Rattle.judging.specs.Judged.{holder_of}
use Rattle.locating.proofs.Owners.{row_in, row_held}
use Rattle.step.specs.declared.Step.{Step}
use Rattle.step.specs.Steps.{Ready, Steps, Settles, pair_after}
use Rattle.store.specs.Layout.{table_of}
use Rattle.outcomes.specs.Gate.{Open, Entered}
use Rattle.outcomes.specs.Ends.{Settled}
use Rattle.outcomes.proofs.Laws.{suffix_short, own_none, own_settled, own_whole, call_refused, call_passed}
use Rattle.server.specs.Serve.{OwnOf, Answered, AnsweredRest, RowKept, FoundIn, owner_as, suffix_as, KeptBy, Kept}
use Rattle.judging.specs.declared.Owner.{Owner}

-- ── A row that was found ────────────────────────────────────────────────────────────────────────────────────────────

-- its pair and its suffix are ready for a step
pub row_ready :
    (w s : List ℕ) (i : ℕ)
    → i < length (table_of w s).rows
    → {p : Pair} {y : List ℕ}
    → p ≡ pair_at (table_of w s) i
    → y ≡ suffix_at (table_of w s) i
    → (time : ℕ)
    → Open w s time
    → Ready (Some (record { number = (i + 1); pair = p })) y time
row_ready w s i h is-p is_y time o =
    record { ruled = record { tested = o.tested; rule = rw is-p (o.rule i h) }; short = rw is_y (suffix_short w s o.layout i h); on_time = o.fits }

-- ── What a search found ─────────────────────────────────────────────────────────────────────────────────────────────

pub found_in : (w s m : List ℕ) (f : Option ℕ) → octets_owner (names_of (table_of w s)) m ≡ f → FoundIn (table_of w s) f
found_in w s m (Some i) e = row_in w s m i e
found_in w s m None e = tt

pub found_ready :
    (w s : List ℕ) (f : Option ℕ)
    → FoundIn (table_of w s) f
    → {who : Option Owner} {y : List ℕ}
    → who ≡ owner_as (table_of w s) f
    → y ≡ suffix_as (table_of w s) f
    → (time : ℕ)
    → Open w s time
    → Ready who y time
found_ready w s (Some i) h {y = y} is-who is_y time o = subst (λ (who : Option Owner). Ready who y time) (sym is-who) (row_ready w s i h refl is_y time o)
found_ready w s None h {y = y} is-who is_y time o =
    subst (λ (who : Option Owner). Ready who y time) (sym is-who) (record { ruled = tt; short = rw is_y (omega arith); on_time = o.fits })

pub found_held : (t : Table) (f : Option ℕ) {who : Option Owner} {y : List ℕ} → who ≡ owner_as t f → y ≡ suffix_as t f → holder_of who y ≡ holder_by t f
found_held t (Some i) is-who is_y = ap₂ holder_of is-who is_y ∙ row_held t i refl refl
found_held t None is-who is_y = ap₂ holder_of is-who is_y

module _ {x : Step} {w s w' : List ℕ} {a : Answer} where
  pub kept_row : {f : Option ℕ} {i : ℕ} → f ≡ Some i → RowKept i x w s w' a → Kept f x w s w' a
  kept_row e k = record { says = subst (λ (f : Option ℕ). KeptBy f x w s w' a) (sym e) k }

pub kept_none : {x : Step} {w s : List ℕ} {f : Option ℕ} → f ≡ None → Kept f x w s w x.answer
kept_none {x} {w} {s} e = record { says = subst (λ (f : Option ℕ). KeptBy f x w s w x.answer) (sym e) (refl, refl) }

-- ── A refusal leaves the pair ───────────────────────────────────────────────────────────────────────────────────────

record Quiet (h : Holder) (x : ModelStep) : Type 0 where
  pub kept : (x.outcome.answer.number ≡ DONE → ⊥) → x.pair ≡ held_pair h
  pub passed : x.outcome.answer.number ≡ TABLE → ⊥

module _ (h : Holder) where
  quiet_refusal : (n : ℕ) → 1 < n → Quiet h (refuses h n)
  unfolding leaves refusal refusal_at TABLE
  quiet_refusal n g = record { kept = λ _. refl; passed = λ e. absurd (omega (arith, g, e)) }

  quiet_break : (place : ℕ) → Quiet h (breaks h place)
  unfolding leaves refusal_at TABLE FORMAT
  quiet_break place = record { kept = λ _. refl; passed = λ e. absurd (omega (arith, e)) }

  quiet_replied : (g : Given) (j : Judged) (reply : List ℕ) → Quiet h (replied h g j reply)
  unfolding replied DONE TABLE
  quiet_replied g j reply = record { kept = λ z. absurd (z refl); passed = λ e. absurd (omega (arith, e)) }

  passes : (n : ℕ) → 1 < n → (b : Bool) {next : ModelStep} → (b ≡ true → Quiet h next) → Quiet h (check (refuses h) n b next)
  passes n g = by_check (Quiet h) (refuses h) n (quiet_refusal n g)

  quiet_answered : (g : Given) (room : ℕ) (m : Message) → Quiet h (answered h g room m)
  unfolding answered NOTQUERY KEYREC ROOM
  quiet_answered g room m =
      passes NOTQUERY (omega arith) (not m.response) λ _. passes KEYREC (omega arith) (second_ok (judge h g m).decision g.second) λ _. passes ROOM (omega arith) (room_for room (reply_to h g m)) λ _. quiet_replied g (judge h g m) (reply_to h g m)

  quiet_message : (g : Given) (room : ℕ) (octets : List ℕ) → Quiet h (message_step h g room octets)
  unfolding message_step SIZE OFFER
  quiet_message g room octets =
      passes SIZE (omega arith) (size_ok octets) λ _.
      passes OFFER (omega arith) (offer_ok g.offer) λ _.
      by_place (Quiet h) (breaks h) quiet_break (read_message octets) λ m _ _.
      quiet_answered g room m

-- ── The pair stored ─────────────────────────────────────────────────────────────────────────────────────────────────

module _ (row : ℕ) (x : Step) (w s : List ℕ) where
  pub keep_same : x.after ≡ None → RowKept row x w s w x.answer
  keep_same e =
      record {
        answers = refl;
        refused = λ _. refl;
        finished = λ _. sym (ap (λ (z : Option Pair). with_pair (table_of w s) row (pair_after (pair_at (table_of w s) row) z)) e ∙ same_row (table_of w s) row);
        kept = own_none row w;
      }

  pub keep_stored :
      {p : Pair}
      → x.after ≡ Some p
      → Settles x.after x.answer.number
      → {serial : ℕ} {w' : List ℕ} {a : Answer}
      → Settled row p serial w s w' a
      → RowKept row x w s w' x.answer
  unfolding DONE
  keep_stored is z st =
      let e : x.answer.number ≡ 0 = subst (λ (y : Option Pair). Settles y x.answer.number) is z in
      record {
        answers = refl;
        refused = λ z. absurd (z e);
        finished = λ _. ap (λ (r : Result). r.table) st.says ∙ sym (ap (λ (z : Option Pair). with_pair (table_of w s) row (pair_after (pair_at (table_of w s) row) z)) is);
        kept = own_settled st;
      }

-- ── The call ────────────────────────────────────────────────────────────────────────────────────────────────────────

module _ (w s m : List ℕ) (given : Given) (b b' : List ℕ) where
  abbrev calls : Table → Result
  calls t = served t (message given (length b) m)

  module _ (o : Option ℕ) (owner : octets_owner (names_of (table_of w s)) m ≡ o) (h : Holder) (held : h ≡ holder_by (table_of w s) o) (x : Step)
      (steps : Steps h (message_step h given (length b) m) b x b') where
    its_step : Steps (holder_by (table_of w s) o) (message_step (holder_by (table_of w s) o) given (length b) m) b x b'
    its_step = subst (λ (h : Holder). Steps h (message_step h given (length b) m) b x b') held steps

    does : calls (table_of w s) ≡ record { table = with_held (table_of w s) o (message_step (holder_by (table_of w s) o) given (length b) m).pair; outcome = (message_step (holder_by (table_of w s) o) given (length b) m).outcome }
    unfolding owner_of step_of
    does = changes_it (table_of w s) (message given (length b) m) o _ owner refl

    its_answer : x.answer ≡ (calls (table_of w s)).outcome.answer
    its_answer = its_step.answer ∙ sym (ap (λ (r : Result). r.outcome.answer) does)

    its_buffer : b' ≡ buffer_after (calls (table_of w s)) b
    unfolding buffer_after
    its_buffer = its_step.buffer ∙ sym (ap (λ (r : Result). buffer_after r b) does)

    its_table : with_held (table_of w s) o (pair_after (held_pair (holder_by (table_of w s) o)) x.after) ≡ (calls (table_of w s)).table
    its_table = ap (with_held (table_of w s) o) its_step.pair ∙ sym (ap (λ (r : Result). r.table) does)

    -- a refusal leaves the pair that the step was handed
    pub quiet : (x.answer.number ≡ DONE → ⊥) → pair_after (held_pair (holder_by (table_of w s) o)) x.after ≡ held_pair (holder_by (table_of w s) o)
    quiet z =
        its_step.pair
        ∙ (quiet_message (holder_by (table_of w s) o) given (length b) m).kept (λ e. z (ap (λ (a : Answer). a.number) its_step.answer ∙ e))

    not_table : x.answer.number ≡ TABLE → ⊥
    not_table e = (quiet_message (holder_by (table_of w s) o) given (length b) m).passed (sym (ap (λ (a : Answer). a.number) its_step.answer) ∙ e)

  pub answered_nobody : (x : Step) (h : Holder) → octets_owner (names_of (table_of w s)) m ≡ None → h ≡ holder_by (table_of w s) None → Steps h (message_step h given (length b) m) b x b' → AnsweredRest calls (octets_owner (names_of (table_of w s)) m) w s w b b' x.answer
  answered_nobody x h owner held steps =
      record {
        shows = its_table None owner h held x steps;
        answers = its_answer None owner h held x steps;
        replies = its_buffer None owner h held x steps;
        refused = λ _. refl;
        passed = not_table None owner h held x steps;
        kept = rw owner refl;
      }

  module _ (i : ℕ) (owner : octets_owner (names_of (table_of w s)) m ≡ Some i) (h : Holder) (held : h ≡ holder_by (table_of w s) (Some i)) (x : Step)
      (steps : Steps h (message_step h given (length b) m) b x b') (w' : List ℕ) (a : Answer) (k : RowKept i x w s w' a) where
    its_pair : (x.answer.number ≡ DONE → ⊥) → pair_after (pair_at (table_of w s) i) x.after ≡ pair_at (table_of w s) i
    unfolding holder_at held_pair pair_at
    its_pair z = quiet (Some i) owner h held x steps z

    row_table : (n : ℕ) → a.number ≡ n → table_of w' s ≡ with_pair (table_of w s) i (pair_after (pair_at (table_of w s) i) x.after)
    unfolding DONE
    row_table zero e = k.finished e
    row_table (suc n) e =
        let z : a.number ≡ 0 → ⊥ = λ q. absurd (omega (arith, q, e)) in
        let z' : x.answer.number ≡ 0 → ⊥ = λ q. z (ap (λ (a : Answer). a.number) k.answers ∙ q) in
        ap (λ (v : List ℕ). table_of v s) (k.refused z)
        ∙ sym (ap (with_pair (table_of w s) i) (its_pair z') ∙ same_row (table_of w s) i)

    pub answered_row : AnsweredRest calls (octets_owner (names_of (table_of w s)) m) w s w' b b' a
    unfolding holder_at held_pair pair_at
    answered_row =
        record {
          shows = row_table a.number refl ∙ its_table (Some i) owner h held x steps;
          answers = k.answers ∙ its_answer (Some i) owner h held x steps;
          replies = its_buffer (Some i) owner h held x steps;
          refused = k.refused;
          passed = λ e. not_table (Some i) owner h held x steps (sym (ap (λ (a : Answer). a.number) k.answers) ∙ e);
          kept = rw owner k.kept;
        }

  pub answered_found :
      (f : Option ℕ)
      → octets_owner (names_of (table_of w s)) m ≡ f
      → (h : Holder)
      → h ≡ holder_by (table_of w s) f
      → (x : Step)
      → Steps h (message_step h given (length b) m) b x b'
      → (w' : List ℕ) (a : Answer)
      → Kept f x w s w' a
      → AnsweredRest calls (octets_owner (names_of (table_of w s)) m) w s w' b b' a
  answered_found (Some i) owner h held x steps w' a k = answered_row i owner h held x steps w' a k.says
  answered_found None owner h held x steps w' a k =
      subst (λ (v : List ℕ). AnsweredRest calls (octets_owner (names_of (table_of w s)) m) w s v b b' a) (sym k.says.1)
      (subst (λ (z : Answer). AnsweredRest calls (octets_owner (names_of (table_of w s)) m) w s w b b' z) (sym k.says.0) (answered_nobody x h owner held steps))

-- ── The whole call ──────────────────────────────────────────────────────────────────────────────────────────────────

own_same : (o : Option ℕ) (w : List ℕ) → OwnOf o w w
own_same None w = refl
own_same (Some row) w = own_none row w

own_on : (o : Option ℕ) (w s : List ℕ) (time : ℕ) (w₁ : List ℕ) (n : ℕ) → Entered w s time w₁ n → (w' : List ℕ) → OwnOf o w₁ w' → OwnOf o w w'
own_on None w s time w₁ n e w' k = k ∙ e.words
own_on (Some row) w s time w₁ n e w' k = own_whole row w s time w₁ n e k

names_kept : (t : Table) (time : ℕ) → names_of (with_clock t time) ≡ names_of t
unfolding names_of with_clock
names_kept t time = refl

module _ (w s : List ℕ) (time : ℕ) (w₁ : List ℕ) (n : ℕ) (e : Entered w s time w₁ n) (m : List ℕ) (given : Given) (is-now : given.now ≡ time) (b : List ℕ) where
  abbrev whole-call : Table → Result
  whole-call t = message_on t given (length b) m

  abbrev its_own : List ℕ → Option ℕ
  its_own v = octets_owner (names_of (table_of v s)) m

  pub whole_refused : (n ≡ 0 → ⊥) → {a : Answer} → a ≡ (refusal n).answer → Answered whole-call (its_own w) w s w₁ b b a
  unfolding message_on time_of unchanged
  whole_refused z {a} q =
      let is : whole-call (table_of w s) ≡ unchanged (table_of w s) n = call_refused (table_of w s) time n e.says (message given (length b) m) (ap Some is-now) z in
      let same : w₁ ≡ w = e.refused z in
      record {
        shows = rw (same, is) refl;
        answers = q ∙ sym (ap (λ (r : Result). r.outcome.answer) is);
        replies = sym (ap (λ (r : Result). buffer_after r b) is ∙ buffer_refused (table_of w s) n b);
        table = λ _. same;
        refused = λ _. e.words;
        kept = subst (λ (v : List ℕ). OwnOf (its_own w) w v) (sym same) (own_same (its_own w) w);
      }

  module _ (z : n ≡ 0) {w' b' : List ℕ} {a : Answer} (r : AnsweredRest (λ t. served t (message given (length b) m)) (its_own w₁) w₁ s w' b b' a) where
    is_rest : whole-call (table_of w s) ≡ served (table_of w₁ s) (message given (length b) m)
    unfolding message_on time_of
    is_rest =
        call_passed (table_of w s) time n e.says (message given (length b) m) (ap Some is-now) z
        ∙ ap (λ (t : Table). served t (message given (length b) m)) (sym (e.table z))

    same_own : its_own w₁ ≡ its_own w
    same_own = ap (λ (t : Table). octets_owner (names_of t) m) (e.table z) ∙ ap (λ (ns : List (List ℕ)). octets_owner ns m) (names_kept (table_of w s) time)

    pub whole_rest : Answered whole-call (its_own w) w s w' b b' a
    whole_rest =
        record {
          shows = r.shows ∙ sym (ap (λ (x : Result). x.table) is_rest);
          answers = r.answers ∙ sym (ap (λ (x : Result). x.outcome.answer) is_rest);
          replies = r.replies ∙ sym (ap (λ (x : Result). buffer_after x b) is_rest);
          table = λ q. absurd (r.passed q);
          refused = λ q. ap (drop 1) (r.refused q) ∙ e.words;
          kept = own_on (its_own w) w s time w₁ n e w' (subst (λ (o : Option ℕ). OwnOf o w₁ w') same_own r.kept);
        }
