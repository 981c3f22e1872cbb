-- Laws of the operator's calls as the code makes them: one for each end of each call. Assumes nothing.
use Prim.Native.Nat.{ℕ, ◌+◌, ◌-◌, ◌≤◌, ◌<◌}
use mathlib.Core.Bool.{Bool, true, false, ◌&&◌}
use mathlib.Core.Path.{◌≡◌, refl, sym, ap, ◌∙◌}
use Rattle.std.specs.Prelude.{None, Some, Option, Result as Searched, Ok, Err}
use mathlib.Core.List.{List}
use native.Mathlib.Omega.{arith}
use lib.Dec.{leb, ltb, eqb}
use lib.ListN.{length, length-map}
use borrow.Author.Tests.{lt-ltb, le-ltb, leb-true, eq-eqb, ne_eqb}
use Rattle.model.specs.declared.Algorithm.{Algorithm}
use Rattle.model.specs.declared.Answer.{Answer}
use Rattle.model.specs.declared.Key.{Key}
use Rattle.model.specs.declared.Pair.{Pair}
use Rattle.model.specs.Names.{algorithm_numbered}
use Rattle.model.specs.Pairs.{issued, revoked}
use Rattle.model.specs.Tables.{Table, names_of, pair_at, with_clock, with_pair, suffix_ok, term_ok, serial_rule, keys_rule, pair_rule}
use Rattle.model.specs.Judging.{adopted_of}
use Rattle.model.specs.Calls.{DONE, TABLE, TIME, NOPAIR, NOKEY, SPENT, NAME, TERM, TWIN, FULL, Result, refusal_at, refusal, done, unchanged, time_fits, gate, empty_table, new_table, with_row, first_serial, fresh_pair, enrolled, enrol_passed, enrol_on, without_row, closed, close_passed, close_on, number_owner, issue, revoke, served}
use Rattle.model.proofs.Tests.{left, right, and_false}
use Rattle.model.proofs.CallLaws.{number_none, number_some, issue_nopair, issue_spent, issue_term, issue_done, revoke_nopair, revoke_empty, revoke_expired, revoke_done, enrol_name, enrol_term, enrol_algorithm, enrol_twin, enrol_full, enrol_spent, enrol_done}
use Rattle.pairs.specs.Fits.{Fits, issued_in}
use Rattle.pairs.proofs.Fit.{issued_fits}
use Rattle.pairs.proofs.Fit.{rule_fits}
use Rattle.rules.proofs.Laws.{suffix_long, suffix_short}
use Rattle.store.proofs.Laid.{shown as shown-laid}
use Rattle.store.specs.Layout.{floor_of, count_of, laid_table, layout_rule, table_of}
use Rattle.store.specs.Stored.{Cleared}
use Rattle.std.specs.Result.{result_ok}
use Rattle.searching.specs.Search.{Sought}
use Rattle.inserting.specs.Insert.{Ready, Inserted}
use Rattle.removing.specs.Remove.{Removed}
use Rattle.outcomes.specs.Gate.{refusal_of, Open}
use Rattle.outcomes.specs.Ends.{Rest, Settled}
use Rattle.outcomes.proofs.Laws.{shown_count, some_refusal, rest_refused, rest_done}
use Rattle.operator.specs.Made.{has_room, new_in, Made, RowAdded}

-- ── New table ───────────────────────────────────────────────────────────────────────────────────────────────────────

room : (w s : List ℕ) → length w ≡ 1091 → length s ≡ 8192 → has_room w s ≡ true
unfolding has_room
room w s words octets = rw (eq-eqb _ _ words, eq-eqb _ _ octets) refl

-- words and octets of these lengths have room for a table
pub new_in_lem : (time : ℕ) (w s : List ℕ) → length w ≡ 1091 → length s ≡ 8192 → (t : Table) → new_in (has_room w s) t time ≡ new_table t time
unfolding new_in
new_in_lem time w s words octets t = rw (room w s words octets) refl

module _ (time : ℕ) (w s : List ℕ) (a : Answer) where
  module _ (e : a ≡ (refusal 1).answer) where
    made_none : has_room w s ≡ false → Made time w s w a
    unfolding new_in unchanged refusal refusal_at TABLE
    made_none h = record { says = rw (h, e) refl; refused = λ _. refl }

    pub made_words : (length w ≡ 1091 → ⊥) → Made time w s w a
    unfolding has_room
    made_words n = made_none (rw (ne_eqb _ _ n) refl)

    pub made_octets : (length s ≡ 8192 → ⊥) → Made time w s w a
    unfolding has_room
    made_octets n = made_none (and_false (eqb (length w) 1091) (ne_eqb _ _ n))

  module _ (words : length w ≡ 1091) (octets : length s ≡ 8192) where
    pub made_late : a ≡ (refusal 2).answer → 0xffff_8000_0000 ≤ time → Made time w s w a
    unfolding new_in new_table unchanged refusal refusal_at TIME time_fits
    made_late e h = record { says = rw (room w s words octets, le-ltb time 0xffff_8000_0000 h, e) refl; refused = λ _. refl }

    pub made_done : {w' : List ℕ} → Cleared time 1 w' → a ≡ (done 0 0).answer → time < 0xffff_8000_0000 → Made time w s w' a
    unfolding new_in new_table empty_table time_fits done DONE
    made_done c e h = record { says = rw (room w s words octets, lt-ltb time 0xffff_8000_0000 h, c.table s octets, e) refl; refused = λ z. absurd (z (ap (λ (x : Answer). x.number) e)) }

-- ── Enrolment ───────────────────────────────────────────────────────────────────────────────────────────────────────

-- By the first refusal.
module _ (t : Table) (time n : ℕ) (says : gate t (Some time) ≡ refusal_of n) (suffix : List ℕ) (lifetime fresh algorithm : ℕ) where
  pub enrol_refused : (n ≡ 0 → ⊥) → enrol_on t time suffix lifetime fresh algorithm ≡ unchanged t n
  unfolding enrol_on
  enrol_refused z = ap (enrol_passed t time suffix lifetime fresh algorithm) (says ∙ some_refusal n z)

  pub enrol_passes : n ≡ 0 → enrol_on t time suffix lifetime fresh algorithm ≡ enrolled (with_clock t time) suffix lifetime fresh algorithm
  unfolding enrol_on
  enrol_passes e = ap (enrol_passed t time suffix lifetime fresh algorithm) (says ∙ ap refusal_of e)

pub fresh_fits : (floor lifetime fresh time : ℕ) → serial_rule floor ≡ true → term_ok lifetime fresh ≡ true → time_fits time ≡ true → Fits (fresh_pair floor lifetime fresh) time
unfolding pair_rule keys_rule fresh_pair
fresh_fits floor lifetime fresh time n e h = rule_fits 0 time (fresh_pair floor lifetime fresh) (rw (e, n) refl) h

pub first_made : (floor lifetime fresh time : ℕ) (g : Algorithm) {p r : Pair} → p ≡ fresh_pair floor lifetime fresh → serial_rule floor ≡ true → term_ok lifetime fresh ≡ true → time_fits time ≡ true → r ≡ issued_in p time g → r ≡ issued (fresh_pair floor lifetime fresh) time g
first_made floor lifetime fresh time g {p} is n e h f = f ∙ issued_fits p time g (rw is (fresh_fits floor lifetime fresh time n e h)) ∙ ap (λ (p : Pair). issued p time g) is

-- The floor that the words show, and its rule.
pub shown_floor : (w s : List ℕ) → layout_rule w s ≡ true → first_serial (table_of w s) ≡ floor_of w
unfolding first_serial laid_table
shown_floor w s ok = ap (λ (t : Table). t.floor) (shown-laid w s ok)

pub floor_rule : (w s : List ℕ) (time : ℕ) → Open w s time → serial_rule (floor_of w) ≡ true
unfolding first_serial
floor_rule w s time o = ap serial_rule (sym (shown_floor w s o.layout)) ∙ o.floor

pub row_added : (w s : List ℕ) (ok : layout_rule w s ≡ true) {suffix : List ℕ} {p : Pair} {w' s' : List ℕ} → Inserted suffix p w s w' s' → {a : Answer} → a ≡ (done (count_of w + 1) (floor_of w)).answer → RowAdded suffix p w s w' s' a
unfolding done
row_added w s ok i e = record { says = rw (i.table, e, shown_count w s ok, shown_floor w s ok) refl }

module _ (w s suffix : List ℕ) (lifetime fresh n : ℕ) (a : Answer) where
  abbrev enrols : Table → Result
  enrols t = enrolled t suffix lifetime fresh n

  pub bad_name_lem : suffix_ok suffix ≡ false → a ≡ (refusal 12).answer → Rest enrols w s w s a
  unfolding NAME
  bad_name_lem h e = rest_refused enrols w s 12 (omega arith) e (enrol_name (table_of w s) suffix lifetime fresh n h)

  module _ (named : suffix_ok suffix ≡ true) where
    pub bad_term : term_ok lifetime fresh ≡ false → a ≡ (refusal 13).answer → Rest enrols w s w s a
    unfolding TERM
    bad_term h e = rest_refused enrols w s 13 (omega arith) e (enrol_term (table_of w s) suffix lifetime fresh n named h)

    module _ (term : term_ok lifetime fresh ≡ true) where
      pub bad_algorithm : algorithm_numbered n ≡ None → a ≡ (refusal 13).answer → Rest enrols w s w s a
      unfolding TERM
      bad_algorithm h e = rest_refused enrols w s 13 (omega arith) e (enrol_algorithm (table_of w s) suffix lifetime fresh n named term h)

      module _ (g : Algorithm) (known : algorithm_numbered n ≡ Some g) (r : Searched ℕ ℕ) (found : Sought w s suffix r) where
        pub known_twin : (i : ℕ) → r ≡ Ok i → a ≡ (refusal 14).answer → Rest enrols w s w s a
        unfolding TWIN
        known_twin i h e = rest_refused enrols w s 14 (omega arith) e (enrol_twin (table_of w s) suffix lifetime fresh n named term g known i (found.says ∙ ap result_ok h))

        module _ (place time : ℕ) (missing : r ≡ Err place) (o : Open w s time) where
          pub known_full : 64 ≤ count_of w → a ≡ (refusal 15).answer → Rest enrols w s w s a
          unfolding FULL
          known_full h e =
              rest_refused enrols w s 15 (omega arith) e
              (enrol_full (table_of w s) suffix lifetime fresh n named term g known (found.says ∙ ap result_ok missing) (le-ltb (length (table_of w s).rows) 64 (omega (arith, shown_count w s o.layout))))

          roomy : count_of w < 64 → ltb (length (table_of w s).rows) 64 ≡ true
          roomy h = lt-ltb (length (table_of w s).rows) 64 (omega (arith, shown_count w s o.layout))

          pub known_spent : count_of w < 64 → 0x1_0000_0000 ≤ floor_of w → a ≡ (refusal 11).answer → Rest enrols w s w s a
          unfolding SPENT
          known_spent h q e =
              rest_refused enrols w s 11 (omega arith) e
              (enrol_spent (table_of w s) suffix lifetime fresh n named term g known (found.says ∙ ap result_ok missing) (roomy h)
              (ap (λ (x : ℕ). ltb x 0x1_0000_0000) (shown_floor w s o.layout) ∙ le-ltb (floor_of w) 0x1_0000_0000 q))

          pub known_done : count_of w < 64 → floor_of w < 0x1_0000_0000 → {w' s' : List ℕ} {p : Pair} → p ≡ issued (fresh_pair (floor_of w) lifetime fresh) time g → RowAdded suffix p w s w' s' a → Rest enrols w s w' s' a
          known_done h q {w'} {s'} {p} is added =
              let t = table_of w s in
              let f = shown_floor w s o.layout in
              rest_done enrols w s w' s' _ _ added.says
              (enrol_done t suffix lifetime fresh n named term g known (found.says ∙ ap result_ok missing) (roomy h)
              (ap (λ (x : ℕ). ltb x 0x1_0000_0000) f ∙ lt-ltb (floor_of w) 0x1_0000_0000 q)
              ∙ ap (λ (x : ℕ). record { table = with_row t suffix (issued (fresh_pair (first_serial t) lifetime fresh) x g); outcome = done (length t.rows + 1) (first_serial t) }) o.clock
              ∙ ap (λ (q : Pair). record { table = with_row t suffix q; outcome = done (length t.rows + 1) (first_serial t) }) (ap (λ (x : ℕ). issued (fresh_pair x lifetime fresh) time g) f ∙ sym is))

-- what the search tells an insertion
pub ready : (w s suffix : List ℕ) (r : Searched ℕ ℕ) → Sought w s suffix r → (place : ℕ) → r ≡ Err place → layout_rule w s ≡ true → count_of w < 64 → suffix_ok suffix ≡ true → Ready place suffix w s
ready w s suffix r found place e ok room named = record { rule = ok; room = room; long = suffix_long suffix named; short = suffix_short suffix named; gap = found.gap place e }

-- ── Issue and revoke early ──────────────────────────────────────────────────────────────────────────────────────────

-- The row of a pair number.
module _ (t : Table) (pair : ℕ) (b : Bool) (is : b ≡ (leb 1 pair && leb pair (length t.rows))) where
  names_count : length (names_of t) ≡ length t.rows
  unfolding names_of
  names_count = length-map t.rows (λ r. r.suffix)

  pub no_row : b ≡ false → number_owner (names_of t) pair ≡ None
  no_row e = number_none (names_of t) pair (rw names_count (sym is ∙ e))

  module _ (e : b ≡ true) where
    pub above_nought : 1 ≤ pair
    above_nought = leb-true _ _ (left (leb 1 pair) (leb pair (length t.rows)) (sym is ∙ e))

    at_most : pair ≤ length t.rows
    at_most = leb-true _ _ (right (leb 1 pair) (leb pair (length t.rows)) (sym is ∙ e))

    pub its_row : number_owner (names_of t) pair ≡ Some (pair - 1)
    its_row = number_some (names_of t) pair (pair - 1) (omega (arith, above_nought)) (omega (arith, at_most, names_count))

    pub row_in : pair - 1 < length t.rows
    row_in = omega (arith, above_nought, at_most)

module _ (w s : List ℕ) (time n : ℕ) (a : Answer) where
  pub issue_none : (g : ℕ) → number_owner (names_of (table_of w s)) n ≡ None → a ≡ (refusal 9).answer → Rest (λ t. served t (issue time n g)) w s w s a
  unfolding NOPAIR
  issue_none g h e = rest_refused (λ t. served t (issue time n g)) w s 9 (omega arith) e (issue_nopair (table_of w s) time n g h)

  pub revoke_none : number_owner (names_of (table_of w s)) n ≡ None → a ≡ (refusal 9).answer → Rest (λ t. served t (revoke time n)) w s w s a
  unfolding NOPAIR
  revoke_none h e = rest_refused (λ t. served t (revoke time n)) w s 9 (omega arith) e (revoke_nopair (table_of w s) time n h)

  module _ (i : ℕ) (p : Pair) (is : p ≡ pair_at (table_of w s) i) (own : number_owner (names_of (table_of w s)) n ≡ Some i) where
    abbrev t : Table
    t = table_of w s

    module _ (g : ℕ) where
      abbrev issues : Table → Result
      issues u = served u (issue time n g)

      pub row_spent : 0x1_0000_0000 ≤ p.next_serial → a ≡ (refusal 11).answer → Rest issues w s w s a
      unfolding SPENT
      row_spent h e = rest_refused issues w s 11 (omega arith) e (issue_spent t time n g i own (rw (← is) (le-ltb _ _ h)))

      module _ (rest : p.next_serial < 0x1_0000_0000) where
        pub row_term : algorithm_numbered g ≡ None → a ≡ (refusal 13).answer → Rest issues w s w s a
        unfolding TERM
        row_term u e = rest_refused issues w s 13 (omega arith) e (issue_term t time n g i own (rw (← is) (lt-ltb _ _ rest)) u)

        pub row_issued : (h : Algorithm) → algorithm_numbered g ≡ Some h → {q : Pair} {w' : List ℕ} → q ≡ issued p time h → Settled i q p.next_serial w s w' a → Rest issues w s w' s a
        row_issued h k {q} {w'} q-is st =
            rest_done issues w s w' s _ _ st.says
            (issue_done t time n g i own h (rw (← is) (lt-ltb _ _ rest)) k
            ∙ ap (λ (x : Pair). record { table = with_pair t i (issued x time h); outcome = done (i + 1) x.next_serial }) (sym is)
            ∙ ap (λ (x : Pair). record { table = with_pair t i x; outcome = done (i + 1) p.next_serial }) (sym q-is))

    module _ (r : Option Key) (held : r ≡ adopted_of p.keys) where
      abbrev revokes : Table → Result
      revokes u = served u (revoke time n)

      its_key : adopted_of (pair_at t i).keys ≡ r
      its_key = ap (λ (q : Pair). adopted_of q.keys) (sym is) ∙ sym held

      pub row_empty : r ≡ None → a ≡ (refusal 10).answer → Rest revokes w s w s a
      unfolding NOKEY
      row_empty h e = rest_refused revokes w s 10 (omega arith) e (revoke_empty t time n i own (its_key ∙ h))

      module _ (k : Key) (h : r ≡ Some k) where
        pub row_expired : k.expiry ≤ time → a ≡ (refusal 10).answer → Rest revokes w s w s a
        unfolding NOKEY
        row_expired l e = rest_refused revokes w s 10 (omega arith) e (revoke_expired t time n i own k (its_key ∙ h) (le-ltb _ _ l))

        pub row_revoked : time < k.expiry → {q : Pair} {w' : List ℕ} → q ≡ revoked p time → Settled i q k.serial w s w' a → Rest revokes w s w' s a
        row_revoked l {q} {w'} q-is st =
            rest_done revokes w s w' s _ _ st.says
            (revoke_done t time n i own k (its_key ∙ h) (lt-ltb _ _ l)
            ∙ ap (λ (x : Pair). record { table = with_pair t i (revoked x time); outcome = done (i + 1) k.serial }) (sym is)
            ∙ ap (λ (x : Pair). record { table = with_pair t i x; outcome = done (i + 1) k.serial }) (sym q-is))

-- a pair that keeps its rules has sums that fit
pub row_fits : (w s : List ℕ) (time : ℕ) → Open w s time → (i : ℕ) → i < length (table_of w s).rows → {p : Pair} → p ≡ pair_at (table_of w s) i → Fits p time
row_fits w s time o i h e = rw e (rule_fits o.tested time (pair_at (table_of w s) i) (o.rule i h) o.fits)

-- ── Closing ─────────────────────────────────────────────────────────────────────────────────────────────────────────

-- By the first refusal.
module _ (t : Table) (time n : ℕ) (says : gate t (Some time) ≡ refusal_of n) (number : ℕ) where
  pub close_refused : (n ≡ 0 → ⊥) → close_on t time number ≡ unchanged t n
  unfolding close_on
  close_refused z = ap (close_passed t time number) (says ∙ some_refusal n z)

  pub close_passes : n ≡ 0 → close_on t time number ≡ closed (with_clock t time) number
  unfolding close_on
  close_passes e = ap (close_passed t time number) (says ∙ ap refusal_of e)

-- the row is one of the count's
pub row_counted : (w s : List ℕ) → layout_rule w s ≡ true → {i : ℕ} → i < length (table_of w s).rows → i < count_of w
row_counted w s ok h = omega (arith, shown_count w s ok)

module _ (w s : List ℕ) (n : ℕ) (a : Answer) where
  abbrev closes : Table → Result
  closes t = closed t n

  pub close_none : number_owner (names_of (table_of w s)) n ≡ None → a ≡ (refusal 9).answer → Rest closes w s w s a
  unfolding closed NOPAIR
  close_none h e = rest_refused closes w s 9 (omega arith) e (rw h refl)

  pub close_done : {i : ℕ} {w' s' : List ℕ} → number_owner (names_of (table_of w s)) n ≡ Some i → Removed i w s w' s' → a ≡ (done 0 0).answer → Rest closes w s w' s' a
  unfolding closed done
  close_done {i} {w'} {s'} own r e = rest_done closes w s w' s' {t = without_row (table_of w s) i} 0 0 (rw (r.table, e) refl) (rw own refl)
