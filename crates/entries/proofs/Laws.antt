-- One law for each end of each function. Assumes nothing.
use Prim.Native.Nat.{ℕ, ◌≤◌, ◌<◌}
use mathlib.Core.Bool.{Bool, true, false, cond, ◌&&◌}
use mathlib.Core.Path.{◌≡◌, refl, sym, ap, ◌∙◌, subst}
use Rattle.std.specs.Prelude.{Option, None, Some, Result, Ok, Err}
use mathlib.Core.List.{List}
use native.Mathlib.Omega.{arith}
use lib.ListN.{length, take}
use lib.Seq.{take_all, take-take, length-take-le}
use borrow.Author.Tests.{lt-ltb, le-ltb}
use Rattle.model.specs.declared.Keys.{Keys}
use Rattle.model.specs.declared.Keys.TheVariants.{Empty}
use Rattle.model.specs.declared.Pair.{Pair}
use Rattle.model.specs.declared.Stated.{Stated}
use Rattle.model.specs.Pairs.{with_keys}
use Rattle.model.specs.Tables.{names_of, suffix_ok, pair_rule}
use Rattle.model.specs.Calls.{TABLE, TWIN, FULL, LINE}
use Rattle.model.specs.Loading.{unread, says, keeps, drops, sound_row, judged}
use Rattle.model.specs.Lines.{given}
use Rattle.model.proofs.Forward.{key_added, entry_added}
use Rattle.model.proofs.Tests.{left}
use Rattle.rules.proofs.Laws.{suffix_long, suffix_short}
use Rattle.store.specs.Layout.{clock_of, count_of, layout_rule, table_of}
use Rattle.outcomes.proofs.Laws.{shown_count}
use Rattle.inserting.specs.Insert.{Ready}
use Rattle.std.specs.Result.{result_ok}
use Rattle.searching.specs.Search.{Sought}
use Rattle.entries.specs.declared.Open.{Open}
use Rattle.entries.specs.declared.Open.TheVariants.{Unread, Wrong, Says}
use Rattle.entries.specs.declared.Kept.{Kept}
use Rattle.entries.specs.Entries.{entry_shown, KeyAdded, Begun, judged_shown, placed_shown, Fitting, PlaceFor, Insertable, EntryJudged}

-- ── The place of a row ──────────────────────────────────────────────────────────────────────────────────────────────

module _ (w s suffix : List ℕ) (ok : layout_rule w s ≡ true) (r : Result ℕ ℕ) (found : Sought w s suffix r) where
  pub place_twin : (i : ℕ) → r ≡ Ok i → PlaceFor w s suffix (Err 14)
  unfolding names_of TWIN
  place_twin i h = record { says = λ rest. rw (found.says ∙ ap result_ok h) refl; fits = tt }

  pub place_full : (g : ℕ) → r ≡ Err g → 64 ≤ count_of w → PlaceFor w s suffix (Err 15)
  unfolding names_of FULL
  place_full g h n = record { says = λ rest. rw (found.says ∙ ap result_ok h, le-ltb (length (table_of w s).rows) 64 (omega (arith, shown_count w s ok))) refl; fits = tt }

  pub place_at : (g : ℕ) → r ≡ Err g → count_of w < 64 → PlaceFor w s suffix (Ok g)
  unfolding names_of
  place_at g h n =
      record {
        says = λ rest. rw (found.says ∙ ap result_ok h, lt-ltb (length (table_of w s).rows) 64 (omega (arith, shown_count w s ok))) refl;
        fits = (found.gap g h, n);
      }

-- ── A row beside those of the table ─────────────────────────────────────────────────────────────────────────────────

module _ (w s suffix : List ℕ) (r : Result ℕ ℕ) (place : PlaceFor w s suffix r) where
  placed_as : (p : Option Pair) → judged (clock_of w) (table_of w s).rows (says suffix p) ≡ placed_shown r (sound_row (clock_of w) suffix p)
  unfolding judged
  placed_as p = place.says (sound_row (clock_of w) suffix p)

  pub wrong_dropped : (reason : ℕ) → r ≡ Err reason → judged (clock_of w) (table_of w s).rows (says suffix None) ≡ drops reason
  wrong_dropped reason h = placed_as None ∙ ap (λ (r : Result ℕ ℕ). placed_shown r (drops TABLE)) h

  pub wrong_at : (g : ℕ) → r ≡ Ok g → judged (clock_of w) (table_of w s).rows (says suffix None) ≡ drops 1
  unfolding TABLE
  wrong_at g h = placed_as None ∙ ap (λ (r : Result ℕ ℕ). placed_shown r (drops TABLE)) h

  module _ (p : Pair) where
    pub row_dropped : (reason : ℕ) → r ≡ Err reason → EntryJudged w s suffix (says suffix (Some p)) (Err reason)
    row_dropped reason h = record { says = placed_as (Some p) ∙ ap (λ (r : Result ℕ ℕ). placed_shown r (sound_row (clock_of w) suffix (Some p))) h; ready = tt }

    sound : (g : ℕ) (b : Bool) → r ≡ Ok g → (suffix_ok suffix && pair_rule (clock_of w) p) ≡ b → judged (clock_of w) (table_of w s).rows (says suffix (Some p)) ≡ cond b (keeps (record { suffix = suffix; pair = p })) (drops TABLE)
    sound g b h e = placed_as (Some p) ∙ ap (λ (r : Result ℕ ℕ). placed_shown r (sound_row (clock_of w) suffix (Some p))) h ∙ rw e refl

    pub row_broken : (g : ℕ) → r ≡ Ok g → (suffix_ok suffix && pair_rule (clock_of w) p) ≡ false → EntryJudged w s suffix (says suffix (Some p)) (Err 1)
    unfolding TABLE
    row_broken g h e = record { says = sound g false h e; ready = tt }

    pub row_kept :
        (g : ℕ)
        → r ≡ Ok g
        → layout_rule w s ≡ true
        → (suffix_ok suffix && pair_rule (clock_of w) p) ≡ true
        → EntryJudged w s suffix (says suffix (Some p)) (Ok (record { place = g; size = length suffix; pair = p }))
    row_kept g h ok e =
        let whole : take (length suffix) suffix ≡ suffix = take_all (length suffix) suffix (omega arith) in
        let named = left (suffix_ok suffix) (pair_rule (clock_of w) p) e in
        let fits = subst (Fitting w s suffix) h place.fits in
        record {
          says = sound g true h e ∙ ap (λ (x : List ℕ). keeps (record { suffix = x; pair = p })) (sym whole);
          ready = (omega arith, subst (λ (x : List ℕ). Ready g x w s) (sym whole) (record { rule = ok; room = fits.1; long = suffix_long suffix named; short = suffix_short suffix named; gap = fits.0 }));
        }

-- ── What the lines say ──────────────────────────────────────────────────────────────────────────────────────────────

module _ (n : ℕ) (p : Pair) (k : Stated) (r : Option Keys) (is : r ≡ key_added p.keys k) where
  added_as : (s : List ℕ) → entry_added (entry_shown s (Says n p)) (Some k) ≡ says (take n s) (given r λ ks. Some (with_keys p p.next_serial ks))
  added_as s = rw (sym is) refl

  pub with_keys_lem : (ks : Keys) → r ≡ Some ks → KeyAdded (Says n p) (Some k) (Says n (with_keys p p.next_serial ks))
  with_keys_lem ks e = record { adds = λ s. sym (added_as s ∙ rw e refl); size = omega arith }

  pub with_none : r ≡ None → KeyAdded (Says n p) (Some k) (Wrong n)
  with_none e = record { adds = λ s. sym (added_as s ∙ rw e refl); size = omega arith }

pub added_unread : (said : Open) → KeyAdded said None Unread
added_unread Unread = record { adds = λ s. refl; size = omega arith }
added_unread (Wrong n) = record { adds = λ s. refl; size = omega arith }
added_unread (Says n p) = record { adds = λ s. refl; size = omega arith }

pub added_again : (k : Stated) → KeyAdded Unread (Some k) Unread
added_again k = record { adds = λ s. refl; size = omega arith }

pub added_wrong : (n : ℕ) (k : Stated) → KeyAdded (Wrong n) (Some k) (Wrong n)
added_wrong n k = record { adds = λ s. refl; size = omega arith }

pub begun_pair : (n : ℕ) (p : Pair) → Begun (Some (n, p)) (Says n (with_keys p p.next_serial Empty))
begun_pair n p = record { begins = λ s. refl; size = λ m h. h (n, p) refl }

pub begun_unread : Begun None Unread
begun_unread = record { begins = λ s. refl; size = λ m h. omega arith }

-- ── A pair whose lines have ended ───────────────────────────────────────────────────────────────────────────────────

pub unread_dropped : (w s suffix : List ℕ) → EntryJudged w s suffix unread (Err 18)
unfolding judged LINE
unread_dropped w s suffix = record { says = refl; ready = tt }

module _ (w s suffix : List ℕ) (n : ℕ) (fits : n ≤ length suffix) where
  pub wrong_judged : {reason : ℕ} → judged (clock_of w) (table_of w s).rows (says (take n suffix) None) ≡ drops reason → EntryJudged w s suffix (entry_shown suffix (Wrong n)) (Err reason)
  wrong_judged e = record { says = e; ready = tt }

  pub says_judged : (p : Pair) {r : Result Kept ℕ} → EntryJudged w s (take n suffix) (says (take n suffix) (Some p)) r → EntryJudged w s suffix (entry_shown suffix (Says n p)) r
  says_judged p {r} j = go r j.says j.ready
    where
      go :
          (r : Result Kept ℕ)
          → judged (clock_of w) (table_of w s).rows (says (take n suffix) (Some p)) ≡ judged_shown (take n suffix) r
          → Insertable w s (take n suffix) r
          → EntryJudged w s suffix (entry_shown suffix (Says n p)) r
      go (Err reason) e f = record { says = e; ready = tt }
      go (Ok k) e f =
          let m = k.size in
          let short : m ≤ n = omega (arith, f.0, length-take-le n suffix fits) in
          let same : take m (take n suffix) ≡ take m suffix = take-take m n suffix short in
          record {
            says = e ∙ ap (λ (x : List ℕ). keeps (record { suffix = x; pair = k.pair })) same;
            ready = (omega (arith, fits), subst (λ (x : List ℕ). Ready k.place x w s) same f.1);
          }
