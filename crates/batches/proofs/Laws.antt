-- Laws of a batch item by item: where its parts lie, what each item's call writes, and what the first items have done. Assumes nothing.
use Prim.Native.Nat.{ℕ, zero, suc, ◌+◌, ◌-◌, ◌*◌, ◌≤◌, ◌<◌}
use mathlib.Core.Path.{◌≡◌, refl, sym, ap, ap₂, subst, ◌∙◌}
use mathlib.Core.Logic.{inl}
use Rattle.std.specs.Prelude.{Option, None, Some}
use mathlib.Core.Bool.{Bool, true, false, ◌&&◌}
use mathlib.Core.List.{List, [], ◌∷◌, ◌++◌, append_assoc, append-nil}
use native.Mathlib.Nat.{sub-zero}
use native.Mathlib.Omega.{arith}
use borrow.Author.Tests.{leb-true, le-leb, lt-leb}
use lib.Dec.{leb}
use lib.ListN.{length, get_or, take, drop, length-append, length-take, length-drop}
use Rattle.model.specs.declared.Answer.{Answer}
use Rattle.model.specs.declared.BatchItem.{BatchItem}
use Rattle.model.specs.Octets.{part, put}
use Rattle.model.specs.Tables.{Table, names_of, table_rules}
use Rattle.model.specs.Calls.{DONE, TABLE, Outcome, Result, Call, message, octets_owner, called, message_on, buffer_after}
use Rattle.model.specs.Runs.{Frame, frame_of}
use Rattle.model.specs.Batches.{BATCH, inside, items_inside, batch_ok, given_by, item_call, Batched, refused_whole, behind, in_turn, batch_on, replies_of, batch_buffer}
use Rattle.model.proofs.Tests.{left, right}
use Rattle.model.proofs.CallLaws.{counted}
use Rattle.guarantees.proofs.Runs.{frame_next}
use Rattle.octets.specs.Wrote.{Wrote}
use Rattle.octets.proofs.Laws.{wrote_tail, wrote_length, wrote_put, wrote_as, then, put_none}
use Rattle.octets.proofs.Back.{wrote_none}
use Rattle.store.specs.Layout.{place_of, table_of}
use Rattle.locating.proofs.Owners.{row_in}
use Rattle.outcomes.proofs.Laws.{rules_layout, shown_words, row_few, after_clock}
use Rattle.results.specs.Words.{answer_words}
use Rattle.server.specs.Serve.{OwnOf, Answered}
use Rattle.batches.specs.Batched.{item_at, items_from, items_in, answers_of, item_owner, Outside, OfNone, BatchShows, ItemFits, ItemShows, Behind, TurnShows}

-- The items from the place i on.
abbrev pub rest_of : List ℕ → ℕ → ℕ → List BatchItem
rest_of w n i = items_from w (n - i) i

pub rest_all : (w : List ℕ) (n : ℕ) → rest_of w n 0 ≡ items_in w n
rest_all w n = rw sub-zero refl

pub rest_next : (w : List ℕ) (n i : ℕ) → i < n → rest_of w n i ≡ item_at w i ∷ rest_of w n (i + 1)
unfolding items_from
rest_next w n i h = let e : n - i ≡ suc (n - (i + 1)) = omega arith in rw e refl

pub rest_none : (w : List ℕ) (n i : ℕ) → n ≤ i → rest_of w n i ≡ []
unfolding items_from
rest_none w n i h = let e : n - i ≡ 0 = omega arith in rw e refl

items_length : (w : List ℕ) (n i : ℕ) → length (items_from w n i) ≡ n
unfolding items_from
items_length w zero i = refl
items_length w (suc n) i = ap suc (items_length w n (i + 1))

-- What a test of one item says of the rest.
module _ (octets : List ℕ) (m : ℕ) (is : length octets ≡ m) (w : List ℕ) (n i : ℕ) (h : i < n) where
  abbrev test : Bool
  test = (leb ((item_at w i).message.from + (item_at w i).message.size) m && leb ((item_at w i).offer.from + (item_at w i).offer.size) m) && leb ((item_at w i).second.from + (item_at w i).second.size) m

  pub items_stop : test ≡ false → items_inside octets (rest_of w n i) ≡ false
  unfolding inside
  items_stop e = rw (rest_next w n i h, is, e) refl

  pub items_on : test ≡ true → items_inside octets (rest_of w n i) ≡ items_inside octets (rest_of w n (i + 1))
  unfolding inside
  items_on e = rw (rest_next w n i h, is, e) refl

module _ (octets w : List ℕ) (n : ℕ) where
  pub ok_many : 64 < n → false ≡ batch_ok octets (items_in w n)
  unfolding batch_ok
  ok_many h = rw (items_length w n 0, lt-leb n 64 h) refl

  pub ok_items : n ≤ 64 → items_inside octets (items_in w n) ≡ batch_ok octets (items_in w n)
  unfolding batch_ok
  ok_items h = rw (items_length w n 0, le-leb n 64 h) refl

  pub ok_few : batch_ok octets (items_in w n) ≡ true → n ≤ 64
  unfolding batch_ok
  ok_few e =
      let k = leb-true (length (items_in w n)) 64 (left (leb (length (items_in w n)) 64) (items_inside octets (items_in w n)) e) in
      omega (arith, k, items_length w n 0)

  pub ok_inside : batch_ok octets (items_in w n) ≡ true → items_inside octets (items_in w n) ≡ true
  unfolding batch_ok
  ok_inside e = right (leb (length (items_in w n)) 64) (items_inside octets (items_in w n)) e

-- ── One item ────────────────────────────────────────────────────────────────────────────────────────────────────────

-- Its call, on the parts that it names.
pub item_shows :
    (octets : List ℕ) (x : BatchItem) (m o z w s w' b b' : List ℕ) (a : Answer)
    → m ≡ part octets x.message.from x.message.size
    → o ≡ part octets x.offer.from x.offer.size
    → z ≡ part octets x.second.from x.second.size
    → Answered (λ t. message_on t (record { now = x.time; good = x.good; offer = o; fits = x.fits; second = z }) (length b) m) (octets_owner (names_of (table_of w s)) m) w s w' b b' a
    → ItemShows (called (table_of w s) (item_call octets (length b) x)) (item_owner octets w s x) w s w' b b' a
unfolding message_on item_call given_by
item_shows octets x m o z w s w' b b' a e f q v =
    let call : List ℕ → List ℕ → List ℕ → Call = λ m o z. message (record { now = x.time; good = x.good; offer = o; fits = x.fits; second = z }) (length b) m in
    subst (λ (m : List ℕ). ItemShows (called (table_of w s) (call m (part octets x.offer.from x.offer.size) (part octets x.second.from x.second.size))) (octets_owner (names_of (table_of w s)) m) w s w' b b' a) e
    (subst (λ (o : List ℕ). ItemShows (called (table_of w s) (call m o (part octets x.second.from x.second.size))) (octets_owner (names_of (table_of w s)) m) w s w' b b' a) f
    (subst (λ (z : List ℕ). ItemShows (called (table_of w s) (call m o z)) (octets_owner (names_of (table_of w s)) m) w s w' b b' a) q
    (record { kept = v.kept; shows = v.shows; answers = v.answers; replies = v.replies })))

-- A buffer keeps its length only where what is put holds in it.
put_fits : (xs b b' : List ℕ) → b' ≡ put xs b → length b' ≡ length b → length xs ≤ length b
unfolding put
put_fits xs b b' e l =
    let s : length (xs ++ drop (length xs) b) ≡ length b = sym (ap length e) ∙ l in
    let k = length-append xs (drop (length xs) b) in
    omega arith

-- The tail from `used` on was lent to the item's call.
pub behind_it :
    (c : ℕ → Call) (own : Option ℕ) (w s w' b e : List ℕ) (used : ℕ) (a : Answer)
    → used ≤ length b
    → length e ≡ length (take (length b - used) (drop used b))
    → ItemShows (called (table_of w s) (c (length (take (length b - used) (drop used b))))) own w s w' (take (length b - used) (drop used b)) e a
    → Behind (called (table_of w s) (c (length b - used))) own used w s w' b (take used b ++ (e ++ drop (length b - used) (drop used b))) a
unfolding buffer_after
behind_it c own w s w' b e used a h k v =
    let t = table_of w s in
    let n : length (take (length b - used) (drop used b)) ≡ length b - used = simp (length-take, length-drop) (omega arith) in
    let f = put_fits _ _ e v.replies k in
    let l : a.length ≡ length (called t (c (length (take (length b - used) (drop used b))))).outcome.reply = ap (λ (a : Answer). a.length) v.answers ∙ counted t _ in
    let z : Behind (called t (c (length (take (length b - used) (drop used b))))) own used w s w' b (take used b ++ (e ++ drop (length b - used) (drop used b))) a =
    record {
      kept = v.kept;
      shows = v.shows;
      answers = v.answers;
      replies = wrote_tail _ b e used (used + a.length) v.replies (omega arith) (omega arith);
    } in
    rw n at z

-- ── The items in turn ───────────────────────────────────────────────────────────────────────────────────────────────

-- What items did before, put before what the rest do.
abbrev after : List Outcome → Batched → Batched
after done r = record { number = r.number; table = r.table; outcomes = done ++ r.outcomes }

-- What the first i items have done: the whole is that and what the rest do, from the table that w shows, in the room left; their answers and replies stand in place.
-- No word has changed but those of pairs that an item belongs to.
pub record Turn (octets s w₀ items : List ℕ) (n : ℕ) (a₀ b₀ w a b : List ℕ) (used i : ℕ) : Type 0 where
  pub few : n ≤ 64
  pub upto : i ≤ n
  pub rules : table_rules (table_of w s) ≡ true
  pub names : names_of (table_of w s) ≡ names_of (table_of w₀ s)
  pub kept : (j : ℕ) → 0 < j → OfNone octets w₀ s (items_in items n) j → get_or w j 0 ≡ get_or w₀ j 0
  pub many : length a ≡ 448
  pub same : length b ≡ length b₀
  pub done : List Outcome
  pub fits : items_inside octets (rest_of items n i) ≡ true
  pub says : in_turn octets (table_of w₀ s) (length b₀) (items_in items n) ≡ after done (in_turn octets (table_of w s) (length b₀ - used) (rest_of items n i))
  pub told : Wrote (answers_of done) 0 a₀ a (i * 7)
  pub replies : Wrote (replies_of done) 0 b₀ b used

pub turn_first :
    (octets s items : List ℕ) (n : ℕ) (a b w : List ℕ)
    → batch_ok octets (items_in items n) ≡ true
    → table_rules (table_of w s) ≡ true
    → length a ≡ 448
    → Turn octets s w items n a b w a b 0 0
unfolding replies_of answers_of
turn_first octets s items n a b w ok r l =
    record {
      few = ok_few octets items n ok;
      upto = omega arith;
      rules = r;
      names = refl;
      kept = λ j h o. refl;
      many = l;
      same = refl;
      done = [];
      fits = rw (rest_all items n) (ok_inside octets items n ok);
      says = rw (rest_all items n, sub-zero) refl;
      told = wrote_none a 0 (omega arith);
      replies = wrote_none b 0 (omega arith);
    }

replies_more : (done : List Outcome) (o : Outcome) → replies_of done ++ o.reply ≡ replies_of (done ++ (o ∷ []))
unfolding replies_of
replies_more [] o = sym (append-nil o.reply)
replies_more (x ∷ done) o = append_assoc x.reply (replies_of done) o.reply ∙ ap (λ (z : List ℕ). x.reply ++ z) (replies_more done o)

answers_more : (done : List Outcome) (o : Outcome) → answers_of done ++ answer_words o.answer ≡ answers_of (done ++ (o ∷ []))
unfolding answers_of
answers_more [] o = sym (append-nil (answer_words o.answer))
answers_more (x ∷ done) o =
    append_assoc (answer_words x.answer) (answers_of done) (answer_words o.answer) ∙ ap (λ (z : List ℕ). answer_words x.answer ++ z) (answers_more done o)

-- an item more
after_more : (done : List Outcome) (o : Outcome) (r : Batched) → after done (behind o r) ≡ after (done ++ (o ∷ [])) r
after_more done o r = ap (λ (os : List Outcome). record { number = r.number; table = r.table; outcomes = os }) (sym (append_assoc done (o ∷ []) r.outcomes))

module _ (octets : List ℕ) (t : Table) (room : ℕ) (x : BatchItem) (xs : List BatchItem) (done : List Outcome) where
  abbrev o : Outcome
  o = (called t (item_call octets room x)).outcome

  turn_on : (u : Table) (left : ℕ) → u ≡ (called t (item_call octets room x)).table → left ≡ room - length o.reply
      → after done (in_turn octets t room (x ∷ xs)) ≡ after (done ++ (o ∷ [])) (in_turn octets u left xs)
  unfolding in_turn
  turn_on u left e f =
      after_more done o (in_turn octets (called t (item_call octets room x)).table (room - length o.reply) xs)
      ∙ ap₂ (λ (u : Table) (left : ℕ). after (done ++ (o ∷ [])) (in_turn octets u left xs)) (sym e) (sym f)

-- words that show a table which keeps the rules have one length
pub same_words : (w s w' : List ℕ) → table_rules (table_of w s) ≡ true → table_rules (table_of w' s) ≡ true → length w' ≡ length w
same_words w s w' e f = shown_words w' s (rules_layout w' s f) ∙ sym (shown_words w s (rules_layout w s e))

-- a call leaves a table that keeps the rules where it found one
rules_on : (t : Table) (c : Call) → table_rules t ≡ true → table_rules (called t c).table ≡ true
unfolding frame_of
rules_on t c e = ap (λ (f : Frame). f.sound) (frame_next t c) ∙ e

names_on : (t : Table) (c : Call) → names_of (called t c).table ≡ names_of t
unfolding frame_of
names_on t c = ap (λ (f : Frame). f.names) (frame_next t c)

-- a word outside of what the items belong to is outside of what the i-th belongs to; the words before the first pair are outside of all
of_item : (octets w s items : List ℕ) (n k i j : ℕ) → i < n → OfNone octets w s (items_from items n k) j → Outside w (item_owner octets w s (item_at items (k + i))) j
unfolding items_from
of_item octets w s items zero k i j h o = elim h [ ]
of_item octets w s items (suc n) k zero j h o = let e : k + 0 ≡ k = omega arith in rw e o.0
of_item octets w s items (suc n) k (suc i) j h o =
    let e : (k + 1) + i ≡ k + suc i = omega arith in
    rw e at (of_item octets w s items n (k + 1) i j (omega arith) o.1)

low_outside : (w : List ℕ) (o : Option ℕ) (j : ℕ) → j < 69 → Outside w o j
low_outside w None j h = tt
low_outside w (Some row) j h = inl (omega arith)

low_none : (octets w s : List ℕ) (xs : List BatchItem) (j : ℕ) → j < 69 → OfNone octets w s xs j
low_none octets w s [] j h = tt
low_none octets w s (x ∷ xs) j h = (low_outside w (item_owner octets w s x) j h, low_none octets w s xs j h)

-- the words of one call's own row, where rows lie as they did
own_kept : (o : Option ℕ) (w₀ w w' : List ℕ) → ((row : ℕ) → o ≡ Some row → place_of w row ≡ place_of w₀ row) → OwnOf o w w' → (j : ℕ) → 0 < j → Outside w₀ o j → get_or w' j 0 ≡ get_or w j 0
own_kept None w₀ w w' p k j h o = after_clock w' w k j h
own_kept (Some row) w₀ w w' p k j h o = k.kept j h (rw (p row refl) o)

module _
    {octets s w₀ items : List ℕ} {n : ℕ} {a₀ b₀ w a b : List ℕ} {used i : ℕ}
    (turn : Turn octets s w₀ items n a₀ b₀ w a b used i) (h : i < n) where
  abbrev x : BatchItem
  x = item_at items i

  its_tests : (((inside octets x.message && inside octets x.offer) && inside octets x.second) && items_inside octets (rest_of items n (i + 1))) ≡ true
  its_tests = rw (rest_next items n i h) at turn.fits

  pub turn_fits : ItemFits octets x
  unfolding inside
  turn_fits =
      let all = left ((inside octets x.message && inside octets x.offer) && inside octets x.second) (items_inside octets (rest_of items n (i + 1))) its_tests in
      let e = left (inside octets x.message && inside octets x.offer) (inside octets x.second) all in (
        leb-true _ _ (left (inside octets x.message) (inside octets x.offer) e),
        leb-true _ _ (right (inside octets x.message) (inside octets x.offer) e),
        leb-true _ _ (right (inside octets x.message && inside octets x.offer) (inside octets x.second) all),
      )

  module _ (r : Answer) (w' a' b' : List ℕ) (v : Behind (called (table_of w s) (item_call octets (length b - used) x)) (item_owner octets w s x) used w s w' b b' r)
      (u : Wrote (answer_words r) (i * 7) a a' (i * 7 + 7)) where
    abbrev q : Result
    q = called (table_of w s) (item_call octets (length b - used) x)

    turn_says : in_turn octets (table_of w₀ s) (length b₀) (items_in items n) ≡ after (turn.done ++ (q.outcome ∷ [])) (in_turn octets (table_of w' s) (length b₀ - (used + r.length)) (rest_of items n (i + 1)))
    turn_says =
        turn.says
        ∙ ap₂ (λ (k : ℕ) (xs : List BatchItem). after turn.done (in_turn octets (table_of w s) (k - used) xs)) (sym turn.same) (rest_next items n i h)
        ∙ turn_on octets (table_of w s) (length b - used) x (rest_of items n (i + 1)) turn.done (table_of w' s) (length b₀ - (used + r.length)) v.shows
        (omega (arith, v.replies.ends, turn.same))

    same_owner : item_owner octets w s x ≡ item_owner octets w₀ s x
    same_owner = ap (λ (ns : List (List ℕ)). octets_owner ns (part octets x.message.from x.message.size)) turn.names

    -- a row's place is a word before the first pair
    same_place : (row : ℕ) → item_owner octets w s x ≡ Some row → place_of w row ≡ place_of w₀ row
    same_place row e =
        let few : row < 64 = row_few w s (rules_layout w s turn.rules) row (row_in w s _ row e) in
        turn.kept (3 + row) (omega arith) (low_none octets w₀ s (items_in items n) (3 + row) (omega arith))

    kept_on : (j : ℕ) → 0 < j → OfNone octets w₀ s (items_in items n) j → get_or w' j 0 ≡ get_or w₀ j 0
    kept_on j p o =
        let z : 0 + i ≡ i = omega arith in
        own_kept (item_owner octets w s x) w₀ w w' same_place v.kept j p (rw same_owner (rw z at (of_item octets w₀ s items n 0 i j h o))) ∙ turn.kept j p o

    pub turn_more : Turn octets s w₀ items n a₀ b₀ w' a' b' (used + r.length) (i + 1)
    turn_more =
        let at : i * 7 + 7 ≡ (i + 1) * 7 = omega arith in
        record {
          few = turn.few;
          upto = omega arith;
          rules = ap table_rules v.shows ∙ rules_on (table_of w s) (item_call octets (length b - used) x) turn.rules;
          names = ap names_of v.shows ∙ names_on (table_of w s) (item_call octets (length b - used) x) ∙ turn.names;
          kept = kept_on;
          many = wrote_length u ∙ turn.many;
          same = wrote_length v.replies ∙ turn.same;
          done = turn.done ++ (q.outcome ∷ []);
          fits = right ((inside octets x.message && inside octets x.offer) && inside octets x.second) (items_inside octets (rest_of items n (i + 1))) its_tests;
          says = turn_says;
          told = rw at at (wrote_as (ap (λ (z : Answer). answers_of turn.done ++ answer_words z) v.answers ∙ answers_more turn.done q.outcome) (then turn.told u));
          replies = wrote_as (replies_more turn.done q.outcome) (then turn.replies v.replies);
        }

-- After the last item.
pub turn_done :
    {octets s w₀ items : List ℕ} {n : ℕ} {a₀ b₀ w a b : List ℕ} {used i : ℕ}
    → Turn octets s w₀ items n a₀ b₀ w a b used i
    → n ≤ i
    → TurnShows octets (items_in items n) w₀ s w a₀ a b₀ b
unfolding in_turn DONE batch_buffer
turn_done {octets} {s} {w₀} {items} {n} {a₀} {b₀} {w} turn h =
    let e : in_turn octets (table_of w₀ s) (length b₀) (items_in items n) ≡ record { number = 0; table = table_of w s; outcomes = turn.done } =
    turn.says ∙ rw (rest_none items n _ h, append-nil turn.done) refl in
    record {
      shows = sym (ap (λ (r : Batched). r.table) e);
      answers = (wrote_put turn.told).1 ∙ ap (λ (r : Batched). put (answers_of r.outcomes) a₀) (sym e);
      replies = (wrote_put turn.replies).1 ∙ ap (λ (r : Batched). put (replies_of r.outcomes) b₀) (sym e);
      kept = turn.kept;
    }

-- ── The call ────────────────────────────────────────────────────────────────────────────────────────────────────────

module _ (w s octets a b : List ℕ) (xs : List BatchItem) where
  abbrev whole : Batched
  whole = batch_on (table_of w s) octets xs (length b)

  shows_refused : (n : ℕ) → whole ≡ refused_whole (table_of w s) n → (n ≡ DONE → ⊥) → BatchShows octets xs w s w a a b b n
  unfolding refused_whole batch_buffer replies_of answers_of
  shows_refused n e z =
      record {
        number = sym (ap (λ (r : Batched). r.number) e);
        shows = sym (ap (λ (r : Batched). r.table) e);
        answers = put_none a ∙ sym (ap (λ (r : Batched). put (answers_of r.outcomes) a) e);
        replies = put_none b ∙ sym (ap (λ (r : Batched). batch_buffer r b) e);
        refused = λ _. refl;
        kept = λ i h o. refl;
      }

  pub shows_table : table_rules (table_of w s) ≡ false → BatchShows octets xs w s w a a b b 1
  unfolding batch_on TABLE DONE
  shows_table e = shows_refused 1 (rw e refl) (λ z. omega (arith, z))

  module _ (ok : table_rules (table_of w s) ≡ true) where
    pub shows_batch : batch_ok octets xs ≡ false → BatchShows octets xs w s w a a b b 17
    unfolding batch_on BATCH DONE
    shows_batch e = shows_refused 17 (rw (ok, e) refl) (λ z. omega (arith, z))

    turn_number : (t : Table) (room : ℕ) (xs : List BatchItem) → (in_turn octets t room xs).number ≡ 0
    unfolding in_turn DONE
    turn_number t room [] = refl
    turn_number t room (x ∷ xs) = turn_number (called t (item_call octets room x)).table _ xs

    pub shows_turn : batch_ok octets xs ≡ true → {w' a' b' : List ℕ} → TurnShows octets xs w s w' a a' b b' → BatchShows octets xs w s w' a a' b b' 0
    unfolding batch_on DONE
    shows_turn e {w'} {a'} {b'} v =
        let is : in_turn octets (table_of w s) (length b) xs ≡ whole = rw (ok, e) refl in
        record {
          number = sym (ap (λ (r : Batched). r.number) (sym is) ∙ turn_number (table_of w s) (length b) xs);
          shows = v.shows ∙ ap (λ (r : Batched). r.table) is;
          answers = v.answers ∙ ap (λ (r : Batched). put (answers_of r.outcomes) a) is;
          replies = v.replies ∙ ap (λ (r : Batched). batch_buffer r b) is;
          refused = λ z. absurd (z refl);
          kept = v.kept;
        }
