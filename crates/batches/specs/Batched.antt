-- A batch on a lent table, its items and its answers in words, against the crate model's Batches. Assumes nothing.
use Rattle.std.specs.Prelude.{ℕ, zero, suc, ◌+◌, ◌*◌, ◌≤◌, ◌<◌, List, [], ◌∷◌, ◌++◌, ◌⊎◌, ◌≡◌, eqb, length, get_or, Option, None, Some}
use Rattle.model.specs.declared.Answer.{Answer}
use Rattle.model.specs.declared.BatchItem.{BatchItem}
use Rattle.model.specs.Octets.{part, put}
use Rattle.model.specs.Tables.{names_of}
use Rattle.model.specs.Calls.{DONE, Outcome, Result, octets_owner, buffer_after}
use Rattle.model.specs.Batches.{in_turn, batch_on, batch_buffer}
use Rattle.octets.specs.Wrote.{Wrote}
use Rattle.records.specs.Record.{Within}
use Rattle.store.specs.Layout.{place_of, pair_start, table_of}
use Rattle.server.specs.Serve.{OwnOf}
use Rattle.results.specs.Words.{answer_words}

-- ── Items and answers in words ──────────────────────────────────────────────────────────────────────────────────────

-- The item in the nine words from 9 i on: its time; its verdict, where 1 is good and every other number bad; its message and its offer, each by its first place and
-- its size; the keying verdict, likewise, and the lent record.
unfoldable pub item_at : List ℕ → ℕ → BatchItem
item_at w i =
    record {
      time = get_or w (i * 9) 0;
      good = eqb (get_or w (i * 9 + 1) 0) 1;
      message = record { from = get_or w (i * 9 + 2) 0; size = get_or w (i * 9 + 3) 0 };
      offer = record { from = get_or w (i * 9 + 4) 0; size = get_or w (i * 9 + 5) 0 };
      fits = eqb (get_or w (i * 9 + 6) 0) 1;
      second = record { from = get_or w (i * 9 + 7) 0; size = get_or w (i * 9 + 8) 0 };
    }

-- n items from item i on; the first n.
unfoldable pub items_from : List ℕ → ℕ → ℕ → List BatchItem
items_from w zero i = []
items_from w (suc n) i = item_at w i ∷ items_from w n (i + 1)

abbrev pub items_in : List ℕ → ℕ → List BatchItem
items_in w n = items_from w n 0

-- The answers of items, one after another, in seven words each.
unfoldable pub answers_of : List Outcome → List ℕ
answers_of [] = []
answers_of (o ∷ os) = answer_words o.answer ++ answers_of os

-- ── The call ────────────────────────────────────────────────────────────────────────────────────────────────────────

-- The pair that an item belongs to, by its row in the table that is lent.
abbrev pub item_owner : List ℕ → List ℕ → List ℕ → BatchItem → Option ℕ
item_owner octets w s x = octets_owner (names_of (table_of w s)) (part octets x.message.from x.message.size)

-- The word i is none of the pair in this row; none of a pair that one of these items belongs to.
abbrev pub Outside : List ℕ → Option ℕ → ℕ → Type 0
Outside w None i = Unit {0}
Outside w (Some row) i = (i < pair_start (place_of w row)) ⊎ (pair_start (place_of w row) + 14 ≤ i)

abbrev pub OfNone : List ℕ → List ℕ → List ℕ → List BatchItem → ℕ → Type 0
OfNone octets w s [] i = Unit {0}
OfNone octets w s (x ∷ xs) i = Outside w (item_owner octets w s x) i × OfNone octets w s xs i

-- THE BATCH of the items xs in these octets, on the table that the words w and the octets s show: at exit the words are w', the words of its answers a' where they
-- were a, its buffer b' where it was b, and it returns n.
pub record BatchShows (octets : List ℕ) (xs : List BatchItem) (w s w' a a' b b' : List ℕ) (n : ℕ) : Type 0 where
  -- number, table, answers and buffer are those of the definition
  pub number : n ≡ (batch_on (table_of w s) octets xs (length b)).number
  pub shows : table_of w' s ≡ (batch_on (table_of w s) octets xs (length b)).table
  pub answers : a' ≡ put (answers_of (batch_on (table_of w s) octets xs (length b)).outcomes) a
  pub replies : b' ≡ batch_buffer (batch_on (table_of w s) octets xs (length b)) b
  -- refused whole, it leaves every word; done, every word but the clock's and those of pairs that an item belongs to
  pub refused : (n ≡ DONE → ⊥) → w' ≡ w
  pub kept : (i : ℕ) → 0 < i → OfNone octets w s xs i → get_or w' i 0 ≡ get_or w i 0

-- ── Its steps ───────────────────────────────────────────────────────────────────────────────────────────────────────

-- An item's message, its offer and its lent record lie in the lent octets.
abbrev pub ItemFits : List ℕ → BatchItem → Type 0
ItemFits octets x = Within octets x.message × Within octets x.offer × Within octets x.second

-- One item's call, of the pair in the row `own`, lent the whole of its buffer.
pub record ItemShows (x : Result) (own : Option ℕ) (w s w' b b' : List ℕ) (a : Answer) : Type 0 where
  pub kept : OwnOf own w w'
  pub shows : table_of w' s ≡ x.table
  pub answers : a ≡ x.outcome.answer
  pub replies : b' ≡ buffer_after x b

-- The same, its reply laid behind the `used` octets before.
pub record Behind (x : Result) (own : Option ℕ) (used : ℕ) (w s w' b b' : List ℕ) (a : Answer) : Type 0 where
  pub kept : OwnOf own w w'
  pub shows : table_of w' s ≡ x.table
  pub answers : a ≡ x.outcome.answer
  pub replies : Wrote x.outcome.reply used b b' (used + a.length)

-- All items in turn.
pub record TurnShows (octets : List ℕ) (xs : List BatchItem) (w s w' a a' b b' : List ℕ) : Type 0 where
  pub shows : table_of w' s ≡ (in_turn octets (table_of w s) (length b) xs).table
  pub answers : a' ≡ put (answers_of (in_turn octets (table_of w s) (length b) xs).outcomes) a
  pub replies : b' ≡ batch_buffer (in_turn octets (table_of w s) (length b) xs) b
  pub kept : (i : ℕ) → 0 < i → OfNone octets w s xs i → get_or w' i 0 ≡ get_or w i 0
