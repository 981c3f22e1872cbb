-- What listing, loading and mending leave for C: their words, the number that is returned, and what is lent. Assumes nothing.
use Rattle.std.specs.Prelude.{ℕ, ◌/◌, List, [], ◌∷◌, ◌≡◌, length, Result, Ok, Err}
use Rattle.model.specs.Octets.{put}
use Rattle.model.specs.Tables.{Table}
use Rattle.model.specs.Calls.{DONE, TABLE, ROOM}
use Rattle.model.specs.Loading as model
use Rattle.model.specs.Loading.{list_in, list_number, load, load_number, load_line, mend_in, mend_number, mend_line}
use Rattle.store.specs.Layout.{table_of}
use Rattle.listing.specs.declared.ListError.{ListError}
use Rattle.listing.specs.declared.ListError.TheVariants.{Broken, Long}
use Rattle.loading.specs.declared.Ended.{Ended}
use Rattle.loading.specs.declared.Mending.{Mending}
use Rattle.loading.specs.Walk.{named_words}
use Rattle.loading.specs.Loads.{table_after, table_mended, dropped_by}

-- The number of a refusal, and the number and the count of octets that each answer of the listing stands for.
abbrev pub refusal_number : ListError → ℕ
refusal_number Broken = TABLE
refusal_number Long = ROOM

abbrev pub listed_number : Result ℕ ListError → ℕ
listed_number (Ok n) = DONE
listed_number (Err e) = refusal_number e

abbrev pub listed_size : Result ℕ ListError → ℕ
listed_size (Ok n) = n
listed_size (Err e) = 0

abbrev pub text_of : model.Listed → List ℕ
text_of model.bad_table = []
text_of model.too_long = []
text_of (model.lists text) = text

pub record ListedTold (l : Result ℕ ListError) (told : List ℕ) (r : ℕ) : Type 0 where
  pub written : told ≡ listed_size l ∷ []
  pub returned : r ≡ listed_number l

-- Listing: the text stands at the front of the lent octets; a refusal leaves them.
pub record ListLent (t : Table) (text text' told : List ℕ) (r : ℕ) : Type 0 where
  pub returned : r ≡ list_number (list_in (length text) t)
  pub written : told ≡ length (text_of (list_in (length text) t)) ∷ []
  pub text_is : text' ≡ put (text_of (list_in (length text) t)) text

pub record EndTold (e : Ended) (line : List ℕ) (r : ℕ) : Type 0 where
  pub written : line ≡ e.line ∷ []
  pub returned : r ≡ e.number

pub record MendingTold (m : Mending) (told : List ℕ) (r : ℕ) : Type 0 where
  pub written : told ≡ m.line ∷ m.dropped ∷ []
  pub returned : r ≡ m.number

-- Loading: a refusal leaves every word and every octet of the table.
pub record LoadLent (text w s w' s' line : List ℕ) (r : ℕ) : Type 0 where
  pub returned : r ≡ load_number (load text)
  pub written : line ≡ load_line (load text) ∷ []
  pub table : table_of w' s' ≡ table_after (table_of w s) (load text)
  pub refused : ¬ (r ≡ DONE) → (w' ≡ w) × (s' ≡ s)

-- Mending, with room to name half as many lines as there are words: a refusal leaves every word and every octet of what is lent.
pub record MendLent (text w s named w' s' named' told : List ℕ) (r : ℕ) : Type 0 where
  pub returned : r ≡ mend_number (mend_in (length named / 2) text)
  pub written : told ≡ mend_line (mend_in (length named / 2) text) ∷ length (dropped_by (mend_in (length named / 2) text)) ∷ []
  pub table : table_of w' s' ≡ table_mended (table_of w s) (mend_in (length named / 2) text)
  pub names : named' ≡ put (named_words (dropped_by (mend_in (length named / 2) text))) named
  pub refused : ¬ (r ≡ DONE) → (w' ≡ w) × (s' ≡ s)
