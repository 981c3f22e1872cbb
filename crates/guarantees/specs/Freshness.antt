-- Demand 2: over any run from a new table, or from one that was loaded or mended, no name is made twice, a granted renewal's name is new, an adoption puts the
-- new key in and the old one out in one step, and the table rules are kept. Assumes nothing.
use Rattle.std.specs.Prelude.{◌≡◌, ◌⊎◌, Bool, true, false, ℕ, ◌%◌, None, Some}
use mathlib.Core.List.{List, ◌++◌, Memᴰ}
use Rattle.model.specs.declared.Algorithm.{Algorithm}
use Rattle.model.specs.declared.Key.{Key}
use Rattle.model.specs.declared.Keys.TheVariants.{Adopted, Renewing}
use Rattle.model.specs.declared.Decision.{Decision}
use Rattle.model.specs.declared.Decision.TheVariants.{Renews, Adopts}
use Rattle.model.specs.Octets.{reads}
use Rattle.model.specs.Names.{same_name, key_name}
use Rattle.model.specs.Messages.{Record, Message, read_message}
use Rattle.model.specs.Tkey.{Tkey, only_tkey, only_key, mode_of}
use Rattle.model.specs.Pairs.{made, renewed}
use Rattle.model.specs.Tables.{Row, Table, suffix_at, pair_at, names_of, table_rules}
use Rattle.model.specs.Judging.{waiting_of, Given, offer_serves, judge}
use Rattle.model.specs.Replies.{heading, tkey_data, tkey_record, echoed, key_data, answers_of, behind, second_ok}
use Rattle.model.specs.Calls.{empty_table, new_table, gate, Call, message, owner_of, holder_at, called}
use Rattle.model.specs.Loading.{loaded, load, Dropped, mended, mend}
use Rattle.model.specs.Runs.{Operation, call, operated_all, Has, key_made, names_made, NoneSame, Distinct}
use Rattle.model.specs.declared.Scheme.{Scheme}
use Rattle.model.specs.declared.Scheme.TheVariants.{DiffieHellman, ServerAssignment, ResolverAssignment}
use Rattle.model.specs.declared.Mode.TheVariants.{Renewal}

-- The table after a run from a new one, made in the place of an empty table.
abbrev pub after : ℕ → List Operation → Table
after time os = operated_all (new_table (empty_table 0) time).table os

-- 02, CR 7: "Loading an old listing rewinds serials, so demand 2's name promise holds only from a load onward, mending counted as a load." What a run starts
-- from.
pub data Starts (t : Table) : Type 0 where
  from_new : (time : ℕ) → t ≡ (new_table (empty_table 0) time).table → Starts t
  from_load : (s : List ℕ) → load s ≡ loaded t → Starts t
  from_mend : (s : List ℕ) (ds : List Dropped) → mend s ≡ mended t ds → Starts t

-- A name that a key of the table has.
pub record Carries (t : Table) (name : List ℕ) : Type 0 where
  pub row : Row
  pub key : Key
  pub there : Memᴰ row t.rows
  pub has : Has row.pair.keys key
  pub is : name ≡ key_name key.serial row.suffix

-- A message call, with all that it takes besides the table.
pub record Ask : Type 0 where
  pub given : Given
  pub room : ℕ
  pub octets : List ℕ

abbrev pub asks : Ask → Call
asks q = message q.given q.room q.octets

-- The call is done, of the pair in row i: it read the message m and decided d.
pub record Decides (t : Table) (q : Ask) (i : ℕ) (m : Message) (d : Decision) : Type 0 where
  pub end : ℕ
  pub passes : gate t (Some q.given.now) ≡ None
  pub readings : read_message q.octets ≡ reads m end
  pub owner : owner_of (names_of t) (asks q) ≡ Some i
  pub decided : (judge (holder_at t i) q.given m).decision ≡ d
  pub finished : (called t (asks q)).outcome.answer.number ≡ 0

-- 02, CR 10: "The caller's keying verdict says whether the KEY fits". 4098 does not look at it.
abbrev pub fit_serves : Scheme → Bool → Bool
fit_serves DiffieHellman fits = fits
fit_serves ServerAssignment fits = true
fit_serves ResolverAssignment fits = fits

-- A renewal that was granted, of the pair in row i, with this scheme and the algorithm g.
pub record Granted (t : Table) (q : Ask) (i : ℕ) (m : Message) (scheme : Scheme) (g : Algorithm) : Type 0 where
  -- the request's TKEY, of the scheme's mode, its KEY record, which fits, the offer, which the scheme needs or not, and the lent record, where it lends one
  pub tkey : Tkey
  pub key_record : Record
  pub is_tkey_lem : only_tkey m ≡ Some tkey
  pub is_mode_lem : mode_of tkey.mode ≡ Renewal scheme
  pub is_key_lem : only_key m ≡ Some key_record
  pub is_fit : fit_serves scheme q.given.fits ≡ true
  pub offered : offer_serves scheme q.given.offer ≡ true
  pub is_lent : second_ok (Renews scheme g) q.given.second ≡ true
  -- what becomes of the pair is the same whatever the scheme (02, CR 10: "What happens to the keys is proved once over the three modes")
  pub pair_is : pair_at (called t (asks q)).table i ≡ renewed (pair_at t i) q.given.now g
  -- the new key, made now, waits
  pub waiting : waiting_of (pair_at (called t (asks q)).table i).keys ≡ Some (made (pair_at t i) q.given.now g)
  -- its name is the one that the call made
  pub name : List ℕ
  pub is_name : name ≡ key_name (made (pair_at t i) q.given.now g).serial (suffix_at t i)
  pub is_made : key_made t (call (asks q)) ≡ Some name
  -- the reply hands out this name, the new key's times and the scheme's key data
  pub says :
      (called t (asks q)).outcome.reply
      ≡ heading m 0 (answers_of scheme) 1
      ++ (tkey_record name
      (tkey_data tkey.algorithm
      ((made (pair_at t i) q.given.now g).inception % 4294967296)
      ((made (pair_at t i) q.given.now g).expiry % 4294967296)
      tkey.mode
      0
      (key_data scheme tkey q.given.offer)
      tkey.other)
      ++ (behind scheme q.given.second ++ echoed key_record))

-- An adoption: a key waited beside the adopted one, and in the one step it is the adopted key and the only one.
pub record AtOnce (t u : Table) (i : ℕ) : Type 0 where
  pub old : Key
  pub new : Key
  pub before : (pair_at t i).keys ≡ Renewing old new
  pub then_only : (pair_at u i).keys ≡ Adopted new

-- What holds of every run from this table.
pub record RunsFrom (start : Table) : Type 0 where
  -- no two keys that a run makes have one name, compared without regard to case; nor does one have the name of a key that was there at the start
  pub no_name_twice : (os : List Operation) → Distinct (names_made start os)
  pub none_held : (os : List Operation) (held : List ℕ) → Carries start held → NoneSame held (names_made start os)
  -- and none is left out: every key that the table holds after a run has a name that the run made, or that a key had at the start
  pub every_key_made : (os : List Operation) (name : List ℕ) → Carries (operated_all start os) name → Carries start name ⊎ Memᴰ name (names_made start os)
  -- a run keeps the table rules
  pub rules_kept : (os : List Operation) → table_rules (operated_all start os) ≡ true

pub record Demand2 : Type 0 where
  pub runs : (t : Table) → Starts t → RunsFrom t
  -- a new table has no key, so that every key of a run from it was made in the run
  pub new_none : (time : ℕ) (name : List ℕ) → ¬ Carries (new_table (empty_table 0) time).table name
  -- a granted renewal makes a waiting key and hands out its name, on every table that passes the gate
  pub renewal_grants : (t : Table) (q : Ask) (i : ℕ) (m : Message) (scheme : Scheme) (g : Algorithm) → Decides t q i m (Renews scheme g) → Granted t q i m scheme g
  -- and after such a run no key that it made had that name before, nor one of the table that it started from
  pub renewal_new :
      (t : Table) → Starts t → (os : List Operation) (q : Ask) (i : ℕ) (m : Message) (scheme : Scheme) (g : Algorithm) (d : Decides (operated_all t os) q i m (Renews scheme g))
      → NoneSame (renewal_grants (operated_all t os) q i m scheme g d).name (names_made t os)
  pub renewal_not_held :
      (t : Table) → Starts t → (os : List Operation) (q : Ask) (i : ℕ) (m : Message) (scheme : Scheme) (g : Algorithm) (d : Decides (operated_all t os) q i m (Renews scheme g))
      → (held : List ℕ) → Carries t held → same_name held (renewal_grants (operated_all t os) q i m scheme g d).name ≡ false
  -- an adoption puts the new key in and the old one out together, on every table that passes the gate
  pub adopts_at_once : (t : Table) (q : Ask) (i : ℕ) (m : Message) → Decides t q i m Adopts → AtOnce t (called t (asks q)).table i
