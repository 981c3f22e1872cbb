-- Judging another server's replies: 02, CR 12. Two replies, without their TSIGs, are compared field by field in wire order. Assumes nothing.
use Rattle.std.specs.Prelude.{ℕ, zero, suc, ◌+◌, ◌<◌, ◌≡◌, Bool, true, false, cond, ◌&&◌, ◌⊎◌, List, [], ◌∷◌, ◌++◌, length, get_or, drop, ltb, eqb, Option, None, Some}
use Rattle.model.specs.Octets.{u16_at, part, Reading, stops, reads, then}
use Rattle.model.specs.Names.{read_name, read_plain, same_name}
use Rattle.model.specs.Messages.{Question, Record, Message, read_message}
use Rattle.model.specs.Tkey.{tkey_type}
use Rattle.model.specs.declared.Verdict.{Verdict}
use Rattle.model.specs.Tables.{Table}
use Rattle.model.specs.Judging.{Given}
use Rattle.model.specs.Calls.{DONE, TABLE, SIZE, FORMAT, LINE, DIFFERS, size_ok, message_on}
use Rattle.model.specs.Loading.{Loaded, no_line, no_table, loaded, load}

-- ── Fields ──────────────────────────────────────────────────────────────────────────────────────────────────────────

-- A field: a name, written out; octets; or, of an ill-formed TKEY, the rest of its data, from the first field that is cut off or no name.
pub data Field : Type 0 where
  name : List ℕ → Field
  octets : List ℕ → Field
  cut : List ℕ → Field

-- A field, and the place of its first octet.
pub record Placed : Type 0 where
  pub place : ℕ
  pub field : Field

abbrev pub name_at : ℕ → List ℕ → Placed
name_at at n = record { place = at; field = name n }

-- n octets of m from `at` on.
abbrev pub octets_at : List ℕ → ℕ → ℕ → Placed
octets_at m at n = record { place = at; field = octets (part m at n) }

-- "The same header .. the flags .. one field": ID, flags, and the four counts.
unfoldable pub header_fields : List ℕ → List Placed
header_fields m = octets_at m 0 2 ∷ octets_at m 2 2 ∷ octets_at m 4 2 ∷ octets_at m 6 2 ∷ octets_at m 8 2 ∷ octets_at m 10 2 ∷ []

-- "Questions": the name at `at`; type and class at `next`, behind it.
unfoldable pub question_form : List ℕ → ℕ → List ℕ → ℕ → List Placed
question_form m at n next = name_at at n ∷ octets_at m next 2 ∷ octets_at m (next + 2) 2 ∷ []

-- Of a TKEY's data c, which stands at `base`: n octets from `from` on; all from there on; and all from there on, where a field is cut off.
abbrev pub within : ℕ → List ℕ → ℕ → ℕ → Placed
within base c from n = record { place = base + from; field = octets (part c from n) }

abbrev pub onward : ℕ → List ℕ → ℕ → Placed
onward base c from = record { place = base + from; field = octets (drop from c) }

abbrev pub cut_off : ℕ → List ℕ → ℕ → Placed
cut_off base c from = record { place = base + from; field = cut (drop from c) }

-- RFC 2930, 2; 01, "Reading": at `from`, n octets of key data, other size 16 bits, and other data, which is the rest. "Other data included, octet for octet".
unfoldable pub tkey_end : ℕ → List ℕ → ℕ → ℕ → List Placed
tkey_end base c from n =
    cond (ltb (length c) (from + n + 2)) (cut_off base c from ∷ [])
    (within base c from n ∷ within base c (from + n) 2 ∷ onward base c (from + n + 2) ∷ [])

-- At `at`, behind the algorithm: inception and expiration 32 bits each, mode, error and key size 16 each.
unfoldable pub tkey_middle : ℕ → List ℕ → ℕ → List Placed
tkey_middle base c at =
    cond (ltb (length c) (at + 14)) (cut_off base c at ∷ [])
    (within base c at 4
    ∷ within base c (at + 4) 4
    ∷ within base c (at + 8) 2
    ∷ within base c (at + 10) 2
    ∷ within base c (at + 12) 2
    ∷ tkey_end base c (at + 14) (u16_at c (at + 12)))

abbrev pub tkey_fields : ℕ → List ℕ → Reading (List ℕ) → List Placed
tkey_fields base c (stops place) = cut_off base c 0 ∷ []
tkey_fields base c (reads algorithm next) = name_at base algorithm ∷ tkey_middle base c next

-- A record's data c, which stands at `base`: of a TKEY its fields; of any other record the whole, "a KEY's data .. one field".
unfoldable pub data_fields : ℕ → ℕ → List ℕ → List Placed
data_fields type base c = cond (eqb type tkey_type) (tkey_fields base c (read_plain c 0)) (record { place = base; field = octets c } ∷ [])

-- "Records in order": the owner at `at`; type, class, TTL, RDLENGTH and the data at `next`, behind it.
unfoldable pub record_form : List ℕ → ℕ → List ℕ → ℕ → List Placed
record_form m at owner next =
    name_at at owner
    ∷ octets_at m next 2
    ∷ octets_at m (next + 2) 2
    ∷ octets_at m (next + 4) 4
    ∷ octets_at m (next + 8) 2
    ∷ data_fields (u16_at m next) (next + 10) (part m (next + 10) (u16_at m (next + 8)))

-- The fields of the question and of the record at a place, "owner and question names compressed or not", and the place behind; where it reads (01, "Reading").
unfoldable pub question_fields : List ℕ → ℕ → Reading (List Placed)
question_fields m at = then (read_name m at) λ n next. cond (ltb (length m) (next + 4)) (stops (length m)) (reads (question_form m at n next) (next + 4))

unfoldable pub record_fields : List ℕ → ℕ → Reading (List Placed)
record_fields m at = then (read_name m at) λ n next.
    cond (ltb (length m) (next + 10 + u16_at m (next + 8))) (stops (length m)) (reads (record_form m at n next) (next + 10 + u16_at m (next + 8)))

-- The fields of one thing, and behind it what `on` gives; none where it does not read.
abbrev pub followed : Reading (List Placed) → (ℕ → List Placed) → List Placed
followed (stops place) on = []
followed (reads fields next) on = fields ++ on next

-- The fields of n things, one after another from `at` on, as far as they read; behind the last, what `on` gives.
unfoldable pub fields_from : (ℕ → Reading (List Placed)) → (ℕ → List Placed) → ℕ → ℕ → List Placed
fields_from one on zero at = on at
fields_from one on (suc n) at = followed (one at) (λ next. fields_from one on n next)

-- The fields of the records of the three sections, as counted.
unfoldable pub records_fields : List ℕ → ℕ → List Placed
records_fields m at = fields_from (record_fields m) (λ end. []) (u16_at m 6 + (u16_at m 8 + u16_at m 10)) at

-- All fields of a message, in wire order, as far as it reads. (Theirs reads, where fields are compared; ours need not.)
unfoldable pub fields_of : List ℕ → List Placed
fields_of m = header_fields m ++ fields_from (question_fields m) (records_fields m) (u16_at m 4) 12

-- ── The same meaning ────────────────────────────────────────────────────────────────────────────────────────────────

unfoldable pub same_octets : List ℕ → List ℕ → Bool
same_octets [] [] = true
same_octets [] (y ∷ ys) = false
same_octets (x ∷ xs) [] = false
same_octets (x ∷ xs) (y ∷ ys) = eqb x y && same_octets xs ys

-- "Names equal without regard to case, .. all else .. octet for octet."
unfoldable pub same_field : Field → Field → Bool
same_field (name n) (name k) = same_name n k
same_field (name n) (octets x) = false
same_field (name n) (cut x) = false
same_field (octets x) (name n) = false
same_field (octets x) (octets y) = same_octets x y
same_field (octets x) (cut y) = false
same_field (cut x) (name n) = false
same_field (cut x) (octets y) = false
same_field (cut x) (cut y) = same_octets x y

-- Fields one by one, places apart.
unfoldable pub same_fields : List Placed → List Placed → Bool
same_fields [] [] = true
same_fields [] (y ∷ ys) = false
same_fields (x ∷ xs) [] = false
same_fields (x ∷ xs) (y ∷ ys) = same_field x.field y.field && same_fields xs ys

-- "It has the meaning of ours: the same header, questions and records in order".
abbrev pub SameMeaning : List ℕ → List ℕ → Type 0
SameMeaning a b = same_fields (fields_of a) (fields_of b) ≡ true

-- "The place in theirs of the first field that differs, in wire order"; none where none differs. Where theirs has no field left, its end: of two
-- messages that read, a count differs before that.
unfoldable pub first_in : ℕ → List Placed → List Placed → Option ℕ
first_in end [] [] = None
first_in end [] (y ∷ ys) = Some y.place
first_in end (x ∷ xs) [] = Some end
first_in end (x ∷ xs) (y ∷ ys) = cond (same_field x.field y.field) (first_in end xs ys) (Some y.place)

unfoldable pub first_difference : List ℕ → List ℕ → Option ℕ
first_difference ours theirs = first_in (length theirs) (fields_of ours) (fields_of theirs)

-- What it is to be that place: the fields before are the same, and this one, y of theirs, is not.
pub record FirstAt (place : ℕ) (xs ys : List Placed) : Type 0 where
  pub before : List Placed
  pub before_theirs : List Placed
  pub x : Placed
  pub y : Placed
  pub behind : List Placed
  pub behind_theirs : List Placed
  pub ours : xs ≡ before ++ (x ∷ behind)
  pub theirs : ys ≡ before_theirs ++ (y ∷ behind_theirs)
  pub same : same_fields before before_theirs ≡ true
  pub other : same_field x.field y.field ≡ false
  pub is : place ≡ y.place

-- A reply of allowed size that keeps the reading rules.
pub record Proper (r : List ℕ) : Type 0 where
  pub size : size_ok r ≡ true
  pub message : Message
  pub end : ℕ
  pub says : read_message r ≡ reads message end

-- Every one is an octet: `get_or` gives 0 past the end.
abbrev pub AllOctets : List ℕ → Type 0
AllOctets m = (i : ℕ) → get_or m i 0 < 256

-- Neither server answers; or theirs is proper and has the meaning of ours.
abbrev pub Allowed : List ℕ → List ℕ → Type 0
Allowed ours theirs = ((ours ≡ []) × (theirs ≡ [])) ⊎ (Proper theirs × SameMeaning ours theirs)

-- ── The verdict ─────────────────────────────────────────────────────────────────────────────────────────────────────

-- The number and the place; both 0 where theirs is accepted.
abbrev pub verdict : ℕ → ℕ → Verdict
verdict number place = record { number = number; place = place }

abbrev pub by_difference : Option ℕ → Verdict
by_difference None = verdict DONE 0
by_difference (Some place) = verdict DIFFERS place

-- "6 FORMAT", with its place; "21 with the place in theirs of the first field that differs".
abbrev pub by_reading : List ℕ → List ℕ → Reading Message → Verdict
by_reading ours theirs (stops place) = verdict FORMAT place
by_reading ours theirs (reads m next) = by_difference (first_difference ours theirs)

unfoldable pub by_size : List ℕ → List ℕ → Verdict
by_size ours theirs = cond (size_ok theirs) (by_reading ours theirs (read_message theirs)) (verdict SIZE 0)

-- "21 DIFFERS at place 0 when just one reply is empty ..; 4 SIZE, unless both are empty".
unfoldable pub compared : List ℕ → List ℕ → Verdict
compared [] [] = verdict DONE 0
compared [] (y ∷ theirs) = verdict DIFFERS 0
compared (x ∷ ours) [] = verdict DIFFERS 0
compared (x ∷ ours) (y ∷ theirs) = by_size (x ∷ ours) (y ∷ theirs)

-- "Ours is what the message call writes into a buffer of 65,535 octets", "a call refused or unanswered makes ours empty".
unfoldable pub ours_of : Table → Given → List ℕ → List ℕ
ours_of t g message = (message_on t g 65535 message).outcome.reply

-- "A listing that does not load, as loading says", comes first.
abbrev pub judged_on : Loaded → Given → List ℕ → List ℕ → Verdict
judged_on (no_line n) g message theirs = verdict LINE n
judged_on no_table g message theirs = verdict TABLE 0
judged_on (loaded t) g message theirs = compared (ours_of t g message) theirs

-- "Given a listing, all that a message call takes, and the other server's reply, its TSIG taken off, say whether our rules allow it."
unfoldable pub compare_on : List ℕ → Given → List ℕ → List ℕ → Verdict
compare_on listing g message theirs = judged_on (load listing) g message theirs

-- ── What a reader of messages sees ──────────────────────────────────────────────────────────────────────────────────

-- Two lists, thing by thing.
abbrev pub Each : {A B : Type 0} → (A → B → Type 0) → List A → List B → Type 0
Each R [] [] = Unit {0}
Each R [] (b ∷ bs) = ⊥
Each R (a ∷ as') [] = ⊥
Each R (a ∷ as') (b ∷ bs) = R a b × Each R as' bs

pub record SameQuestion (q s : Question) : Type 0 where
  pub name : same_name q.name s.name ≡ true
  pub type : q.type ≡ s.type
  pub class : q.class ≡ s.class

-- The same data; of a TKEY, the same but for the case of the algorithm, which is n in the one and k in the other and ends at `next`.
pub data SameData (type : ℕ) (c d : List ℕ) : Type 0 where
  whole : c ≡ d → SameData type c d
  cased :
      type ≡ tkey_type
      → (n k : List ℕ) (next : ℕ)
      → read_plain c 0 ≡ reads n next
      → read_plain d 0 ≡ reads k next
      → same_name n k ≡ true
      → drop next c ≡ drop next d
      → SameData type c d

pub record SameRecord (r s : Record) : Type 0 where
  pub section : r.section ≡ s.section
  pub owner : same_name r.owner s.owner ≡ true
  pub type : r.type ≡ s.type
  pub class : r.class ≡ s.class
  pub ttl : r.ttl ≡ s.ttl
  pub content : SameData r.type r.content s.content

-- All that `read_message` gives, up to the case of names; its `question_octets` apart, which may be compressed otherwise.
pub record SameMessage (m n : Message) : Type 0 where
  pub id : m.id ≡ n.id
  pub response : m.response ≡ n.response
  pub opcode : m.opcode ≡ n.opcode
  pub desired : m.desired ≡ n.desired
  pub asked : m.asked ≡ n.asked
  pub questions : Each SameQuestion m.questions n.questions
  pub records : Each SameRecord m.records n.records

-- "The same header, questions and records in order, names equal without regard to case, .. all else .. octet for octet", of what `read_message` gives
-- and the twelve octets before it.
pub record SameContents (a b : List ℕ) (m n : Message) : Type 0 where
  pub header : part a 0 12 ≡ part b 0 12
  pub questions : Each SameQuestion m.questions n.questions
  pub records : Each SameRecord m.records n.records
