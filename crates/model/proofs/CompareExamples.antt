-- Worked examples of judging another server's replies (02, CR 12), computed by antt: our granted renewal against replies that mean the same, and
-- against others, each with the place of the first field that differs. Assumes nothing.
use Prim.Native.Nat.{ℕ}
use mathlib.Core.Path.{◌≡◌, refl}
use mathlib.Core.Bool.{true, false}
use mathlib.Core.List.{List, [], ◌∷◌, ◌++◌}
use lib.ListN.{replicate}
use Rattle.model.specs.declared.Algorithm.TheVariants.{Sha256}
use Rattle.model.specs.declared.Verdict.{Verdict}
use Rattle.model.specs.Names.{key_name, algorithm_name}
use Rattle.model.specs.Judging.{Given}
use Rattle.model.specs.Replies.{record_octets, tkey_data}
use Rattle.model.specs.Calls.{DIFFERS, empty_table}
use Rattle.model.specs.Compare.{header_fields, question_form, tkey_end, tkey_middle, data_fields, record_form, question_fields, record_fields, fields_from, records_fields, fields_of, same_octets, same_field, same_fields, first_in, first_difference, by_size, compared, ours_of, compare_on}
use Rattle.model.proofs.Requests.{suffix, question, header, old, key_record, tsig, unkeyed}
use Rattle.model.proofs.Running.{after, loading}
use Rattle.model.proofs.Day.{opening}

-- `compared`, with every definition opened.
unfoldable pub judged : List ℕ → List ℕ → Verdict
unfolding after header_fields question_form tkey_end tkey_middle data_fields record_form question_fields record_fields fields_from records_fields fields_of same_octets same_field same_fields first_in first_difference DIFFERS by_size compared
judged ours theirs = compared ours theirs

-- ── Replies ─────────────────────────────────────────────────────────────────────────────────────────────────────────

abbrev new_name : List ℕ
new_name = 1 ∷ 50 ∷ suffix

abbrev algorithm : List ℕ
algorithm = 11 ∷ 104 ∷ 109 ∷ 97 ∷ 99 ∷ 45 ∷ 115 ∷ 104 ∷ 97 ∷ 50 ∷ 53 ∷ 54 ∷ 0 ∷ []

-- In capitals: 2.A.EXAMPLE. and HMAC-SHA256.
abbrev new_capitals : List ℕ
new_capitals = 1 ∷ 50 ∷ 1 ∷ 65 ∷ 7 ∷ 69 ∷ 88 ∷ 65 ∷ 77 ∷ 80 ∷ 76 ∷ 69 ∷ 0 ∷ []

abbrev algorithm_capitals : List ℕ
algorithm_capitals = 11 ∷ 72 ∷ 77 ∷ 65 ∷ 67 ∷ 45 ∷ 83 ∷ 72 ∷ 65 ∷ 50 ∷ 53 ∷ 54 ∷ 0 ∷ []

-- OldName and OldAlgorithm; and the name in capitals.
abbrev other : List ℕ
other = (1 ∷ 49 ∷ suffix) ++ algorithm

abbrev other_capitals : List ℕ
other_capitals = (1 ∷ 49 ∷ 1 ∷ 65 ∷ 7 ∷ 69 ∷ 88 ∷ 65 ∷ 77 ∷ 80 ∷ 76 ∷ 69 ∷ 0 ∷ []) ++ algorithm

-- ID 4660, QR, one question, one answer and one additional record; with ID, flags and the counts of answers and additional records as given.
abbrev headed : ℕ → ℕ → ℕ → ℕ → ℕ → List ℕ
headed low flags rcode answers additionals = 18 ∷ low ∷ flags ∷ rcode ∷ 0 ∷ 1 ∷ 0 ∷ answers ∷ 0 ∷ 0 ∷ 0 ∷ additionals ∷ []

abbrev top : List ℕ
top = headed 52 128 0 1 1

-- A name, then type 249 and class 255.
abbrev asked : List ℕ → List ℕ
asked name = name ++ (0 ∷ 249 ∷ 0 ∷ 255 ∷ [])

-- A TKEY: its owner as it stands, and this RDLENGTH and data; the data.
abbrev answer : List ℕ → ℕ → List ℕ → List ℕ
answer owner size content = asked owner ++ ((0 ∷ 0 ∷ 0 ∷ 0 ∷ 0 ∷ size ∷ []) ++ content)

abbrev content : List ℕ → ℕ → List ℕ → List ℕ → List ℕ
content name error key rest =
    name ++ ((0 ∷ 0 ∷ 4 ∷ 176 ∷ 0 ∷ 0 ∷ 7 ∷ 8 ∷ 16 ∷ 2 ∷ 0 ∷ error ∷ 0 ∷ 4 ∷ []) ++ (key ++ ((0 ∷ 26 ∷ []) ++ rest)))

abbrev offered : List ℕ
offered = 1 ∷ 2 ∷ 3 ∷ 4 ∷ []

-- A KEY of the root.
abbrev key_of : List ℕ → List ℕ
key_of kept = 0 ∷ 0 ∷ 25 ∷ 0 ∷ 255 ∷ 0 ∷ 0 ∷ 0 ∷ 0 ∷ 0 ∷ 4 ∷ kept

abbrev key : List ℕ
key = key_of (2 ∷ 0 ∷ 3 ∷ 1 ∷ [])

abbrev reply : List ℕ → List ℕ → List ℕ → List ℕ → List ℕ
reply head name owner kept = head ++ (asked name ++ (answer owner 59 kept ++ key))

abbrev plain : List ℕ
plain = content algorithm 0 offered other

abbrev ours : List ℕ
ours = reply top new_name new_name plain

-- The renewal at 1200 of the paper's day, whose question names the new key; ours is what it is answered with.
abbrev renewal : List ℕ
renewal =
    header 0 3
    ++ (question (key_name 2 suffix) 249 255
    ++ (record_octets (0 ∷ []) 249 255 0 (tkey_data (algorithm_name Sha256) 1200 1800 4098 0 [] (old 1)) ++ (key_record ++ tsig 1 1200)))

pub is_ours : ours_of (after (empty_table 1000) opening) (unkeyed 1200 true offered) renewal ≡ ours
unfolding ours_of opening after
is_ours = refl

-- ── The cases ───────────────────────────────────────────────────────────────────────────────────────────────────────

pub record Case : Type 0 where
  pub mine : List ℕ
  pub theirs : List ℕ
  pub number : ℕ
  pub place : ℕ

abbrev Judged : List Case → Type 0
Judged [] = Unit {0}
Judged (c ∷ cs) = (judged c.mine c.theirs ≡ record { number = c.number; place = c.place }) × Judged cs

abbrev from : List ℕ → ℕ → ℕ → Case
from theirs number place = record { mine = ours; theirs = theirs; number = number; place = place }

-- Accepted: ours; question and owner, and the algorithm, in capitals; the owner a pointer to the question's name, and a label and a pointer behind it.
unfoldable pub accepted : List Case
accepted =
    from ours 0 0
    ∷ from (reply top new_capitals new_capitals (content algorithm_capitals 0 offered other)) 0 0
    ∷ from (reply top new_name (192 ∷ 12 ∷ []) plain) 0 0
    ∷ from (reply top new_name (1 ∷ 50 ∷ 192 ∷ 14 ∷ []) plain) 0 0
    ∷ record { mine = []; theirs = []; number = 0; place = 0 }
    ∷ []

pub all_accepted : Judged accepted
unfolding accepted judged
all_accepted = (refl, (refl, (refl, (refl, (refl, tt)))))

-- Header: another ID; QR 0; RCODE 1; one additional record less, and the KEY left out; one more.
unfoldable pub headers : List Case
headers =
    from (reply (headed 53 128 0 1 1) new_name new_name plain) 21 0
    ∷ from (reply (headed 52 0 0 1 1) new_name new_name plain) 21 2
    ∷ from (reply (headed 52 128 1 1 1) new_name new_name plain) 21 2
    ∷ from (headed 52 128 0 1 0 ++ (asked new_name ++ answer new_name 59 plain)) 21 10
    ∷ from (reply (headed 52 128 0 1 2) new_name new_name plain ++ key) 21 10
    ∷ []

pub header_differs : Judged headers
unfolding headers judged
header_differs = (refl, (refl, (refl, (refl, (refl, tt)))))

-- Records: another question, another owner; the same behind a compressed owner, at the place in theirs; the KEY before the TKEY; the KEY's data.
unfoldable pub records : List Case
records =
    from (reply top (0 ∷ []) new_name plain) 21 12
    ∷ from (reply top new_name (0 ∷ []) plain) 21 29
    ∷ from (reply top new_name (192 ∷ 12 ∷ []) (content algorithm 17 offered other)) 21 64
    ∷ from (top ++ (asked new_name ++ (key ++ answer new_name 59 plain))) 21 29
    ∷ from (top ++ (asked new_name ++ (answer new_name 59 plain ++ key_of (2 ∷ 0 ∷ 3 ∷ 2 ∷ [])))) 21 122
    ∷ []

pub record_differs : Judged records
unfolding records judged
record_differs = (refl, (refl, (refl, (refl, (refl, tt)))))

-- The TKEY's data: its error; its key data; its other data in another case; one octet less, which RDLENGTH shows; the algorithm compressed, or no name.
unfoldable pub tkeys : List Case
tkeys =
    from (reply top new_name new_name (content algorithm 17 offered other)) 21 75
    ∷ from (reply top new_name new_name (content algorithm 0 (1 ∷ 2 ∷ 3 ∷ 5 ∷ []) other)) 21 79
    ∷ from (reply top new_name new_name (content algorithm 0 offered other_capitals)) 21 85
    ∷ from (top ++ (asked new_name ++ (answer new_name 58 (content algorithm 0 (1 ∷ 2 ∷ 3 ∷ []) other) ++ key))) 21 50
    ∷ from (reply top new_name new_name (content (192 ∷ 12 ∷ replicate 11 0) 0 offered other)) 21 52
    ∷ from (reply top new_name new_name (content (replicate 13 64) 0 offered other)) 21 52
    ∷ []

pub tkey_differs : Judged tkeys
unfolding tkeys judged
tkey_differs = (refl, (refl, (refl, (refl, (refl, (refl, tt))))))

-- Refused before the fields: just one reply empty; 11 octets; a reply cut off, and one with an octet left over.
unfoldable pub refusals : List Case
refusals =
    from [] 21 0
    ∷ record { mine = []; theirs = ours; number = 21; place = 0 }
    ∷ from (replicate 11 0) 4 0
    ∷ from (top ++ asked new_name) 6 29
    ∷ from (ours ++ (0 ∷ [])) 6 126
    ∷ []

pub refused : Judged refusals
unfolding refusals judged
refused = (refl, (refl, (refl, (refl, (refl, tt)))))

-- ── With the listing in front ───────────────────────────────────────────────────────────────────────────────────────

-- The whole call, with every definition opened.
unfoldable pub compare_over : List ℕ → Given → List ℕ → List ℕ → Verdict
unfolding loading judged ours_of compare_on
compare_over listing g message theirs = compare_on listing g message theirs

-- `clock`, 1000 and 1: an empty table. A question of type 249 and class 255, unsigned, which is answered with RCODE 5.
abbrev clock_text : List ℕ
clock_text = 99 ∷ 108 ∷ 111 ∷ 99 ∷ 107 ∷ 9 ∷ 49 ∷ 48 ∷ 48 ∷ 48 ∷ 9 ∷ 49 ∷ 10 ∷ []

abbrev asks : ℕ → ℕ → List ℕ
asks bits rcode = 18 ∷ 52 ∷ bits ∷ rcode ∷ 0 ∷ 1 ∷ 0 ∷ 0 ∷ 0 ∷ 0 ∷ 0 ∷ 0 ∷ 0 ∷ 0 ∷ 249 ∷ 0 ∷ 255 ∷ []

pub record Over : Type 0 where
  pub listing : List ℕ
  pub time : ℕ
  pub theirs : List ℕ
  pub number : ℕ
  pub place : ℕ

abbrev AllOver : List Over → Type 0
AllOver [] = Unit {0}
AllOver (c ∷ cs) =
    (compare_over c.listing (unkeyed c.time false []) (asks 0 0) c.theirs ≡ record { number = c.number; place = c.place }) × AllOver cs

abbrev over : List ℕ → ℕ → List ℕ → ℕ → ℕ → Over
over listing time theirs number place = record { listing = listing; time = time; theirs = theirs; number = number; place = place }

-- Accepted; another RCODE; a time before the table's clock, so that ours is empty, and theirs is not, or is too; no line; a clock line of two fields; a second
-- line that is empty; a floor of 0.
unfoldable pub listings : List Over
listings =
    over clock_text 1000 (asks 128 5) 0 0
    ∷ over clock_text 1000 (asks 128 4) 21 2
    ∷ over clock_text 999 (asks 128 5) 21 0
    ∷ over clock_text 999 [] 0 0
    ∷ over [] 1000 (asks 128 5) 18 1
    ∷ over (99 ∷ 108 ∷ 111 ∷ 99 ∷ 107 ∷ 9 ∷ 49 ∷ 10 ∷ []) 1000 (asks 128 5) 18 1
    ∷ over (clock_text ++ (10 ∷ [])) 1000 (asks 128 5) 18 2
    ∷ over (99 ∷ 108 ∷ 111 ∷ 99 ∷ 107 ∷ 9 ∷ 49 ∷ 9 ∷ 48 ∷ 10 ∷ []) 1000 (asks 128 5) 1 0
    ∷ []

pub over_listings : AllOver listings
unfolding listings compare_over
over_listings = (refl, (refl, (refl, (refl, (refl, (refl, (refl, (refl, tt))))))))

-- ── Our own reply need not read ─────────────────────────────────────────────────────────────────────────────────────

-- Two questions, of which the second's name points to 13, into the first's type, where a label of 9 octets leads to the TSIG's owner at 23. It reads; but
-- "question octets copied" (01, "The reply") leaves the owner out, and in the reply the name is cut off at 23.
abbrev odd : List ℕ
odd = (18 ∷ 52 ∷ 0 ∷ 0 ∷ 0 ∷ 2 ∷ 0 ∷ 0 ∷ 0 ∷ 0 ∷ 0 ∷ 1 ∷ []) ++ ((0 ∷ 9 ∷ 0 ∷ 0 ∷ 1 ∷ 192 ∷ 13 ∷ 0 ∷ 1 ∷ 0 ∷ 1 ∷ []) ++ tsig 9 1200)

abbrev odd_reply : List ℕ
odd_reply = 18 ∷ 52 ∷ 128 ∷ 9 ∷ 0 ∷ 2 ∷ 0 ∷ 0 ∷ 0 ∷ 0 ∷ 0 ∷ 0 ∷ 0 ∷ 9 ∷ 0 ∷ 0 ∷ 1 ∷ 192 ∷ 13 ∷ 0 ∷ 1 ∷ 0 ∷ 1 ∷ []

pub is_odd : ours_of (after (empty_table 1000) opening) (unkeyed 1200 true []) odd ≡ odd_reply
unfolding ours_of opening after
is_odd = refl

pub odd_refused : judged odd_reply odd_reply ≡ record { number = 6; place = 23 }
unfolding judged
odd_refused = refl

-- Beside such a reply of ours, one that asks for another second name differs there, and not before.
pub odd_differs : judged odd_reply (18 ∷ 52 ∷ 128 ∷ 9 ∷ 0 ∷ 2 ∷ 0 ∷ 0 ∷ 0 ∷ 0 ∷ 0 ∷ 0 ∷ 0 ∷ 9 ∷ 0 ∷ 0 ∷ 1 ∷ 0 ∷ 0 ∷ 1 ∷ 0 ∷ 1 ∷ []) ≡ record { number = 21; place = 17 }
unfolding judged
odd_differs = refl
