-- What is promised of judging another server's replies: 02, CR 12. Assumes nothing.
use Rattle.std.specs.Prelude.{◌≡◌, List, ℕ}
use Rattle.model.specs.Tables.{Table}
use Rattle.model.specs.Judging.{Given}
use Rattle.model.specs.Calls.{DONE, DIFFERS}
use Rattle.model.specs.Loading.{loaded, load}
use Rattle.model.specs.Compare.{fields_of, SameMeaning, FirstAt, Proper, AllOctets, Allowed, verdict, compared, ours_of, compare_on, SameMessage, SameContents}

-- The listing loads, and theirs is allowed beside what our message call answers on its table.
pub record Accepted (listing : List ℕ) (g : Given) (message theirs : List ℕ) : Type 0 where
  pub table : Table
  pub loads : load listing ≡ loaded table
  pub allowed : Allowed (ours_of table g message) theirs

pub record Demand12 : Type 0 where
  -- "a reply is accepted exactly when it has the meaning of ours"; or neither server answers
  pub accepts : (ours theirs : List ℕ) → Allowed ours theirs → compared ours theirs ≡ verdict DONE 0
  pub accepts_only : (ours theirs : List ℕ) → (compared ours theirs).number ≡ DONE → Allowed ours theirs
  -- and so of the whole call
  pub call_accepts : (listing : List ℕ) (g : Given) (message theirs : List ℕ) → Accepted listing g message theirs → compare_on listing g message theirs ≡ verdict DONE 0
  pub call_only : (listing : List ℕ) (g : Given) (message theirs : List ℕ) → (compare_on listing g message theirs).number ≡ DONE → Accepted listing g message theirs
  -- to have the same meaning is an equivalence
  pub meaning_self : (a : List ℕ) → SameMeaning a a
  pub meaning_back : (a b : List ℕ) → SameMeaning a b → SameMeaning b a
  pub meaning_on : (a b c : List ℕ) → SameMeaning a b → SameMeaning b c → SameMeaning a c
  -- our own reply is accepted, where it reads: to one question it always does (`own_judged` of printed's OwnCall), to two it need not (`odd_refused` of model's
  -- CompareExamples)
  pub own : (r : List ℕ) → Proper r → compared r r ≡ verdict DONE 0
  -- "21 with the place in theirs of the first field that differs"
  pub first :
      (ours theirs : List ℕ)
      → Proper ours
      → Proper theirs
      → (place : ℕ)
      → compared ours theirs ≡ verdict DIFFERS place
      → FirstAt place (fields_of ours) (fields_of theirs)
  -- What is accepted shows a reader of messages the same, and what shows the same header, questions and records, the case of names apart, is accepted: no field
  -- is left out.
  pub reads_same : (ours theirs : List ℕ) (p : Proper ours) (q : Proper theirs) → (compared ours theirs).number ≡ DONE → SameMessage p.message q.message
  pub same_contents :
      (ours theirs : List ℕ) (p : Proper ours) (q : Proper theirs)
      → AllOctets ours
      → AllOctets theirs
      → (compared ours theirs ≡ verdict DONE 0 → SameContents ours theirs p.message q.message)
      × (SameContents ours theirs p.message q.message → compared ours theirs ≡ verdict DONE 0)
