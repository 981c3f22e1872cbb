-- Granted's key data and Resolver's reading call are of one mind. Assumes nothing.
use Prim.Native.Nat.{ℕ}
use mathlib.Core.Path.{◌≡◌, refl, sym, ◌∙◌}
use mathlib.Core.Bool.{Bool, true, false, cond, ◌&&◌, false≢true}
use Rattle.std.specs.Prelude.{Option, None, Some}
use Rattle.std.proofs.lemmas.Option.{none-some, same_Some}
use mathlib.Core.List.{List}
use mathlib.Core.Logic.{◌⊎◌, inl, inr}
use lib.Dec.{eqb}
use Rattle.model.specs.declared.Algorithm.{Algorithm}
use Rattle.model.specs.declared.Holding.{Holding}
use Rattle.model.specs.declared.Asking.{Asking}
use Rattle.model.specs.declared.Resolver.{Resolver}
use Rattle.model.specs.declared.Heard.{Heard}
use Rattle.model.specs.Octets.{Reading, stops, reads}
use Rattle.model.specs.Names.{algorithm_named}
use Rattle.model.specs.Messages.{Record, Message, read_message, of_type}
use Rattle.model.specs.Tsig.{Signature, unsigned, misplaced, well_placed, signature}
use Rattle.model.specs.Tkey.{tkey_type, only}
use Rattle.model.specs.Checks.{check, check_read}
use Rattle.model.specs.Calls.{size_ok}
use Rattle.model.specs.Resolver.{TkeyAnswer, answer_in, answer_of, answers, only_answer, offered_by, renewed_in, moved, moved_by, is_mode, closed, unheard, rcode_of, accepted, heard, signed_reply, awaited_reply, read_reply}
use Rattle.model.specs.Granted.{key_data_of, offered_data, renewed_data, moved_data, answered_data, only_data, accepted_data, no_data, signed_data, awaited_data, granted_data}
use Rattle.model.specs.declared.OpenRequest.{OpenRequest}

-- ── What is proved ──────────────────────────────────────────────────────────────────────────────────────────────────

-- The reply of these octets granted a renewal with the key data d: `tkey` is the only TKEY of its answer section, and the key that it names is the offered one.
pub record Granted (s : Resolver) (octets : List ℕ) (h : Heard) (d : List ℕ) : Type 0 where
  pub message : Message
  pub end : ℕ
  pub says : read_message octets ≡ reads message end
  pub tkey : Record
  pub single : only (of_type tkey_type (answers message.records)) ≡ Some tkey
  pub answer : TkeyAnswer
  pub holds : answer_of tkey ≡ Some answer
  pub algorithm : Algorithm
  pub named : algorithm_named answer.algorithm ≡ Some algorithm
  pub brings : d ≡ key_data_of tkey
  pub number : h.number ≡ 0
  pub state : h.state ≡ offered_by (closed s) answer (Some algorithm)

-- Nothing changes, but that the request may be closed.
abbrev pub Still : Resolver → Resolver → Type 0
Still s t = (t ≡ s) ⊎ (t ≡ closed s)

-- An adoption and a deletion move keys and bring no data.
abbrev pub asks_alone : Asking → Bool
asks_alone Asking.Ordinary = false
asks_alone Asking.Renewal = false
asks_alone Asking.Adoption = true
asks_alone Asking.Deletion = true

abbrev pub moves_alone : Option OpenRequest → Bool
moves_alone None = false
moves_alone (Some q) = asks_alone q.asking

-- Where there is key data, a renewal was granted, with the offered key of that TKEY; where there is none, the reply moved nothing, but for an adoption or a
-- deletion.
pub record Tied (s : Resolver) (octets : List ℕ) (h : Heard) (x : Option (List ℕ)) : Type 0 where
  pub granted : (d : List ℕ) → x ≡ Some d → Granted s octets h d
  pub kept : x ≡ None → moves_alone s.awaited ≡ false → Still s h.state

-- ── Proof, along the chain of checks ────────────────────────────────────────────────────────────────────────────────

nothing : (s : Resolver) (octets : List ℕ) (h : Heard) → (moves_alone s.awaited ≡ false → Still s h.state) → Tied s octets h None
nothing s octets h k = record { granted = λ d e. absurd (none-some d e); kept = λ e. k }

module _ (s : Resolver) (octets : List ℕ) where
  by_check : (n : ℕ) (b : Bool) (h : Heard) (d : Option (List ℕ)) → Tied s octets h d → Tied s octets (check (unheard s) n b h) (check no_data n b d)
  unfolding unheard no_data
  by_check n true h d t = t
  by_check n false h d t = nothing s octets (unheard s n) (λ e. inl refl)

  -- the message m was read, and it answers the open request
  module _ (m : Message) (end : ℕ) (says : read_message octets ≡ reads m end) (id : ℕ) (asking : Asking) (awaits : s.awaited ≡ Some (record { id = id; asking = asking }))
      (due : Bool) where
    abbrev heard_as : Resolver → Heard
    heard_as after = record { number = 0; due = due; state = after }

    closes : Tied s octets (heard_as (closed s)) None
    closes = nothing s octets (heard_as (closed s)) (λ e. inr refl)

    module _ (r : Record) (single : only (of_type tkey_type (answers m.records)) ≡ Some r) where
      module _ (t : TkeyAnswer) (holds : answer_of r ≡ Some t) where
        by_name : (n : Option Algorithm) → algorithm_named t.algorithm ≡ n → Tied s octets (heard_as (offered_by (closed s) t n)) (offered_data r n)
        by_name None e = closes
        by_name (Some g) e = record {
          granted = λ d f.
              record {
                message = m;
                end = end;
                says = says;
                tkey = r;
                single = single;
                answer = t;
                holds = holds;
                algorithm = g;
                named = e;
                brings = sym (same_Some (key_data_of r) d f);
                number = refl;
                state = refl;
              };
          kept = λ f. absurd (none-some (key_data_of r) (sym f));
        }

        by_holding : (h : Holding) → Tied s octets (heard_as (renewed_in h (closed s) t)) (renewed_data h r t)
        by_holding Holding.Nothing = closes
        by_holding Holding.Adopted = by_name (algorithm_named t.algorithm) refl
        by_holding Holding.AdoptedAndOffered = by_name (algorithm_named t.algorithm) refl

        by_asking : (a : Asking) → asking ≡ a → Tied s octets (heard_as (moved a (closed s) t)) (moved_data a s r t)
        unfolding closed
        by_asking Asking.Ordinary e = closes
        by_asking Asking.Renewal e = by_holding s.holding
        by_asking Asking.Adoption e = nothing s octets _ (λ f. absurd (false≢true (sym f ∙ rw (awaits, e) refl)))
        by_asking Asking.Deletion e = nothing s octets _ (λ f. absurd (false≢true (sym f ∙ rw (awaits, e) refl)))

        by_mode : (b : Bool) → Tied s octets (heard_as (cond b (moved asking (closed s) t) (closed s))) (cond b (moved_data asking s r t) None)
        by_mode true = by_asking asking refl
        by_mode false = closes

      by_answer : (x : Option TkeyAnswer) → answer_of r ≡ x → Tied s octets (heard_as (moved_by asking (closed s) x)) (answered_data asking s r x)
      by_answer None e = closes
      by_answer (Some t) e = by_mode t e (is_mode asking t.mode && eqb t.error 0)

    by_only : (x : Option Record) → only (of_type tkey_type (answers m.records)) ≡ x
        → Tied s octets (heard_as (moved_by asking (closed s) (answer_in x))) (only_data asking s x)
    by_only None e = closes
    by_only (Some r) e = by_answer r e (answer_of r) refl

    by_errors : (b : Bool)
        → Tied s octets (heard_as (cond b (moved_by asking (closed s) (only_answer m)) (closed s)))
        (cond b (only_data asking s (only (of_type tkey_type (answers m.records)))) None)
    unfolding only_answer
    by_errors true = by_only (only (of_type tkey_type (answers m.records))) refl
    by_errors false = closes

  module _ (good : Bool) (m : Message) (end : ℕ) (says : read_message octets ≡ reads m end) where
    by_signature : (id : ℕ) (asking : Asking) → s.awaited ≡ Some (record { id = id; asking = asking })
        → (g : Signature) → Tied s octets (signed_reply s asking octets m good g) (signed_data s asking octets m good g)
    unfolding heard accepted accepted_data unheard no_data
    by_signature id asking e unsigned = nothing s octets _ (λ f. inl refl)
    by_signature id asking e misplaced = nothing s octets _ (λ f. inl refl)
    by_signature id asking e (well_placed t) =
        by_check _ good (heard s asking octets m t) (accepted_data s asking octets m t)
        (by_errors m end says id asking e _ (m.response && (eqb (rcode_of octets) 0 && eqb t.error 0)))

    by_request : (o : Option OpenRequest) → s.awaited ≡ o → Tied s octets (awaited_reply s o octets good m) (awaited_data s o octets good m)
    unfolding unheard no_data
    by_request None e = nothing s octets _ (λ f. inl refl)
    by_request (Some q) e =
        by_check _ (eqb m.id q.id) (signed_reply s q.asking octets m good (signature m.records)) (signed_data s q.asking octets m good (signature m.records))
        (by_signature q.id q.asking e (signature m.records))

  by_reading_lem : (good : Bool) (n : ℕ) (x : Reading Message) → read_message octets ≡ x
      → Tied s octets (check_read (unheard s) n x (awaited_reply s s.awaited octets good)) (check_read no_data n x (awaited_data s s.awaited octets good))
  unfolding unheard no_data
  by_reading_lem good n (stops place) e = nothing s octets _ (λ f. inl refl)
  by_reading_lem good n (reads m end) e = by_request good m end e s.awaited refl

-- THE LAW.
pub granted_tied : (s : Resolver) (good : Bool) (octets : List ℕ) → Tied s octets (read_reply s good octets) (granted_data s good octets)
unfolding read_reply granted_data
granted_tied s good octets = by_check s octets _ (size_ok octets) _ _ (by_reading_lem s octets good _ (read_message octets) refl)
