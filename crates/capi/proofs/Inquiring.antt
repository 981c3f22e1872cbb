-- An inquiry whose answer is told. Assumes nothing.
use Prim.Native.Nat.{ℕ}
use mathlib.Core.List.{List, [], ◌∷◌}
use mathlib.Core.Path.{◌≡◌, refl, sym, ap, subst, ◌∙◌}
use native.Mathlib.Omega.{arith}
use lib.ListN.{get_or, replicate}
use Rattle.std.specs.Prelude.{Option, None, Some, Ok, Err, option_map}
use Rattle.model.specs.declared.Span.{Span}
use Rattle.model.specs.declared.FoundPair.{FoundPair}
use Rattle.model.specs.Calls.{DONE}
use Rattle.model.specs.Octets.{part}
use Rattle.model.specs.Inquiries.{Spelt, Asks, unasked_at}
use Rattle.records.specs.Record.{cut}
use Rattle.contents.specs.declared.Unread.TheVariants.{Size, Broken}
use Rattle.inquiries.specs.declared.Spelling.{Spelling}
use Rattle.inquiries.specs.Inquired.{Spells}
use Rattle.asking.specs.declared.Asked.{Asked}
use Rattle.asking.specs.declared.Unasked.{Unasked}
use Rattle.asking.specs.declared.Unasked.TheVariants.{Unread, NotQuery}
use Rattle.asking.specs.Asking.{refused_as, SpanIn, Shows}
use Rattle.capi.specs.Inquired.{FoundTold, SpeltTold, second_words, asked_words, unasked_words, KeyTold, AsksTold}

pub found_as : {a b : FoundPair} {words : List ℕ} {r : ℕ} → a ≡ b → FoundTold a words r → FoundTold b words r
found_as e t = rw e at t

pub spelt_told : {a : Spelt} {b b' words : List ℕ} {s : Spelling} {r : ℕ} → Spells a b b' s → r ≡ s.number → words ≡ s.length ∷ [] → SpeltTold a b b' words r
spelt_told v n w = record { left = v.left; written = w ∙ ap (λ (n : ℕ). n ∷ []) v.length; returned = n ∙ v.number }

key_told : (m : List ℕ) (second : Option Span) → SpanIn m second
    → KeyTold m (get_or (second_words second) 0 0) (get_or (second_words second) 1 0) (get_or (second_words second) 2 0) (option_map (cut m) second)
key_told m None within = (refl, refl, refl)
key_told m (Some p) within = (refl, refl, within)

pub asks_told : (m : List ℕ) (asks : Asks) (a : Asked) → Shows m asks (Ok a) → AsksTold m asks (asked_words a (second_words a.second)) 0
unfolding DONE
asks_told m asks a s =
    subst (λ (x : Asks). AsksTold m x (asked_words a (second_words a.second)) 0) (sym s.says)
    (record {
      ten = refl;
      numbers = refl;
      key = refl;
      within = s.within.0;
      second = key_told m a.second s.within.1;
      returned = refl;
      refused = λ n. absurd (n refl);
    })

-- a refusal
pub unasked_told : (m : List ℕ) (asks : Asks) (e : Unasked) → Shows m asks (Err e)
    → AsksTold m asks (get_or (unasked_words e) 1 0 ∷ replicate 9 0) (get_or (unasked_words e) 0 0)
unfolding unasked_at part
unasked_told m asks e s = subst (λ (x : Asks). AsksTold m x (get_or (unasked_words e) 1 0 ∷ replicate 9 0) (get_or (unasked_words e) 0 0)) (sym s.says) (by e)
  where
    by : (e : Unasked) → AsksTold m (refused_as e) (get_or (unasked_words e) 1 0 ∷ replicate 9 0) (get_or (unasked_words e) 0 0)
    by (Unread Size) = record { ten = refl; numbers = refl; key = refl; within = omega arith; second = (refl, refl, refl); returned = refl; refused = λ n. refl }
    by (Unread (Broken place)) = record { ten = refl; numbers = refl; key = refl; within = omega arith; second = (refl, refl, refl); returned = refl; refused = λ n. refl }
    by NotQuery = record { ten = refl; numbers = refl; key = refl; within = omega arith; second = (refl, refl, refl); returned = refl; refused = λ n. refl }
