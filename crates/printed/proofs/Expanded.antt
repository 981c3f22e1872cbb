-- A name that was read in a message, written out, is a wire name; and the first name of a message holds no pointer. Assumes nothing.
use Prim.Native.Nat.{ℕ, zero, suc, ◌+◌, ◌-◌, ◌*◌, ◌≤◌, ◌<◌}
use mathlib.Core.Path.{◌≡◌, refl, ap, sym, subst, ◌∙◌}
use mathlib.Core.Bool.{Bool, true, false, cond}
use mathlib.Core.List.{List, [], ◌∷◌, ◌++◌, append_assoc}
use native.Mathlib.Omega.{arith}
use borrow.Author.Tests.{ltb-false, le-leb}
use lib.Dec.{leb, ltb}
use lib.ListN.{length, get_or, take, drop, length-append, length-drop, get_or-append}
use lib.Seq.{length-take-le, get_or-take, get_or-drop}
use Rattle.model.specs.Octets.{Reading, stops, reads}
use Rattle.model.specs.Names.{Item, fails, ends, label, points, target_at, pointer_at, octet_at, item_at, ends_at, step, walk, read_on, read_name, read_plain, wire_name}
use Rattle.model.proofs.Reader.{Fine, fine, enough, Within, read_within}
use Rattle.printed.proofs.Moved.{Spelled, spelled, last_part, whole, Stands, at_end, at_label, carried, stands_wire}

-- ── The first name ──────────────────────────────────────────────────────────────────────────────────────────────────

-- a pointer of a run that began at 12 leads nowhere, as one of a run that began at 0
target_first : (at t : ℕ) → target_at 12 at t ≡ target_at 0 at t
unfolding target_at
target_first at t = go (ltb t 12) refl
  where
    go : (b : Bool) → ltb t 12 ≡ b → cond b (fails at) (cond (leb 12 t) (fails at) (points t)) ≡ cond b (fails at) (cond (leb 0 t) (fails at) (points t))
    go true e = refl
    go false e = rw (le-leb 12 t (ltb-false t 12 e), le-leb 0 t (omega arith)) refl

item_first : (m : List ℕ) (at used : ℕ) → item_at m 12 at used ≡ item_at m 0 at used
unfolding item_at octet_at pointer_at
item_first m at used = rw (target_first at ((get_or m at 0 - 192) * 256 + get_or m (at + 1) 0)) refl

step_first : (k : ℕ) (m : List ℕ) → ((at : ℕ) (pre : List ℕ) → walk k m 12 at pre ≡ walk k m 0 at pre) → (at : ℕ) (pre : List ℕ) (i : Item)
    → step (walk k m) m 12 at pre i ≡ step (walk k m) m 0 at pre i
step_first k m f at pre (fails place) = refl
step_first k m f at pre ends = refl
step_first k m f at pre (label n) = f (at + (n + 1)) (pre ++ take (n + 1) (drop at m))
step_first k m f at pre (points target) = refl

walk_first : (k : ℕ) (m : List ℕ) (at : ℕ) (pre : List ℕ) → walk k m 12 at pre ≡ walk k m 0 at pre
unfolding walk
walk_first zero m at pre = refl
walk_first (suc k) m at pre = ap (step (walk k m) m 12 at pre) (item_first m at (length pre)) ∙ step_first k m (walk_first k m) at pre (item_at m 0 at (length pre))

pub first_plain : (m : List ℕ) → read_name m 12 ≡ read_plain m 12
unfolding read_name read_plain read_on
first_plain m = walk_first (12 + 255 - 0) m 12 [] ∙ enough (12 + 255 - 0) (0 + 255 - 0) m 0 12 [] (omega arith) (omega arith) (omega arith)

-- ── Written out ─────────────────────────────────────────────────────────────────────────────────────────────────────

-- behind what was read before, a name that stands
record Spells (pre octets : List ℕ) : Type 0 where
  rest : List ℕ
  is : octets ≡ pre ++ rest
  stands : Stands rest 0 (length rest)

-- a label, and a name behind it
labelled : (l r : List ℕ) (n : ℕ) → length l ≡ n + 1 → n ≡ get_or l 0 0 → 0 < n → n < 64 → Stands r 0 (length r) → Stands (l ++ r) 0 (length (l ++ r))
labelled l r n size is lo hi s =
    let e : n ≡ get_or (l ++ r) 0 0 = is ∙ sym (get_or-append l r 0 0 (omega arith)) in
    let z : 0 + (n + 1) ≡ n + 1 = omega arith in
    let room : n + 1 + length r ≤ length (l ++ r) = rw (length-append l r) (omega arith) in
    let there : Stands (l ++ r) (0 + (n + 1)) (length r) = rw z (carried (l ++ r) (n + 1) s room (whole r ∙ sym (last_part l r (n + 1) size))) in
    let long : length (l ++ r) ≡ n + 1 + length r = rw (length-append l r, size) refl in
    rw long (at_label (l ++ r) 0 n (length r) e lo hi there)

spells_front : (pre more octets : List ℕ) (s : Spells (pre ++ more) octets) → Stands (more ++ s.rest) 0 (length (more ++ s.rest)) → Spells pre octets
spells_front pre more octets s t = record { rest = more ++ s.rest; is = s.is ∙ append_assoc pre more s.rest; stands = t }

ends_inside : (next : ℕ) (r : Reading (List ℕ)) (octets : List ℕ) (end : ℕ) (P : Type 0) → ends_at next r ≡ reads octets end → ((place : ℕ) → r ≡ reads octets place → P) → P
ends_inside next (stops place) octets end P e f = let z : ◌≡◌ {A = ℕ} 0 1 = cc in absurd (omega arith)
ends_inside next (reads o place) octets end P e f = let i : o ≡ octets = cc in f place (ap (λ (x : List ℕ). reads x place) i)

module _ (k : ℕ) (m : List ℕ) (on : (start at : ℕ) (pre octets : List ℕ) (next : ℕ) → walk k m start at pre ≡ reads octets next → Spells pre octets) where
  by_item : (start at : ℕ) (pre octets : List ℕ) (next : ℕ) (i : Item) → Fine m start at (length pre) i → Spelled (get_or m at 0) i
      → step (walk k m) m start at pre i ≡ reads octets next → Spells pre octets
  by_item start at pre octets next (fails place) f s e = let z : ◌≡◌ {A = ℕ} 0 1 = cc in absurd (omega arith)
  by_item start at pre octets next ends f s e =
      let i : octets ≡ pre ++ (0 ∷ []) = cc in
      record { rest = 0 ∷ []; is = i; stands = at_end (0 ∷ []) 0 (omega arith) refl }
  by_item start at pre octets next (label n) f s e =
      let l = take (n + 1) (drop at m) in
      let r = on start (at + (n + 1)) (pre ++ l) octets next e in
      let room : n + 1 ≤ length (drop at m) = rw length-drop (omega arith) in
      let size : length l ≡ n + 1 = length-take-le (n + 1) (drop at m) room in
      let z : at + 0 ≡ at = omega arith in
      let head : get_or l 0 0 ≡ get_or m at 0 = get_or-take (n + 1) (drop at m) 0 0 (omega arith) ∙ get_or-drop at m 0 0 ∙ ap (λ (j : ℕ). get_or m j 0) z in
      spells_front pre l octets r (labelled l r.rest n size (s.0 ∙ sym head) s.1 s.2 r.stands)
  by_item start at pre octets next (points target) f s e =
      ends_inside (at + 2) (walk k m target target pre) octets next (Spells pre octets) e (λ place h. on target target pre octets place h)

spells : (k : ℕ) (m : List ℕ) (start at : ℕ) (pre octets : List ℕ) (next : ℕ) → walk k m start at pre ≡ reads octets next → Spells pre octets
unfolding walk
spells zero m start at pre octets next e = let z : ◌≡◌ {A = ℕ} 0 1 = cc in absurd (omega arith)
spells (suc k) m start at pre octets next e =
    by_item k m (spells k m) start at pre octets next (item_at m start at (length pre)) (fine m start at (length pre)) (spelled m start at (length pre)) e

-- A name that was read, compressed or not, is a wire name when it is written out.
pub name_wire : (m : List ℕ) (at : ℕ) (octets : List ℕ) (next : ℕ) → read_name m at ≡ reads octets next → wire_name octets ≡ true
unfolding read_name read_on
name_wire m at octets next e =
    let s = spells (at + 255 - 0) m at at [] octets next e in
    let w = subst (Within m) e (read_within m at at [] (omega arith)) in
    let i : octets ≡ s.rest = s.is in
    stands_wire octets (rw i s.stands) w.2
