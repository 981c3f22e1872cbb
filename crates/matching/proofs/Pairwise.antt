-- Two names compared where they lie, label by label: the whole are the same where what is left of each is. Assumes nothing.
use Prim.Native.Nat.{ℕ, ◌+◌, ◌-◌, ◌<◌, ◌≤◌}
use mathlib.Core.Path.{◌≡◌, refl, ap, sym, ◌∙◌}
use mathlib.Core.Bool.{Bool, true, false}
use mathlib.Core.List.{List, [], ◌∷◌, ◌++◌}
use mathlib.Core.Logic.{⊎_elim}
use native.Mathlib.Omega.{arith}
use lib.ListN.{length, take, drop, get_or, length-append, length-drop}
use lib.Seq.{length-take-le, drop_at, get_or-drop}
use Rattle.model.specs.Octets.{Reading, stops, reads}
use Rattle.model.specs.Names.{Item, fails, ends, label, points, item_at, ends_at, step, read_on, read_name, same_name}
use Rattle.model.proofs.NameLaws.{same_length, same_sym}
use Rattle.model.proofs.Items.{item_ends}
use Rattle.model.proofs.Reader.{lt_or_le, Keeps, read_keeps, unfolds}
use Rattle.matching.specs.Compare.{part_is, same_read, Alike, Headed, Labelled, Passing, PassedBy}
use Rattle.std.specs.Prelude.{None, Some}
use Rattle.compression.proofs.Laws.{item_fine}
use Rattle.names.proofs.Same.{apart, in_parts}
use Rattle.matching.proofs.Comparing.{ends_alike, behind, further, head, other}

-- one step, by what stands here
stepped : (m : List ℕ) (start place used : ℕ) (before : List ℕ) {e : Item} → used < 255 → length before ≡ used → item_at m start place used ≡ e
    → read_on m start place before ≡ step (read_on m) m start place before e
stepped m start place used before few l is = unfolds m start place before (omega arith) ∙ rw (l, is) refl

-- ── The label at a place ────────────────────────────────────────────────────────────────────────────────────────────

module _ (m : List ℕ) (start place used n : ℕ) (e : item_at m start place used ≡ label n) where
  abbrev pub seg : List ℕ
  seg = take (n + 1) (drop place m)

  enough : n + 1 ≤ length (drop place m)
  enough = rw length-drop (omega (arith, (item_fine m start place used e).1))

  pub seg_length : length seg ≡ n + 1
  seg_length = length-take-le (n + 1) (drop place m) enough

  pub seg_headed : Headed (length seg) seg
  seg_headed =
      let f = item_fine m start place used e in
      let z : place + 0 ≡ place = omega arith in
      let h : n + 1 ≡ get_or (drop place m) 0 0 + 1 = rw (get_or-drop place m 0 0, z) (ap (λ (k : ℕ). k + 1) f.2) in
      rw seg_length (head (drop place m) (n + 1) (omega (arith, enough)) h (omega (arith, f.3)))

  -- a label is not empty, as 0 ends a name
  some : 0 < n
  some =
      ⊎_elim
      (λ (z : n < 1). let f = item_fine m start place used e in
      let i = item_ends m start place used (omega (arith, f.1)) (get_or m place 0) refl (omega (arith, f.2)) in
      let x : ◌≡◌ {A = ℕ} 0 1 = cc in
      absurd (omega arith))
      (λ (l : 1 ≤ n). l)
      (lt_or_le n 1)

  pub exact : place + (n + 1) - place ≡ n + 1
  exact = omega arith

  pub seg_labelled : Labelled (take (place + (n + 1) - place) (drop place m))
  seg_labelled = rw exact (record { headed = seg_headed; some = omega (arith, some, seg_length) })

-- ── Passing over a label ────────────────────────────────────────────────────────────────────────────────────────────

module _ (m : List ℕ) (first at used start place : ℕ) (few : used < 255)
    (same : (before : List ℕ) → length before ≡ used → Alike (read_on m first at before) (read_on m start place before)) where
  one : {e : Item} → item_at m start place used ≡ e → (before : List ℕ) → length before ≡ used → Alike (read_on m first at before) (step (read_on m) m start place before e)
  one is before l f b = same before l f b ∙ ap (λ (r : Reading (List ℕ)). part_is f r b) (stepped m start place used before few l is)

  pub pass_points : (t : ℕ) → item_at m start place used ≡ points t → (before : List ℕ) → length before ≡ used → Alike (read_on m first at before) (read_on m t t before)
  pass_points t e before l f b = one e before l f b ∙ ends_alike (place + 2) (read_on m t t before) f b

  module _ (l : List ℕ) (before : List ℕ) (size : length before ≡ used) where
    pub pass_fails : (p : ℕ) → item_at m start place used ≡ fails p → PassedBy m before (read_on m first at before) used l None
    pass_fails p e rest = one e before size (drop used) (l ++ rest)

    pub pass_ends : item_at m start place used ≡ ends → Labelled l → PassedBy m before (read_on m first at before) used l None
    pass_ends e h rest =
        one e before size (drop used) (l ++ rest)
        ∙ rw (drop_at before (0 ∷ []) used size) (apart (0 ∷ []) (l ++ rest) (λ q. omega (arith, length-append l rest, h.some, q)))

    module _ (n : ℕ) (e : item_at m start place used ≡ label n) where
      abbrev own : List ℕ
      own = take (n + 1) (drop place m)

      pub pass_on : same_name (take (place + (n + 1) - place) (drop place m)) l ≡ true → PassedBy m before (read_on m first at before) used l (Some (record { start = start; place = (place + (n + 1)) }))
      pass_on t = record { own = own; same = rw (exact m start place used n e) at t; says = one e before size }

      never : (r : Reading (List ℕ)) → Keeps (before ++ own) r → Labelled l → same_name own l ≡ false → (rest : List ℕ) → part_is (drop used) r (l ++ rest) ≡ false
      never (stops p) k h f rest = refl
      never (reads octets next) k h f rest =
          ap (λ (x : List ℕ). same_name x (l ++ rest)) (ap (drop used) k.is ∙ behind before own used (n + 1) size (seg_length m start place used n e) k.rest)
          ∙ other own l k.rest rest (seg_headed m start place used n e) h.headed f

      pub pass_other : same_name (take (place + (n + 1) - place) (drop place m)) l ≡ false → Labelled l → PassedBy m before (read_on m first at before) used l None
      pass_other f h rest =
          one e before size (drop used) (l ++ rest)
          ∙ never (read_on m start (place + (n + 1)) (before ++ own)) (read_keeps m start (place + (n + 1)) (before ++ own)) h (rw (exact m start place used n e) at f) rest

-- ── Two names ───────────────────────────────────────────────────────────────────────────────────────────────────────

-- what follows the first `len` octets of two names that were read is the same
abbrev pub same_on : ℕ → Reading (List ℕ) → Reading (List ℕ) → Bool
same_on len (stops place) s = false
same_on len (reads octets next) s = part_is (drop len) s (drop len octets)

-- what is left: of the one it is read on at `place`, of the other at `there`, each after `len` octets
pub record Both (a b : List ℕ) (i j start place len first there : ℕ) : Type 0 where
  pub few : len < 255
  pub before : List ℕ
  pub counted : length before ≡ len
  pub others : List ℕ
  pub counted_others : length others ≡ len
  pub says : same_read (read_name a i) (read_name b j) ≡ same_on len (read_on a start place before) (read_on b first there others)

pub both_starts : (a b : List ℕ) (i j : ℕ) → Both a b i j i i 0 j j
unfolding read_name
both_starts a b i j =
    record { few = omega arith; before = []; counted = refl; others = []; counted_others = refl; says = go (read_on a i i []) (read_on b j j []) }
  where
    go : (r s : Reading (List ℕ)) → same_read r s ≡ same_on 0 r s
    go (stops p) s = refl
    go (reads n p) (stops q) = refl
    go (reads n p) (reads k q) = same_sym n k

module _ (a b : List ℕ) (i j start place len first there : ℕ) (g : Both a b i j start place len first there) where
  abbrev left_over : Reading (List ℕ)
  left_over = read_on b first there g.others

  here : {e : Item} → item_at a start place len ≡ e → same_read (read_name a i) (read_name b j) ≡ same_on len (step (read_on a) a start place g.before e) left_over
  here is = g.says ∙ ap (λ (r : Reading (List ℕ)). same_on len r left_over) (stepped a start place len g.before g.few g.counted is)

  pub both_fails : (p : ℕ) → item_at a start place len ≡ fails p → false ≡ same_read (read_name a i) (read_name b j)
  both_fails p e = sym (here e)

  pub both_ends : item_at a start place len ≡ ends → part_is (drop len) left_over (0 ∷ []) ≡ same_read (read_name a i) (read_name b j)
  both_ends e = sym (here e ∙ rw (drop_at g.before (0 ∷ []) len g.counted) refl)

  ends_on : (next : ℕ) (r s : Reading (List ℕ)) → same_on len (ends_at next r) s ≡ same_on len r s
  ends_on next (stops p) s = refl
  ends_on next (reads n p) s = refl

  pub both_points : (t : ℕ) → item_at a start place len ≡ points t → Both a b i j t t len first there
  both_points t e =
      record {
        few = g.few;
        before = g.before;
        counted = g.counted;
        others = g.others;
        counted_others = g.counted_others;
        says = here e ∙ ends_on (place + 2) (read_on a t t g.before) left_over;
      }

  module _ (n : ℕ) (e : item_at a start place len ≡ label n) where
    abbrev mine : List ℕ
    mine = take (n + 1) (drop place a)

    abbrev rest : Reading (List ℕ)
    rest = read_on a start (place + (n + 1)) (g.before ++ mine)

    in_front : {octets : List ℕ} (k : Keeps (g.before ++ mine) (reads octets 0)) → drop len octets ≡ mine ++ k.rest
    in_front k = ap (drop len) k.is ∙ behind g.before mine len (n + 1) g.counted (seg_length a start place len n e) k.rest

    pub both_other : PassedBy b g.others left_over len (take (place + (n + 1) - place) (drop place a)) None → false ≡ same_read (read_name a i) (read_name b j)
    both_other p = sym (here e ∙ go rest (read_keeps a start (place + (n + 1)) (g.before ++ mine)))
      where
        p₁ : (more : List ℕ) → part_is (drop len) left_over (mine ++ more) ≡ false
        p₁ = rw (exact a start place len n e) at p

        go : (r : Reading (List ℕ)) → Keeps (g.before ++ mine) r → same_on len r left_over ≡ false
        go (stops q) k = refl
        go (reads octets q) k = ap (part_is (drop len) left_over) (in_front k) ∙ p₁ k.rest

    module _ (run next : ℕ) (p : Passing b g.others left_over (take (place + (n + 1) - place) (drop place a)) run next) where
      abbrev theirs : Reading (List ℕ)
      theirs = read_on b run next (g.others ++ p.own)

      same_own : same_name p.own mine ≡ true
      same_own = rw (exact a start place len n e) at p.same

      own_size : length p.own ≡ n + 1
      own_size = same_length p.own mine same_own ∙ seg_length a start place len n e

      on_others : (s : Reading (List ℕ)) → Keeps (g.others ++ p.own) s → (more : List ℕ) → part_is (drop len) s (mine ++ more) ≡ part_is (drop (len + (n + 1))) s more
      on_others (stops q) k more = refl
      on_others (reads octets q) k more =
          ap (λ (x : List ℕ). same_name x (mine ++ more)) (ap (drop len) k.is ∙ behind g.others p.own len (n + 1) g.counted_others own_size k.rest)
          ∙ in_parts p.own k.rest mine more (own_size ∙ sym (seg_length a start place len n e))
          ∙ rw same_own refl
          ∙ ap (λ (x : List ℕ). same_name x more) (sym (ap (drop (len + (n + 1))) k.is ∙ further g.others p.own len (n + 1) g.counted_others own_size k.rest))

      on : (r : Reading (List ℕ)) → Keeps (g.before ++ mine) r → same_on len r left_over ≡ same_on (len + (n + 1)) r theirs
      on (stops q) k = refl
      on (reads octets q) k =
          p.says (drop len) (drop len octets)
          ∙ ap (part_is (drop len) theirs) (in_front k)
          ∙ on_others theirs (read_keeps b run next (g.others ++ p.own)) k.rest
          ∙ ap (part_is (drop (len + (n + 1))) theirs) (sym (ap (drop (len + (n + 1))) k.is ∙ further g.before mine len (n + 1) g.counted (seg_length a start place len n e) k.rest))

      pub both_on : Both a b i j start (place + (n + 1)) (len + (n + 1)) run next
      both_on =
          record {
            few = omega (arith, (item_fine a start place len e).0);
            before = g.before ++ mine;
            counted = length-append g.before mine ∙ omega (arith, g.counted, seg_length a start place len n e);
            others = g.others ++ p.own;
            counted_others = length-append g.others p.own ∙ omega (arith, g.counted_others, own_size);
            says = here e ∙ on rest (read_keeps a start (place + (n + 1)) (g.before ++ mine));
          }
