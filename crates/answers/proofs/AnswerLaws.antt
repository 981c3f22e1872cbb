-- The TKEY of a reply, by what was read of a record and of its data. Assumes nothing.
use Prim.Native.Nat.{ℕ, ◌+◌, ◌≤◌, ◌<◌}
use mathlib.Core.Path.{◌≡◌, ap, sym, ◌∙◌}
use mathlib.Core.List.{List}
use native.Mathlib.Omega.{arith}
use lib.ListN.{length, take}
use Rattle.model.specs.declared.Span.{Span}
use Rattle.model.specs.Octets.{u16_at, part, reads}
use Rattle.model.specs.Messages.{Record, record_at}
use Rattle.model.specs.Resolver.{answer_in}
use Rattle.std.specs.Prelude.{Result, Err, Ok, Option, None, Some}
use Rattle.messages.specs.declared.Kept.{Kept}
use Rattle.messages.specs.declared.Kept.TheVariants.{Once}
use Rattle.records.specs.Record.{Within, cut, shown as shownRecord, RecordRead as Read}
use Rattle.messages.specs.Scan.{key_by}
use Rattle.records.proofs.Parts.{part_length, part_part}
use Rattle.tkey.specs.Fields.{answer_laid_out, LayoutRead}
use Rattle.answers.specs.declared.AnswerFields.{AnswerFields}
use Rattle.answers.specs.Answer.{FieldsRead, RecordRead, AnswerRead}
use Rattle.records.specs.declared.Found.{Found}
use Rattle.answers.specs.declared.AnswerFound.{AnswerFound}
use Rattle.tkey.specs.declared.Layout.{Layout}

module _ (m owner : List ℕ) (place : ℕ) (f : Result Found ℕ) (q : Read m place owner f) where
  pub a_bad : (p : ℕ) → f ≡ Err p → RecordRead m place owner None
  a_bad p e = record { says = λ section. simp (q.says section, e); fits = tt }

  module _ (len kind class ttl : ℕ) (content : Span) (e : f ≡ Ok (record { len = len; kind = kind; class = class; ttl = ttl; content = content })) where
    abbrev held : ℕ → Record
    held section = record { section = section; owner = take len owner; type = kind; class = class; ttl = ttl; content = cut m content }

    there : (section : ℕ) → record_at m section place ≡ reads (held section) (content.from + content.size)
    there section = q.says section ∙ ap (λ (x : Result Found ℕ). shownRecord m section x owner) e

    bounds : (len ≤ 255) × (kind < 65536) × (class < 65536) × (ttl < 4294967296) × (content.size < 65536) × Within m content
    bounds = rw e at q.bounds

    pub a_within : Within m content
    a_within = bounds.5

    -- the data is d, and its layout l
    module _ (d : List ℕ) (here : d ≡ cut m content) (l : Option Layout) (n : LayoutRead d l) where
      goes : (section : ℕ) → (x : Option Layout) → l ≡ x → answer_in (key_by (record_at m section place)) ≡ answer_laid_out (held section) d x
      goes section x h = ap (λ r. answer_in (key_by r)) (there section) ∙ n.answers (held section) (sym here) ∙ ap (answer_laid_out (held section) d) h

      pub a_ill : l ≡ None → RecordRead m place owner None
      a_ill h = record { says = λ section. goes section None h; fits = tt }

      module _ (next count size : ℕ) (h : l ≡ Some (record { next = next; count = count; size = size })) where
        pub a_fits : (next ≤ 255) × (count ≡ u16_at d (next + 12)) × (count < 65536) × (size < 65536) × (next + 14 + count + 2 + size ≡ length d)
        a_fits = rw h at n.fits

        pub a_one : (t : AnswerFields) → FieldsRead d content.from next t → RecordRead m place owner (Some (record { name = len; fields = t }))
        a_one t r =
            let b = a_fits in
            let w = a_within in
            let i = part_length m content a_within d here in
            let a : part d 0 next ≡ part m content.from next = part_part m content a_within d here 0 content.from next (omega arith) (omega arith) in
            record {
              says = λ section. goes section (Some (record { next = next; count = count; size = size })) h ∙ simp (r.says, a);
              fits = (
                bounds.0,
                rw r.says (record {
                  algorithm = omega arith;
                  short = omega arith;
                  mode = rw r.says at r.mode;
                  error = rw r.says at r.error;
                }),
              );
            }

pub by_once : (m owner : List ℕ) (k : Kept) (section place : ℕ) → k ≡ Once section place → (f : Option AnswerFound) → RecordRead m place owner f → AnswerRead m k owner f
by_once m owner k section place e f r = record { says = simp e (r.says section); fits = r.fits }
