-- What the message call writes into the buffer, and how a review ends. Assumes nothing.
use Prim.Native.Nat.{ℕ, ◌≤◌}
use mathlib.Core.Bool.{Bool}
use Rattle.std.specs.Prelude.{Option}
use mathlib.Core.Path.{◌≡◌, sym, ap, ◌∙◌}
use mathlib.Core.List.{List}
use native.Mathlib.Omega.{arith}
use lib.ListN.{length, take, drop}
use lib.Seq.{take_at}
use Rattle.model.specs.declared.Answer.{Answer}
use Rattle.model.specs.declared.Verdict.{Verdict}
use Rattle.model.specs.Octets.{put}
use Rattle.model.specs.Tables.{Table}
use Rattle.model.specs.Judging.{Given}
use Rattle.model.specs.Calls.{DONE, TABLE, LINE, message, called, message_on, buffer_after}
use Rattle.model.specs.Loading.{Loaded, no_line, no_table, loaded, load, load_number, load_line}
use Rattle.model.specs.Compare.{verdict, ours_of, compared, judged_on, compare_on}
use Rattle.model.proofs.Buffers.{put_length}
use Rattle.model.proofs.CallLaws.{counted}
use Rattle.guarantees.proofs.Refusals.{message_fits}
use Rattle.store.specs.Layout.{table_of}
use Rattle.server.specs.Serve.{Answered}
use Rattle.loading.specs.declared.Ended.{Ended}
use Rattle.loading.specs.Loads.{lends, load_into, end_of, table_after, Loads}
use Rattle.loading.proofs.Ends.{lends_both}
use Rattle.reviewing.specs.Ours.{Fills}

-- The octets of the answer's length are the reply, and lie in the buffer.
pub ours_fill :
    (g : Given) (m : List ℕ) {own : Option ℕ} {w s w' b b' : List ℕ} {a : Answer} → length b ≡ 65535
    → Answered (λ t. message_on t g (length b) m) own w s w' b b' a → Fills (ours_of (table_of w s) g m) b' a.length
unfolding message_on ours_of buffer_after put
ours_fill g m {own} {w} {s} {w'} {b} {b'} {a} long v =
    let c = message g (length b) m in
    let ours : List ℕ = (called (table_of w s) c).outcome.reply in
    let fits : length ours ≤ length b = message_fits (table_of w s) g (length b) m in
    let n : a.length ≡ length ours = ap (λ (a : Answer). a.length) v.answers ∙ counted (table_of w s) c in
    let l : length b' ≡ length b = ap length v.replies ∙ put_length ours b fits in
    let z : Fills (called (table_of w s) (message g (length b) m)).outcome.reply b' a.length =
    record { within = omega arith; is = ap (take a.length) v.replies ∙ take_at ours (drop (length ours) b) a.length (sym n) } in
    rw long at z

-- A listing that does not load, and one that does.
module _ {listing w s w' s' : List ℕ} {e : Ended} (g : Given) (m theirs : List ℕ) (long : length w ≡ 1091) (wide : length s ≡ 8192) (v : Loads listing w s w' s' e) where
  into : load_into (lends w s) (load listing) ≡ load listing
  into = ap (λ (b : Bool). load_into b (load listing)) (lends_both w s long wide)

  pub unloaded : ¬ (e.number ≡ 0) → verdict e.number e.line ≡ compare_on listing g m theirs
  unfolding compare_on load_number load_line DONE
  unloaded n = go (load listing) (v.says ∙ ap end_of into)
    where
      go : (l : Loaded) → e ≡ end_of l → verdict e.number e.line ≡ judged_on l g m theirs
      go (no_line k) is = ap (λ (e : Ended). verdict e.number e.line) is
      go no_table is = ap (λ (e : Ended). verdict e.number e.line) is
      go (loaded t) is = absurd (n (ap (λ (e : Ended). e.number) is))

  pub reviewed : e.number ≡ 0 → {r : Verdict} → r ≡ compared (ours_of (table_of w' s') g m) theirs → r ≡ compare_on listing g m theirs
  unfolding compare_on load_number TABLE LINE
  reviewed n {r} says = go (load listing) (v.says ∙ ap end_of into) (v.table ∙ ap (table_after (table_of w s)) into)
    where
      go : (l : Loaded) → e ≡ end_of l → table_of w' s' ≡ table_after (table_of w s) l → r ≡ judged_on l g m theirs
      go (no_line k) is t = let x : ◌≡◌ {A = ℕ} 0 18 = sym n ∙ ap (λ (e : Ended). e.number) is in absurd (omega arith)
      go no_table is t = let x : ◌≡◌ {A = ℕ} 0 1 = sym n ∙ ap (λ (e : Ended). e.number) is in absurd (omega arith)
      go (loaded u) is t = says ∙ ap (λ (t : Table). compared (ours_of t g m) theirs) t
