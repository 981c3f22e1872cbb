-- A call whose answer is told. Assumes nothing.
use Prim.Native.Nat.{ℕ}
use mathlib.Core.List.{List}
use Rattle.std.specs.Prelude.{Option}
use mathlib.Core.Path.{◌≡◌, sym, ap, ◌∙◌}
use lib.ListN.{length}
use Rattle.model.specs.declared.Answer.{Answer}
use Rattle.model.specs.Tables.{Table}
use Rattle.model.specs.Calls.{Result}
use Rattle.outcomes.specs.Ends.{Served}
use Rattle.store.specs.Layout.{table_of}
use Rattle.operator.specs.Made.{Made}
use Rattle.operator.proofs.Laws.{new_in_lem}
use Rattle.server.specs.Serve.{Answered}
use Rattle.capi.specs.Told.{Told, Lent, NewLent, MessageLent}

pub told_as : {a b : Answer} {words : List ℕ} {r : ℕ} → a ≡ b → Told a words r → Told b words r
told_as e t = rw e at t

pub lent : {call : Table → Result} {w s w' s' words : List ℕ} {a : Answer} {r : ℕ} → Served call w s w' s' a → Told a words r → Lent call w s w' s' words r
lent v t = record {
  table = ap (λ (x : Result). x.table) v.says;
  told = told_as (ap (λ (x : Result). x.outcome.answer) v.says) t;
  kept = λ e. v.table (sym t.returned ∙ e);
  refused = λ n. v.refused (λ e. n (t.returned ∙ e));
}

-- arrays of these lengths have room for a table
pub new_lent :
    {time : ℕ} {w s w' words : List ℕ} {a : Answer} {r : ℕ}
    → length w ≡ 1091
    → length s ≡ 8192
    → Made time w s w' a
    → Told a words r
    → NewLent time w s w' words r
new_lent {time} {w} {s} long wide v t =
    let says = v.says ∙ new_in_lem time w s long wide (table_of w s) in
    record {
      table = ap (λ (x : Result). x.table) says;
      told = told_as (ap (λ (x : Result). x.outcome.answer) says) t;
      refused = λ n. v.refused (λ e. n (t.returned ∙ e));
    }

pub message_lent :
    {call : Table → Result} {own : Option ℕ} {w s w' b b' words : List ℕ} {a : Answer} {r : ℕ}
    → Answered call own w s w' b b' a
    → Told a words r
    → MessageLent call own w s w' b b' words r
message_lent v t = record {
  table = v.shows;
  told = told_as v.answers t;
  reply = v.replies;
  kept = λ e. v.table (sym t.returned ∙ e);
  refused = λ n. v.refused (λ e. n (t.returned ∙ e));
  own_row = v.kept;
}
