-- Gone means gone, over runs with batches in them. Assumes nothing.
use mathlib.Core.Path.{◌≡◌, refl, sym, ap, ap₂, ◌∙◌}
use mathlib.Core.List.{List, [], ◌∷◌, ◌++◌, map}
use Prim.Native.Nat.{ℕ}
use lib.IntN.{ℤ}
use Rattle.model.specs.declared.Decision.TheVariants.{Passed}
use Rattle.model.specs.Messages.{Message}
use Rattle.model.specs.Tables.{Table}
use Rattle.model.specs.Replies.{reply_of}
use Rattle.model.specs.Calls.{Outcome, Result, replied, Call, called}
use Rattle.model.specs.Batches.{made_calls}
use Rattle.model.specs.Runs.{Operation, call, operated, operated_all, final, log}
use Rattle.guarantees.specs.Freshness.{after, from_new, Ask, Decides}
use Rattle.guarantees.specs.Batches.{ends_of as callEnds}
use Rattle.guarantees.specs.Gone.{Act, on, batch, acted, operations_by, operations_of, operated_ends, IsOperations, PassedUp, new_at, GoneIsGone, Demand8}
use Rattle.guarantees.proofs.Freshness.{is_done, last_rules, demand2}
use Rattle.guarantees.proofs.Batches.{batches_safe}
use Rattle.guarantees.proofs.Gone.{run_append, ways, goes_is_gone}

-- ── A run is its operations ─────────────────────────────────────────────────────────────────────────────────────────

-- A run of calls is one of operations.
calls_leave : (t : Table) (cs : List Call) → final t cs ≡ operated_all t (map call cs)
unfolding operated operated_all
calls_leave t [] = refl
calls_leave t (c ∷ cs) = calls_leave (called t c).table cs

calls_end : (t : Table) (cs : List Call) → callEnds (log t cs) ≡ operated_ends t (map call cs)
unfolding operated
calls_end t [] = refl
calls_end t (c ∷ cs) = ap (λ (os : List Outcome). (called t c).outcome ∷ os) (calls_end (called t c).table cs)

-- One act.
pub act_leaves : (t : Table) (a : Act) → (acted t a).table ≡ operated_all t (operations_by t a)
unfolding acted operations_by operated_all
act_leaves t (on o) = refl
act_leaves t (batch octets xs room) = (batches_safe t octets xs room).leaves ∙ calls_leave t (made_calls t octets xs room)

act_ends : (t : Table) (a : Act) → (acted t a).outcomes ≡ operated_ends t (operations_by t a)
unfolding acted operations_by
act_ends t (on o) = refl
act_ends t (batch octets xs room) = (batches_safe t octets xs room).ends ∙ calls_end t (made_calls t octets xs room)

ends_append : (t : Table) (os ps : List Operation) → operated_ends t (os ++ ps) ≡ operated_ends t os ++ operated_ends (operated_all t os) ps
unfolding operated_all
ends_append t [] ps = refl
ends_append t (o ∷ os) ps = ap (λ (l : List Outcome). (operated t o).outcome ∷ l) (ends_append (operated t o).table os ps)

is_operations : (t : Table) (run : List Act) → IsOperations t run
unfolding operated_all
is_operations t [] = record { same_table = refl; same_ends = refl }
is_operations t (a ∷ run) =
    let u = (acted t a).table in
    let then = is_operations u run in
    let os = operations_by t a in
    let ps = operations_of u run in
    record {
      same_table = then.same_table ∙ ap (λ (v : Table). operated_all v ps) (act_leaves t a) ∙ sym (run_append t os ps);
      same_ends =
          ap₂ (λ (x y : List Outcome). x ++ y) (act_ends t a) (then.same_ends ∙ ap (λ (v : Table). operated_ends v ps) (act_leaves t a))
          ∙ sym (ends_append t os ps);
    }

-- ── The whole ───────────────────────────────────────────────────────────────────────────────────────────────────────

gone_is_gone : GoneIsGone
gone_is_gone time run =
    record {
      gone = λ earlier o later q rest i k _ g w. goes_is_gone time earlier o later _ k q (ways (after time earlier) i k o (last_rules time earlier) g) w;
      names_once = (demand2.runs (new_at time) (from_new time refl)).no_name_twice (operations_of (new_at time) run);
    }

passes_up : (t : Table) (q : Ask) (i : ℕ) (m : Message) (skew : ℤ) → Decides t q i m (Passed skew) → PassedUp t q
unfolding replied reply_of
passes_up t q i m skew x =
    let e = is_done t q i m (Passed skew) x in
    (ap (λ (r : Result). r.outcome.answer.number) e, ap (λ (r : Result). r.outcome.reply) e)

pub demand8 : Demand8
demand8 = record { gone = gone_is_gone; batches = is_operations; passes = passes_up; goes = goes_is_gone; ways = ways }
