-- `resolver_state::store_words` meets its contract. Assumes nothing.
use native.Mathlib.Omega.{arith}
use Rattle.resolver_state.specs.State.{state_words}
use borrow.Author.Rules.{rules}
use Rattle.resolver_state.proofs.store_words.Goals as goal

pub returns : goal.returns
unfolding state_words
returns c =
    let n = c.id_word-id.ensures in
    record {
      says = simp (c.signs_word-signs.ensures, n.0, c.request_word-asking.ensures, c.from-second.ensures, c.from-first.ensures, c.holding_word-tag.ensures);
      adopted = record { inception = search rules; expiration = search rules };
      offered = record { inception = search rules; expiration = search rules };
      id = omega (arith, n.0, n.1);
    }
