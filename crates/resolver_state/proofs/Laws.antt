-- What is stored is read back. Assumes nothing.
use Prim.Native.Nat.{ℕ, ◌%◌, ◌≤◌, ◌<◌}
use mathlib.Core.Bool.{Bool, true, false, cond}
use mathlib.Core.List.{List, append-nil}
use mathlib.Core.Path.{◌≡◌, refl, ap, ◌∙◌}
use native.Mathlib.Omega.{arith}
use lib.Dec.{eqb}
use lib.ListN.{length, take, drop_of_length-le}
use lib.Seq.{take_at, drop_at, take_all}
use Rattle.std.specs.Prelude.{Option, Some, None, Result, Ok, Err, is_some, is_ok, unwrap_or}
use Rattle.std.specs.Result.{result_ok, result_unwrap_or}
use Rattle.model.specs.declared.Algorithm.{Algorithm}
use Rattle.model.specs.declared.Algorithm.TheVariants.{Sha256, Sha384, Sha512}
use Rattle.model.specs.declared.Holding.{Holding}
use Rattle.model.specs.declared.Asking.{Asking}
use Rattle.model.specs.declared.Asking.TheVariants.{Ordinary, Renewal, Adoption, Deletion}
use Rattle.model.specs.declared.Resolver.{Resolver}
use Rattle.model.specs.Octets.{put, part}
use Rattle.model.specs.Names.{algorithm_numbered, algorithm_number}
use Rattle.octets.specs.Wrote.{Wrote}
use Rattle.octets.proofs.Laws.{wrote_put}
use Rattle.resolver_state.specs.State.{asking_word, key_in, holding_by, request_by, resolver_of, holding_word, request_word, id_word, state_words, state_names, WordsStored, NamesStored, Stored}
use Rattle.model.specs.declared.OpenRequest.{OpenRequest}

-- a buffer written over from its first octet to its last
pub wrote_all : {xs b b' : List ℕ} {next : ℕ} → Wrote xs 0 b b' next → length b ≡ length xs → b' ≡ xs
unfolding put
wrote_all {xs} {b} w e =
    let h : length b ≤ length xs = omega arith in
    (wrote_put w).1 ∙ rw (drop_of_length-le b h, append-nil)

-- the tests and the default of a conversion, by what it says of its value
pub unwrapped : {T E : Type 0} (r : Result T E) (o : Option T) (x : T) → o ≡ result_ok r → result_unwrap_or r x ≡ unwrap_or o x
unwrapped (Ok y) o x e = rw e refl
unwrapped (Err y) o x e = rw e refl

pub known : {T E : Type 0} (r : Result T E) (o : Option T) → o ≡ result_ok r → is_ok r ≡ is_some o
known (Ok y) o e = rw e refl
known (Err y) o e = rw e refl

algorithm_back : (g : Algorithm) → algorithm_numbered (algorithm_number g) ≡ Some g
unfolding algorithm_numbered
algorithm_back Sha256 = refl
algorithm_back Sha384 = refl
algorithm_back Sha512 = refl

holding_back : (h : Holding) → holding_by (holding_word h) true true ≡ h
unfolding holding_by
holding_back Holding.Nothing = refl
holding_back Holding.Adopted = refl
holding_back Holding.AdoptedAndOffered = refl

small : (n : ℕ) → n < 4294967296 → n % 4294967296 ≡ n
small n h = omega arith

small_id : (n : ℕ) → n < 65536 → n % 65536 ≡ n
small_id n h = omega arith

sent_back : (id : ℕ) (a : Asking) → id < 65536 → request_by (asking_word a) id ≡ Some (record { id = id; asking = a })
unfolding request_by
sent_back id Ordinary h = rw (small_id id h) refl
sent_back id Renewal h = rw (small_id id h) refl
sent_back id Adoption h = rw (small_id id h) refl
sent_back id Deletion h = rw (small_id id h) refl

request_back : (r : Option OpenRequest) → id_word r < 65536 → request_by (request_word r) (id_word r) ≡ r
unfolding request_by
request_back None h = refl
request_back (Some q) h = sent_back q.id q.asking h

signs_back : (b : Bool) → eqb (cond b 1 0) 1 ≡ b
signs_back true = refl
signs_back false = refl

module _ (s : Resolver) (a : length s.adopted.name ≡ 255) (o : length s.offered.name ≡ 255) where
  adopted_name : part (state_names s) 0 255 ≡ s.adopted.name
  unfolding part state_names
  adopted_name = take_at s.adopted.name s.offered.name 255 a

  offered_name : part (state_names s) 255 255 ≡ s.offered.name
  unfolding part state_names
  offered_name = ap (take 255) (drop_at s.adopted.name s.offered.name 255 a) ∙ take_all 255 s.offered.name (omega arith)

pub stored : (s : Resolver) {w names : List ℕ} → WordsStored s w → NamesStored s names → Stored s w names
unfolding resolver_of key_in state_words
stored s {w} {names} d n = record {
  words = d.says;
  octets = n.says;
  shows =
      rw (d.says, n.says)
      (simp (
        adopted_name s n.adopted n.offered,
        offered_name s n.adopted n.offered,
        algorithm_back,
        holding_back,
        request_back s.awaited d.id,
        signs_back,
        small s.adopted.inception d.adopted.inception,
        small s.adopted.expiration d.adopted.expiration,
        small s.offered.inception d.offered.inception,
        small s.offered.expiration d.offered.expiration,
      ));
}
