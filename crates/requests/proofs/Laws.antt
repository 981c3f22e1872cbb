-- The pieces of a request, joined as the code writes them, are model's; and their lengths. Assumes nothing.
use Prim.Native.Nat.{ℕ, ◌+◌}
use mathlib.Core.Path.{◌≡◌, refl, sym, ◌∙◌}
use mathlib.Core.List.{List, [], ◌++◌, append_assoc, append-nil}
use native.Mathlib.Omega.{arith}
use lib.ListN.{length, length-append}
use Rattle.model.specs.declared.Algorithm.{Algorithm}
use Rattle.model.specs.declared.Algorithm.TheVariants.{Sha256, Sha384, Sha512}
use Rattle.model.specs.Octets.{be16, be32}
use Rattle.model.specs.Names.{algorithm_name}
use Rattle.model.specs.Tkey.{tkey_type}
use Rattle.model.specs.Tsig.{any_class}
use Rattle.model.specs.Replies.{record_octets, tkey_data, tkey_record}
use Rattle.model.specs.Resolver.{request_octets, old_key, renewal_octets, adoption_octets, deletion_octets}
use Rattle.replies.specs.Parts.{record_front}
use Rattle.replies.proofs.Laws.{record_octets_lem}
use Rattle.requests.specs.Pieces.{header_octets, question_octets, asked_octets, request_front}

-- ── The octets of a request ─────────────────────────────────────────────────────────────────────────────────────────

pub algorithm_length : (g : Algorithm) → length (algorithm_name g) ≡ 13
unfolding algorithm_name
algorithm_length Sha256 = refl
algorithm_length Sha384 = refl
algorithm_length Sha512 = refl

old_length : (old : List ℕ) (g : Algorithm) → length (old_key old g) ≡ length old + 13
unfolding old_key
old_length old g = rw (length-append, algorithm_length g)

-- a request with this other data
module _ (id : ℕ) (name : List ℕ) (g : Algorithm) (inception expiration mode : ℕ) (other : List ℕ) where
  abbrev content : List ℕ
  content = tkey_data (algorithm_name g) inception expiration mode 0 [] other

  content_length : length content ≡ 29 + length other
  unfolding tkey_data be16 be32
  content_length = let l = algorithm_length g in simp length-append (omega arith)

  request_length : (extra : ℕ) (more : List ℕ) → length (request_octets id name content extra more) ≡ length name + length name + 55 + length other + length more
  unfolding request_octets tkey_record record_octets be16 be32
  request_length extra more = let l = content_length in simp length-append (omega arith)

  asked_octets_lem : asked_octets g inception expiration mode ++ (be16 (length other) ++ other) ≡ content
  unfolding asked_octets tkey_data
  asked_octets_lem = simp append_assoc

  tkey_octets : record_front name tkey_type any_class 0 (29 + length other) ++ content ≡ tkey_record name content
  unfolding tkey_record
  tkey_octets = record_octets_lem name tkey_type any_class 0 (29 + length other) content (sym content_length)

  request_octets_lem : (extra : ℕ) (more : List ℕ)
      → request_front id (1 + extra) name g inception expiration mode (length other) ++ (other ++ more) ≡ request_octets id name content extra more
  unfolding request_front header_octets question_octets request_octets
  request_octets_lem extra more = rw (← tkey_octets, ← asked_octets_lem) (simp append_assoc)

module _ (id : ℕ) (name : List ℕ) (g : Algorithm) (inception expiration : ℕ) (old : List ℕ) (old_algorithm : Algorithm) where
  pub renewal_length : (key : List ℕ)
      → length (renewal_octets id name g inception expiration old old_algorithm key) ≡ length name + length name + 68 + length old + length key
  unfolding renewal_octets
  renewal_length key = let l = old_length old old_algorithm in request_length id name g inception expiration 4098 (old_key old old_algorithm) 1 key ∙ omega arith

  pub adoption_length : length (adoption_octets id name g inception expiration old old_algorithm) ≡ length name + length name + 68 + length old
  unfolding adoption_octets
  adoption_length = let l = old_length old old_algorithm in request_length id name g inception expiration 4100 (old_key old old_algorithm) 0 [] ∙ omega arith

  pub renewal_octets_lem : (key : List ℕ)
      → request_front id 2 name g inception expiration 4098 (length old + 13) ++ (old_key old old_algorithm ++ key)
      ≡ renewal_octets id name g inception expiration old old_algorithm key
  unfolding renewal_octets
  renewal_octets_lem key = rw (← old_length old old_algorithm) (request_octets_lem id name g inception expiration 4098 (old_key old old_algorithm) 1 key)

  pub adoption_octets_lem : request_front id 1 name g inception expiration 4100 (length old + 13) ++ old_key old old_algorithm
      ≡ adoption_octets id name g inception expiration old old_algorithm
  unfolding adoption_octets
  adoption_octets_lem =
      let e = request_octets_lem id name g inception expiration 4100 (old_key old old_algorithm) 0 [] in
      rw (← old_length old old_algorithm) (rw append-nil at e)

module _ (id : ℕ) (name : List ℕ) (g : Algorithm) where
  pub deletion_length : length (deletion_octets id name g) ≡ length name + length name + 55
  unfolding deletion_octets
  deletion_length = request_length id name g 0 0 5 [] 0 [] ∙ omega arith

  pub deletion_octets_lem : request_front id 1 name g 0 0 5 0 ≡ deletion_octets id name g
  unfolding deletion_octets
  deletion_octets_lem = sym (append-nil _) ∙ request_octets_lem id name g 0 0 5 [] 0 []
